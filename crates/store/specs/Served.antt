-- What holds of the store of every group: every cabinet has a home that is present, and where both stores of a pair are present they have the
-- same slots of it.
use Rattle.std.specs.Prelude.{ℕ, ◌<◌, ◌≡◌, ◌≢◌, ◌⊎◌, true, length}
use Rattle.store.specs.declared.Store.{Store}
use Rattle.store.specs.Store.{file_home, is_store, partner, is_present, home_in, copy_at}

pub record Served (s : Store) : Type 0 where
  -- every list has its eight places
  pub eight_partners : length s.partners ≡ 8
  pub eight_present : length s.present ≡ 8
  pub eight_firsts : length s.firsts ≡ 8
  pub eight_seconds : length s.seconds ≡ 8
  -- the home that the file names is a store; the numbers past n have none
  pub homed : (c : ℕ) → (file_home s c ≡ 8) ⊎ (is_store s (file_home s c) ≡ true)
  pub store_below : (h : ℕ) → is_store s h ≡ true → h < 8
  -- who names a partner is a store, and so is the partner; "partners name each other"
  pub paired : (h : ℕ) → (partner s h ≡ 8) ⊎ ((is_store s h ≡ true) × (is_store s (partner s h) ≡ true))
  pub other : (h : ℕ) → is_store s h ≡ true → partner s h ≢ h
  pub each_other : (h : ℕ) → is_store s h ≡ true → is_store s (partner s h) ≡ true → partner s (partner s h) ≡ h
  -- only stores are present, and each cabinet's home is
  pub present_stores : (h : ℕ) → is_present s h ≡ true → is_store s h ≡ true
  pub served : (c : ℕ) → is_store s (file_home s c) ≡ true → is_present s (home_in s c) ≡ true
  -- "Pieces go to both while both work": so they have the same
  pub alike : (c : ℕ) → is_present s (file_home s c) ≡ true → is_present s (partner s (file_home s c)) ≡ true
      → copy_at s (file_home s c) c ≡ copy_at s (partner s (file_home s c)) c
