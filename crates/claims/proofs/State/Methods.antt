-- Each change of a cabinet alone, seen in the view: what it holds of itself, and what it holds of each other cabinet.
use Prim.Native.Nat.{ℕ, zero, suc, ◌+◌, ◌<◌, ◌≤◌}
use mathlib.Core.Path.{◌≡◌, refl, sym, ap, ◌∙◌, fun_ext}
use mathlib.Core.Logic.{◌≢◌}
use mathlib.Core.Bool.{Bool, true, false, cond, not, ◌&&◌, ◌||◌}
use mathlib.Core.List.{List, [], ◌∷◌}
use lib.ListN.{get_or, set, replicate}
use lib.Seq.{get_or-set_same, get_or-set_other}
use lib.Dec.{eqb, ltb}
use borrow.Author.Tests.{eqb-true, eqb-false}
use native.Mathlib.Omega.{arith}
use native.Mathlib.Decide.{ℕ_discrete, dec_lt}
use Rattle.marks.specs.Marks.{Marks, marked, no_marks}
use Rattle.packet.specs.declared.Check.{Check}
use Rattle.outlet.specs.declared.Outlet.{Outlet}
use Rattle.packet.specs.declared.Payload.{Payload}
use Rattle.packet.specs.declared.Place.{Place}
use Rattle.packet.specs.declared.Place.TheVariants.{Failed as AtFailed, Tripped as AtTripped, Link as AtLink}
use Rattle.packet.specs.Packet.{start_check, step_check}
use Rattle.state.specs.declared.Version.{Version}
use Rattle.cabinet.specs.declared.Cabinet.{Cabinet}
use Rattle.registers.specs.Registers.{restart_if, restart_to, start_registers}
use Rattle.table.specs.declared.Table.{Table}
use Rattle.table.specs.Table.{is_at, struck_at, led_on_if}
use Rattle.cabinet.specs.Cabinet.{in_use, sending, taking, hurt_from, beginning, comparing, owing, saved_for, resuming, alarmed, hearing, restored_for, unsure_for, fetched, with_image, with_pieces, with_registers, with_state}
use Rattle.image.specs.declared.Image.{Image}
use Rattle.state.specs.declared.State.TheVariants.{Recovered}
use Rattle.protocol.specs.History.{upd}
use Rattle.claims.proofs.State.Fun.{upd_elim, and-false, and_same}
use Rattle.claims.proofs.State.Leading.{next_over, lead_over, next_same, next_over_lem}
use Rattle.claims.proofs.State.Every.{get_d_repeated}
use Rattle.claims.proofs.State.View.{Side, side_of, used}
use Rattle.claims.proofs.State.Shape.{Shaped}
use Rattle.claims.proofs.State.Sim.{in_use_lem, past_use}

-- ---- parts of a side replaced

abbrev pub s_table : Side → Bool → Bool → Side
s_table s c l = record { cab = c; link = l; come = s.come; saved = s.saved; restored = s.restored; heard = s.heard; unsure = s.unsure; owed = s.owed; hurt = s.hurt; put = s.put; took = s.took }

abbrev pub s_marks : Side → Bool → Bool → Bool → Bool → Bool → Side
s_marks s c v r h u = record { cab = s.cab; link = s.link; come = c; saved = v; restored = r; heard = h; unsure = u; owed = s.owed; hurt = s.hurt; put = s.put; took = s.took }

abbrev pub s_owed : Side → Bool → Side
s_owed s o = record { cab = s.cab; link = s.link; come = s.come; saved = s.saved; restored = s.restored; heard = s.heard; unsure = s.unsure; owed = o; hurt = s.hurt; put = s.put; took = s.took }

abbrev pub s_registers : Side → Check → Check → Bool → Side
s_registers s p t u = record { cab = s.cab; link = s.link; come = s.come; saved = s.saved; restored = s.restored; heard = s.heard; unsure = s.unsure; owed = s.owed; hurt = u; put = p; took = t }

abbrev pub s_cleared : Side → Side
s_cleared s = s_marks s false false false false false

-- the checkp has come, and the receiver's register starts anew
abbrev pub s_compared : Side → Side
s_compared s = s_registers (s_marks s true s.saved s.restored s.heard s.unsure) s.put start_check false

-- ---- at one other cabinet

module _ (c : Cabinet) (w : Shaped c) (j : ℕ) (l : j < 8) where
  one_place : (f : ℕ → Side) (new : Side) → (f j ≡ new) → ((b : ℕ) → b ≢ j → f b ≡ side_of c b) → f ≡ upd (side_of c) j new
  one_place f new here there =
      fun_ext (λ b. upd_elim (λ (x : Side). f b ≡ x) (side_of c) j new b (λ e. ap f e ∙ here) (λ n. there b n))

  pub side_hurt : side_of (hurt_from c j) ≡ upd (side_of c) j (s_registers (side_of c j) (side_of c j).put (side_of c j).took true)
  side_hurt =
      one_place (side_of (hurt_from c j)) _
      (rw (get_or-set_same c.registers.hurt j true false (omega (arith, w.hurt))))
      (λ b n. rw (get_or-set_other c.registers.hurt j b true false n))

  pub side_sending : (o : Outlet) (p : Payload) → side_of (sending c j o p) ≡ upd (side_of c) j (s_registers (side_of c j) (step_check (side_of c j).put p) (side_of c j).took (side_of c j).hurt)
  side_sending o p =
      one_place (side_of (sending c j o p)) _
      (rw (get_or-set_same c.registers.sent j (step_check (side_of c j).put p) start_check (omega (arith, w.sent))))
      (λ b n. rw (get_or-set_other c.registers.sent j b (step_check (side_of c j).put p) start_check n))

  pub side_taking : (p : Payload) → side_of (taking c j p) ≡ upd (side_of c) j (s_registers (side_of c j) (side_of c j).put (step_check (side_of c j).took p) (side_of c j).hurt)
  side_taking p =
      one_place (side_of (taking c j p)) _
      (rw (get_or-set_same c.registers.taken j (step_check (side_of c j).took p) start_check (omega (arith, w.taken))))
      (λ b n. rw (get_or-set_other c.registers.taken j b (step_check (side_of c j).took p) start_check n))

  pub side_comparing : side_of (comparing c j) ≡ upd (side_of c) j (s_compared (side_of c j))
  side_comparing =
      one_place (side_of (comparing c j)) _
      (rw (
        get_or-set_same c.noted.come j true false (omega (arith, w.come)),
        get_or-set_same c.registers.taken j start_check start_check (omega (arith, w.taken)),
        get_or-set_same c.registers.hurt j false false (omega (arith, w.hurt)),
      ))
      (λ b n. rw (get_or-set_other c.noted.come j b true false n, get_or-set_other c.registers.taken j b start_check start_check n, get_or-set_other c.registers.hurt j b false false n))

  pub side_owing : (o : Bool) → side_of (owing c j o) ≡ upd (side_of c) j (s_owed (side_of c j) o)
  side_owing o =
      one_place (side_of (owing c j o)) _ (rw (get_or-set_same c.owed j o false (omega (arith, w.owed)))) (λ b n. rw (get_or-set_other c.owed j b o false n))

  pub side_saved : side_of (saved_for c j) ≡ upd (side_of c) j (s_marks (side_of c j) (side_of c j).come true (side_of c j).restored (side_of c j).heard (side_of c j).unsure)
  side_saved =
      one_place (side_of (saved_for c j)) _ (rw (get_or-set_same c.noted.saved j true false (omega (arith, w.saved)))) (λ b n. rw (get_or-set_other c.noted.saved j b true false n))

  pub side_hearing : side_of (hearing c j) ≡ upd (side_of c) j (s_marks (side_of c j) (side_of c j).come (side_of c j).saved (side_of c j).restored true (side_of c j).unsure)
  side_hearing =
      one_place (side_of (hearing c j)) _ (rw (get_or-set_same c.noted.heard j true false (omega (arith, w.heard)))) (λ b n. rw (get_or-set_other c.noted.heard j b true false n))

  pub side_restored : side_of (restored_for c j) ≡ upd (side_of c) j (s_marks (side_of c j) (side_of c j).come (side_of c j).saved true (side_of c j).heard (side_of c j).unsure)
  side_restored =
      one_place (side_of (restored_for c j)) _ (rw (get_or-set_same c.noted.restored j true false (omega (arith, w.restored)))) (λ b n. rw (get_or-set_other c.noted.restored j b true false n))

  pub side_unsure : side_of (unsure_for c j) ≡ upd (side_of c) j (s_marks (side_of c j) (side_of c j).come (side_of c j).saved (side_of c j).restored (side_of c j).heard true)
  side_unsure =
      one_place (side_of (unsure_for c j)) _ (rw (get_or-set_same c.noted.unsure j true false (omega (arith, w.unsure)))) (λ b n. rw (get_or-set_other c.noted.unsure j b true false n))

-- ---- at every other cabinet

pub no_marks_lem : (b : ℕ) → marked no_marks b ≡ false
no_marks_lem b = get_d_repeated (λ (x : Bool). x ≡ false) 8 b false false refl refl

pub all_start : (b : ℕ) → get_or (replicate 8 start_check) b start_check ≡ start_check
all_start b = get_d_repeated (λ (x : Check). x ≡ start_check) 8 b start_check start_check refl refl

set_default : {A : Type 0} (l : List A) (i : ℕ) (d : A) → get_or (set l i d) i d ≡ d
set_default [] i d = refl
set_default (x ∷ l) zero d = refl
set_default (x ∷ l) (suc i) d = set_default l i d

module _ (m : Marks) (rs : List Check) where
  restart_past : (n b : ℕ) → n ≤ b → get_or (restart_to n m rs) b start_check ≡ get_or rs b start_check
  restart_past zero b h = refl
  restart_past (suc n) b h = go (marked m n) (restart_past n b (omega arith))
    where
      go : (t : Bool) → get_or (restart_to n m rs) b start_check ≡ get_or rs b start_check
          → get_or (restart_if t (restart_to n m rs) n) b start_check ≡ get_or rs b start_check
      go true e = get_or-set_other (restart_to n m rs) n b start_check start_check (omega arith) ∙ e
      go false e = e

  restart_at : (n b : ℕ) → b < n → get_or (restart_to n m rs) b start_check ≡ cond (marked m b) start_check (get_or rs b start_check)
  restart_at zero b h = absurd (omega arith)
  restart_at (suc n) b h = elim (ℕ_discrete b n)
      [ yes e ↦ rw e (here (marked m n)) | no d ↦ there (marked m n) d (restart_at n b (omega arith)) ]
    where
      here : (t : Bool) → get_or (restart_if t (restart_to n m rs) n) n start_check ≡ cond t start_check (get_or rs n start_check)
      here true = set_default (restart_to n m rs) n start_check
      here false = restart_past n n (omega arith)

      there : (t : Bool) → b ≢ n → get_or (restart_to n m rs) b start_check ≡ cond (marked m b) start_check (get_or rs b start_check)
          → get_or (restart_if t (restart_to n m rs) n) b start_check ≡ cond (marked m b) start_check (get_or rs b start_check)
      there true d e = get_or-set_other (restart_to n m rs) n b start_check start_check d ∙ e
      there false d e = e

abbrev pub s_begun : Side → Side
s_begun s = s_cleared (s_registers s (cond (used s) start_check s.put) s.took s.hurt)

module _ (c : Cabinet) (w : Shaped c) where
  restarted : (b : ℕ) → get_or (restart_to 8 (in_use c) c.registers.sent) b start_check ≡ cond (used (side_of c b)) start_check (side_of c b).put
  restarted b = elim (dec_lt b 8) [
    | yes l ↦ restart_at (in_use c) c.registers.sent 8 b l
        ∙ ap (λ (t : Bool). cond t start_check (side_of c b).put) (in_use_lem c w b)
    | no n ↦ restart_past (in_use c) c.registers.sent 8 b (omega arith)
        ∙ sym (rw (← in_use_lem c w b, past_use c b (omega arith)))
  ]

  pub side_beginning : (b : ℕ) → side_of (beginning c) b ≡ s_begun (side_of c b)
  side_beginning b = rw (restarted b, no_marks_lem b)

  pub side_resuming : (v : Version) (b : ℕ) → side_of (resuming c v) b ≡ s_cleared (side_of c b)
  side_resuming v b = rw (no_marks_lem b)

-- a place as it concerns the pair of i and b
abbrev pub hits_cabinet : Place → ℕ → Bool
hits_cabinet (AtFailed a) b = eqb b a
hits_cabinet (AtTripped a) b = false
hits_cabinet (AtLink a d) b = false

abbrev pub hits_link : Place → ℕ → ℕ → Bool
hits_link (AtFailed a) i b = false
hits_link (AtTripped a) i b = false
hits_link (AtLink a d) i b = (eqb i a && eqb b d) || (not (eqb i a) && (eqb i d && eqb b a))

abbrev pub s_alarmed : Place → ℕ → ℕ → Side → Side
s_alarmed p i b s = s_owed (s_cleared (s_table s (s.cab && not (hits_cabinet p b)) (s.link && not (hits_link p i b)))) false

pub unmark : (m : Marks) (a b : ℕ) → marked (set m a false) b ≡ (marked m b && not (eqb b a))
unmark m a b = go (eqb b a) refl
  where
    go : (t : Bool) → eqb b a ≡ t → marked (set m a false) b ≡ (marked m b && not t)
    go true e = rw (eqb-true b a e, set_default m a false, and-false)
    go false e = get_or-set_other m a b false false (eqb-false b a e) ∙ sym (and_same (marked m b))

-- a link's mark at its end i
unlink : (m : Marks) (a d b : ℕ) (t u : Bool)
    → marked (cond t (set m d false) (cond u (set m a false) m)) b ≡ (marked m b && not ((t && eqb b d) || (not t && (u && eqb b a))))
unlink m a d b true u = unmark m d b ∙ ap (λ (x : Bool). marked m b && not x) (sym (or-false (eqb b d)))
  where
    or-false : (t : Bool) → (t || false) ≡ t
    or-false true = refl
    or-false false = refl
unlink m a d b false true = unmark m a b
unlink m a d b false false = sym (and_same (marked m b))

-- the rows of a table with a place struck
struck_cab : (i : ℕ) (p : Place) (t : Table) (b : ℕ) → marked (struck_at i p t).cabinets b ≡ (marked t.cabinets b && not (hits_cabinet p b))
struck_cab i (AtFailed a) t b = unmark t.cabinets a b
struck_cab i (AtTripped a) t b = sym (and_same (marked t.cabinets b))
struck_cab i (AtLink a d) t b = sym (and_same (marked t.cabinets b))

struck_link : (i : ℕ) (p : Place) (t : Table) (b : ℕ) → marked (struck_at i p t).links b ≡ (marked t.links b && not (hits_link p i b))
struck_link i (AtFailed a) t b = sym (and_same (marked t.links b))
struck_link i (AtTripped a) t b = sym (and_same (marked t.links b))
struck_link i (AtLink a d) t b = unlink t.links a d b (eqb i a) (eqb i d)

struck_lead : (i : ℕ) (p : Place) (t : Table) → (struck_at i p t).lead ≡ t.lead
struck_lead i (AtFailed a) t = refl
struck_lead i (AtTripped a) t = refl
struck_lead i (AtLink a d) t = refl

-- the lead that moves on leaves both rows
led_cabinets : (f : Bool) (t : Table) → (led_on_if f t).cabinets ≡ t.cabinets
led_cabinets true t = refl
led_cabinets false t = refl

led_links : (f : Bool) (t : Table) → (led_on_if f t).links ≡ t.links
led_links true t = refl
led_links false t = refl

module _ (c : Cabinet) (i : ℕ) (p : Place) where
  abbrev struck_table : Table
  struck_table = struck_at i p c.table

  pub side_alarmed : (b : ℕ) → side_of (alarmed c i p) b ≡ s_alarmed p i b (side_of c b)
  side_alarmed b =
      rw (
        no_marks_lem b,
        led_cabinets (is_at p c.table.lead) struck_table,
        led_links (is_at p c.table.lead) struck_table,
        struck_cab i p c.table b,
        struck_link i p c.table b,
      )

  abbrev after : ℕ → Bool
  after b = (s_alarmed p i b (side_of c b)).cab

  -- the next coordinator is the next of those that are in use after the strike
  pub lead_alarmed : (alarmed c i p).table.lead ≡ lead_over p c.table.lead (λ b. (s_alarmed p i b (side_of c b)).cab)
  lead_alarmed = go (is_at p c.table.lead)
    where
      go : (f : Bool) → (led_on_if f struck_table).lead ≡ cond f (next_over after c.table.lead) c.table.lead
      go true =
          next_over_lem struck_table.cabinets struck_table.lead
          ∙ ap (next_over (marked struck_table.cabinets)) (struck_lead i p c.table)
          ∙ next_same (marked struck_table.cabinets) after c.table.lead (λ b l. struck_cab i p c.table b)
      go false = struck_lead i p c.table

-- on entering recovered all registers start anew
abbrev pub s_fresh : Side → Side
s_fresh s = s_registers s start_check start_check false

pub side_fetched : (c : Cabinet) (m : Image) (b : ℕ) → side_of (fetched c m) b ≡ cond (ltb c.noted.pieces 3) (side_of c b) (s_fresh (side_of c b))
side_fetched c m b = go (ltb c.noted.pieces 3)
  where
    go : (t : Bool) → side_of (cond t (with_image (with_pieces c (c.noted.pieces + 1)) m) (with_image (with_registers (with_pieces (with_state c Recovered) 4) start_registers) m)) b
        ≡ cond t (side_of c b) (s_fresh (side_of c b))
    go true = refl
    go false = rw (no_marks_lem b, all_start b)
