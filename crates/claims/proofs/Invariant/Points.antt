-- The points that stand beside a group and what the history has of them: four places, no name twice, and each point with the images
-- that the history has under its name, which add up to the feeder's total for each party.
use Prim.Native.Nat.{ℕ, zero, suc, ◌<◌, ◌≤◌}
use mathlib.Core.Path.{◌≡◌, refl, sym, ap, ◌∙◌}
use mathlib.Core.Logic.{◌≢◌}
use mathlib.Core.Bool.{Bool, true, false, cond, false≢true}
use mathlib.Core.List.{List, [], ◌∷◌, nil≢cons}
use mathlib.Core.Option.{Option, none, some}
use Rattle.std.specs.Prelude.{Some, None, is_some, unwrap_or}
use lib.ListN.{length, length-set, get_or-eq_default}
use lib.Seq.{get_or-set_same, get_or-set_other}
use lib.Dec.{eqb, ltb}
use borrow.Author.Tests.{eqb-true, eq-eqb, ltb-true, lt-ltb}
use native.Mathlib.Omega.{arith}
use native.Mathlib.Decide.{ℕ_discrete, dec_lt}
use Rattle.outlet.specs.declared.Party.{Party}
use Rattle.image.specs.declared.Image.{Image}
use Rattle.image.specs.Image.{booked}
use Rattle.points.specs.declared.Point.{Point}
use Rattle.points.specs.declared.Points.{Points}
use Rattle.points.specs.Points.{no_point, no_points, is_kept, point_at, with_point, image_at, same_name, is_named, is_free, first_place, place_of, place_for}
use Rattle.group.specs.Group.{sum}
use Rattle.protocol.specs.History.{History}
use Rattle.claims.specs.Points.{Stand}
use Rattle.claims.proofs.State.Fun.{never, is_false, and_true, and_intro, cond_elim, sum_tail}
use Rattle.claims.proofs.State.Every.{get_d_repeated}
use Rattle.claims.proofs.State.Shape.{Pictured}

-- a point p of the program, for the images that the history has of it
pub record PointHeld (n : ℕ) (total : Party → ℕ) (images : ℕ → Option Image) (p : Point) : Type 0 where
  pub eight : length p.images ≡ 8
  pub held : (c : ℕ) → c < n → images c ≡ some (image_at p c)
  pub beyond : (y : Party) (c : ℕ) → n ≤ c → booked y (image_at p c) ≡ 0
  pub adds : (y : Party) → sum (λ c. booked y (image_at p c)) 8 ≡ total y
  pub sized : (c : ℕ) → Pictured (image_at p c)

pub record PointsHeld (n : ℕ) (total : Party → ℕ) (ps : Points) (points : List ℕ → Option (ℕ → Option Image)) : Type 0 where
  pub four : length ps.places ≡ 4
  pub names : (j k : ℕ) → is_kept ps j ≡ true → is_kept ps k ≡ true → (point_at ps j).name ≡ (point_at ps k).name → j ≡ k
  pub each : (k : ℕ) → is_kept ps k ≡ true
      → (images : ℕ → Option Image) × (points (point_at ps k).name ≡ some images) × PointHeld n total images (point_at ps k)

-- ---- names and places

pub same_name_lem : (a b : List ℕ) → (same_name a b ≡ true → a ≡ b) × (a ≡ b → same_name a b ≡ true)
unfolding same_name
same_name_lem [] [] = ((λ _. refl), (λ _. refl))
same_name_lem [] (y ∷ ys) = ((λ e. absurd (false≢true e)), (λ e. absurd (nil≢cons e)))
same_name_lem (x ∷ xs) [] = ((λ e. absurd (false≢true e)), (λ e. absurd (nil≢cons (sym e))))
same_name_lem (x ∷ xs) (y ∷ ys) =
    let ih = same_name_lem xs ys in (
      (λ e.
          let b = and_true {s = eqb x y} e in
          let p : x ≡ y = eqb-true x y b.0 in
          let q : xs ≡ ys = ih.0 b.1 in
          cc),
      (λ e. and_intro (eq-eqb x y (cc)) (ih.1 (cc))),
    )

-- the first place that passes a test passes it, and where there is none no place does
pub first_passes : (test : ℕ → Bool) → first_place test < 4 → test (first_place test) ≡ true
first_passes test l =
    let P : ℕ → Type 0 = λ k. k < 4 → test k ≡ true in
    cond_elim P (test 0) (λ e _. e)
    (λ _. cond_elim P (test 1) (λ e _. e) (λ _. cond_elim P (test 2) (λ e _. e) (λ _. cond_elim P (test 3) (λ e _. e) (λ _ l. absurd (omega arith))))) l

pub passes_first : (test : ℕ → Bool) (k : ℕ) → k < 4 → test k ≡ true → first_place test < 4
passes_first test k l t =
    let P : ℕ → Type 0 = λ j. j < 4 in
    cond_elim P (test 0) (λ _. omega arith)
    (λ a. cond_elim P (test 1) (λ _. omega arith)
    (λ b. cond_elim P (test 2) (λ _. omega arith) (λ c. cond_elim P (test 3) (λ _. omega arith) (λ d. absurd (nowhere k l t a b c d)))))
  where
    nowhere : (k : ℕ) → k < 4 → test k ≡ true → test 0 ≡ false → test 1 ≡ false → test 2 ≡ false → test 3 ≡ false → ⊥
    nowhere zero l t a b c d = never t a
    nowhere (suc zero) l t a b c d = never t b
    nowhere (suc (suc zero)) l t a b c d = never t c
    nowhere (suc (suc (suc zero))) l t a b c d = never t d
    nowhere (suc (suc (suc (suc k)))) l t a b c d = omega arith

module _ (ps : Points) (name : List ℕ) where
  -- the place found has a point of just this name
  pub place_named : place_of ps name < 4 → (is_kept ps (place_of ps name) ≡ true) × ((point_at ps (place_of ps name)).name ≡ name)
  unfolding place_of
  place_named l =
      let b = and_true {s = is_kept ps (place_of ps name)} (first_passes (is_named ps name) l) in
      (b.0, (same_name_lem (point_at ps (place_of ps name)).name name).0 b.1)

  -- where none is found, no point has this name
  pub place_none : (place_of ps name < 4 → ⊥) → (k : ℕ) → k < 4 → is_kept ps k ≡ true → (point_at ps k).name ≡ name → ⊥
  unfolding place_of
  place_none n k l e f = n (passes_first (is_named ps name) k l (and_intro e ((same_name_lem (point_at ps k).name name).1 f)))

-- ---- the points that stand

module _ {n : ℕ} {total : Party → ℕ} {ps : Points} {points : List ℕ → Option (ℕ → Option Image)} (h : PointsHeld n total ps points) where
  kept_below : (k : ℕ) → is_kept ps k ≡ true → k < 4
  unfolding point_at
  kept_below k e = elim (dec_lt k 4) [
    | yes l ↦ l
    | no m ↦ absurd (never e (ap is_some (get_or-eq_default ps.places None {n = k} (omega (arith, h.four)))))
  ]

  -- a point stands where its name goes
  pub name_place : (name : List ℕ) (k : ℕ) → is_kept ps k ≡ true → (point_at ps k).name ≡ name → k ≡ place_for ps name
  unfolding place_for
  name_place name k e f = elim (dec_lt (place_of ps name) 4) [
    | yes l ↦
        let b = place_named ps name l in
        h.names k (place_of ps name) e b.0 (f ∙ sym b.1)
        ∙ sym (ap (λ (t : Bool). cond t (place_of ps name) (first_place (is_free ps))) (lt-ltb (place_of ps name) 4 l))
    | no m ↦ absurd (place_none ps name m k (kept_below k e) e f)
  ]

  -- the point found under a name
  pub found : (name : List ℕ) → ltb (place_of ps name) 4 ≡ true
      → (images : ℕ → Option Image) × (points name ≡ some images) × PointHeld n total images (point_at ps (place_of ps name))
  found name e =
      let b = place_named ps name (ltb-true (place_of ps name) 4 e) in
      let x = h.each (place_of ps name) b.0 in
      (x.0, ap points (sym b.1) ∙ x.1, x.2)

  -- one point more, or another one under its name
  module _ (p : Point) (images : ℕ → Option Image) (new : PointHeld n total images p) (room : ltb (place_for ps p.name) 4 ≡ true) where
    abbrev place : ℕ
    place = place_for ps p.name

    abbrev ps' : Points
    ps' = with_point ps place p

    abbrev points' : List ℕ → Option (ℕ → Option Image)
    points' other = cond (same_name other p.name) (some images) (points other)

    pub at_place : point_at ps' place ≡ p
    unfolding point_at with_point
    at_place = ap (λ o. unwrap_or o no_point) (get_or-set_same ps.places place (Some p) None (omega (arith, h.four, ltb-true place 4 room)))

    there : (k : ℕ) → k ≢ place → point_at ps' k ≡ point_at ps k
    unfolding point_at with_point
    there k d = ap (λ o. unwrap_or o no_point) (get_or-set_other ps.places place k (Some p) None d)

    kept_there : (k : ℕ) → k ≢ place → is_kept ps' k ≡ is_kept ps k
    unfolding with_point
    kept_there k d = ap is_some (get_or-set_other ps.places place k (Some p) None d)

    noted_here : (name : List ℕ) → name ≡ p.name → points' name ≡ some images
    noted_here name e = ap (λ (t : Bool). cond t (some images) (points name)) ((same_name_lem name p.name).1 e)

    noted_there : (name : List ℕ) → (name ≡ p.name → ⊥) → points' name ≡ points name
    noted_there name n =
        ap (λ (t : Bool). cond t (some images) (points name)) (is_false (same_name name p.name) (λ e. n ((same_name_lem name p.name).0 e)))

    -- no other place has its name
    other_name : (k : ℕ) → k ≢ place → is_kept ps k ≡ true → (point_at ps k).name ≡ p.name → ⊥
    other_name k d e f = d (name_place p.name k e f)

    pub one_more : PointsHeld n total ps' points'
    unfolding with_point
    one_more = record {
      four = length-set ps.places place (Some p) ∙ h.four;
      names = λ j k. elim (ℕ_discrete j place) [
        | yes e ↦ elim (ℕ_discrete k place) [
          | yes f ↦ (λ _ _ _. e ∙ sym f)
          | no d ↦ rw (e, at_place, there k d, kept_there k d) (λ _ b q. absurd (other_name k d b (sym q)))
        ]
        | no c ↦ elim (ℕ_discrete k place) [
          | yes f ↦ rw (f, at_place, there j c, kept_there j c) (λ a _ q. absurd (other_name j c a q))
          | no d ↦ rw (there j c, there k d, kept_there j c, kept_there k d) (h.names j k)
        ]
      ];
      each = λ k. elim (ℕ_discrete k place) [
        | yes e ↦ rw (e, at_place) (λ _. (images, noted_here p.name refl, new))
        | no d ↦ rw (there k d, kept_there k d) (λ a. let x = h.each k a in (x.0, noted_there (point_at ps k).name (other_name k d a) ∙ x.1, x.2))
      ];
    }

-- ---- the start, and what is claimed

pub none_held : (n : ℕ) (total : Party → ℕ) → PointsHeld n total no_points (λ name. none)
unfolding no_points point_at
none_held n total =
    let empty : (k : ℕ) → is_kept no_points k ≡ false = λ k. get_d_repeated (λ o. is_some o ≡ false) 4 k None None refl refl in
    record { four = refl; names = λ j k e. absurd (never e (empty j)); each = λ k e. absurd (never e (empty k)) }

pub stands : {n : ℕ} {total : Party → ℕ} {ps : Points} {h : History} → PointsHeld n total ps h.points → n ≤ 8 → Stand n total ps h
stands {n} {ps} p most = record {
  names = p.names;
  images = λ k e. let x = p.each k e in (x.0, x.1, x.2.held);
  adds = λ k e y.
      let x = (p.each k e).2 in
      sym (sum_tail (λ c. booked y (image_at (point_at ps k) c)) n 8 most (x.beyond y)) ∙ x.adds y;
}
