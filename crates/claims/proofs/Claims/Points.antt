-- What is claimed of points in every run: what one keeps when it is taken, what those that stand are, and what a return brings back.
use Prim.Native.Nat.{ℕ, ◌<◌, ◌≤◌}
use mathlib.Core.Path.{◌≡◌, refl, sym, ap, ◌∙◌, subst}
use mathlib.Core.Bool.{Bool, true, false, cond, not}
use mathlib.Core.List.{List, ◌∷◌, ◌++◌}
use mathlib.Core.Option.{Option, none, some}
use lib.Dec.{eqb, ltb}
use borrow.Author.Tests.{eqb-true, eqb-false, eq-eqb}
use Rattle.state.specs.State.{works}
use Rattle.image.specs.declared.Image.{Image}
use Rattle.image.specs.Image.{blank_image}
use Rattle.points.specs.declared.Point.{Point}
use Rattle.points.specs.declared.Points.{Points}
use Rattle.points.specs.Points.{image_at, place_of, place_for, point_at, with_point}
use Rattle.group.specs.declared.Group.{Group}
use Rattle.group.specs.declared.Outcome.{Outcome}
use Rattle.group.specs.Group.{cabinet, state_of, is_crashed, quiet}
use Rattle.load.specs.Load.{load, cabinet_count, feeder_total}
use Rattle.load.proofs.Loaded.{starts}
use Rattle.protocol.specs.declared.Noted.{Noted}
use Rattle.protocol.specs.Entry.{step, decode}
use Rattle.protocol.specs.Points.{image_kept, point_of, point_refusal, take_point, return_refusal, return_to}
use Rattle.protocol.specs.History.{Cut, Save, History, Operation, returning, World, bare_cut, note_return, advance, run, ends, latest, opening}
use Rattle.protocol.specs.Restored.{Restored, Octets, OctetsIn, AllOctets, world_after}
use Rattle.claims.specs.Points.{KeptOf, new_point, PointsKeepSaves, Stand, PointsStand, image_under, ReturnsComeBack, ReturnsSetLost, LostStays}
use Rattle.claims.proofs.State.Fun.{not_true_false, cond_elim}
use Rattle.claims.proofs.State.Every.{passed}
use Rattle.claims.proofs.Invariant.Points.{PointHeld, found, stands, at_place}
use Rattle.claims.proofs.Moves.Returning.{point_keeps, point_image, point_held}
use Rattle.claims.proofs.Claims.Left.{step_leaves}
use Rattle.claims.proofs.Claims.Demand.{every_list, run_n, run_append, octets_append, count_after, demand_three}
use Rattle.claims.proofs.Claims.Bounds.{running}

pub points_stand : PointsStand
points_stand f of e xs o =
    let most : (world_after f xs).group.n ≤ 8 = subst (λ (n : ℕ). n ≤ 8) (sym (run_n xs (opening (load f).group))) (starts f of e).most in
    subst (λ (n : ℕ). Stand n (feeder_total f) (world_after f xs).points (world_after f xs).history) (count_after f of e xs)
    (stands (every_list f of e xs o).points most)

returned_to : (ps : Points) (g : Group) (name : List ℕ) → (return_to ps g name).answer ≡ 0 → ltb (place_of ps name) 4 ≡ true
unfolding return_to
returned_to ps g name =
    let k = return_refusal ps g name in
    cond_elim (λ (x : Outcome). x.answer ≡ 0 → ltb (place_of ps name) 4 ≡ true) (eqb k 0)
    (λ e _. (passed (ltb (place_of ps name) 4) 20 _ (passed (not (is_crashed g)) 9 _ (eqb-true k 0 e)).1).0) (λ e a. absurd (eqb-false k 0 e a))

-- a point that is taken was not refused
taken_point : (ps : Points) (g : Group) (name : List ℕ) → (take_point ps g name).answer ≡ 0
    → (point_refusal ps g name ≡ 0) × ((take_point ps g name).points ≡ with_point ps (place_for ps name) (point_of g name))
unfolding take_point
taken_point ps g name =
    let k = point_refusal ps g name in
    cond_elim (λ (x : Noted). x.answer ≡ 0 → (k ≡ 0) × (x.points ≡ with_point ps (place_for ps name) (point_of g name))) (eqb k 0)
    (λ e _. (eqb-true k 0 e, refl)) (λ e a. absurd (eqb-false k 0 e a))

kept_same : (g : Group) (h : History) (c : ℕ) (m k : ℕ → Image) → m c ≡ k c → KeptOf g h m c → KeptOf g h k c
kept_same g h c m k e =
    subst (λ (x : Image). (works (state_of g c) ≡ true → (y : Cut) × ((latest h).cut c ≡ some y) × (x ≡ y.image)) × (works (state_of g c) ≡ false → h.lost c ≡ some x)) e

pub points_keep_saves : PointsKeepSaves
points_keep_saves f of e xs o name a c l =
    let g : Group = (world_after f xs).group in
    let h : History = (world_after f xs).history in
    let ps : Points = (world_after f xs).points in
    let t = taken_point ps g name a in
    let one = passed (not (is_crashed g)) 9 _ t.0 in
    let two = passed (quiet g) 21 _ one.1 in
    let three = passed (ltb (place_for ps name) 4) 22 0 two.1 in
    let w = running f of e xs o (not_true_false one.0) in
    let p = point_held (feeder_total f) g h w.ghost w.fit w.inv w.past two.0 name in
    let new : new_point ps g name c ≡ image_at (point_of g name) c =
    ap (λ (x : Points). image_at (point_at x (place_for ps name)) c) t.1
    ∙ ap (λ (x : Point). image_at x c) (at_place (every_list f of e xs o).points (point_of g name) _ p three.0) in
    kept_same g h c (image_kept g) (new_point ps g name) (sym (new ∙ point_image (feeder_total f) g h w.ghost w.fit w.inv w.past two.0 name c))
    (point_keeps (feeder_total f) g h w.ghost w.fit w.inv w.past two.0 c (subst (λ (n : ℕ). c < n) (sym (count_after f of e xs)) l))

-- ---- a return

-- what the history has of one that is taken
module _ (f : List ℕ) (of : Octets f) (e : (load f).answer ≡ 0) (xs : List Operation) (o : AllOctets xs) (name : List ℕ)
    (taken : (return_to (world_after f xs).points (world_after f xs).group name).answer ≡ 0) where
  abbrev w : World
  w = world_after f xs

  abbrev there : (images : ℕ → Option Image) × (w.history.points name ≡ some images) × PointHeld w.group.n (feeder_total f) images (point_at w.points (place_of w.points name))
  there = found (every_list f of e xs o).points name (returned_to w.points w.group name taken)

  noted : (advance w (returning name)).history ≡ note_return (some there.0) w.history w.group
  unfolding advance
  noted =
      ap (λ (t : Bool). cond t (note_return (w.history.points name) w.history w.group) w.history) (eq-eqb (return_to w.points w.group name).answer 0 taken)
      ∙ ap (λ (x : Option (ℕ → Option Image)). note_return x w.history w.group) there.1

  has_image : (c : ℕ) → c < cabinet_count f → there.0 c ≡ some (image_under w.points name c)
  has_image c l = there.2.held c (subst (λ (n : ℕ). c < n) (sym (count_after f of e xs)) l)

  sets_lost : (c : ℕ) → c < cabinet_count f → works (state_of w.group c) ≡ false
      → (advance w (returning name)).history.lost c ≡ some (image_under w.points name c)
  sets_lost c l gone =
      ap (λ (h : History). h.lost c) noted ∙ ap (λ (t : Bool). cond t none (there.0 c)) gone ∙ has_image c l

  -- the operations after it make one list with those before
  whole : (ys : List Operation) → run (advance w (returning name)) ys ≡ world_after f (xs ++ returning name ∷ ys)
  unfolding run
  whole ys = run_append (opening (load f).group) xs (returning name ∷ ys)

  comes_back_lem : (ys : List Operation) → AllOctets ys → (x : Operation) → OctetsIn x → (j : ℕ)
      → works (state_of (run (advance w (returning name)) ys).group j) ≡ true
      → ends (run (advance w (returning name)) ys).group (advance (run (advance w (returning name)) ys) x).group j ≡ true
      → latest (advance (run (advance w (returning name)) ys) x).history ≡ latest (advance w (returning name)).history
      → (c : ℕ) → c < cabinet_count f → works (state_of (advance (run (advance w (returning name)) ys) x).group c) ≡ true
      → (cabinet (advance (run (advance w (returning name)) ys) x).group c).image ≡ image_under w.points name c
  comes_back_lem ys oy x ox j up en still c l up-c =
      let r = (restored up en).held c l up-c in
      let cut : bare_cut (some (image_under w.points name c)) ≡ some r.0 =
      sym (ap bare_cut (has_image c l)) ∙ ap (λ (h : History). (latest h).cut c) (sym noted) ∙ ap (λ (s : Save). s.cut c) (sym still) ∙ r.1 in
      r.2 ∙ sym (image_of cut)
    where
      restored : works (state_of (run (advance w (returning name)) ys).group j) ≡ true
          → ends (run (advance w (returning name)) ys).group (advance (run (advance w (returning name)) ys) x).group j ≡ true
          → Restored (cabinet_count f) (feeder_total f) (advance (run (advance w (returning name)) ys) x).history (advance (run (advance w (returning name)) ys) x).group
      restored =
          subst (λ (u : World). works (state_of u.group j) ≡ true → ends u.group (advance u x).group j ≡ true
          → Restored (cabinet_count f) (feeder_total f) (advance u x).history (advance u x).group) (sym (whole ys))
          (demand_three f of e (xs ++ returning name ∷ ys) (octets_append xs (returning name ∷ ys) o (tt, oy)) x ox j)

      image_of : {m : Image} {y : Cut} → bare_cut (some m) ≡ some y → m ≡ y.image
      image_of q = ap image_or q
        where
          image_or : Option Cut → Image
          image_or none = blank_image
          image_or (some z) = z.image

pub returns_set_lost : ReturnsSetLost
returns_set_lost f of e xs o name taken = sets_lost f of e xs o name taken

pub returns_come_back : ReturnsComeBack
returns_come_back f of e xs o name taken = comes_back_lem f of e xs o name taken

pub lost_stays : LostStays
unfolding advance take_point
lost_stays w c m e = (
  (λ r. (step_leaves w.history w.group (step w.group r) (decode r)).lost c m e),
  (λ name. cond_elim (λ (x : History). x.lost c ≡ some m) (eqb (take_point w.points w.group name).answer 0) (λ _. e) (λ _. e)),
)
