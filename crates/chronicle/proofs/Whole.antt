-- The whole chronicle, by the answer of the load, and demand 3 of the run that it tells.
use Prim.Native.Nat.{ℕ, ◌+◌, ◌*◌, ◌≤◌, ◌<◌, min}
use mathlib.Core.Path.{◌≡◌, sym, ap, ◌∙◌, subst}
use mathlib.Core.Bool.{Bool, true, false}
use mathlib.Core.List.{List, [], ◌∷◌, ◌++◌, map}
use native.Mathlib.Omega.{arith}
use lib.ListN.{length, get_or, take, length-append, length-map}
use lib.Seq.{sets, length-take-le}
use mir.Syntax.{w8}
use mir.Val.{Fits}
use borrow.Author.Tests.{eq-eqb, ne_eqb}
use Rattle.points.specs.declared.Points.{Points}
use Rattle.points.specs.Points.{no_points}
use Rattle.group.specs.declared.Group.{Group}
use Rattle.group.specs.declared.Outcome.{Outcome}
use Rattle.load.specs.Load.{load}
use Rattle.load.proofs.Loaded.{starts}
use Rattle.buffer.specs.Written.{Written}
use Rattle.buffer.proofs.Texts.{then}
use Rattle.protocol.specs.declared.Site.{Site}
use Rattle.protocol.specs.Listing.{parts}
use Rattle.protocol.specs.History.{opening}
use Rattle.protocol.specs.Restored.{Octets, OctetsIn, AllOctets}
use Rattle.turns.specs.Turns.{record_size, operation_in}
use Rattle.steps.specs.Steps.{operations_of}
use Rattle.steps.proofs.Records.{at_most}
use Rattle.replay.specs.Replay.{EndsWell}
use Rattle.replay.proofs.Moments.{all_octets, ends_well}
use Rattle.replay.proofs.Operations.{octets_of}
use Rattle.report.proofs.Whole.{within, limited, the_parts, exactly}
use Rattle.newest.specs.declared.Sort.TheVariants.{Other}
use Rattle.rows.specs.Rows.{row_octets}
use Rattle.rows.proofs.Lengths.{row_length}
use Rattle.chronicle.specs.Chronicle.{first_operations, version_number, rows_from, loaded_octets, chronicle}
use Rattle.chronicle.specs.Kept.{rows_of}
use Rattle.chronicle.proofs.Lengths.{rows_length}
use Rattle.chronicle.proofs.Same.{rows_same}

-- ---- the records that count

module _ (plan : Bool) (list : List ℕ) where
  some_octets : (plan : Bool) → 0 < record_size plan
  some_octets true = omega arith
  some_octets false = omega arith

  as_parts : (plan : Bool) (size used : ℕ) → size ≡ record_size plan → used ≡ min (length list) (10000 * size) → used ≡ min (length list) (record_size plan * 10000)
  as_parts true size used es eu = rw es at eu
  as_parts false size used es eu = rw es at eu

  -- they are all records of the octets that are used
  the_operations : {size used : ℕ} → size ≡ record_size plan → used ≡ min (length list) (10000 * size) → operations_of plan (take used list) ≡ first_operations plan list
  the_operations {size} {used} es eu =
      ap (map (operation_in plan)) (the_parts (record_size plan) 10000 list (some_octets plan) (as_parts plan size used es eu))

  pub no_more : {size used : ℕ} → size ≡ record_size plan → used ≡ min (length list) (10000 * size) → length (take used list) ≤ 10000 * record_size plan
  no_more {size} {used} es eu = rw (length-take-le used list (within (10000 * size) eu), ← es) (limited (length list) eu)

  few : length (first_operations plan list) ≤ 10000
  few = rw (length-map (parts (record_size plan) 10000 list) (operation_in plan)) (at_most (record_size plan) 10000 list)

  each : (plan : Bool) (r : List ℕ) → Octets r → OctetsIn (operation_in plan r)
  each true r o = octets_of r o
  each false r o = o

  of_octets : ((i : ℕ) → Fits w8 (get_or list i 0)) → AllOctets (first_operations plan list)
  of_octets h = all_octets (operation_in plan) (each plan) (record_size plan) 10000 list h

  -- ---- demand 3

  pub well : (file : List ℕ) → ((i : ℕ) → Fits w8 (get_or file i 0)) → ((i : ℕ) → Fits w8 (get_or list i 0)) → (load file).answer ≡ 0 → EndsWell file (first_operations plan list)
  well file f h e = ends_well file f (first_operations plan list) (of_octets h) e

  -- ---- the octets

  module _ (file : List ℕ) {o : Outcome} (e : o ≡ load file) where
    answered : o.answer ≡ (load file).answer
    answered = ap (λ (x : Outcome). x.answer) e

    pub refused : (o.answer ≡ 0 → ⊥) → {before after : List ℕ} {end : ℕ} → Written (o.answer ∷ []) 0 before end after
        → (end ≡ length (chronicle plan file list)) × ((after ≡ sets before 0 (chronicle plan file list)) × (end ≤ 32700000))
    unfolding chronicle
    refused n w =
        let whole : o.answer ∷ [] ≡ chronicle plan file list = rw (ne_eqb (load file).answer 0 (λ z. n (answered ∙ z)), answered) in
        exactly 32700000 (omega arith) whole (omega arith) w

    module _ (z : o.answer ≡ 0) (f : (i : ℕ) → Fits w8 (get_or file i 0)) (h : (i : ℕ) → Fits w8 (get_or list i 0)) where
      loaded : (load file).answer ≡ 0
      loaded = sym answered ∙ z

      in_file : Octets file
      in_file i = omega (arith, f i)

      same : {size used : ℕ} → size ≡ record_size plan → used ≡ min (length list) (10000 * size) → (ps : Points) → ps ≡ no_points
          → rows_of plan (record { group = o.group; points = ps }) (take used list) ≡ rows_from 1 (opening (load file).group) [] (first_operations plan list)
      unfolding rows_of
      same es eu ps ep =
          rw (ep, the_operations es eu, ap (λ (x : Outcome). x.group) e)
          (rows_same file in_file loaded (first_operations plan list) (of_octets h))

      opened : chronicle plan file list ≡ loaded_octets (load file).group (first_operations plan list)
      unfolding chronicle
      opened = rw (eq-eqb (load file).answer 0 loaded)

      short : length (loaded_octets (load file).group (first_operations plan list)) ≤ 32700000
      short =
          let g = (load file).group in
          let xs = first_operations plan list in
          let most : g.n ≤ 8 = (starts file in_file loaded).most in
          let row = row_octets 0 g g Other 0 in
          let rest = rows_from 1 (opening g) [] xs in
          rw (length-append ((0 ∷ g.n ∷ version_number g.packets ∷ []) ++ row) rest)
          (omega (arith, row_length 0 g g Other 0 most, rows_length xs 1 (opening g) [] most, few))

      pub accepted : {size used version : ℕ} {before mid mid' after : List ℕ} {at at' end : ℕ} {ps : Points} → size ≡ record_size plan
          → used ≡ min (length list) (10000 * size) → ps ≡ no_points → version ≡ version_number o.group.packets
          → Written (0 ∷ o.group.n ∷ version ∷ []) 0 before at mid → Written (row_octets 0 o.group o.group Other 0) at mid at' mid'
          → Written (rows_of plan (record { group = o.group; points = ps }) (take used list)) at' mid' end after
          → (end ≡ length (chronicle plan file list)) × ((after ≡ sets before 0 (chronicle plan file list)) × (end ≤ 32700000))
      accepted {used = used} {version = version} {ps = ps} es eu ep ev u v w =
          let xs = first_operations plan list in
          let here : Site = record { group = o.group; points = ps } in
          let row = row_octets 0 o.group o.group Other 0 in
          let whole : (0 ∷ o.group.n ∷ version ∷ []) ++ row ++ rows_of plan here (take used list) ≡ loaded_octets (load file).group xs =
          ap (λ (v : ℕ). (0 ∷ o.group.n ∷ v ∷ []) ++ row ++ rows_of plan here (take used list)) ev
          ∙ ap (λ (r : List ℕ). (0 ∷ o.group.n ∷ version_number o.group.packets ∷ []) ++ row ++ r) (same es eu ps ep)
          ∙ ap (λ (g : Group). (0 ∷ g.n ∷ version_number g.packets ∷ []) ++ row_octets 0 g g Other 0 ++ rows_from 1 (opening (load file).group) [] xs) (ap (λ (x : Outcome). x.group) e) in
          exactly 32700000 (omega arith) (whole ∙ sym opened) (subst (λ (t : List ℕ). length t ≤ 32700000) (sym whole) short) (then (then u v) w)
