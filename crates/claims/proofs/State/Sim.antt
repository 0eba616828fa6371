-- Each store of the group, seen in the view: a store at a cabinet below 8 is one value replaced.
use Prim.Native.Nat.{ℕ, zero, suc, ◌<◌, ◌≤◌}
use mathlib.Core.Path.{◌≡◌, refl, sym, ap, ◌∙◌, fun_ext}
use mathlib.Core.Logic.{◌≢◌}
use mathlib.Core.Bool.{Bool, true, false, cond}
use mathlib.Core.List.{List, [], ◌∷◌, ◌++◌}
use lib.ListN.{length, get_or, set, length-set, get_or-eq_default}
use lib.Seq.{get_or-set_same, get_or-set_other}
use native.Mathlib.Omega.{arith}
use native.Mathlib.Decide.{ℕ_discrete, dec_lt}
use Rattle.marks.specs.Marks.{Marks, marked, both}
use Rattle.marks.specs.MarksLaws.{marked_both}
use Rattle.packet.specs.declared.Packet.{Packet}
use Rattle.line.specs.declared.Cell.{Cell}
use Rattle.line.specs.declared.Line.{Line}
use Rattle.packet.specs.Packet.{is_empty}
use Rattle.line.specs.Line.{empty_cell, empty_line, put}
use Rattle.image.specs.declared.Image.{Image}
use Rattle.image.specs.Image.{with_piece}
use Rattle.cabinet.specs.declared.Cabinet.{Cabinet}
use Rattle.cabinet.specs.Cabinet.{absent, in_use}
use Rattle.outgoing.specs.declared.Outgoing.{Outgoing}
use Rattle.store.specs.declared.Store.{Store}
use Rattle.store.specs.Store.{is_present, home_in, slot_at, put_piece}
use Rattle.store.specs.Served.{Served}
use Rattle.store.proofs.Laws.{piece_home, piece_present, piece_here, piece_other}
use Rattle.group.specs.declared.Group.{Group}
use Rattle.outgoing.specs.Lines.{empty_lines, line_to, with_line_to, put_if, put_row_to}
use Rattle.group.specs.Group.{cabinet, with_cabinet, outgoing, with_outgoing, line, with_line, with_store, home, slot}
use Rattle.protocol.specs.History.{upd}
use Rattle.claims.proofs.State.Fun.{upd_elim}
use Rattle.claims.proofs.State.Every.{Framed, All}
use Rattle.claims.proofs.State.View.{own_of, own_in, side_of, used, content, view, set_cabinet, set_lines, set_line, set_slot, same}
use Rattle.claims.proofs.State.Cells.{content_put}
use Rattle.claims.proofs.State.Shape.{Shaped, Lined, Pictured}

-- a group whose arrays, rows and lines have their sizes
abbrev pub Fit : Group → Type 0
Fit g = All Shaped Lined Pictured g

-- ---- lists as functions

pub get_d_upd : {A B : Type 0} (f : A → B) (l : List A) (i : ℕ) (v d : A) → i < length l
    → ◌≡◌ {A = ℕ → B} (λ j. f (get_or (set l i v) j d)) (upd (λ j. f (get_or l j d)) i (f v))
get_d_upd {A} {B} f l i v d h =
    fun_ext (λ j.
    upd_elim (λ (x : B). f (get_or (set l i v) j d) ≡ x) (λ j. f (get_or l j d)) i (f v) j
    (λ e. rw e (ap f (get_or-set_same l i v d h))) (λ n. ap f (get_or-set_other l i j v d n)))

-- .. where what is made of an element depends on its place
get_d_upd_at : {A B : Type 0} (f : ℕ → A → B) (l : List A) (i : ℕ) (v d : A) → i < length l
    → ◌≡◌ {A = ℕ → B} (λ j. f j (get_or (set l i v) j d)) (upd (λ j. f j (get_or l j d)) i (f i v))
get_d_upd_at {A} {B} f l i v d h =
    fun_ext (λ j.
    upd_elim (λ (x : B). f j (get_or (set l i v) j d) ≡ x) (λ j. f j (get_or l j d)) i (f i v) j
    (λ e. rw e (ap (f i) (get_or-set_same l i v d h))) (λ n. ap (f j) (get_or-set_other l i j v d n)))

-- ---- the stores

pub cabinet_same : (g : Group) → Framed g → (i : ℕ) (c : Cabinet) → i < 8 → cabinet (with_cabinet g i c) i ≡ c
unfolding cabinet with_cabinet
cabinet_same g w i c l = get_or-set_same g.cabinets i c absent (omega (arith, w.cabinets))

pub view_cabinet : (g : Group) → Framed g → (i : ℕ) (c : Cabinet) → i < 8 → view (with_cabinet g i c) ≡ set_cabinet (view g) i (own_in g i c) (side_of c)
unfolding cabinet with_cabinet outgoing line
view_cabinet g w i c l =
    let h : i < length g.cabinets = omega (arith, w.cabinets) in
    λ t. record {
      own = get_d_upd_at (own_in g) g.cabinets i c absent h t;
      side = get_d_upd side_of g.cabinets i c absent h t;
      lines = (view g).lines;
      slots = (view g).slots;
      sound = (view g).sound;
    }

abbrev pub contents : Outgoing → ℕ → List Packet
contents o b = content (line_to o b).cells

pub view_outgoing : (g : Group) → Framed g → (i : ℕ) (o : Outgoing) → i < 8 → view (with_outgoing g i o) ≡ set_lines (view g) i (contents o)
unfolding cabinet outgoing with_outgoing line
view_outgoing g w i o l =
    let h : i < length g.outgoing = omega (arith, w.outs) in
    λ t. record {
      own = (view g).own;
      side = (view g).side;
      lines = get_d_upd contents g.outgoing i o empty_lines h t;
      slots = (view g).slots;
      sound = (view g).sound;
    }

pub view_line : (g : Group) → Framed g → (a b : ℕ) (l : Line) → a < 8 → b < 8 → view (with_line g a b l) ≡ set_line (view g) a b (content l.cells)
unfolding outgoing line with_line line_to with_line_to
view_line g w a b l ha hb =
    view_outgoing g w a (with_line_to (outgoing g a) b l) ha
    ∙ ap (set_lines (view g) a)
    (get_d_upd (λ x. content x.cells) (outgoing g a).lines b l empty_line (omega (arith, w.lines a)))

-- a piece goes to each store of the pair that is present: it is seen in the slot as the home has it
module _ (g : Group) (served : Served g.store) (a : ℕ) (la : a < 8) (here : is_present g.store (home g a) ≡ true) (x : Bool) (k : ℕ) (m : Image) where
  abbrev put_in : Store
  put_in = put_piece g.store a x k m

  abbrev piece : Image
  piece = with_piece k m (slot g (home g a) a x)

  slots_put : (c : ℕ) → ◌≡◌ {A = Bool → Image} (slot_at put_in (home_in put_in c) c) (upd (view g).slots a (λ y. cond (same x y) piece ((view g).slots a y)) c)
  slots_put c =
      rw (piece_home g.store a x k m c)
      (upd_elim (λ (z : Bool → Image). slot_at put_in (home g c) c ≡ z) (view g).slots a (λ y. cond (same x y) piece ((view g).slots a y)) c
      (λ e. rw e (fun_ext (λ y. piece_here g.store served a la here x k m y))) (λ n. fun_ext (λ y. piece_other g.store a x k m (home g c) c y n)))

  pub view_piece : view (with_store g put_in) ≡ set_slot (view g) a x piece
  unfolding cabinet outgoing line
  view_piece = λ t. record {
    own = λ c. own_of (piece_home g.store a x k m c t) (piece_present g.store a x k m c t) (cabinet g c);
    side = (view g).side;
    lines = (view g).lines;
    slots = fun_ext slots_put t;
    sound = (view g).sound;
  }

-- ---- packets put on several lines at once

-- where there is room, a packet comes last
pub put_content : (l : Line) → Lined l → (p : Packet) → is_empty p ≡ false → length (content l.cells) < 12
    → content (put l p).cells ≡ content l.cells ++ (p ∷ [])
put_content l h p f r = content_put p f l.cells (omega (arith, h.twelve)) h.packed

module _ (m : Marks) (ps : List Cell) (o : Outgoing) where
  -- a line past those reached so far
  row_past : (n b : ℕ) → n ≤ b → line_to (put_row_to n m ps o) b ≡ line_to o b
  unfolding line_to with_line_to
  row_past zero b h = refl
  row_past (suc n) b h = go (marked m n) (row_past n b (omega arith))
    where
      go : (t : Bool) → line_to (put_row_to n m ps o) b ≡ line_to o b
          → line_to (put_if t (put_row_to n m ps o) n (get_or ps n empty_cell).packet) b ≡ line_to o b
      go true e = get_or-set_other (put_row_to n m ps o).lines n b _ empty_line (omega arith) ∙ e
      go false e = e

  length_row : (n : ℕ) → length (put_row_to n m ps o).lines ≡ length o.lines
  unfolding line_to with_line_to
  length_row zero = refl
  length_row (suc n) = go (marked m n) (length_row n)
    where
      go : (t : Bool) → length (put_row_to n m ps o).lines ≡ length o.lines
          → length (put_if t (put_row_to n m ps o) n (get_or ps n empty_cell).packet).lines ≡ length o.lines
      go true e = length-set (put_row_to n m ps o).lines n _ ∙ e
      go false e = e

  abbrev PutAt : ℕ → Line
  PutAt b = cond (marked m b) (put (line_to o b) (get_or ps b empty_cell).packet) (line_to o b)

  row_at : (n b : ℕ) → b < n → n ≤ length o.lines → line_to (put_row_to n m ps o) b ≡ PutAt b
  unfolding line_to with_line_to
  row_at zero b h l = absurd (omega arith)
  row_at (suc n) b h l = elim (ℕ_discrete b n)
      [ yes e ↦ rw e (here (marked m n)) | no d ↦ there (marked m n) d (row_at n b (omega arith) (omega arith)) ]
    where
      here : (t : Bool) → line_to (put_if t (put_row_to n m ps o) n (get_or ps n empty_cell).packet) n
          ≡ cond t (put (line_to o n) (get_or ps n empty_cell).packet) (line_to o n)
      here true =
          get_or-set_same (put_row_to n m ps o).lines n _ empty_line (omega (arith, length_row n))
          ∙ ap (λ (x : Line). put x (get_or ps n empty_cell).packet) (row_past n n (omega arith))
      here false = row_past n n (omega arith)

      there : (t : Bool) → b ≢ n → line_to (put_row_to n m ps o) b ≡ PutAt b
          → line_to (put_if t (put_row_to n m ps o) n (get_or ps n empty_cell).packet) b ≡ PutAt b
      there true d e = get_or-set_other (put_row_to n m ps o).lines n b _ empty_line d ∙ e
      there false d e = e

-- ---- the lines in use

past_row : {A : Type 0} (l : List A) (d : A) (b : ℕ) → length l ≡ 8 → 8 ≤ b → get_or l b d ≡ d
past_row l d b e h = get_or-eq_default l d {n = b} (omega arith)

past_both : (m n : Marks) (b : ℕ) → 8 ≤ b → marked (both m n) b ≡ false
unfolding both
past_both m n b h = get_or-eq_default (both m n) false {n = b} h

pub past_use : (c : Cabinet) (b : ℕ) → 8 ≤ b → marked (in_use c) b ≡ false
past_use c b h = past_both c.table.links c.table.cabinets b h

pub in_use_lem : (c : Cabinet) → Shaped c → (b : ℕ) → marked (in_use c) b ≡ used (side_of c b)
in_use_lem c w b = elim (dec_lt b 8) [
  | yes l ↦ marked_both c.table.links c.table.cabinets b l
  | no n ↦ past_both c.table.links c.table.cabinets b (omega arith)
      ∙ sym (rw (past_row c.table.links false b w.links (omega arith)))
]

-- what a row of packets leaves on the lines, where those marked have room
module _ (g : Group) (w : Fit g) (i : ℕ) (m : Marks) (ps : List Cell) (mark-past : (b : ℕ) → 8 ≤ b → marked m b ≡ false)
    (full : (b : ℕ) → b < 8 → is_empty (get_or ps b empty_cell).packet ≡ false)
    (room : (b : ℕ) → marked m b ≡ true → length ((view g).lines i b) < 12) where
  abbrev After : ℕ → List Packet
  After b = cond (marked m b) ((view g).lines i b ++ ((get_or ps b empty_cell).packet ∷ [])) ((view g).lines i b)

  row_one : (b : ℕ) → b < 8 → (t : Bool) → marked m b ≡ t
      → content (cond t (put (line_to (outgoing g i) b) (get_or ps b empty_cell).packet) (line_to (outgoing g i) b)).cells
      ≡ cond t ((view g).lines i b ++ ((get_or ps b empty_cell).packet ∷ [])) ((view g).lines i b)
  unfolding line
  row_one b l true e = put_content (line g i b) (w.lines i b) (get_or ps b empty_cell).packet (full b l) (room b e)
  row_one b l false e = refl

  pub row_content : contents (put_row_to 8 m ps (outgoing g i)) ≡ After
  unfolding line
  row_content =
      fun_ext (λ b. elim (dec_lt b 8) [
        | yes l ↦ ap (λ (x : Line). content x.cells) (row_at m ps (outgoing g i) 8 b l (omega (arith, w.frame.lines i)))
            ∙ row_one b l (marked m b) refl
        | no n ↦ ap (λ (x : Line). content x.cells) (row_past m ps (outgoing g i) 8 b (omega arith))
            ∙ sym (rw (mark-past b (omega arith)))
      ])
