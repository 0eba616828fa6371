-- Lines and logs: one packet more or less, and what may be on a line. Two logs of which at most one amount differs, or one packet is missing,
-- have equal check values only if they are equal, so an equal comparison covers nothing hurt.
use Rattle.std.specs.Prelude.{None}
use Prim.Native.Nat.{ℕ, zero, suc, ◌+◌, ◌%◌, ◌≤◌, ◌<◌}
use mathlib.Core.Path.{◌≡◌, refl, ap, ◌∙◌, sym}
use mathlib.Core.Bool.{Bool, true, false, cond, false≢true, true≢false}
use mathlib.Core.List.{List, [], ◌∷◌, ◌++◌, nil≢cons, append-nil}
use lib.ListN.{get_or, drop}
use native.Mathlib.Omega.{arith}
use Rattle.crc.specs.Crc.{crc_from}
use Rattle.crc.proofs.Laws.{from_append, one_differs}
use Rattle.outlet.specs.declared.Outlet.{Outlet}
use Rattle.outlet.specs.Outlet.{octet_of}
use Rattle.outlet.specs.declared.Party.{Party}
use Rattle.packet.specs.Packet.{OwnCheck}
use Rattle.packet.specs.declared.Check.{Check}
use Rattle.packet.specs.declared.Payload.{Payload}
use Rattle.packet.specs.declared.Packet.{Packet}
use Rattle.packet.specs.declared.Packet.TheVariants.{Empty, Normal as NormalPacket, Checkp, Resume, Recover, Fault, Invalid}
use Rattle.packet.specs.Packet.{first_three, own_octets, octets_of, fits, start_check, step_check, is_normal, is_empty}
use mathlib.Core.Logic.{◌≢◌, ◌⊎◌, inl, inr, ⊎_elim}
use Rattle.packet.specs.declared.Place.{Place}
use Rattle.state.specs.declared.Version.{Version}
use Rattle.state.specs.declared.Version.TheVariants.{Known}
use Rattle.claims.proofs.State.Fun.{never}
use Rattle.claims.proofs.Invariant.Facts.{amounts_in, is_checkp, count, resume_first, check_from, check_of, Amounts, Fitting, amount_changed, unfit, Differ, same, here, missing, later, Alarms, amount, is_fault, is_safe, is_invalid, checkp_last, part}

-- ---- one packet more

pub amounts_both : (l k : List Packet) → amounts_in (l ++ k) ≡ amounts_in l ++ amounts_in k
unfolding amounts_in
amounts_both [] k = refl
amounts_both (Empty ∷ l) k = amounts_both l k
amounts_both (NormalPacket q ∷ l) k = ap (λ (r : List Payload). q ∷ r) (amounts_both l k)
amounts_both (Checkp v ∷ l) k = amounts_both l k
amounts_both (Resume ∷ l) k = amounts_both l k
amounts_both (Recover v ∷ l) k = amounts_both l k
amounts_both (Fault q ∷ l) k = amounts_both l k
amounts_both (Invalid ∷ l) k = amounts_both l k

pub amounts_snoc : (l : List Packet) (p : Payload) → amounts_in (l ++ (NormalPacket p ∷ [])) ≡ amounts_in l ++ (p ∷ [])
unfolding amounts_in
amounts_snoc l p = amounts_both l (NormalPacket p ∷ [])

pub amounts_plain : (l : List Packet) (p : Packet) → amounts_in (p ∷ []) ≡ [] → amounts_in (l ++ (p ∷ [])) ≡ amounts_in l
amounts_plain l p e = amounts_both l (p ∷ []) ∙ ap (λ (r : List Payload). amounts_in l ++ r) e ∙ append-nil (amounts_in l)

pub count_none : (f : Packet → Bool) → count f [] ≡ 0
unfolding count
count_none f = refl

pub amount_snoc : (y : Party) (l : List Payload) (q : Payload) → amount y (l ++ (q ∷ [])) ≡ amount y l + part y q
unfolding amount
amount_snoc y [] q = omega arith
amount_snoc y (p ∷ l) q = omega (arith, amount_snoc y l q)

pub small_snoc : (l : List Payload) (q : Payload) → Amounts l → q.amount < 65536 → Amounts (l ++ (q ∷ []))
unfolding Amounts
small_snoc [] q a h = (h, tt)
small_snoc (p ∷ l) q a h = (a.0, small_snoc l q a.1 h)

pub fitting_snoc : (l : List Payload) (q : Payload) → Fitting l → fits q ≡ true → Fitting (l ++ (q ∷ []))
unfolding Fitting
fitting_snoc [] q a h = (h, tt)
fitting_snoc (p ∷ l) q a h = (a.0, fitting_snoc l q a.1 h)

-- a packet among those that fit
pub fitting_at : (k : List Payload) (q : Payload) (l : List Payload) → Fitting (k ++ (q ∷ l)) → fits q ≡ true
unfolding Fitting
fitting_at [] q l a = a.0
fitting_at (p ∷ k) q l a = fitting_at k q l a.1

pub fitting_drop : (i : ℕ) (l : List Payload) → Fitting l → Fitting (drop i l)
unfolding Fitting
fitting_drop zero l a = a
fitting_drop (suc i) [] a = a
fitting_drop (suc i) (p ∷ l) a = fitting_drop i l a.1

pub count_snoc : (f : Packet → Bool) (l : List Packet) (p : Packet) → count f (l ++ (p ∷ [])) ≡ count f l + cond (f p) 1 0
unfolding count
count_snoc f [] p = omega arith
count_snoc f (q ∷ l) p = omega (arith, count_snoc f l p)

pub resume_more : (l k : List Packet) → resume_first l ≡ true → resume_first (l ++ k) ≡ true
unfolding resume_first
resume_more [] k e = absurd (false≢true e)
resume_more (Empty ∷ l) k e = absurd (false≢true e)
resume_more (NormalPacket p ∷ l) k e = absurd (false≢true e)
resume_more (Checkp v ∷ l) k e = absurd (false≢true e)
resume_more (Resume ∷ l) k e = refl
resume_more (Recover v ∷ l) k e = resume_more l k e
resume_more (Fault p ∷ l) k e = absurd (false≢true e)
resume_more (Invalid ∷ l) k e = refl

-- a packet may follow where no checkp stands
pub checkp_last_lem : (l : List Packet) (p : Packet) → count is_checkp l ≡ 0 → checkp_last (l ++ (p ∷ []))
unfolding checkp_last count
checkp_last_lem [] p z = ((λ e. refl), tt)
checkp_last_lem (q ∷ l) p z = ((λ e. absurd (omega (arith, rw e at z))), checkp_last_lem l p (omega arith))

pub no_checkp_end : (l : List Packet) (v : Check) (k : List Packet) → count is_checkp l ≡ 0 → l ≡ k ++ (Checkp v ∷ []) → ⊥
unfolding count
no_checkp_end l v k z e = omega (arith, count_snoc is_checkp k (Checkp v), ap (count is_checkp) e)

-- ---- a line without its oldest packet

pub head_eq : {A : Type 0} {x y : A} {k l : List A} → x ∷ k ≡ y ∷ l → x ≡ y
head_eq {A} {x} e = ap first e
  where
    first : List A → A
    first [] = x
    first (z ∷ _) = z

pub tail_eq : {A : Type 0} {x y : A} {k l : List A} → x ∷ k ≡ y ∷ l → k ≡ l
tail_eq {A} e = ap later e
  where
    later : List A → List A
    later [] = []
    later (_ ∷ r) = r

pub count_rest : (f : Packet → Bool) (p : Packet) (k : List Packet) → count f (p ∷ k) ≡ 0 → count f k ≡ 0
unfolding count
count_rest f p k e = omega arith

pub amounts_rest : (p : Packet) (k : List Packet) → is_normal p ≡ false → amounts_in (p ∷ k) ≡ amounts_in k
unfolding amounts_in
amounts_rest Empty k e = refl
amounts_rest (NormalPacket q) k e = absurd (true≢false e)
amounts_rest (Checkp v) k e = refl
amounts_rest Resume k e = refl
amounts_rest (Recover v) k e = refl
amounts_rest (Fault q) k e = refl
amounts_rest Invalid k e = refl

-- without one packet there is no more on the way
pub amount_rest : (y : Party) (p : Packet) (k : List Packet) → amount y (amounts_in k) ≤ amount y (amounts_in (p ∷ k))
unfolding amounts_in amount
amount_rest y Empty k = omega arith
amount_rest y (NormalPacket q) k = omega arith
amount_rest y (Checkp v) k = omega arith
amount_rest y Resume k = omega arith
amount_rest y (Recover v) k = omega arith
amount_rest y (Fault q) k = omega arith
amount_rest y Invalid k = omega arith

pub small_rest : (p : Packet) (k : List Packet) → Amounts (amounts_in (p ∷ k)) → Amounts (amounts_in k)
unfolding amounts_in Amounts
small_rest Empty k a = a
small_rest (NormalPacket q) k a = a.1
small_rest (Checkp v) k a = a
small_rest Resume k a = a
small_rest (Recover v) k a = a
small_rest (Fault q) k a = a
small_rest Invalid k a = a

-- ---- lines out of a cabinet that is aware of a fault

pub alarms_rest : (x : Version) (q : Place) (p : Packet) (k : List Packet) → Alarms x q (p ∷ k) → Alarms x q k
alarms_rest x q p k a = go a.faults a.recovers a.is a.knows
  where
    go : (f r : Bool) → p ∷ k ≡ cond f (Fault q ∷ []) [] ++ cond r (Recover a.value ∷ []) [] → (r ≡ true → x ≡ Known a.value) → Alarms x q k
    go true r e w = record { faults = false; recovers = r; value = a.value; is = tail_eq e; knows = w }
    go false true e w = record { faults = false; recovers = false; value = a.value; is = tail_eq e; knows = λ z. absurd (false≢true z) }
    go false false e w = absurd (nil≢cons (sym e))

pub alarm_first : (x : Version) (q : Place) (p : Packet) (k : List Packet) → Alarms x q (p ∷ k)
    → (p ≡ Fault q) ⊎ ((v : Bool) × (x ≡ Known v) × (p ≡ Recover v))
alarm_first x q p k a = go a.faults a.recovers a.is a.knows
  where
    go : (f r : Bool) → p ∷ k ≡ cond f (Fault q ∷ []) [] ++ cond r (Recover a.value ∷ []) [] → (r ≡ true → x ≡ Known a.value)
        → (p ≡ Fault q) ⊎ ((v : Bool) × (x ≡ Known v) × (p ≡ Recover v))
    go true r e w = inl (head_eq e)
    go false true e w = inr (a.value, w refl, head_eq e)
    go false false e w = absurd (nil≢cons (sym e))

abbrev is_alarm : Packet → Bool
is_alarm Empty = false
is_alarm (NormalPacket p) = false
is_alarm (Checkp v) = false
is_alarm Resume = false
is_alarm (Recover v) = true
is_alarm (Fault p) = true
is_alarm Invalid = false

-- no other packet is on them
pub only_alarms : (x : Version) (q : Place) (p : Packet) (k : List Packet) → is_alarm p ≡ false → Alarms x q (p ∷ k) → ⊥
only_alarms x q p k n a = never (⊎_elim (λ e. ap (λ (y : Packet). is_alarm y) e) (λ e. ap (λ (y : Packet). is_alarm y) e.2) (alarm_first x q p k a)) n

pub no_resume : (x : Version) (q : Place) (l : List Packet) → Alarms x q l → (j : ℕ) → get_or l j Empty ≡ Resume → ⊥
no_resume x q [] a j e = true≢false (ap is_empty e)
no_resume x q (p ∷ l) a zero e = only_alarms x q p l (ap (λ (y : Packet). is_alarm y) e) a
no_resume x q (p ∷ l) a (suc j) e = no_resume x q l (alarms_rest x q p l a) j e

-- ---- lines out of a cabinet that waits for a resume

-- what stands on a line out of a cabinet that waits for a resume: at most a recover
abbrev pub Short : List Packet → Type 0
Short l = (l ≡ []) ⊎ ((v : Bool) × (l ≡ Recover v ∷ []))

-- nothing in the line but a recover and a resume
pub record Bare (l : List Packet) : Type 0 where
  pub faults : count is_fault l ≡ 0
  pub checkps : count is_checkp l ≡ 0
  pub invalids : count is_invalid l ≡ 0
  pub safe : count is_safe l ≤ 2
  pub last : checkp_last l
  pub none : amounts_in l ≡ []

-- a resume follows where it is put
abbrev pub resumed_by : Bool → List Packet → List Packet
resumed_by t l = cond t (l ++ (Resume ∷ [])) l

bare_empty : (t : Bool) → Bare (resumed_by t [])
unfolding count checkp_last amounts_in
bare_empty true = record { faults = refl; checkps = refl; invalids = refl; safe = omega arith; last = ((λ e. refl), tt); none = refl }
bare_empty false = record { faults = refl; checkps = refl; invalids = refl; safe = omega arith; last = tt; none = refl }

bare_recover : (t v : Bool) → Bare (resumed_by t (Recover v ∷ []))
unfolding count checkp_last amounts_in
bare_recover true v = record {
  faults = refl;
  checkps = refl;
  invalids = refl;
  safe = omega arith;
  last = ((λ e. absurd (false≢true e)), ((λ e. refl), tt));
  none = refl;
}
bare_recover false v = record { faults = refl; checkps = refl; invalids = refl; safe = omega arith; last = ((λ e. refl), tt); none = refl }

pub short_bare : (t : Bool) (l : List Packet) → Short l → Bare (resumed_by t l)
short_bare t l = ⊎_elim (λ e. rw e (bare_empty t)) (λ e. rw e.1 (bare_recover t e.0))

pub short_first : (l : List Packet) → Short l → resume_first (resumed_by true l) ≡ true
unfolding resume_first
short_first l = ⊎_elim (λ e. rw e refl) (λ e. rw e.1 refl)

-- ---- logs that differ in at most one place

pub differ_more : {b : Bool} {k l : List Payload} (x : List Payload) → Differ b k l → Differ b (k ++ x) (l ++ x)
differ_more x same = same
differ_more x (here n) = here n
differ_more x missing = missing
differ_more x (later d) = later (differ_more x d)

-- the register after one packet more
check_more : (c : Check) (l : List Payload) (p : Payload) → check_from c (l ++ (p ∷ [])) ≡ step_check (check_from c l) p
unfolding check_from
check_more c [] p = refl
check_more c (q ∷ l) p = check_more (step_check c q) l p

pub check_snoc : (l : List Payload) (p : Payload) → check_of (l ++ (p ∷ [])) ≡ step_check (check_of l) p
unfolding check_of
check_snoc l p = check_more start_check l p

pub check_none : check_of [] ≡ start_check
unfolding check_of check_from
check_none = refl

-- ---- what an equal comparison shows

-- the octets that a register has run over
abbrev octets_in : List Payload → List ℕ
octets_in [] = []
octets_in (p ∷ l) = octets_of p ++ octets_in l

check_octets : (c : Check) (l : List Payload) → (check_from c l).crc ≡ crc_from c.crc (octets_in l)
unfolding check_from crc_from
check_octets c [] = refl
check_octets c (p ∷ l) = check_octets (step_check c p) l ∙ sym (from_append (octets_of p) (octets_in l) c.crc)

mod-lt : (k : ℕ) → k % 65536 < 65536
mod-lt k = omega arith

-- one packet more is another count, modulo 65,536 too, and counts that differ still do after the same packets
one_more : (k : ℕ) → k < 65536 → (k + 1) % 65536 ≢ k
one_more k s e = omega arith

counts_stay : (k l : ℕ) → k < 65536 → l < 65536 → (k + 1) % 65536 ≡ (l + 1) % 65536 → k ≡ l
counts_stay k l a b e = omega arith

counts_apart : (c d : Check) (l : List Payload) → c.count < 65536 → d.count < 65536 → c.count ≢ d.count → check_from c l ≡ check_from d l → ⊥
unfolding check_from
counts_apart c d [] a b n e = n (ap (λ (x : Check). x.count) e)
counts_apart c d (p ∷ l) a b n e =
    counts_apart (step_check c p) (step_check d p) l (mod-lt (c.count + 1)) (mod-lt (d.count + 1)) (λ f. n (counts_stay c.count d.count a b f)) e

-- a packet that carries no check is its first three octets
bare_octets : (p : Payload) → p.own ≡ None → octets_of p ≡ first_three p.outlet p.amount
bare_octets p e = ap (λ (k : OwnCheck). first_three p.outlet p.amount ++ own_octets k) e

-- one amount that differs is seen by the CRC, a packet that does not fit is none of those taken, and one that is missing is seen by the count,
-- from any register
seen : (c : Check) {k l : List Payload} → Differ true k l → Amounts k → Amounts l → Fitting l → c.count < 65536 → check_from c k ≡ check_from c l → ⊥
unfolding Amounts Fitting check_from
seen c (here {p} {q} {l} (amount_changed x y o n)) a b f s e =
    one_differs (octet_of p.outlet ∷ []) (octets_in l) c.crc p.amount q.amount a.0 b.0 n
    (sym (check_octets c (p ∷ l) ∙ ap (λ (r : List ℕ). crc_from c.crc (r ++ octets_in l)) (bare_octets p x))
    ∙ (ap (λ (r : Check). r.crc) e ∙ check_octets c (q ∷ l))
    ∙ ap (λ (r : List ℕ). crc_from c.crc (r ++ octets_in l)) (bare_octets q y ∙ ap (λ (r : Outlet). first_three r q.amount) (sym o)))
seen c (here (unfit u)) a b f s e = never f.0 u
seen c (missing {p} {l}) a b f s e = counts_apart (step_check c p) c l (mod-lt (c.count + 1)) s (one_more c.count s) e
seen c (later {p = p} d) a b f s e = seen (step_check c p) d a.1 b.1 f.1 (mod-lt (c.count + 1)) e

pub differ_none : {k l : List Payload} → Differ false k l → k ≡ l
differ_none same = refl
differ_none (later {p = p} d) = ap (λ (r : List Payload). p ∷ r) (differ_none d)

-- nothing hurt passes an equal comparison
pub equal_checks : (b : Bool) (k l : List Payload) → Differ b k l → Amounts k → Amounts l → Fitting l → check_of k ≡ check_of l → (b ≡ false) × (k ≡ l)
unfolding check_of
equal_checks true k l d a c f e = absurd (seen start_check d a c f (omega arith) e)
equal_checks false k l d a c f e = (refl, differ_none d)
