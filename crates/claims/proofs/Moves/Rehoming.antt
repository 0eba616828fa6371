-- A store leaves or comes back: homes change, and with them who owes a report; the slots as each cabinet's home has them stay, and so does all
-- else that the invariant reads.
use Prim.Native.Nat.{ℕ, ◌<◌}
use mathlib.Core.Path.{◌≡◌}
use mathlib.Core.Bool.{Bool, true, false}
use mathlib.Core.List.{List}
use Rattle.outlet.specs.declared.Party.{Party}
use Rattle.packet.specs.declared.Packet.{Packet}
use Rattle.image.specs.declared.Image.{Image}
use Rattle.claims.proofs.State.View.{View, Own, Side}
use Rattle.claims.proofs.State.Methods.{s_owed}
use Rattle.claims.proofs.Invariant.Facts.{Big, Mind, Wire, Ghost, Pair, Node, Books, Lead, unaware}
use Rattle.claims.proofs.Invariant.Whole.{Inv, GroundOf, work_of}

-- what a cabinet holds of itself, with another home, and another word on whether it is a store that is present
abbrev pub o_homed : Own → ℕ → Bool → Own
o_homed o h p = record { state = o.state; version = o.version; alarm = o.alarm; pieces = o.pieces; image = o.image; home = h; present = p; lead = o.lead; former = o.former }

-- with the homes h, the stores p present, and the reports o owed
abbrev pub rehomed : View → (ℕ → ℕ) → (ℕ → Bool) → (ℕ → ℕ → Bool) → View
rehomed v h p o = record { own = λ c. o_homed (v.own c) (h c) (p c); side = λ c d. s_owed (v.side c d) (o c d); lines = v.lines; slots = v.slots; sound = v.sound }

-- ---- a pair and a cabinet

module _ (b : Big) (c d : ℕ) (o : Own) (m : Mind) (p : Own) (n : Mind) (s t : Side) (l : List Packet) (w : Wire) (h : Pair b c d o m p n s t l w) (x y : ℕ) (e f r q : Bool)
    (owes : r ≡ true → (n.wrote ≡ true) × (n.told ≡ false) × (unaware b o ≡ true)) (owes_home : r ≡ true → y ≡ c) where
  pair_rehomed : Pair b c d (o_homed o x e) m (o_homed p y f) n (s_owed s r) (s_owed t q) l w
  pair_rehomed = record {
    table = h.table;
    struck = h.struck;
    closed_joined = h.closed_joined;
    closed_equal = h.closed_equal;
    closed_empty = h.closed_empty;
    apart = h.apart;
    owes = owes;
    owes_home = owes_home;
    reported = h.reported;
    begun_bare = h.begun_bare;
    readied = h.readied;
    ready_heard = h.ready_heard;
    silent = h.silent;
    alarms = h.alarms;
    unheard = h.unheard;
    heard = h.heard;
    heard_of = h.heard_of;
    no_fault = h.no_fault;
    no_checkp = h.no_checkp;
    last_checkp = h.last_checkp;
    behind_empty = h.behind_empty;
    resumed = h.resumed;
    came = h.came;
    tail_heard = h.tail_heard;
    stream = h.stream;
    fresh = h.fresh;
    room = h.room;
    sound = h.sound;
    unhurt = h.unhurt;
    no_more = h.no_more;
    small = h.small;
    fit = h.fit;
  }

node_rehomed : (b : Big) (c : ℕ) (o : Own) (m : Mind) (z : Bool → Image) → Node b c o m z → (x : ℕ) (e : Bool) → Node b c (o_homed o x e) m z
node_rehomed b c o m z h x e = record {
  placed = h.placed;
  present = h.present;
  running = h.running;
  quiet = h.quiet;
  place_known = h.place_known;
  in_normal = h.in_normal;
  in_begin = h.in_begin;
  in_checkpointing = h.in_checkpointing;
  in_checkpointed = h.in_checkpointed;
  chief_saved = h.chief_saved;
  in_recovered = h.in_recovered;
  in_error = h.in_error;
  in_recovering = h.in_recovering;
  restored = h.restored;
  ready_is = h.ready_is;
  told_wrote = h.told_wrote;
  wrote_done = h.wrote_done;
  done_joined = h.done_joined;
  joined_tab = h.joined_tab;
  joined_begun = h.joined_begun;
  chief_begun = h.chief_begun;
  known = h.known;
  unknown_at = h.unknown_at;
  unknown_aware = h.unknown_aware;
  old_joined = h.old_joined;
  old_before = h.old_before;
  knows = h.knows;
  waits = h.waits;
  cut_image = h.cut_image;
  gone = h.gone;
  slot_top = h.slot_top;
  slot_prev = h.slot_prev;
  slot_cut = h.slot_cut;
  slot_pieces = h.slot_pieces;
  noted = h.noted;
  sizes = h.sizes;
}

lead_rehomed : (b : Big) (c : ℕ) (o : Own) → Lead b c o → (x : ℕ) (e : Bool) → Lead b c (o_homed o x e)
lead_rehomed b c o h x e = record { steady = h.steady; moved = h.moved; lives = h.lives; fallen = h.fallen; blank = h.blank }

books_rehomed : (b : Big) (o : Own) (m : Mind) (out got : Party → ℕ) → Books b o m out got → (x : ℕ) (e : Bool) → Books b (o_homed o x e) m out got
books_rehomed b o m out got h x e = record { bounded = h.bounded; live = h.live; at_cut = h.at_cut }

-- ---- all of it

module _ (n : ℕ) (total : Party → ℕ) (v : View) (γ : Ghost) (i : Inv n total v γ) (home : ℕ → ℕ) (present : ℕ → Bool) (owed : ℕ → ℕ → Bool)
    (home_present : (c : ℕ) → c < n → present (home c) ≡ true) (present_works : (c : ℕ) → present c ≡ true → work_of v c ≡ true)
    (owes : (c d : ℕ) → owed c d ≡ true → ((γ.mind d).wrote ≡ true) × ((γ.mind d).told ≡ false) × (unaware γ.big (v.own c) ≡ true))
    (owes_home : (c d : ℕ) → owed c d ≡ true → home d ≡ c) where
  ground : GroundOf n (rehomed v home present owed) γ
  ground =
      let g = i.core.ground in
      record {
        most = g.most;
        within = g.within;
        chief_in = g.chief_in;
        heir_is = g.heir_is;
        link_both = g.link_both;
        link_other = g.link_other;
        sound_both = g.sound_both;
        sound_links = g.sound_links;
        home_present = home_present;
        present_works = present_works;
        reach = g.reach;
        others_work = g.others_work;
        others_reach = g.others_reach;
        other = g.other;
      }

  pub rehomed_inv : Inv n total (rehomed v home present owed) γ
  rehomed_inv = record {
    core = record {
      pairs = λ c d. pair_rehomed _ c d _ _ _ _ _ _ _ _ (i.core.pairs c d) _ _ _ _ _ _ (owes c d) (owes_home c d);
      nodes = λ c. node_rehomed _ c _ _ _ (i.core.nodes c) _ _;
      books = λ c. books_rehomed _ _ _ _ _ (i.core.books c) _ _;
      leads = λ c. lead_rehomed _ c _ (i.core.leads c) _ _;
      ground = ground;
      chain = i.core.chain;
      sums = i.core.sums;
    };
    places = i.places;
    meets = i.meets;
  }
