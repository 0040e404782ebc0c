-- The events of a bank.
use Rattle.std.proofs.Common.{◌≡◌, ℕ, zero, suc, ◌+◌, ◌<◌, ◌≤◌, true, cond, List, [], ◌∷◌, length, set, get_or, map, refl, sym, ap, ◌∙◌, subst, ⊎_elim, arith}
use Rattle.std.specs.Prelude.{◌==◌, slice_index, slice_index_or, Some, None}
use mathlib.Core.Option.{some, some-ne-none, some-injective}
use lib.ListN.{get_elem?}
use Rattle.std.proofs.lemmas.List.{map-set, get_or_read, get_or-map, get_or-set_same, length-set, length-map}
use Rattle.rx_seq.specs.declared.calls.Call.{Call}
use Rattle.rx_seq.specs.declared.entries.Entry.{Entry}
use Rattle.rx_seq.specs.Table.{fits_part}
use Rattle.rx_seq.specs.History.{part_at}
use Rattle.rx_shape.specs.declared.plans.Pair.{Pair}
use Rattle.rx_shape.specs.Forms.{InRange, stock_size}
use Rattle.rx_shape.specs.Layout.{Layout, home, root_of, words_of}
use Rattle.rx_shape.specs.Asks.{EachBelow}
use Rattle.rx_shape.specs.Versions.{NotWritten}
use Rattle.rx_shape.proofs.Times.{times_at}
use Rattle.rx_shape.proofs.Numbering.{in_words, root_in_words}
use Rattle.rx_shape.proofs.Local.{stock_many}
use Rattle.rx_port.specs.declared.views.Counts.{Counts}
use Rattle.rx_port.specs.declared.views.Attempt.{Attempt}
use Rattle.rx_port.specs.declared.views.View.{View}
use Rattle.rx_port.specs.declared.seat_states.SeatState.{SeatState}
use Rattle.rx_port.specs.Core.{own_of, one_load, one_store, one_exchange, new_attempt, begun_view, read_view, written_view, entry_for, decided_view, traded_own}
use Rattle.rx_port.specs.Lawful.{Lawful}
use Rattle.rx_port.specs.Events.{Found, Begun, DidRead, DidWrite, Decided, IsPlanOf, IsHopeless, IsDecision, OwnsWell}
use Rattle.rx_port.specs.Ports.{KeepsSeats}
use Rattle.rx_port.specs.Plain.{view_of, plain_core, nobody, view_at, Whole, whole_of, IsPlainView, IsBank, IsSeatOf, HasRoom}
use Rattle.rx_port.proofs.Lists.{here_or}
use Rattle.rx_port.proofs.Placing.{placed_at}
use Rattle.rx_port.proofs.Lawfully.{begun_lawful, read_lawful, write_lawful, decided_lawful}

pub is_plain : (seats : List SeatState) (i : ℕ) (v : View) → get_elem? (map view_of seats) i ≡ some v → IsPlainView v
is_plain [] i v e = absurd (some-ne-none v (sym e))
is_plain (d ∷ seats) zero v e = subst IsPlainView (some-injective (view_of d) v e) (record { known = refl; live = refl; joined = refl })
is_plain (d ∷ seats) (suc i) v e = is_plain seats i v e

-- a live seat of lawful words and seats owns well
pub owns_from : (l : Layout) (words : List ℕ) (views : List View) (es : List Entry) (i : ℕ) (v : View) → Lawful l words views es → v.live ≡ true → get_elem? views i ≡ some v → OwnsWell l v
owns_from l words views es i v h alive at = record {
  alive = alive;
  owns = (h.seats i v at).owns alive;
  ranges = λ o p there more. h.inside o p there (let k = placed_at l o p views i v at in omega arith);
  once = λ o p there. let k = placed_at l o p views i v at in let q = h.places o p there in omega arith;
}

-- each seat of a bank is one of its seats
pub seat_from : (b : Whole) → IsBank b → (i : ℕ) → i < length b.core.views → IsSeatOf b i
seat_from b h i at =
    let v : View = view_at b.core i in
    let here = here_or b.core.views i nobody at in
    let alive : v.live ≡ true = (h.plain i v here).live in
    record { there = at; plain = h.plain; number = (h.lawful.seats i v here).numbered alive; owns = owns_from b.layout b.core.words b.core.views h.history i v h.lawful alive here }

-- a trade names own places
pub pairs_below : (l : Layout) (v : View) (a : Attempt) (new : ℕ) (pairs : List Pair) → IsDecision l v a new pairs → EachBelow (stock_size (part_at l.parts a.object)) pairs
pairs_below l v a new pairs d = ⊎_elim (λ (p : IsPlanOf l v a new pairs). p.below) (λ (p : IsHopeless l a pairs). subst (EachBelow (stock_size (part_at l.parts a.object))) (sym p.none) tt) d.case

pub own_in_words : (l : Layout) (v : View) (o k : ℕ) → OwnsWell l v → o < length l.parts → k < stock_size (part_at l.parts o) → (k < length (own_of v o)) × (slice_index (own_of v o) k < words_of l)
own_in_words l v o k h there below =
    let e = stock_many (home l o) (own_of v o) (h.owns.stocks o there) in
    let few : k < length (own_of v o) = omega arith in (few, in_words l o (slice_index (own_of v o) k) there (h.ranges o (slice_index (own_of v o) k) there (times_at (own_of v o) k few)))

module _ (l : Layout) (words : List ℕ) (seats : List SeatState) (counts : Counts) (i : ℕ) (at : i < length (map view_of seats)) where
  abbrev v : View
  v = view_at (plain_core words seats counts) i

  here : get_elem? (map view_of seats) i ≡ some (view_at (plain_core words seats counts) i)
  here = here_or (map view_of seats) i nobody at

  alive : (view_at (plain_core words seats counts) i).live ≡ true
  alive = (is_plain seats i (view_at (plain_core words seats counts) i) here).live

  -- the seat as the code reads it
  pub state_is : (d : SeatState) → d ≡ get_or seats i d → view_of d ≡ view_at (plain_core words seats counts) i
  state_is d e = ap view_of e ∙ sym (get_or-map view_of seats i d nobody (rw (length-map seats view_of) at at))

  view_now : (words' : List ℕ) (counts' : Counts) (d : SeatState) → view_at (plain_core words' (set seats i d) counts') i ≡ view_of d
  view_now words' counts' d = ap (λ (vs : List View). slice_index_or vs i nobody) (map-set view_of seats i d) ∙ get_or-set_same (map view_of seats) i (view_of d) nobody at

  core_now : (words' : List ℕ) (counts' : Counts) (d : SeatState) (n : ℕ) (w : View) → n ≡ i → view_of d ≡ w → record { words = words'; views = set (map view_of seats) n w; counts = Some counts' } ≡ plain_core words' (set seats i d) counts'
  core_now words' counts' d n w same e = λ k. record { words = words'; views = (ap (λ (m : ℕ). set (map view_of seats) m w) same ∙ ap (λ (x : View). set (map view_of seats) i x) (sym e) ∙ sym (map-set view_of seats i d)) k; counts = Some counts' }

  -- what is lawful after an event is so for the bank
  kept : (words' : List ℕ) (counts' : Counts) (d : SeatState) (w : View) (es : List Entry) → IsBank (whole_of l words seats counts) → view_of d ≡ w → Lawful l words' (set (map view_of seats) i w) es → IsBank (whole_of l words' (set seats i d) counts')
  kept words' counts' d w es was e h = record {
    limits = was.limits;
    many = ap length (map-set view_of seats i d) ∙ length-set (map view_of seats) i (view_of d) ∙ was.many;
    plain = is_plain (set seats i d);
    history = es;
    lawful = subst (λ (vs : List View). Lawful l words' vs es) (ap (λ (x : View). set (map view_of seats) i x) (sym e) ∙ sym (map-set view_of seats i d)) h;
  }

  -- the seats of the bank stay, and each count has risen by one at most
  pub seats_stay : (words' : List ℕ) (counts' : Counts) (d : SeatState) → IsBank (whole_of l words' (set seats i d) counts') → (counts'.loads ≤ counts.loads + 1) × (counts'.stores ≤ counts.stores + 1) × (counts'.exchanges ≤ counts.exchanges + 1)
      → KeepsSeats (λ (b : Whole). b.layout) IsSeatOf (λ n b. HasRoom n b.core) (whole_of l words seats counts) (whole_of l words' (set seats i d) counts') i
  seats_stay words' counts' d h few =
      let stays = λ (j : ℕ) (there : j < length (map view_of seats)). seat_from (whole_of l words' (set seats i d) counts') h j (rw (map-set view_of seats i d, length-set (map view_of seats) i (view_of d)) there) in
      record { layout = refl; ours = stays i at; others = λ other was. stays other was.there; room = λ n was. (omega (arith, few.0, was.0), omega (arith, few.1, was.1), omega (arith, few.2, was.2)) }

  module _ (h : IsBank (whole_of l words seats counts)) (d old : SeatState) (was : old ≡ get_or seats i old) where
    old_is : view_of old ≡ view_at (plain_core words seats counts) i
    old_is = state_is old was

    number_is : (view_at (plain_core words seats counts) i).number ≡ i
    number_is = (h.lawful.seats i (view_at (plain_core words seats counts) i) here).numbered alive

    open_old : (a : Attempt) → (view_at (plain_core words seats counts) i).attempt ≡ Some a → (view_of old).attempt ≡ Some a
    open_old a e = ap (λ (x : View). x.attempt) old_is ∙ e

    found : Found l (λ c. c ≡ plain_core words seats counts) (view_at (plain_core words seats counts) i) (plain_core words seats counts) h.history
    found = record { stands = refl; lawful = h.lawful; alive = alive; here = subst (λ (n : ℕ). get_elem? (map view_of seats) n ≡ some (view_at (plain_core words seats counts) i)) (sym number_is) here }

    pub began_from : (o : ℕ) (call : Call) (root : ℕ) → o < length l.parts → fits_part (part_at l.parts o) call ≡ true → root ≡ root_of words o → view_of d ≡ record (view_of old) { attempt = Some (new_attempt o call root) }
        → IsBank (whole_of l words (set seats i d) (one_load counts))
        × Begun l (λ c. c ≡ plain_core words seats counts) (λ c. c ≡ plain_core words (set seats i d) (one_load counts)) (view_at (plain_core words seats counts) i) (view_at (plain_core words (set seats i d) (one_load counts)) i) o call root
    began_from o call root there fits is e =
        let w : view_of d ≡ begun_view h.history (view_at (plain_core words seats counts) i) o call root = e ∙ ap (λ (x : View). begun_view h.history x o call root) old_is in (
          kept words (one_load counts) d _ h.history h w (begun_lawful l words (map view_of seats) h.history i _ o call root h.lawful here alive there fits is),
          record {
            core = plain_core words seats counts;
            history = h.history;
            found = found;
            root_is = is;
            view_is = view_now words (one_load counts) d ∙ w;
            after = core_now words (one_load counts) d _ (view_at (plain_core words (set seats i d) (one_load counts)) i) number_is (sym (view_now words (one_load counts) d));
          },
        )

    pub read_from : (a : Attempt) (place word : ℕ) → (view_at (plain_core words seats counts) i).attempt ≡ Some a → word ≡ slice_index words place
        → ((b : Attempt) → (view_of old).attempt ≡ Some b → view_of d ≡ read_view (view_of old) b (record { place = place; word = word }))
        → IsBank (whole_of l words (set seats i d) (one_load counts))
        × DidRead l (λ c. c ≡ plain_core words seats counts) (λ c. c ≡ plain_core words (set seats i d) (one_load counts)) (view_at (plain_core words seats counts) i) (view_at (plain_core words (set seats i d) (one_load counts)) i) a place word
    read_from a place word open_is is f =
        let e : view_of d ≡ read_view (view_at (plain_core words seats counts) i) a (record { place = place; word = word }) = f a (open_old a open_is) ∙ ap (λ (x : View). read_view x a (record { place = place; word = word })) old_is in (
          kept words (one_load counts) d _ h.history h e (read_lawful l words (map view_of seats) h.history i _ a (record { place = place; word = word }) h.lawful here alive open_is is),
          record {
            core = plain_core words seats counts;
            history = h.history;
            found = found;
            word_is = is;
            view_is = view_now words (one_load counts) d ∙ e;
            after = core_now words (one_load counts) d _ (view_at (plain_core words (set seats i d) (one_load counts)) i) number_is (sym (view_now words (one_load counts) d));
          },
        )

    did_write : (a : Attempt) (own value : ℕ) → (view_at (plain_core words seats counts) i).attempt ≡ Some a → own < stock_size (part_at l.parts a.object) → NotWritten own a.writes → view_of d ≡ written_view (view_at (plain_core words seats counts) i) a (record { own = own; value = value })
        → IsBank (whole_of l (set words (slice_index (own_of (view_at (plain_core words seats counts) i) a.object) own) value) (set seats i d) (one_store counts))
        × DidWrite l (λ c. c ≡ plain_core words seats counts) (λ c. c ≡ plain_core (set words (slice_index (own_of (view_at (plain_core words seats counts) i) a.object) own) value) (set seats i d) (one_store counts)) (view_at (plain_core words seats counts) i) (view_at (plain_core (set words (slice_index (own_of (view_at (plain_core words seats counts) i) a.object) own) value) (set seats i d) (one_store counts)) i) a own value
    did_write a own value open_is below new e =
        let words' : List ℕ = set words (slice_index (own_of (view_at (plain_core words seats counts) i) a.object) own) value in (
          kept words' (one_store counts) d _ h.history h e (write_lawful l words (map view_of seats) h.history i _ a (record { own = own; value = value }) h.lawful here alive open_is below new),
          record {
            core = plain_core words seats counts;
            history = h.history;
            found = found;
            view_is = view_now words' (one_store counts) d ∙ e;
            after = core_now words' (one_store counts) d _ (view_at (plain_core words' (set seats i d) (one_store counts)) i) number_is (sym (view_now words' (one_store counts) d));
          },
        )

    pub wrote_from : (a : Attempt) (own value place : ℕ) → (view_at (plain_core words seats counts) i).attempt ≡ Some a → own < stock_size (part_at l.parts a.object) → NotWritten own a.writes → place ≡ slice_index (own_of (view_at (plain_core words seats counts) i) a.object) own
        → ((b : Attempt) → (view_of old).attempt ≡ Some b → view_of d ≡ written_view (view_of old) b (record { own = own; value = value }))
        → IsBank (whole_of l (set words place value) (set seats i d) (one_store counts))
        × DidWrite l (λ c. c ≡ plain_core words seats counts) (λ c. c ≡ plain_core (set words place value) (set seats i d) (one_store counts)) (view_at (plain_core words seats counts) i) (view_at (plain_core (set words place value) (set seats i d) (one_store counts)) i) a own value
    wrote_from a own value place open_is below new is f = subst (λ (p : ℕ). IsBank (whole_of l (set words p value) (set seats i d) (one_store counts))
        × DidWrite l (λ c. c ≡ plain_core words seats counts) (λ c. c ≡ plain_core (set words p value) (set seats i d) (one_store counts)) (view_at (plain_core words seats counts) i) (view_at (plain_core (set words p value) (set seats i d) (one_store counts)) i) a own value) (sym is)
        (did_write a own value open_is below new (f a (open_old a open_is) ∙ ap (λ (x : View). written_view x a (record { own = own; value = value })) old_is))

    pub decided_from : (a : Attempt) (new : ℕ) (pairs : List Pair) (word : ℕ) → IsDecision l (view_at (plain_core words seats counts) i) a new pairs → word ≡ root_of words a.object
        → view_of d ≡ record (view_of old) { attempt = None; own = traded_own (word == a.expected) (view_of old).own a.object pairs }
        → IsBank (whole_of l (set words (a.object + 1) (cond (word == a.expected) new word)) (set seats i d) (one_exchange counts))
        × Decided l (λ c. c ≡ plain_core words seats counts) (λ c. c ≡ plain_core (set words (a.object + 1) (cond (word == a.expected) new word)) (set seats i d) (one_exchange counts)) (view_at (plain_core words seats counts) i) (view_at (plain_core (set words (a.object + 1) (cond (word == a.expected) new word)) (set seats i d) (one_exchange counts)) i) a new pairs word
    decided_from a new pairs word decision is e =
        let words' : List ℕ = set words (a.object + 1) (cond (word == a.expected) new word) in
        let n : Entry = entry_for l h.history i a.object a.call in
        let m : Entry = entry_for l h.history (view_at (plain_core words seats counts) i).number a.object a.call in
        let w : view_of d ≡ decided_view (word == a.expected) h.history n (view_at (plain_core words seats counts) i) a word pairs = e ∙ ap (λ (x : View). decided_view (word == a.expected) h.history n x a word pairs) old_is in (
          kept words' (one_exchange counts) d _ _ h w (decided_lawful l words (map view_of seats) h.history i _ a new word pairs h.lawful here alive is decision),
          record {
            core = plain_core words seats counts;
            history = h.history;
            found = found;
            word_is = is;
            view_is = view_now words' (one_exchange counts) d ∙ w ∙ ap (λ (k : ℕ). decided_view (word == a.expected) h.history (entry_for l h.history k a.object a.call) (view_at (plain_core words seats counts) i) a word pairs) (sym number_is);
            after = core_now words' (one_exchange counts) d _ (view_at (plain_core words' (set seats i d) (one_exchange counts)) i) number_is (sym (view_now words' (one_exchange counts) d));
          },
        )

-- words that the code reads
pub root_read : (l : Layout) (words : List ℕ) (views : List View) (es : List Entry) (o r : ℕ) → Lawful l words views es → o < length l.parts → r ≡ get_or words (o + 1) r → r ≡ root_of words o
root_read l words views es o r h there e = get_or_read words (o + 1) r (let z = h.size in let x = root_in_words l o there in omega arith) e 0

pub place_read : (l : Layout) (words : List ℕ) (views : List View) (es : List Entry) (o p r : ℕ) → Lawful l words views es → o < length l.parts → InRange (home l o) p → r ≡ get_or words p r → r ≡ slice_index words p
place_read l words views es o p r h there in_range e = get_or_read words p r (let z = h.size in let b = in_words l o p there in_range in omega arith) e 0
