-- A seat is still one of its table after each event.
use Rattle.std.proofs.Common.{◌≡◌, ℕ, ◌+◌, ◌<◌, ◌≤◌, Bool, true, false, List, [], ◌∷◌, length, refl, sym, ap, ◌∙◌, subst, arith}
use Rattle.std.specs.Prelude.{◌==◌, if◌then◌else◌, slice_index, slice_index_or, slice_set, Option, Some, option_map}
use mathlib.Core.Option.{some}
use lib.ListN.{get_elem?}
use Rattle.atomic_table.proofs.Lists.{set_here}
use Rattle.rx_seq.specs.declared.calls.Call.{Call}
use Rattle.rx_seq.specs.declared.entries.Entry.{Entry}
use Rattle.rx_seq.specs.History.{part_at}
use Rattle.rx_seq.specs.Legal.{entries_of}
use Rattle.rx_shape.specs.declared.plans.Pair.{Pair}
use Rattle.rx_shape.specs.Places.{times}
use Rattle.rx_shape.specs.Forms.{stock_size}
use Rattle.rx_shape.specs.Layout.{Layout, home, words_of}
use Rattle.rx_shape.specs.Asks.{EachBelow}
use Rattle.rx_shape.proofs.Times.{times_at}
use Rattle.rx_shape.proofs.Numbering.{range_is}
use Rattle.rx_shape.proofs.Local.{stock_many}
use Rattle.rx_port.specs.declared.views.Attempt.{Attempt}
use Rattle.rx_port.specs.declared.views.Exchange.{Exchange}
use Rattle.rx_port.specs.declared.views.Known.{Known}
use Rattle.rx_port.specs.declared.views.View.{View}
use Rattle.rx_port.specs.declared.views.Core.{Core}
use Rattle.rx_port.specs.Core.{own_of, begun_known, begun_view, read_view, written_view, entry_for, history_after, decided_known, decided_view, exchange_of}
use Rattle.rx_port.specs.Lawful.{IsKnown, Lawful}
use Rattle.rx_port.specs.Events.{Begun, DidRead, DidWrite, Decided, IsDecision, OwnsWell}
use Rattle.rx_port.proofs.Lists.{inside_list, some_here}
use Rattle.rx_port.proofs.Histories.{mine_here}
use Rattle.rx_port.proofs.Lawfully.{decided_lawful}
use Rattle.rx_port.proofs.BankSteps.{owns_from, own_in_words, pairs_below}
use Rattle.rx_table.specs.Rule.{IsAt, attempt_in}
use Rattle.rx_table.specs.Seats.{Keeps}

pub attempt_is : (x : Option Attempt) (a : Attempt) → x ≡ Some a → attempt_in x ≡ a
attempt_is x a e = ap attempt_in e

-- a seat with the same places, and one that knows the same
pub owns_same : (l : Layout) (v w : View) → w.own ≡ v.own → w.live ≡ v.live → OwnsWell l v → OwnsWell l w
owns_same l v w own live h =
    let here : (o : ℕ) → own_of w o ≡ own_of v o = λ o. ap (λ (x : List (List ℕ)). slice_index_or x o []) own in record {
      alive = live ∙ h.alive;
      owns = rw own h.owns;
      ranges = λ o p there more. h.ranges o p there (subst (λ (x : List ℕ). 0 < times p x) (here o) more);
      once = λ o p there. subst (λ (x : List ℕ). times p x ≤ 1) (sym (here o)) (h.once o p there);
    }

pub keeps_same : (v w : View) → w.known ≡ v.known → w.number ≡ v.number → Keeps v → Keeps w
keeps_same v w known number h = record { known = h.known; is = known ∙ h.is; all_mine = h.all_mine ∙ ap (λ (n : ℕ). entries_of n h.known.seen) (sym number) }

-- what the rule says of what a seat knows
known_here : (l : Layout) (core : Core) (es : List Entry) (v : View) (k : Known) → Lawful l core.words core.views es → get_elem? core.views v.number ≡ some v → v.known ≡ Some k → IsKnown es v.number k
known_here l core es v k h at is = some_here (λ (x : Known). IsKnown es v.number x) v.known k is (h.seats v.number v at).known

mine_after : (l : Layout) (won : Bool) (es : List Entry) (i o : ℕ) (call : Call) (mine : List Entry) → mine ≡ entries_of i es
    → history_after won (entry_for l es i o call) mine ≡ entries_of i (history_after won (entry_for l es i o call) es)
mine_after l true es i o call mine h = ap (λ (xs : List Entry). entry_for l es i o call ∷ xs) h ∙ sym (mine_here l es i o call)
mine_after l false es i o call mine h = h

module _ (l : Layout) (v w : View) (owns : OwnsWell l v) (keeps : Keeps v) where
  pub ours_begun : (o : ℕ) (call : Call) (n : ℕ) → Begun l (IsAt v) (IsAt w) v w o call n → OwnsWell l w × Keeps w
  ours_begun o call n e =
      let k = known_here l e.core e.history v keeps.known e.found.lawful e.found.here keeps.is in
      let y = begun_view e.history v o call n in
      let kept : Keeps y = record { known = begun_known e.history keeps.known; is = ap (option_map (begun_known e.history)) keeps.is; all_mine = k.mine } in (
        subst (OwnsWell l) (sym e.view_is) (owns_same l v y refl refl owns),
        subst Keeps (sym e.view_is) kept,
      )

  pub ours_read : (a : Attempt) (place n : ℕ) → DidRead l (IsAt v) (IsAt w) v w a place n → OwnsWell l w × Keeps w
  ours_read a place n e =
      let y = read_view v a (record { place = place; word = n }) in (
        subst (OwnsWell l) (sym e.view_is) (owns_same l v y refl refl owns),
        subst Keeps (sym e.view_is) (keeps_same v y refl refl keeps),
      )

  pub ours_wrote : (a : Attempt) (own value : ℕ) → DidWrite l (IsAt v) (IsAt w) v w a own value → OwnsWell l w × Keeps w
  ours_wrote a own value e =
      let y = written_view v a (record { own = own; value = value }) in (
        subst (OwnsWell l) (sym e.view_is) (owns_same l v y refl refl owns),
        subst Keeps (sym e.view_is) (keeps_same v y refl refl keeps),
      )

  pub ours_decided : (a : Attempt) (new : ℕ) (pairs : List Pair) (n : ℕ) → IsDecision l v a new pairs → Decided l (IsAt v) (IsAt w) v w a new pairs n → OwnsWell l w × Keeps w
  ours_decided a new pairs n d e =
      let k = known_here l e.core e.history v keeps.known e.found.lawful e.found.here keeps.is in
      let won : Bool = n == a.expected in
      let x : Entry = entry_for l e.history v.number a.object a.call in
      let y = decided_view won e.history x v a n pairs in
      let z : Exchange = exchange_of a n in
      let kept : Keeps y = record { known = decided_known won e.history x z keeps.known; is = ap (option_map (decided_known won e.history x z)) keeps.is; all_mine = mine_after l won e.history v.number a.object a.call keeps.known.mine k.mine } in
      let lawful = decided_lawful l e.core.words e.core.views e.history v.number v a new n pairs e.found.lawful e.found.here e.found.alive e.word_is d in (
        subst (OwnsWell l) (sym e.view_is)
            (owns_from l (slice_set e.core.words (a.object + 1) (if won then new else n)) (slice_set e.core.views v.number y) (history_after won x e.history) v.number y lawful e.found.alive (set_here e.core.views v.number y (inside_list e.core.views v.number v e.found.here))),
        subst Keeps (sym e.view_is) kept,
      )

-- an own place is a word behind word 0
pub own_place : (l : Layout) (v : View) (own : List (List ℕ)) (o k : ℕ) → own ≡ v.own → OwnsWell l v → o < length l.parts → k < stock_size (part_at l.parts o)
    → (k < length (slice_index_or own o [])) × (slice_index (slice_index_or own o []) k < words_of l) × (0 < slice_index (slice_index_or own o []) k)
own_place l v own o k same h there below =
    let r = own_in_words l v o k h there below in
    let place : ℕ = slice_index (own_of v o) k in
    let range = range_is l o place (h.ranges o place there (times_at (own_of v o) k r.0)) in
    let more : 0 < place = omega arith in
    subst (λ (xs : List (List ℕ)). (k < length (slice_index_or xs o [])) × (slice_index (slice_index_or xs o []) k < words_of l) × (0 < slice_index (slice_index_or xs o []) k)) (sym same) (r.0, r.1, more)

-- the pairs of a trade name own places
pub pairs_place : (l : Layout) (v : View) (own : List (List ℕ)) (o : ℕ) (a : Attempt) (new : ℕ) (pairs : List Pair) → own ≡ v.own → OwnsWell l v → o < length l.parts → a.object ≡ o → IsDecision l v a new pairs
    → EachBelow (length (slice_index_or own o [])) pairs
pairs_place l v own o a new pairs same h there on d =
    let many : length (own_of v o) ≡ stock_size (part_at l.parts o) = stock_many (home l o) (own_of v o) (h.owns.stocks o there) in
    let below : EachBelow (stock_size (part_at l.parts o)) pairs = subst (λ (n : ℕ). EachBelow (stock_size (part_at l.parts n)) pairs) on (pairs_below l v a new pairs d) in
    subst (λ (xs : List (List ℕ)). EachBelow (length (slice_index_or xs o [])) pairs) (sym same) (subst (λ (n : ℕ). EachBelow n pairs) (sym many) below)
