-- Seats of a table that make calls, one after the other.
use Rattle.std.proofs.Common.{◌≡◌, ◌≢◌, ℕ, zero, suc, ◌<◌, List, [], ◌∷◌, ◌++◌, length, length-append, set, get_or, refl, sym, ap, ◌∙◌, subst, ⊎_elim, arith}
use Rattle.std.proofs.lemmas.List.{length-set}
use mathlib.Core.Option.{some, some-injective, some-ne-none}
use lib.ListN.{get_elem?}
use Rattle.atomic_table.proofs.Lists.{at_index, at_longer, at_last}
use Rattle.rx_seq.specs.declared.calls.Call.{Call}
use Rattle.rx_shape.specs.Layout.{Layout}
use Rattle.rx_port.specs.declared.views.View.{View}
use Rattle.rx_port.proofs.Lists.{at_set}
use Rattle.rx_table.specs.Tables.{SharedTable, SeatView, IsSeatOf, AreSeats}
use Rattle.rx_object.specs.declared.calls.Try.{Try}
use Rattle.rx_object.specs.declared.calls.Try.TheVariants.{Done, Lost, Spent}
use Rattle.rx_object.specs.declared.calls.Outcome.{Outcome}
use Rattle.rx_object.specs.declared.calls.Outcome.TheVariants.{Done as AllDone, Spent as AllSpent}
use Rattle.rx_object.specs.Calls.{Tells, TellsAll}

-- a seat keeps its number
pub number_tried : (l : Layout) (before now : View) (object : ℕ) (call : Call) (result : Try) → Tells l before now object call result → now.number ≡ before.number
number_tried l before now object call (Done reply tag) h = h.more.number
number_tried l before now object call (Lost expected found) h = h.waited.more.number
number_tried l before now object call (Spent tag) h = h.more.number

pub number_called : (l : Layout) (before now : View) (object : ℕ) (call : Call) (result : Outcome) → TellsAll l before now object call result → now.number ≡ before.number
number_called l before now object call (AllDone reply tag retries) h = h.more.number
number_called l before now object call (AllSpent tag) h = h.1.more.number

pub seat_there : (shared : SharedTable) (seats : List SeatView) (n : ℕ) (old : SeatView) → AreSeats shared seats → n < length seats → old ≡ get_or seats n old → IsSeatOf shared old
seat_there shared seats n old h below here = (h.each n old (at_index seats n old below here)).0

-- one of the seats has made a call
pub seats_again : (shared : SharedTable) (seats : List SeatView) (n : ℕ) (old new : SeatView) → AreSeats shared seats → n < length seats → old ≡ get_or seats n old → IsSeatOf shared new → new.view.number ≡ old.view.number → AreSeats shared (set seats n new)
seats_again shared seats n old new h below here ours number = record {
  many = length-set seats n new ∙ h.many;
  each = λ j seat at. ⊎_elim
      (λ (x : (j ≡ n) × (new ≡ seat)). (subst (IsSeatOf shared) x.1 ours, ap (λ (y : SeatView). y.view.number) (sym x.1) ∙ number ∙ (h.each n old (at_index seats n old below here)).1 ∙ sym x.0))
      (λ (x : (j ≢ n) × (get_elem? seats j ≡ some seat)). h.each j seat x.1)
      (at_set seats n j new seat at);
}

-- the two seats of a table that has two
pub two_of : (shared : SharedTable) (all rest few : List SeatView) (first second : SeatView) → AreSeats shared all → shared.layout.seats ≡ 2 → all ≡ rest ++ second ∷ [] → rest ≡ few ++ first ∷ []
    → (IsSeatOf shared first × (first.view.number ≡ 0)) × (IsSeatOf shared second × (second.view.number ≡ 1))
two_of shared all rest few first second h two is then_is =
    let all_many = ap length is ∙ length-append rest (second ∷ []) in
    let rest_many = ap length then_is ∙ length-append few (first ∷ []) in
    let many = h.many in
    let one : length rest ≡ 1 = omega arith in
    let none : length few ≡ 0 = omega arith in
    let last = at_last rest second (length rest) refl in
    let next = at_longer rest (second ∷ []) (length few) first (subst (λ (xs : List SeatView). get_elem? xs (length few) ≡ some first) (sym then_is) (at_last few first (length few) refl)) in
    let b = h.each (length rest) second (subst (λ (xs : List SeatView). get_elem? xs (length rest) ≡ some second) (sym is) last) in
    let a = h.each (length few) first (subst (λ (xs : List SeatView). get_elem? xs (length few) ≡ some first) (sym is) next) in ((a.0, a.1 ∙ none), (b.0, b.1 ∙ one))

pub are_two : (shared : SharedTable) (seats : List SeatView) (first second : SeatView) → shared.layout.seats ≡ 2 → IsSeatOf shared first × (first.view.number ≡ 0) → IsSeatOf shared second × (second.view.number ≡ 1)
    → seats ≡ first ∷ second ∷ [] → AreSeats shared seats
are_two shared seats first second two a b is = record { many = ap length is ∙ sym two; each = λ number seat at. at_place number seat (subst (λ (xs : List SeatView). get_elem? xs number ≡ some seat) is at) }
  where
    at_place : (number : ℕ) (seat : SeatView) → get_elem? (first ∷ second ∷ []) number ≡ some seat → IsSeatOf shared seat × (seat.view.number ≡ number)
    at_place zero seat at = let same = some-injective first seat at in (subst (IsSeatOf shared) same a.0, ap (λ (x : SeatView). x.view.number) (sym same) ∙ a.1)
    at_place (suc zero) seat at = let same = some-injective second seat at in (subst (IsSeatOf shared) same b.0, ap (λ (x : SeatView). x.view.number) (sym same) ∙ b.1)
    at_place (suc (suc number)) seat at = absurd (some-ne-none seat (sym at))
