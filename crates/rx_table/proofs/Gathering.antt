-- All seats of a table, joined one after the other.
use Rattle.std.proofs.Common.{◌≡◌, ℕ, zero, suc, List, [], ◌∷◌, ◌++◌, length, refl, sym, ap, ◌∙◌, subst, append_assoc}
use Rattle.std.specs.Prelude.{Option}
use mathlib.Core.Option.{some, some-injective, some-ne-none}
use lib.ListN.{get_elem?}
use Rattle.atomic_table.proofs.Lists.{at_longer, at_last}
use Rattle.rx_seq.specs.declared.entries.Entry.{Entry}
use Rattle.rx_port.specs.declared.views.Joined.{Joined}
use Rattle.rx_port.specs.declared.views.Known.{Known}
use Rattle.rx_port.specs.declared.views.View.{View}
use Rattle.rx_port.specs.Lawful.{IsOlder}
use Rattle.rx_table.specs.Tables.{SharedTable, SeatView, IsSeatOf, AreSeats, carried}
use Rattle.rx_table.specs.Seats.{Keeps, seen_of, mine_of, leaves, carries, taker}
use Rattle.rx_table.specs.Closings.{HasSeen, Carried}
use Rattle.rx_table.proofs.Owning.{owns_same, keeps_same}

-- each seat of the list is one of the table
abbrev pub EachOf : SharedTable → List SeatView → Type 0
EachOf shared seats = (number : ℕ) (seat : SeatView) → get_elem? seats number ≡ some seat → IsSeatOf shared seat

pub each_popped : (shared : SharedTable) (all rest : List SeatView) (last : SeatView) → all ≡ rest ++ last ∷ [] → EachOf shared all → EachOf shared rest × IsSeatOf shared last
each_popped shared all rest last is h =
    let e : EachOf shared (rest ++ last ∷ []) = subst (EachOf shared) is h in (
      (λ n seat at. e n seat (at_longer rest (last ∷ []) n seat at)),
      e (length rest) last (at_last rest last (length rest) refl),
    )

carried_end : (rest : List SeatView) (last : SeatView) → carried (rest ++ last ∷ []) ≡ carried rest ++ carries last.view
carried_end [] last = nil_end (carries last.view)
  where
    nil_end : (xs : List Joined) → xs ++ [] ≡ xs
    nil_end [] = refl
    nil_end (x ∷ xs) = ap (λ (ys : List Joined). x ∷ ys) (nil_end xs)
carried_end (x ∷ rest) last = ap (λ (xs : List Joined). carries x.view ++ xs) (carried_end rest last) ∙ sym (append_assoc (carries x.view) (carried rest) (carries last.view))

pub carried_popped : (all rest : List SeatView) (last : SeatView) → all ≡ rest ++ last ∷ [] → carried all ≡ carried rest ++ carries last.view
carried_popped all rest last is = ap carried is ∙ carried_end rest last

-- one more seat is taken in
pub carried_step : (all rest : List SeatView) (seat last now : SeatView) (total : List Joined) → all ≡ rest ++ seat ∷ [] → now.view ≡ taker seat.view last.view → carried all ++ carries last.view ≡ total → carried rest ++ carries now.view ≡ total
carried_step all rest seat last now total is took sum =
    ap (λ (v : View). carried rest ++ carries v) took
    ∙ sym (append_assoc (carried rest) (carries seat.view) (carries last.view))
    ∙ ap (λ (xs : List Joined). xs ++ carries last.view) (sym (carried_popped all rest seat is)) ∙ sum

-- a seat that took another in is one of the table
pub taker_ours : (shared : SharedTable) (seat : SeatView) (other : View) (now : SeatView) → now.table ≡ shared.table → now.view ≡ taker seat.view other → IsSeatOf shared seat → IsSeatOf shared now
taker_ours shared seat other now same took h = record {
  same = same;
  owns = owns_same shared.layout seat.view now.view (ap (λ (v : View). v.own) took) (ap (λ (v : View). v.live) took) h.owns;
  keeps = keeps_same seat.view now.view (ap (λ (v : View). v.known) took) (ap (λ (v : View). v.number) took) h.keeps;
}

left_in : (xs ys : List Joined) (n : ℕ) (x : Joined) → get_elem? ys n ≡ some x → (m : ℕ) × (get_elem? (xs ++ ys) m ≡ some x)
left_in [] ys n x at = (n, at)
left_in (z ∷ xs) ys n x at = let r = left_in xs ys n x at in (suc r.0, r.1)

-- each seat left what it knew
pub left_of : (seats : List SeatView) (k : ℕ) (seat : SeatView) → get_elem? seats k ≡ some seat → (n : ℕ) × (get_elem? (carried seats) n ≡ some (leaves seat.view))
left_of [] k seat at = absurd (some-ne-none seat (sym at))
left_of (x ∷ seats) zero seat at = (0, ap (λ (y : SeatView). some (leaves y.view)) (some-injective x seat at))
left_of (x ∷ seats) (suc k) seat at = let r = left_of seats k seat at in left_in (carries x.view) (carried seats) r.0 (leaves seat.view) r.1

-- so the last history has what each seat knew
pub seen_from : (history : List Entry) (seats : List SeatView) (last : View) (number : ℕ) (seat : SeatView) → get_elem? seats number ≡ some seat → carries last ≡ carried seats
    → ((n : ℕ) (joined : Joined) → get_elem? (carries last) n ≡ some joined → Carried history joined) → Keeps seat.view → HasSeen history seat.view
seen_from history seats last number seat at same all keeps =
    let place = left_of seats number seat at in
    let one = all place.0 (leaves seat.view) (subst (λ (xs : List Joined). get_elem? xs place.0 ≡ some (leaves seat.view)) (sym same) place.1) in
    record { known = keeps.known; is = keeps.is; seen = subst (λ (x : Option Known). IsOlder (seen_of x) history) keeps.is one.seen; mine = sym (ap mine_of keeps.is) ∙ one.mine }

all_of : (shared : SharedTable) (seats : List SeatView) → AreSeats shared seats → EachOf shared seats
all_of shared seats h n seat at = (h.each n seat at).0

-- the last two seats
pub last_of : (shared : SharedTable) (all rest : List SeatView) (last : SeatView) → AreSeats shared all → all ≡ rest ++ last ∷ [] → IsSeatOf shared last
last_of shared all rest last h is = (each_popped shared all rest last is (all_of shared all h)).1

pub before_last : (shared : SharedTable) (all rest few : List SeatView) (last before : SeatView) → AreSeats shared all → all ≡ rest ++ last ∷ [] → rest ≡ few ++ before ∷ [] → IsSeatOf shared before
before_last shared all rest few last before h is then_is = (each_popped shared rest few before then_is (each_popped shared all rest last is (all_of shared all h)).0).1
