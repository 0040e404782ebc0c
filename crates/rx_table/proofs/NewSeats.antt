-- The seats of the start, made one after the other.
use Rattle.std.proofs.Common.{◌≡◌, ◌≢◌, ℕ, zero, suc, ◌+◌, ◌*◌, ◌<◌, ◌≤◌, true, List, [], ◌∷◌, ◌++◌, length, set, get_or, refl, sym, ap, ◌∙◌, subst, ⊎_elim, arith, suc-mul, mul_comm, mul-le-mul_right}
use Rattle.std.specs.Prelude.{Option, Some, None}
use Rattle.std.proofs.lemmas.List.{length-set}
use mathlib.Core.Option.{some, some-injective}
use lib.ListN.{get_elem?}
use Rattle.atomic_table.proofs.Lists.{at_index}
use Rattle.rx_shape.specs.Places.{times}
use Rattle.rx_shape.specs.Forms.{first_own, start_own, stock_size, InRange, IsStock}
use Rattle.rx_shape.specs.Layout.{Layout, home}
use Rattle.rx_shape.proofs.Times.{run_inside, run_once}
use Rattle.rx_shape.proofs.Local.{start_stock}
use Rattle.rx_port.specs.declared.views.Known.{Known}
use Rattle.rx_port.specs.Events.{OwnsWell}
use Rattle.rx_port.specs.Seats.{newcomer}
use Rattle.rx_port.proofs.Lists.{at_set, inside_list}
use Rattle.rx_port.proofs.Seating.{length-end, at_end, length-starts, owns_start}
use Rattle.rx_table.specs.Rule.{knows_nothing}
use Rattle.rx_table.specs.Seats.{CanMake, next_of, maker, made}
use Rattle.rx_table.specs.Tables.{SharedTable, SeatView, IsSeatOf, AreSeats, AreNew, new_seat, next_at}

-- a place of the start is one of the object
start_in : (l : Layout) (o n p : ℕ) → n < l.seats → 0 < times p (start_own (home l o) n) → InRange (home l o) p
start_in l o n p below more =
    let h = home l o in
    let s : ℕ = stock_size h.part in
    let r = run_inside p (first_own h n) s more in
    let step = suc-mul (suc n) s in
    let most : suc (suc n) * s ≤ (l.seats + 1) * s = mul-le-mul_right s (let e : suc (suc n) ≤ l.seats + 1 = omega arith in e) in
    let turn : (l.seats + 1) * s ≡ s * (l.seats + 1) = mul_comm (l.seats + 1) s in record { from = omega arith; below = omega arith }

pub owns_new : (l : Layout) (known : Option Known) (n : ℕ) (next : Option ℕ) → n < l.seats → OwnsWell l (newcomer l known n next)
owns_new l known n next below = record {
  alive = refl;
  owns = record { many = length-starts l n 0 l.parts; stocks = λ o there. subst (λ (xs : List ℕ). IsStock (home l o) xs) (sym (owns_start l n o there)) (start_stock (home l o) n) };
  ranges = λ o p there more. start_in l o n p below (subst (λ (xs : List ℕ). 0 < times p xs) (owns_start l n o there) more);
  once = λ o p there. subst (λ (xs : List ℕ). times p xs ≤ 1) (sym (owns_start l n o there)) (run_once p (first_own (home l o) n) (stock_size (home l o).part));
}

new_is_seat : (shared : SharedTable) (next n : ℕ) → n < shared.layout.seats → IsSeatOf shared (new_seat shared next n)
new_is_seat shared next n below = record { same = refl; owns = owns_new shared.layout (Some knows_nothing) n (next_at next n) below; keeps = record { known = knows_nothing; is = refl; all_mine = refl } }

-- new seats are seats of the table
pub new_seats : (shared : SharedTable) (seats : List SeatView) → length seats ≡ shared.layout.seats → AreNew shared seats → AreSeats shared seats
new_seats shared seats many new = record {
  many = many;
  each = λ n seat at.
      let is = new n seat at in
      let below = inside_list seats n seat at in (subst (IsSeatOf shared) (sym is) (new_is_seat shared (length seats) n (omega arith)), ap (λ (x : SeatView). x.view.number) is);
}

-- the first seat
pub new_first : (shared : SharedTable) (seat : SeatView) → seat ≡ new_seat shared 1 0 → AreNew shared (seat ∷ [])
new_first shared seat is zero other at = sym (some-injective seat other at) ∙ is
new_first shared seat is (suc n) other at = absurd (let e = inside_list (seat ∷ []) (suc n) other at in omega arith)

other_next : (shared : SharedTable) (m n j : ℕ) → j ≢ 0 → new_seat shared m j ≡ new_seat shared n j
other_next shared m n zero ne = absurd (ne refl)
other_next shared m n (suc j) ne = refl

made_new : (shared : SharedTable) (m n : ℕ) → n ≢ 0 → record { view = newcomer shared.layout (Some knows_nothing) n None; table = shared.table } ≡ new_seat shared m n
made_new shared m zero ne = absurd (ne refl)
made_new shared m (suc n) ne = refl

-- the first seat makes one more
module _ (shared : SharedTable) (seats : List SeatView) (old first now : SeatView) (some_there : 0 < length seats) (here : old ≡ get_or seats 0 old) (new : AreNew shared seats) where
  old_is : old ≡ new_seat shared (length seats) 0
  old_is = new 0 old (at_index seats 0 old some_there here)

  pub may_make : length seats < shared.layout.seats → CanMake shared.layout old.view
  may_make room = record { number = length seats; is = ap (λ (x : SeatView). x.view.next) old_is; room = room }

  pub is_next : next_of old.view.next ≡ length seats
  is_next = ap (λ (x : SeatView). next_of x.view.next) old_is

  pub is_live : old.view.live ≡ true
  is_live = ap (λ (x : SeatView). x.view.live) old_is

  pub ours : old.table ≡ shared.table
  ours = ap (λ (x : SeatView). x.table) old_is

  pub new_more : first ≡ record { view = maker old.view; table = shared.table } → now ≡ record { view = made shared.layout old.view; table = shared.table } → AreNew shared (set seats 0 first ++ now ∷ [])
  new_more first_is now_is j seat at =
      let n : ℕ = length seats in
      let same = length-set seats 0 first in
      let many : length (set seats 0 first ++ now ∷ []) ≡ n + 1 = length-end (set seats 0 first) now ∙ ap (λ (m : ℕ). m + 1) same in
      subst (λ (m : ℕ). seat ≡ new_seat shared m j) (sym many) (⊎_elim
      (λ (x : get_elem? (set seats 0 first) j ≡ some seat). ⊎_elim
      (λ (y : (j ≡ 0) × (first ≡ seat)).
      sym y.1 ∙ first_is ∙ ap (λ (z : SeatView). record { view = maker z.view; table = shared.table }) old_is ∙ ap (new_seat shared (n + 1)) (sym y.0))
      (λ (y : (j ≢ 0) × (get_elem? seats j ≡ some seat)). new j seat y.1 ∙ other_next shared n (n + 1) j y.0)
      (at_set seats 0 j first seat x))
      (λ (x : (j ≡ length (set seats 0 first)) × (now ≡ seat)).
      let e = x.0 in
      sym x.1 ∙ now_is ∙ ap (λ (z : SeatView). record { view = made shared.layout z.view; table = shared.table }) old_is
      ∙ made_new shared (n + 1) n (λ (z : n ≡ 0). absurd (omega arith)) ∙ ap (new_seat shared (n + 1)) (let f : n ≡ j = omega arith in f))
      (at_end (set seats 0 first) now seat j at))
