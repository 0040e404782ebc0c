-- New seats, and the start.
use Rattle.std.proofs.Common.{◌≡◌, ℕ, zero, suc, ◌+◌, ◌-◌, ◌*◌, ◌<◌, ◌≤◌, true, false, List, [], ◌∷◌, ◌++◌, length, refl, sym, ap, ◌∙◌, subst, ◌⊎◌, inl, inr, ⊎_elim, arith, suc-mul, mul_comm, mul-le-mul_right, add-one, append_assoc, drop, drop-cons}
use Rattle.std.specs.Prelude.{slice_index, slice_index_or, Option, None, IfSome}
use Rattle.std.proofs.lemmas.List.{get_or_push, get_or_append_left}
use Rattle.std.proofs.lemmas.List.Elements.{All-nil}
use mathlib.Core.Option.{some, some-ne-none, some-injective}
use mathlib.Core.Logic.{dite}
use native.Mathlib.Decide.{ℕ_discrete}
use lib.ListN.{get_elem?}
use Rattle.rx_seq.specs.declared.kinds.Part.{Part}
use Rattle.rx_seq.specs.declared.entries.Entry.{Entry}
use Rattle.rx_seq.specs.History.{no_part}
use Rattle.rx_seq.specs.States.{IsFitting}
use Rattle.rx_shape.specs.declared.homes.Home.{Home}
use Rattle.rx_shape.specs.Places.{times, total, run}
use Rattle.rx_shape.specs.Forms.{stock_size, first_own, start_own, InRange, live, IsStock}
use Rattle.rx_shape.specs.Layout.{Layout, IsLayout, home, root_of}
use Rattle.rx_shape.specs.Start.{IsStart}
use Rattle.rx_shape.proofs.Times.{run_inside, run_once}
use Rattle.rx_shape.proofs.Local.{start_stock}
use Rattle.rx_shape.proofs.Starts.{starts as object_starts}
use Rattle.rx_port.specs.declared.views.Joined.{Joined}
use Rattle.rx_port.specs.declared.views.Known.{Known}
use Rattle.rx_port.specs.declared.views.View.{View}
use Rattle.rx_port.specs.Lawful.{holds_of, unmade, placed, IsKnown, IsView, IsJoined, joined_in, Lawful}
use Rattle.rx_port.specs.Seats.{starts, newcomer, seated}

module _ {A : Type 0} where
  pub length-end : (xs : List A) (a : A) → length (xs ++ a ∷ []) ≡ length xs + 1
  length-end [] a = refl
  length-end (x ∷ xs) a = let r = length-end xs a in omega arith

  pub at_end : (xs : List A) (a b : A) (j : ℕ) → get_elem? (xs ++ a ∷ []) j ≡ some b → (get_elem? xs j ≡ some b) ⊎ ((j ≡ length xs) × (a ≡ b))
  at_end [] a b zero e = inr (refl, some-injective a b e)
  at_end [] a b (suc j) e = absurd (some-ne-none b (sym e))
  at_end (x ∷ xs) a b zero e = inl e
  at_end (x ∷ xs) a b (suc j) e = ⊎_elim (λ (p : get_elem? xs j ≡ some b). inl p) (λ (p : (j ≡ length xs) × (a ≡ b)). inr (ap suc p.0, p.1)) (at_end xs a b j e)

  pub total-end : (f : A → ℕ) (xs : List A) (a : A) → total f (xs ++ a ∷ []) ≡ total f xs + f a
  total-end f [] a = omega arith
  total-end f (x ∷ xs) a = let r = total-end f xs a in omega arith

pub length-starts : (l : Layout) (seat o : ℕ) (parts : List Part) → length (starts l seat o parts) ≡ length parts
length-starts l seat o [] = refl
length-starts l seat o (x ∷ xs) = ap suc (length-starts l seat (suc o) xs)

own_at : (l : Layout) (seat o k : ℕ) (parts : List Part) → k < length parts → slice_index_or (starts l seat o parts) k [] ≡ start_own (home l (o + k)) seat
own_at l seat o k [] h = absurd (omega arith)
own_at l seat o zero (x ∷ xs) h = ap (λ (n : ℕ). start_own (home l n) seat) (let e : o ≡ o + 0 = omega arith in e)
own_at l seat o (suc k) (x ∷ xs) h = own_at l seat (suc o) k xs (omega arith) ∙ ap (λ (n : ℕ). start_own (home l n) seat) (let e : suc o + k ≡ o + suc k = omega arith in e)

pub owns_start : (l : Layout) (seat o : ℕ) → o < length l.parts → slice_index_or (starts l seat 0 l.parts) o [] ≡ start_own (home l o) seat
owns_start l seat o there = own_at l seat 0 o l.parts there ∙ ap (λ (n : ℕ). start_own (home l n) seat) (let e : 0 + o ≡ o = omega arith in e)

-- one more seat has its places of the start
module _ (l : Layout) (known : Option Known) (next : Option ℕ) (views : List View) (room : length views < l.seats) where
  pub placed_more : (o p : ℕ) → o < length l.parts → placed l o p (views ++ newcomer l known (length views) next ∷ []) ≡ placed l o p views
  placed_more o p there =
      let n : ℕ = length views in
      let many : length (views ++ newcomer l known (length views) next ∷ []) ≡ suc n = length-end views (newcomer l known (length views) next) ∙ omega arith in
      let sum : total (holds_of o p) (views ++ newcomer l known (length views) next ∷ []) ≡ total (holds_of o p) views + (times p (slice_index_or (starts l n 0 l.parts) o []) + 0) = total-end (holds_of o p) views (newcomer l known (length views) next) in
      let own : times p (slice_index_or (starts l n 0 l.parts) o []) ≡ times p (start_own (home l o) n) = ap (times p) (owns_start l n o there) in
      let rest : unmade (home l o) p (l.seats - length (views ++ newcomer l known (length views) next ∷ [])) (length (views ++ newcomer l known (length views) next ∷ [])) ≡ unmade (home l o) p (l.seats - suc n) (suc n) = ap (λ (k : ℕ). unmade (home l o) p (l.seats - k) k) many in
      let whole : unmade (home l o) p (l.seats - n) n ≡ times p (start_own (home l o) n) + unmade (home l o) p (l.seats - suc n) (suc n) = ap (λ (k : ℕ). unmade (home l o) p k n) (let e : l.seats - n ≡ suc (l.seats - suc n) = omega arith in e) in omega arith

  module _ (words : List ℕ) (es : List Entry) (h : Lawful l words views es) (knows : IfSome known (λ k. IsKnown es (length views) k)) where
    new_view : IsView l words es (length views) (newcomer l known (length views) next)
    new_view = record {
      numbered = λ _. refl;
      owns = λ _. record { many = length-starts l (length views) 0 l.parts; stocks = λ o there. subst (λ (xs : List ℕ). IsStock (home l o) xs) (sym (owns_start l (length views) o there)) (start_stock (home l o) (length views)) };
      spent = λ e. let q : true ≡ false = e in cc;
      attempt = tt;
      known = knows;
      both = tt;
    }

    joined_more : (x : Joined) → IsJoined l views es x → IsJoined l (views ++ newcomer l known (length views) next ∷ []) es x
    joined_more x ok = record {
      made = let e = length-end views (newcomer l known (length views) next) in let m = ok.made in omega arith;
      dead = λ u at. ⊎_elim (λ (p : get_elem? views x.number ≡ some u). ok.dead u p) (λ (p : (x.number ≡ length views) × (newcomer l known (length views) next ≡ u)). absurd (let m = ok.made in let q = p.0 in omega arith)) (at_end views (newcomer l known (length views) next) u x.number at);
      seen = ok.seen;
      mine = ok.mine;
      owns = ok.owns;
    }

    pub add_lawful : Lawful l words (views ++ newcomer l known (length views) next ∷ []) es
    add_lawful = record {
      legal = h.legal;
      fitting = h.fitting;
      size = h.size;
      tags = h.tags;
      below = h.below;
      versions = h.versions;
      states = h.states;
      places = λ o p there. let e = placed_more o p there in let q = h.places o p there in omega arith;
      inside = λ o p there more. h.inside o p there (let e = placed_more o p there in omega arith);
      few = let e = length-end views (newcomer l known (length views) next) in omega arith;
      seats = λ j u at. ⊎_elim (λ (p : get_elem? views j ≡ some u). h.seats j u p)
          (λ (p : (j ≡ length views) × (newcomer l known (length views) next ≡ u)). subst (λ (y : ℕ × View). IsView l words es y.0 y.1) (λ k. (sym p.0 k, p.1 k)) new_view) (at_end views (newcomer l known (length views) next) u j at);
      joins = λ j u at n x is. ⊎_elim (λ (p : get_elem? views j ≡ some u). joined_more x (h.joins j u p n x is))
          (λ (p : (j ≡ length views) × (newcomer l known (length views) next ≡ u)). absurd (some-ne-none x (sym (subst (λ (y : View). get_elem? y.joined n ≡ some x) (sym p.1) is)))) (at_end views (newcomer l known (length views) next) u j at);
      kept = λ j u at dead. ⊎_elim (λ (p : get_elem? views j ≡ some u). let e = total-end (joined_in j) views (newcomer l known (length views) next) in let one = h.kept j u p dead in omega arith)
          (λ (p : (j ≡ length views) × (newcomer l known (length views) next ≡ u)). absurd (let q : true ≡ false = ap (λ (y : View). y.live) p.1 ∙ dead in cc)) (at_end views (newcomer l known (length views) next) u j at);
      made = λ j past. h.made j (let e = length-end views (newcomer l known (length views) next) in omega arith);
    }

-- the places of the start of different seats are different, and lie behind the first stock
unmade_in : (h : Home) (p n k : ℕ) → 0 < unmade h p n k → (first_own h k ≤ p) × (p < h.first + suc (k + n) * stock_size h.part)
unmade_in h p zero k more = absurd (omega arith)
unmade_in h p (suc n) k more =
    let s : ℕ = stock_size h.part in
    let step = suc-mul (suc k) s in
    let last : suc (suc k + n) * s ≡ suc (k + suc n) * s = ap (λ (m : ℕ). suc m * s) (let e : suc k + n ≡ k + suc n = omega arith in e) in
    let most : suc (suc k) * s ≤ suc (k + suc n) * s = mul-le-mul_right s (let e : suc (suc k) ≤ suc (k + suc n) = omega arith in e) in
    dite (ℕ_discrete (times p (start_own h k)) 0)
    (λ z. let r = unmade_in h p n (suc k) (omega arith) in (omega arith, omega arith))
    (λ nz. let r = run_inside p (first_own h k) s (omega arith) in (omega arith, omega arith))

unmade_once : (h : Home) (p n k : ℕ) → unmade h p n k ≤ 1
unmade_once h p zero k = omega arith
unmade_once h p (suc n) k =
    let s : ℕ = stock_size h.part in
    let step = suc-mul (suc k) s in
    let one = run_once p (first_own h k) s in
    let r = unmade_once h p n (suc k) in
    dite (ℕ_discrete (unmade h p n (suc k)) 0) (λ z. omega arith)
    (λ nz. dite (ℕ_discrete (times p (start_own h k)) 0) (λ z. omega arith)
    (λ some_here. let a = unmade_in h p n (suc k) (omega arith) in let b = run_inside p (first_own h k) s (omega arith) in absurd (omega arith)))

module _ (l : Layout) (words : List ℕ) (limits : IsLayout l) (start : IsStart l words) where
  none_placed : (o p : ℕ) → o < length l.parts → (times p (live (home l o) (root_of words o) words) + placed l o p [] ≤ 1) × (0 < placed l o p [] → InRange (home l o) p)
  none_placed o p there =
      let h : Home = home l o in
      let s : ℕ = stock_size h.part in
      let is = (object_starts l words o limits start there).live_is in
      let first : times p (live h (root_of words o) words) ≡ times p (run h.first s) = ap (times p) is in
      let one = run_once p h.first s in
      let rest = unmade_once h p l.seats 0 in
      let step = suc-mul 0 s in
      let none : placed l o p [] ≡ unmade h p l.seats 0 = ap (λ (n : ℕ). 0 + unmade h p n 0) (let e : l.seats - 0 ≡ l.seats = omega arith in e) ∙ omega arith in
      let all : suc (0 + l.seats) * s ≡ s * (l.seats + 1) = ap (λ (m : ℕ). m * s) (let e : suc (0 + l.seats) ≡ l.seats + 1 = omega arith in e) ∙ mul_comm (l.seats + 1) s in (
        dite (ℕ_discrete (unmade h p l.seats 0) 0) (λ z. omega arith)
            (λ nz. dite (ℕ_discrete (times p (run h.first s)) 0) (λ z. omega arith)
            (λ some_here. let a = unmade_in h p l.seats 0 (omega arith) in let b = run_inside p h.first s (omega arith) in absurd (omega arith))),
        λ more. let a = unmade_in h p l.seats 0 (omega arith) in record { from = omega arith; below = omega arith },
      )

  pub open_lawful : Lawful l words [] []
  open_lawful = record {
    legal = tt;
    fitting = All-nil (IsFitting l.parts);
    size = start.size;
    tags = λ o there. (object_starts l words o limits start there).tag ∙ omega arith;
    below = λ o there. let b = limits.tag in omega arith;
    versions = λ o there. (object_starts l words o limits start there).version;
    states = λ o there. (object_starts l words o limits start there).state;
    places = λ o p there. (none_placed o p there).0;
    inside = λ o p there. (none_placed o p there).1;
    few = omega arith;
    seats = λ j u at. absurd (some-ne-none u (sym at));
    joins = λ j u at. absurd (some-ne-none u (sym at));
    kept = λ j u at. absurd (some-ne-none u (sym at));
    made = λ j past. refl;
  }

  pub length-seated : (n : ℕ) → length (seated l n) ≡ n
  length-seated zero = refl
  length-seated (suc n) = length-end (seated l n) (newcomer l None n None) ∙ ap (λ (m : ℕ). m + 1) (length-seated n) ∙ omega arith

  pub seated_lawful : (n : ℕ) → n ≤ l.seats → Lawful l words (seated l n) []
  seated_lawful zero few = open_lawful
  seated_lawful (suc n) few =
      let many = length-seated n in
      subst (λ (m : ℕ). Lawful l words (seated l n ++ newcomer l None m None ∷ []) []) many (add_lawful l None None (seated l n) (omega arith) words [] (seated_lawful n (omega arith)) tt)

-- one more object's places
pub starts_step : (l : Layout) (seat o : ℕ) (own : List (List ℕ)) → o < length l.parts → own ++ starts l seat o (drop o l.parts) ≡ starts l seat 0 l.parts
    → (own ++ start_own (home l o) seat ∷ []) ++ starts l seat (o + 1) (drop (o + 1) l.parts) ≡ starts l seat 0 l.parts
starts_step l seat o own there h =
    append_assoc own (start_own (home l o) seat ∷ []) (starts l seat (o + 1) (drop (o + 1) l.parts))
    ∙ ap (λ (n : ℕ). own ++ start_own (home l o) seat ∷ starts l seat n (drop n l.parts)) (add-one o)
    ∙ ap (λ (xs : List Part). own ++ starts l seat o xs) (sym (drop-cons l.parts o no_part there)) ∙ h

-- one more seat
pub seated_step : (l : Layout) (count : ℕ) → seated l (count + 1) ≡ seated l count ++ newcomer l None count None ∷ []
seated_step l count = ap (seated l) (add-one count)

-- one more word that is as it should be
pub each_end : (f : ℕ → ℕ) (xs : List ℕ) (x n : ℕ) → length xs ≡ n → x ≡ f n → ((k : ℕ) → k < n → slice_index xs k ≡ f k) → (k : ℕ) → k < n + 1 → slice_index (xs ++ x ∷ []) k ≡ f k
each_end f xs x n many is each k below = dite (ℕ_discrete k n)
    (λ e. get_or_push xs x 0 k (many ∙ sym e) ∙ is ∙ ap f (sym e))
    (λ ne. get_or_append_left xs (x ∷ []) 0 k (omega arith) ∙ each k (omega arith))
