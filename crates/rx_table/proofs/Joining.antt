-- Seats that are made and joined keep words and seats lawful.
use Rattle.std.proofs.Common.{◌≡◌, ◌≢◌, ℕ, zero, suc, ◌+◌, ◌-◌, ◌<◌, true, false, List, [], ◌∷◌, ◌++◌, length, set, refl, sym, ap, ◌∙◌, subst, ◌⊎◌, inl, inr, ⊎_elim, arith}
use Rattle.std.specs.Prelude.{◌==◌, Option, Some, None}
use Rattle.std.proofs.lemmas.List.{length-set, append-nil}
use Rattle.std.proofs.lemmas.Bool.{cond-false, cond-true, eq-eqb, ne_eqb}
use mathlib.Core.Option.{some, some-injective, some-ne-none}
use mathlib.Core.Logic.{dite}
use native.Mathlib.Decide.{ℕ_discrete}
use lib.ListN.{get_elem?}
use Rattle.atomic_table.proofs.Lists.{set_else}
use Rattle.rx_seq.specs.declared.entries.Entry.{Entry}
use Rattle.rx_seq.specs.Legal.{entries_of}
use Rattle.rx_shape.specs.Places.{total}
use Rattle.rx_shape.specs.Layout.{Layout, home}
use Rattle.rx_shape.proofs.Times.{sum_set}
use Rattle.rx_port.specs.declared.views.Known.{Known}
use Rattle.rx_port.specs.declared.views.Joined.{Joined}
use Rattle.rx_port.specs.declared.views.View.{View}
use Rattle.rx_port.specs.Lawful.{IsOlder, left_of, holds_of, unmade, placed, IsKnown, IsView, IsJoined, is_of, joined_in, Lawful}
use Rattle.rx_port.specs.Seats.{newcomer}
use Rattle.rx_port.proofs.Lists.{at_set, inside_list, some_here}
use Rattle.rx_port.proofs.Lawfully.{both_lives, view_lawful}
use Rattle.rx_port.proofs.Seating.{length-end, at_end, add_lawful}
use Rattle.rx_table.specs.Rule.{AreMade, knows_nothing}
use Rattle.rx_table.specs.Seats.{next_of, maker, made, seen_of, mine_of, leaves, carries, taker, spent_view}

module _ {A : Type 0} where
  pub total-append : (f : A → ℕ) (xs ys : List A) → total f (xs ++ ys) ≡ total f xs + total f ys
  total-append f [] ys = omega arith
  total-append f (x ∷ xs) ys = let r = total-append f xs ys in omega arith

  pub at_append : (xs ys : List A) (j : ℕ) (b : A) → get_elem? (xs ++ ys) j ≡ some b → (get_elem? xs j ≡ some b) ⊎ ((k : ℕ) × (get_elem? ys k ≡ some b))
  at_append [] ys j b e = inr (j, e)
  at_append (x ∷ xs) ys zero b e = inl e
  at_append (x ∷ xs) ys (suc j) b e = at_append xs ys j b e

-- a maker is a seat as before
pub maker_lawful : (l : Layout) (words : List ℕ) (views : List View) (es : List Entry) (i : ℕ) (v : View) → Lawful l words views es → get_elem? views i ≡ some v → v.live ≡ true → Lawful l words (set views i (maker v)) es
maker_lawful l words views es i v h at alive =
    let s = h.seats i v at in
    view_lawful l words views es i v (maker v) h at (record { alive = alive; lives = refl; joined = refl }) refl
    (record { numbered = s.numbered; owns = s.owns; spent = λ dead. absurd (both_lives v alive dead); attempt = s.attempt; known = s.known; both = s.both })

none_next : (m : ℕ) → None ≡ Some m → ⊥
none_next m e = cc

-- making
module _ (l : Layout) (words : List ℕ) (views : List View) (es : List Entry) (i n : ℕ) (v : View) (h : Lawful l words views es) (m : AreMade views) (at : get_elem? views i ≡ some v) (alive : v.live ≡ true) (next : v.next ≡ Some n) (room : n < l.seats) where
  others : List View
  others = set views i (maker v)

  is_next : next_of v.next ≡ length others
  unfolding others
  is_next = ap next_of next ∙ (m i v n at next).next_is ∙ sym (length-set views i (maker v))

  few : length others < l.seats
  few = let e = is_next in let f = ap next_of next in omega arith

  nothing_known : IsKnown es (length others) knows_nothing
  unfolding others
  nothing_known = record { seen = (es, sym (append-nil es)); mine = sym (h.made (length others) (let e = length-set views i (maker v) in omega arith)) }

  pub split_lawful : Lawful l words (set views i (maker v) ++ made l v ∷ []) es
  unfolding others
  split_lawful = subst (λ (k : ℕ). Lawful l words (others ++ newcomer l (Some knows_nothing) k None ∷ []) es) (sym is_next)
      (add_lawful l (Some knows_nothing) None others few words es (maker_lawful l words views es i v h at alive) nothing_known)

  pub split_made : AreMade (set views i (maker v) ++ made l v ∷ [])
  unfolding others
  split_made j u k there is =
      let many = length-end others (made l v) in
      let e = is_next in
      let f = ap next_of next in
      ⊎_elim
      (λ (x : get_elem? others j ≡ some u). ⊎_elim
      (λ (y : (j ≡ i) × (maker v ≡ u)). let g : next_of v.next + 1 ≡ k = ap next_of (ap (λ (z : View). z.next) y.1 ∙ is) in record { first = y.0 ∙ (m i v n at next).first; next_is = omega arith })
      (λ (y : (j ≢ i) × (get_elem? views j ≡ some u)). absurd (y.0 ((m j u k y.1 is).first ∙ sym (m i v n at next).first)))
      (at_set views i j (maker v) u x))
      (λ (x : (j ≡ length others) × (made l v ≡ u)). absurd (none_next k (ap (λ (z : View). z.next) x.1 ∙ is)))
      (at_end others (made l v) u j there)

-- no seat keeps a number that none of those joined into it has
none_in : (k : ℕ) (xs : List Joined) → ((n : ℕ) (x : Joined) → get_elem? xs n ≡ some x → x.number ≢ k) → total (is_of k) xs ≡ 0
none_in k [] h = refl
none_in k (x ∷ xs) h =
    let r = none_in k xs (λ n. h (suc n)) in
    let e : is_of k x ≡ 0 = cond-false (x.number == k) 1 0 (ne_eqb x.number k (h 0 x refl)) in omega arith

none_joined : (k : ℕ) (views : List View) → ((j : ℕ) (u : View) → get_elem? views j ≡ some u → (n : ℕ) (x : Joined) → get_elem? u.joined n ≡ some x → x.number ≢ k) → total (joined_in k) views ≡ 0
none_joined k [] h = refl
none_joined k (v ∷ vs) h =
    let r = none_joined k vs (λ j. h (suc j)) in
    let e = none_in k v.joined (h 0 v refl) in omega arith

-- joining
module _ (l : Layout) (words : List ℕ) (views : List View) (es : List Entry) (i k : ℕ) (v w : View) (h : Lawful l words views es) (at : get_elem? views i ≡ some v) (alive : v.live ≡ true) (ne : k ≢ i) (there : get_elem? views k ≡ some w) (alive' : w.live ≡ true) (q : Known) (knows : w.known ≡ Some q) where
  abbrev between : List View
  between = set views i (taker v w)

  abbrev after : List View
  after = set between k spent_view

  still_there : get_elem? between k ≡ some w
  still_there = set_else views i k (taker v w) ne ∙ there

  number : w.number ≡ k
  number = (h.seats k w there).numbered alive'

  pub many : length after ≡ length views
  many = length-set between k spent_view ∙ length-set views i (taker v w)

  which : (j : ℕ) (u : View) → get_elem? after j ≡ some u → ((j ≡ k) × (spent_view ≡ u)) ⊎ (((j ≡ i) × (taker v w ≡ u)) ⊎ ((j ≢ i) × (get_elem? views j ≡ some u)))
  which j u e = ⊎_elim
      (λ (x : (j ≡ k) × (spent_view ≡ u)). inl x)
      (λ (x : (j ≢ k) × (get_elem? between j ≡ some u)). inr (at_set views i j (taker v w) u x.1))
      (at_set between k j spent_view u e)

  sum_after : (f : View → ℕ) → total f after + f w + f v ≡ total f views + f (taker v w) + f spent_view
  sum_after f =
      let a = sum_set f between k w spent_view still_there in
      let b = sum_set f views i v (taker v w) at in omega arith

  placed_after : (o p : ℕ) → placed l o p after ≡ placed l o p views
  placed_after o p =
      let s = sum_after (holds_of o p) in
      let t : total (left_of o p) (v.joined ++ carries w) ≡ total (left_of o p) v.joined + total (left_of o p) (carries w) = total-append (left_of o p) v.joined (carries w) in
      let rest : unmade (home l o) p (l.seats - length after) (length after) ≡ unmade (home l o) p (l.seats - length views) (length views) = ap (λ (n : ℕ). unmade (home l o) p (l.seats - n) n) many in
      omega arith

  known_there : IsKnown es k q
  known_there = some_here (λ (x : Known). IsKnown es k x) w.known q knows (h.seats k w there).known

  dead_after : (n : ℕ) → n ≢ i → (n ≢ k → (u : View) → get_elem? views n ≡ some u → u.live ≡ false) → (u : View) → get_elem? after n ≡ some u → u.live ≡ false
  dead_after n other dead u e = ⊎_elim
      (λ (x : (n ≡ k) × (spent_view ≡ u)). ap (λ (z : View). z.live) (sym x.1))
      (λ (x : (n ≢ k) × (get_elem? between n ≡ some u)). ⊎_elim
      (λ (y : (n ≡ i) × (taker v w ≡ u)). absurd (other y.0))
      (λ (y : (n ≢ i) × (get_elem? views n ≡ some u)). dead x.0 u y.1)
      (at_set views i n (taker v w) u x.1))
      (at_set between k n spent_view u e)

  joined_kept : (x : Joined) → IsJoined l views es x → IsJoined l after es x
  joined_kept x ok = record {
    made = let e = many in let f = ok.made in omega arith;
    dead = dead_after x.number (λ e. both_lives v alive (ok.dead v (subst (λ (n : ℕ). get_elem? views n ≡ some v) (sym e) at))) (λ _. ok.dead);
    seen = ok.seen;
    mine = ok.mine;
    owns = ok.owns;
  }

  joined_now : IsJoined l after es (leaves w)
  joined_now = record {
    made = let e = many in let f = inside_list views k w there in let g = number in omega arith;
    dead = dead_after w.number (λ e. ne (sym number ∙ e)) (λ other. absurd (other number));
    seen = subst (λ (x : Option Known). IsOlder (seen_of x) es) (sym knows) known_there.seen;
    mine = ap mine_of knows ∙ known_there.mine ∙ ap (λ (n : ℕ). entries_of n es) (sym number);
    owns = (h.seats k w there).owns alive';
  }

  joins_taken : (n : ℕ) (x : Joined) → get_elem? (v.joined ++ carries w) n ≡ some x → IsJoined l after es x
  joins_taken n x e = ⊎_elim
      (λ (y : get_elem? v.joined n ≡ some x). joined_kept x (h.joins i v at n x y))
      (λ (y : (m : ℕ) × (get_elem? (carries w) m ≡ some x)). joins_carried y.0 x y.1)
      (at_append v.joined (carries w) n x e)
    where
      joins_carried : (m : ℕ) (x : Joined) → get_elem? (carries w) m ≡ some x → IsJoined l after es x
      joins_carried zero x e = subst (IsJoined l after es) (some-injective (leaves w) x e) joined_now
      joins_carried (suc m) x e = joined_kept x (h.joins k w there m x e)

  view_after : (j : ℕ) (u : View) → get_elem? after j ≡ some u → IsView l words es j u
  view_after j u e = ⊎_elim
      (λ (x : (j ≡ k) × (spent_view ≡ u)). subst (IsView l words es j) x.1 (record {
        numbered = λ (z : false ≡ true). absurd (let y : true ≡ false = sym z in cc);
        owns = λ (z : false ≡ true). absurd (let y : true ≡ false = sym z in cc);
        spent = λ _. record { own = refl; joined = refl; attempt = refl };
        attempt = tt;
        known = tt;
        both = tt;
      }))
      (λ (x : ((j ≡ i) × (taker v w ≡ u)) ⊎ ((j ≢ i) × (get_elem? views j ≡ some u))). ⊎_elim
      (λ (y : (j ≡ i) × (taker v w ≡ u)).
      let s = h.seats i v at in
      let t : IsView l words es i (taker v w) = record { numbered = s.numbered; owns = s.owns; spent = λ dead. absurd (both_lives v alive dead); attempt = s.attempt; known = s.known; both = s.both } in
      subst (λ (z : ℕ × View). IsView l words es z.0 z.1) (λ d. (sym y.0 d, y.1 d)) t)
      (λ (y : (j ≢ i) × (get_elem? views j ≡ some u)). h.seats j u y.1) x)
      (which j u e)

  joins_after : (j : ℕ) (u : View) → get_elem? after j ≡ some u → (n : ℕ) (x : Joined) → get_elem? u.joined n ≡ some x → IsJoined l after es x
  joins_after j u e n x is = ⊎_elim
      (λ (y : (j ≡ k) × (spent_view ≡ u)). absurd (some-ne-none x (sym (subst (λ (z : View). get_elem? z.joined n ≡ some x) (sym y.1) is))))
      (λ (y : ((j ≡ i) × (taker v w ≡ u)) ⊎ ((j ≢ i) × (get_elem? views j ≡ some u))). ⊎_elim
      (λ (z : (j ≡ i) × (taker v w ≡ u)). joins_taken n x (subst (λ (t : View). get_elem? t.joined n ≡ some x) (sym z.1) is))
      (λ (z : (j ≢ i) × (get_elem? views j ≡ some u)). joined_kept x (h.joins j u z.1 n x is)) y)
      (which j u e)

  kept_sum : (j : ℕ) → total (joined_in j) after ≡ total (joined_in j) views + is_of j (leaves w)
  kept_sum j =
      let s = sum_after (joined_in j) in
      let t : total (is_of j) (v.joined ++ carries w) ≡ total (is_of j) v.joined + total (is_of j) (carries w) = total-append (is_of j) v.joined (carries w) in omega arith

  not_yet : total (joined_in k) views ≡ 0
  not_yet = none_joined k views (λ j u e n x is same. both_lives w alive' ((h.joins j u e n x is).dead w (subst (λ (m : ℕ). get_elem? views m ≡ some w) (sym same) there)))

  kept_after : (j : ℕ) (u : View) → get_elem? after j ≡ some u → u.live ≡ false → total (joined_in j) after ≡ 1
  kept_after j u e dead =
      let s = kept_sum j in
      dite (ℕ_discrete j k)
      (λ same.
      let one : is_of j (leaves w) ≡ 1 = cond-true (w.number == j) 1 0 (eq-eqb w.number j (number ∙ sym same)) in
      let zero_before : total (joined_in j) views ≡ 0 = ap (λ (n : ℕ). total (joined_in n) views) same ∙ not_yet in omega arith)
      (λ other.
      let none : is_of j (leaves w) ≡ 0 = cond-false (w.number == j) 1 0 (ne_eqb w.number j (λ d. other (sym d ∙ number))) in
      ⊎_elim
      (λ (y : (j ≡ k) × (spent_view ≡ u)). absurd (other y.0))
      (λ (y : ((j ≡ i) × (taker v w ≡ u)) ⊎ ((j ≢ i) × (get_elem? views j ≡ some u))). ⊎_elim
      (λ (z : (j ≡ i) × (taker v w ≡ u)). absurd (both_lives v alive (ap (λ (t : View). t.live) z.1 ∙ dead)))
      (λ (z : (j ≢ i) × (get_elem? views j ≡ some u)). let one = h.kept j u z.1 dead in omega arith) y)
      (which j u e))

  pub join_lawful : Lawful l words (set (set views i (taker v w)) k spent_view) es
  join_lawful = record {
    legal = h.legal;
    fitting = h.fitting;
    size = h.size;
    tags = h.tags;
    below = h.below;
    versions = h.versions;
    states = h.states;
    places = λ o p in_parts. let e = placed_after o p in let r = h.places o p in_parts in omega arith;
    inside = λ o p in_parts more. h.inside o p in_parts (let e = placed_after o p in omega arith);
    few = let e = many in let f = h.few in omega arith;
    seats = view_after;
    joins = joins_after;
    kept = kept_after;
    made = λ j past. h.made j (let e = many in omega arith);
  }

  pub join_made : AreMade views → AreMade (set (set views i (taker v w)) k spent_view)
  join_made m j u n e next =
      let e' = many in
      ⊎_elim
      (λ (y : (j ≡ k) × (spent_view ≡ u)). absurd (none_next n (ap (λ (z : View). z.next) y.1 ∙ next)))
      (λ (y : ((j ≡ i) × (taker v w ≡ u)) ⊎ ((j ≢ i) × (get_elem? views j ≡ some u))). ⊎_elim
      (λ (z : (j ≡ i) × (taker v w ≡ u)). let r = m i v n at (ap (λ (t : View). t.next) z.1 ∙ next) in let f = r.next_is in record { first = z.0 ∙ r.first; next_is = omega arith })
      (λ (z : (j ≢ i) × (get_elem? views j ≡ some u)). let r = m j u n z.1 next in let f = r.next_is in record { first = r.first; next_is = omega arith }) y)
      (which j u e)
