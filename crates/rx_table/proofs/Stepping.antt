-- Each event keeps the rule of the table.
use Rattle.std.proofs.Common.{◌≡◌, ◌≢◌, ℕ, ◌+◌, ◌<◌, Bool, true, false, cond, List, length, set, refl, sym, ap, ◌∙◌, subst, ⊎_elim, arith}
use Rattle.std.specs.Prelude.{◌==◌, slice_index, slice_set, Some}
use Rattle.std.proofs.lemmas.List.{set-get_or, get_or-set_other, length-set}
use mathlib.Core.Option.{some}
use lib.ListN.{get_elem?}
use prog.Atomic.{either}
use Rattle.atomic_table.specs.Table.{State, Me, keeps, Allows}
use Rattle.atomic_table.proofs.Lists.{set_here}
use Rattle.rx_seq.specs.declared.calls.Call.{Call}
use Rattle.rx_seq.specs.declared.entries.Entry.{Entry}
use Rattle.rx_seq.specs.Table.{fits_part}
use Rattle.rx_seq.specs.History.{part_at}
use Rattle.rx_shape.specs.declared.plans.Taken.{Taken}
use Rattle.rx_shape.specs.declared.plans.Write.{Write}
use Rattle.rx_shape.specs.declared.plans.Pair.{Pair}
use Rattle.rx_shape.specs.Forms.{stock_size}
use Rattle.rx_shape.specs.Layout.{Layout}
use Rattle.rx_shape.specs.Versions.{NotWritten}
use Rattle.rx_port.specs.declared.views.Attempt.{Attempt}
use Rattle.rx_port.specs.declared.views.View.{View}
use Rattle.rx_port.specs.Core.{own_of, begun_view, read_view, written_view, entry_for, history_after, decided_view}
use Rattle.rx_port.specs.Lawful.{Lawful}
use Rattle.rx_port.specs.Events.{Found, Begun, DidRead, DidWrite, Decided, IsDecision}
use Rattle.rx_port.proofs.Lists.{at_set, inside_list}
use Rattle.rx_port.proofs.Lawfully.{begun_lawful, read_lawful, write_lawful, decided_lawful}
use Rattle.rx_table.specs.Rule.{AreMade, Holds, core_of, IsAt}

-- a seat that makes no other leaves the makers as they are
pub made_set : (views : List View) (i : ℕ) (v w : View) → get_elem? views i ≡ some v → w.next ≡ v.next → AreMade views → AreMade (set views i w)
made_set views i v w at same h j u n there next =
    let many = length-set views i w in
    ⊎_elim
    (λ (x : (j ≡ i) × (w ≡ u)). let m = h i v n at (sym same ∙ ap (λ (y : View). y.next) x.1 ∙ next) in let f = m.first in let e = m.next_is in record { first = x.0 ∙ f; next_is = omega arith })
    (λ (x : (j ≢ i) × (get_elem? views j ≡ some u)). let m = h j u n x.1 next in let e = m.next_is in record { first = m.first; next_is = omega arith })
    (at_set views i j w u there)

either_is : (b : Bool) (x y : ℕ) → either b x y ≡ cond b x y
either_is true x y = refl
either_is false x y = refl

module _ {S : Type 0} (l : Layout) (s : State S View) (h : Holds l s) (i : ℕ) (v : View) (alive : v.live ≡ true) (at : get_elem? s.views i ≡ some v) where
  number : v.number ≡ i
  number = (h.lawful.seats i v at).numbered alive

  found : Found l (IsAt v) v (core_of s) h.history
  found = let here = subst (λ (n : ℕ). get_elem? s.views n ≡ some v) (sym number) at in record { stands = here; lawful = h.lawful; alive = alive; here = here }

  -- the view stands at the seat's number after the event
  at_after : (w : View) → w.number ≡ v.number → get_elem? (slice_set s.views v.number w) w.number ≡ some w
  at_after w same = let below = inside_list s.views i v at in
      subst (λ (n : ℕ). get_elem? (slice_set s.views v.number w) n ≡ some w) (sym same) (set_here s.views v.number w (let e = number in omega arith))

module _ {S : Type 0} (l : Layout) (slots i : ℕ) (me : Me S View) (alive : me.0.live ≡ true) where
  pub allows_begin : (o : ℕ) (call : Call) → o < length l.parts → fits_part (part_at l.parts o) call ≡ true
      → Allows (Holds {S = S} l) slots i me (o + 1) (λ n. n) (λ n you. Begun l (IsAt me.0) (IsAt you.0) me.0 you.0 o call n × (you.1 ≡ me.1))
  allows_begin o call there fits s h homes at small =
      let n : ℕ = slice_index s.words (o + 1) in
      let w = begun_view h.history me.0 o call n in
      let same : slice_set s.words (o + 1) n ≡ s.words = set-get_or s.words (o + 1) 0 in (
        w,
        keeps,
        tt,
        record {
          history = h.history;
          lawful = subst (λ (ws : List ℕ). Lawful l ws (slice_set s.views i w) h.history) (sym same) (begun_lawful l s.words s.views h.history i me.0 o call n h.lawful at alive there fits refl);
          unused = ap (λ (ws : List ℕ). slice_index ws 0) same ∙ h.unused;
          made = made_set s.views i me.0 w at refl h.made;
        },
        (record { core = core_of s; history = h.history; found = found l s h i me.0 alive at; root_is = refl; view_is = refl; after = at_after l s h i me.0 alive at w refl }, refl),
      )

  pub allows_read : (a : Attempt) (place : ℕ) → me.0.attempt ≡ Some a
      → Allows (Holds {S = S} l) slots i me place (λ n. n) (λ n you. DidRead l (IsAt me.0) (IsAt you.0) me.0 you.0 a place n × (you.1 ≡ me.1))
  allows_read a place is_open s h homes at small =
      let n : ℕ = slice_index s.words place in
      let r : Taken = record { place = place; word = n } in
      let w = read_view me.0 a r in
      let same : slice_set s.words place n ≡ s.words = set-get_or s.words place 0 in (
        w,
        keeps,
        tt,
        record {
          history = h.history;
          lawful = subst (λ (ws : List ℕ). Lawful l ws (slice_set s.views i w) h.history) (sym same) (read_lawful l s.words s.views h.history i me.0 a r h.lawful at alive is_open refl);
          unused = ap (λ (ws : List ℕ). slice_index ws 0) same ∙ h.unused;
          made = made_set s.views i me.0 w at refl h.made;
        },
        (record { core = core_of s; history = h.history; found = found l s h i me.0 alive at; word_is = refl; view_is = refl; after = at_after l s h i me.0 alive at w refl }, refl),
      )

  pub allows_write : (a : Attempt) (own place value : ℕ) → me.0.attempt ≡ Some a → own < stock_size (part_at l.parts a.object) → NotWritten own a.writes → place ≡ slice_index (own_of me.0 a.object) own → 0 < place
      → Allows (Holds {S = S} l) slots i me place (λ _. value) (λ _ you. DidWrite l (IsAt me.0) (IsAt you.0) me.0 you.0 a own value × (you.1 ≡ me.1))
  allows_write a own place value is_open below new is past s h homes at small =
      let x : Write = record { own = own; value = value } in
      let w = written_view me.0 a x in (
        w,
        keeps,
        tt,
        record {
          history = h.history;
          lawful = subst (λ (p : ℕ). Lawful l (set s.words p value) (slice_set s.views i w) h.history) (sym is) (write_lawful l s.words s.views h.history i me.0 a x h.lawful at alive is_open below new);
          unused = get_or-set_other s.words place 0 value 0 (λ (e : 0 ≡ place). absurd (omega arith)) ∙ h.unused;
          made = made_set s.views i me.0 w at refl h.made;
        },
        (record { core = core_of s; history = h.history; found = found l s h i me.0 alive at; view_is = refl; after = at_after l s h i me.0 alive at w refl }, refl),
      )

  pub allows_decide : (a : Attempt) (new : ℕ) (pairs : List Pair) → IsDecision l me.0 a new pairs
      → Allows (Holds {S = S} l) slots i me (a.object + 1) (λ n. either (n == a.expected) new n) (λ n you. Decided l (IsAt me.0) (IsAt you.0) me.0 you.0 a new pairs n × (you.1 ≡ me.1))
  allows_decide a new pairs d s h homes at small =
      let n : ℕ = slice_index s.words (a.object + 1) in
      let same = number l s h i me.0 alive at in
      let won : Bool = n == a.expected in
      let e : Entry = entry_for l h.history i a.object a.call in
      let w = decided_view won h.history e me.0 a n pairs in (
        w,
        keeps,
        tt,
        record {
          history = history_after won e h.history;
          lawful = subst (λ (m : ℕ). Lawful l (slice_set s.words (a.object + 1) m) (slice_set s.views i w) (history_after won e h.history)) (sym (either_is won new n))
              (decided_lawful l s.words s.views h.history i me.0 a new n pairs h.lawful at alive refl d);
          unused = get_or-set_other s.words (a.object + 1) 0 (either won new n) 0 (λ (e : 0 ≡ a.object + 1). absurd (omega arith)) ∙ h.unused;
          made = made_set s.views i me.0 w at refl h.made;
        },
        (
          record {
            core = core_of s;
            history = h.history;
            found = found l s h i me.0 alive at;
            word_is = refl;
            view_is = ap (λ (k : ℕ). decided_view won h.history (entry_for l h.history k a.object a.call) me.0 a n pairs) (sym same);
            after = at_after l s h i me.0 alive at w refl;
          },
          refl,
        ),
      )
