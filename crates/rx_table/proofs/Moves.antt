-- Opening, making, joining and closing keep the rule of the table.
use Rattle.std.proofs.Common.{◌≡◌, ℕ, zero, suc, ◌<◌, true, List, [], ◌∷◌, refl, sym, ap, ◌∙◌, subst, arith}
use Rattle.std.specs.Prelude.{slice_index, Option, Some, None}
use mathlib.Core.Option.{some, some-injective, some-ne-none}
use lib.ListN.{get_elem?}
use Rattle.atomic_table.specs.Table.{opening, Splits, Joins, Final, Seen}
use Rattle.atomic_table.proofs.Lists.{set_else}
use Rattle.rx_seq.specs.declared.entries.Entry.{Entry}
use Rattle.rx_seq.specs.Legal.{entries_of}
use Rattle.rx_shape.specs.Layout.{Layout, IsLayout}
use Rattle.rx_shape.specs.Start.{IsStart}
use Rattle.rx_port.specs.declared.views.Known.{Known}
use Rattle.rx_port.specs.declared.views.Joined.{Joined}
use Rattle.rx_port.specs.declared.views.View.{View}
use Rattle.rx_port.specs.Lawful.{IsOlder, IsKnown, Lawful}
use Rattle.rx_port.proofs.Lists.{some_here}
use Rattle.rx_port.proofs.Seating.{open_lawful, add_lawful}
use Rattle.rx_table.specs.Rule.{AreMade, Holds, knows_nothing, first_view}
use Rattle.rx_table.specs.Seats.{maker, made, seen_of, mine_of, leaves, carries, taker, spent_view}
use Rattle.rx_table.specs.Closings.{HasEnded, Carried, Closing}
use Rattle.rx_table.proofs.Joining.{split_lawful, split_made, join_lawful, join_made}

first_made : (l : Layout) → AreMade (first_view l ∷ [])
first_made l zero v n at next = let e : Some 1 ≡ Some n = ap (λ (x : View). x.next) (some-injective (first_view l) v at) ∙ next in record { first = refl; next_is = let f : 1 ≡ n = ap next_or e in sym f }
  where
    next_or : Option ℕ → ℕ
    next_or None = 0
    next_or (Some m) = m
first_made l (suc j) v n at next = absurd (some-ne-none v (sym at))

-- opening
pub opens : {S : Type 0} (l : Layout) (words : List ℕ) (xs : List S) → IsLayout l → IsStart l words → Holds l (opening words xs (first_view l))
opens l words xs limits start = record {
  history = [];
  lawful = add_lawful l (Some knows_nothing) (Some 1) [] (let s = limits.one in omega arith) words [] (open_lawful l words limits start) (record { seen = ([], refl); mine = refl });
  unused = start.each 0 (omega arith);
  made = first_made l;
}

-- making
pub splits : {S : Type 0} (l : Layout) (i n : ℕ) (v : View) → v.live ≡ true → v.next ≡ Some n → n < l.seats → Splits (Holds {S = S} l) i v (maker v) (made l v)
splits l i n v alive next room s h at = record {
  history = h.history;
  lawful = split_lawful l s.words s.views h.history i n v h.lawful h.made at alive next room;
  unused = h.unused;
  made = split_made l s.words s.views h.history i n v h.lawful h.made at alive next room;
}

-- joining
pub joins : {S : Type 0} (l : Layout) (i other : ℕ) (v w : View) (k : Known) → v.live ≡ true → w.live ≡ true → w.known ≡ Some k → Joins (Holds {S = S} l) i v other w (taker v w) spent_view
joins l i other v w k alive alive' knows s h at ne there =
    let before : get_elem? s.views other ≡ some w = sym (set_else s.views i other (taker v w) ne) ∙ there in record {
      history = h.history;
      lawful = join_lawful l s.words s.views h.history i other v w h.lawful at alive ne before alive' k knows;
      unused = h.unused;
      made = join_made l s.words s.views h.history i other v w h.lawful at alive ne before alive' k knows h.made;
    }

-- closing
ended_from : (l : Layout) (words : List ℕ) (views : List View) (es : List Entry) → IsLayout l → Lawful l words views es → slice_index words 0 ≡ 0 → HasEnded (record { layout = l; words = words; history = es })
ended_from l words views es limits h unused = record {
  limits = limits;
  size = h.size;
  unused = unused;
  legal = h.legal;
  fitting = h.fitting;
  tags = h.tags;
  versions = h.versions;
  states = h.states;
  callers = λ seat past. h.made seat (let f = h.few in omega arith);
}

carried_from : (l : Layout) (words : List ℕ) (views : List View) (es : List Entry) (i : ℕ) (v : View) (k : Known) → Lawful l words views es → get_elem? views i ≡ some v → v.live ≡ true → v.known ≡ Some k → (n : ℕ) (x : Joined) → get_elem? (carries v) n ≡ some x → Carried es x
carried_from l words views es i v k h at alive knows zero x is =
    let s = h.seats i v at in
    let known = some_here (λ (y : Known). IsKnown es i y) v.known k knows s.known in
    subst (Carried es) (some-injective (leaves v) x is) (record {
      seen = subst (λ (y : Option Known). IsOlder (seen_of y) es) (sym knows) known.seen;
      mine = ap mine_of knows ∙ known.mine ∙ ap (λ (m : ℕ). entries_of m es) (sym (s.numbered alive));
    })
carried_from l words views es i v k h at alive knows (suc n) x is = let j = h.joins i v at n x is in record { seen = j.seen; mine = j.mine }

pub closes : {S : Type 0} (l : Layout) (i : ℕ) (v : View) (k : Known) (words : List ℕ) (xs : List S) → IsLayout l → v.live ≡ true → v.known ≡ Some k → Final (Seen (Holds l) i v) words xs → (es : List Entry) × Closing l words v es
closes l i v k words xs limits alive knows (s, seen, same, homes, rest) = (
  seen.0.history,
  subst (λ (ws : List ℕ). Closing l ws v seen.0.history) same (record {
    ended = ended_from l s.words s.views seen.0.history limits seen.0.lawful seen.0.unused;
    carried = carried_from l s.words s.views seen.0.history i v k seen.0.lawful seen.1 alive knows;
  }),
)
