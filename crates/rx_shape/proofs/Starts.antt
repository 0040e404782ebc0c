-- The words of the start, and blocks that are read.
use Rattle.std.proofs.Common.{◌≡◌, ℕ, zero, suc, ◌+◌, ◌-◌, ◌*◌, ◌<◌, ◌≤◌, true, cond, List, [], ◌∷◌, ◌++◌, length, get_or, replicate, refl, sym, ap, ◌∙◌, subst, arith, mul-add}
use Rattle.std.specs.Prelude.{◌==◌, nat_le, nat_lt, slice_index}
use Rattle.std.proofs.lemmas.Bool.{cond-true, cond-false, eq-eqb, ne_eqb, le-leb, lt-leb, lt-ltb, le-ltb, leb-true, ltb-true, and_parts, and_from, false_from_ne_true}
use Rattle.std.proofs.lemmas.List.{length-replicate, get_or_read}
use mathlib.Core.Logic.{dite}
use native.Mathlib.Decide.{ℕ_discrete}
use Rattle.rx_seq.specs.declared.kinds.Kind.{Kind}
use Rattle.rx_seq.specs.declared.kinds.Kind.TheVariants.{Cell, Queue, Registers, List as Ordered}
use Rattle.rx_seq.specs.declared.kinds.Part.{Part}
use Rattle.rx_seq.specs.Table.{IsCap, start_by}
use Rattle.rx_seq.specs.States.{IsState}
use Rattle.rx_seq.specs.History.{no_part, part_at}
use Rattle.rx_seq.proofs.Kept.{start_kept}
use Rattle.rx_shape.specs.declared.homes.Home.{Home}
use Rattle.rx_shape.specs.Words.{pack, tag_of, low_of}
use Rattle.rx_shape.specs.Places.{times, run, read_run}
use Rattle.rx_shape.specs.Nodes.{no_place, header_word, first_of, spare_of, walk, ends, values}
use Rattle.rx_shape.specs.Forms.{Form, inline, block, node, form_of, stock_as, stock_size, InRange, nodes_of, spares_of, live_as, decoded_as, IsFormedAs, live, decoded, IsFormed}
use Rattle.rx_shape.specs.Layout.{Layout, IsLayout, places_of, place_after, first_as, first_place, home, root_of}
use Rattle.rx_shape.specs.Versions.{Starts}
use Rattle.rx_shape.specs.Start.{linked_at, start_at_as, start_at, in_range, start_place, start_word, IsStart}
use Rattle.rx_shape.proofs.Times.{length-run, run_inside, run_once}
use Rattle.rx_shape.proofs.Chains.{walk_none, ends_none, walk_run}
use Rattle.rx_shape.proofs.BlockForm.{cap_few}
use Rattle.rx_shape.proofs.Numbering.{place_few, one_range, in_words, root_in_words, range_is}

-- the first value of a place
range_true : (home : Home) (place : ℕ) → InRange home place → in_range home place ≡ true
range_true home place h = and_from (nat_le home.first place) (nat_lt place (home.first + home.count)) (le-leb home.first place h.from) (lt-ltb place (home.first + home.count) h.below)

range_from : (home : Home) (place : ℕ) → in_range home place ≡ true → InRange home place
range_from home place e =
    let parts = and_parts (nat_le home.first place) (nat_lt place (home.first + home.count)) e in
    record { from = leb-true home.first place parts.0; below = ltb-true place (home.first + home.count) parts.1 }

start_here : (layout : Layout) (place object count : ℕ) → count ≤ length layout.parts → object < count → InRange (home layout object) place → start_place layout place count ≡ start_at (home layout object) place
start_here layout place object zero few there h = absurd (omega arith)
start_here layout place object (suc last) few there h = dite (ℕ_discrete object last)
    (λ e. subst (λ (n : ℕ). start_place layout place (suc last) ≡ start_at (home layout n) place) (sym e)
    (cond-true (in_range (home layout last) place) (start_at (home layout last) place) (start_place layout place last) (range_true (home layout last) place (subst (λ (n : ℕ). InRange (home layout n) place) e h))))
    (λ ne. cond-false (in_range (home layout last) place) (start_at (home layout last) place) (start_place layout place last)
    (false_from_ne_true (in_range (home layout last) place) (λ t. ne (one_range layout object last place (omega arith) (omega arith) h (range_from (home layout last) place t))))
    ∙ start_here layout place object last (omega arith) (omega arith) h)

range_as : (form : Form) (after cap seats place : ℕ) → after ≤ place → place < after + stock_as form cap * seats → (first_as form after ≤ place) × (place < first_as form after + stock_as form cap * seats)
range_as inline after cap seats place from below = absurd (omega arith)
range_as block after cap seats place from below = (from, below)
range_as node after cap seats place from below = (from, below)

at_as : (form : Form) (part : Part) (after count other seats place : ℕ) → after ≤ place → place < after + stock_as form part.cap * seats
    → start_at_as form (record { part = part; first = first_as form after; count = count }) place ≡ start_at_as form (record { part = part; first = after; count = other }) place
at_as inline part after count other seats place from below = absurd (omega arith)
at_as block part after count other seats place from below = refl
at_as node part after count other seats place from below = refl

pub start_found : (layout : Layout) (object place : ℕ) → object < length layout.parts → place_after layout object ≤ place → place < place_after layout object + places_of layout.seats (part_at layout.parts object)
    → start_place layout place (length layout.parts) ≡ start_at (record { part = part_at layout.parts object; first = place_after layout object; count = 0 }) place
start_found layout object place there from below =
    let form : Form = form_of (part_at layout.parts object).kind in
    let r = range_as form (place_after layout object) (part_at layout.parts object).cap (layout.seats + 1) place from below in
    start_here layout place object (length layout.parts) (omega arith) there (record { from = r.0; below = r.1 })
    ∙ at_as form (part_at layout.parts object) (place_after layout object) (places_of layout.seats (part_at layout.parts object)) 0 (layout.seats + 1) place from below

-- a word that is no root is at a place
pub root_word : (layout : Layout) (object : ℕ) → object < length layout.parts → start_word layout (object + 1) ≡ pack layout.first (first_place layout object)
root_word layout object there =
    cond-false (object + 1 == 0) 0 (cond (nat_le (object + 1) (length layout.parts)) (pack layout.first (first_place layout (object + 1 - 1))) (start_place layout (object + 1) (length layout.parts))) (ne_eqb (object + 1) 0 (λ e. absurd (omega arith)))
    ∙ cond-true (nat_le (object + 1) (length layout.parts)) (pack layout.first (first_place layout (object + 1 - 1))) (start_place layout (object + 1) (length layout.parts)) (le-leb (object + 1) (length layout.parts) (omega arith))
    ∙ (let e : object + 1 - 1 ≡ object = omega arith in ap (λ (n : ℕ). pack layout.first (first_place layout n)) e)

pub place_word : (layout : Layout) (object place : ℕ) → object < length layout.parts → InRange (home layout object) place → start_word layout place ≡ start_at (home layout object) place
place_word layout object place there h =
    let r = range_is layout object place h in
    cond-false (place == 0) 0 (cond (nat_le place (length layout.parts)) (pack layout.first (first_place layout (place - 1))) (start_place layout place (length layout.parts))) (ne_eqb place 0 (λ e. absurd (omega arith)))
    ∙ cond-false (nat_le place (length layout.parts)) (pack layout.first (first_place layout (place - 1))) (start_place layout place (length layout.parts)) (lt-leb place (length layout.parts) (omega arith))
    ∙ start_here layout place object (length layout.parts) (omega arith) there h

zeros : (words : List ℕ) (first count : ℕ) → ((p : ℕ) → first ≤ p → p < first + count → slice_index words p ≡ 0) → read_run words first count ≡ replicate count 0
zeros words first zero h = refl
zeros words first (suc count) h = λ k. h first (omega arith) (omega arith) k ∷ zeros words (first + 1) count (λ p from to. h p (omega arith) (omega arith)) k

-- a header with no node, and spare nodes after it, each linked to the next one
pub record IsUnused (first cap : ℕ) (words : List ℕ) : Type 0 where
  pub header : slice_index words first ≡ header_word no_place (first + 1)
  pub links : (p : ℕ) → first < p → p < first + cap → slice_index words p ≡ p + 1
  pub last : slice_index words (first + cap) ≡ no_place

-- what stands in the first stock at the start, by the kind
abbrev pub IsFirstBy : Kind → ℕ → ℕ → ℕ → List ℕ → Type 0
IsFirstBy Cell cap first low words = low ≡ 0
IsFirstBy Queue cap first low words = (low ≡ first) × IsUnused first cap words
IsFirstBy Ordered cap first low words = (low ≡ first) × IsUnused first cap words
IsFirstBy Registers cap first low words = (low ≡ first) × (slice_index words first ≡ cap) × ((p : ℕ) → first < p → p ≤ first + cap → slice_index words p ≡ 0)

record Firsts (kind : Kind) (home : Home) (root : ℕ) (words : List ℕ) : Type 0 where
  pub live_is : live_as (form_of kind) home root words ≡ run home.first (stock_as (form_of kind) home.part.cap)
  pub state : decoded_as (form_of kind) home root words ≡ start_by kind home.part.cap
  pub formed : IsFormedAs (form_of kind) home root words

unused_nodes : (home : Home) (root : ℕ) (words : List ℕ) → 1 ≤ home.part.cap → home.first + home.part.cap < no_place → low_of root ≡ home.first → IsUnused home.first home.part.cap words
    → (live_as node home root words ≡ run home.first (suc home.part.cap)) × (decoded_as node home root words ≡ []) × IsFormedAs node home root words
unused_nodes home root words some few low h =
    let cap : ℕ = home.part.cap in
    let n : ℕ = cap - 1 in
    let cap_is : suc n ≡ cap = omega arith in
    let head : slice_index words (low_of root) ≡ header_word no_place (home.first + 1) = ap (slice_index words) low ∙ h.header in
    let none : first_of (slice_index words (low_of root)) ≡ no_place = ap first_of head ∙ omega arith in
    let next : spare_of (slice_index words (low_of root)) ≡ home.first + 1 = ap spare_of head ∙ omega arith in
    let last_is : home.first + 1 + n ≡ home.first + cap = omega arith in
    let went = walk_run n (home.first + 1) words (omega arith) (λ q from to. h.links q (omega arith) (omega arith)) (ap (slice_index words) last_is ∙ h.last) in
    let ns : nodes_of cap root words ≡ [] = ap (walk cap words) none ∙ walk_none cap words in
    let ss : spares_of cap root words ≡ run (home.first + 1) cap = ap (walk cap words) next ∙ ap (λ (k : ℕ). walk k words (home.first + 1)) (sym cap_is) ∙ went.0 ∙ ap (run (home.first + 1)) cap_is in (
      (λ j. low j ∷ ns j ++ ss j),
      ap (values words) ns,
      record {
        nodes = ap (ends cap words) none ∙ ends_none cap words;
        spares = ap (ends cap words) next ∙ ap (λ (k : ℕ). ends k words (home.first + 1)) (sym cap_is) ∙ went.1;
        all = (λ j. length (ns j) + length (ss j)) ∙ (let r = length-run (home.first + 1) cap in omega arith);
      },
    )

firsts : (kind : Kind) (home : Home) (root : ℕ) (words : List ℕ) → IsCap kind home.part.cap → home.first + home.part.cap < no_place → IsFirstBy kind home.part.cap home.first (low_of root) words → Firsts kind home root words
firsts Cell home root words caps few h = record { live_is = refl; state = ap (λ (n : ℕ). n ∷ []) h; formed = tt }
firsts Queue home root words caps few h = let e = unused_nodes home root words caps.0 few h.0 h.1 in record { live_is = e.0; state = e.1; formed = e.2 }
firsts Ordered home root words caps few h = let e = unused_nodes home root words caps.0 few h.0 h.1 in record { live_is = e.0; state = e.1; formed = e.2 }
firsts Registers home root words caps few h =
    let low = h.0 in
    let at : slice_index words (low_of root) ≡ home.part.cap = ap (slice_index words) h.0 ∙ h.1 in record {
      live_is = ap (λ (n : ℕ). run n (suc home.part.cap)) h.0;
      state = ap (λ (n : ℕ). read_run words (low_of root + 1) n) at ∙ zeros words (low_of root + 1) home.part.cap (λ p from to. h.2 p (omega arith) (omega arith));
      formed = omega arith;
    }

unused_by : (cap first : ℕ) (words : List ℕ) → 1 ≤ cap → ((p : ℕ) → first ≤ p → p < first + suc cap → slice_index words p ≡ linked_at first cap p) → IsUnused first cap words
unused_by cap first words some at = record {
  header = at first (omega arith) (omega arith) ∙ rw (eq-eqb first first refl) refl;
  links = λ p from to. at p (omega arith) (omega arith) ∙ rw (ne_eqb p first (λ e. absurd (omega arith)), lt-ltb p (first + cap) to) (omega arith);
  last = let p : ℕ = first + cap in
      at p (omega arith) (omega arith) ∙ rw (ne_eqb p first (λ e. absurd (omega arith)), le-ltb p (first + cap) (omega arith), eq-eqb p (first + cap) refl) (omega arith);
}

first_by : (kind : Kind) (cap first count low : ℕ) (words : List ℕ) → IsCap kind cap → low ≡ first → (form_of kind ≡ inline → first ≡ 0)
    → ((p : ℕ) → first ≤ p → p < first + stock_as (form_of kind) cap → slice_index words p ≡ start_at_as (form_of kind) (record { part = record { kind = kind; cap = cap }; first = first; count = count }) p)
    → IsFirstBy kind cap first low words
first_by Cell cap first count low words caps is none at = is ∙ none refl
first_by Queue cap first count low words caps is none at = (is, unused_by cap first words caps.0 at)
first_by Ordered cap first count low words caps is none at = (is, unused_by cap first words caps.0 at)
first_by Registers cap first count low words caps is none at = (
  is,
  at first (omega arith) (omega arith) ∙ cond-true (first == first) (length (replicate cap 0)) 0 (eq-eqb first first refl) ∙ length-replicate cap 0,
  λ p from to. at p (omega arith) (omega arith) ∙ cond-false (p == first) (length (replicate cap 0)) 0 (ne_eqb p first (λ e. absurd (omega arith))),
)

-- the first stock is a part of the object's places
first_stock : (home : Home) (seats p : ℕ) → home.count ≡ stock_size home.part * (seats + 1) → home.first ≤ p → p < home.first + stock_size home.part → InRange home p
first_stock home seats p is from below =
    let e = mul-add (stock_size home.part) seats 1 in
    let x : ℕ = stock_size home.part * seats in
    record { from = from; below = omega arith }

first_few : (form : Form) (place : ℕ) → place ≤ 67617 → first_as form place ≤ 67617
first_few inline place h = omega arith
first_few block place h = h
first_few node place h = h

pub starts : (layout : Layout) (words : List ℕ) (object : ℕ) → IsLayout layout → IsStart layout words → object < length layout.parts → Starts (home layout object) layout.first (root_of words object) words
unfolding live decoded IsFormed
starts layout words object limits start there =
    let here : Home = home layout object in
    let part : Part = part_at layout.parts object in
    let root : ℕ = root_of words object in
    let root_is : root ≡ pack layout.first here.first = start.each (object + 1) (root_in_words layout object there) ∙ root_word layout object there in
    let few : here.first ≤ 67617 = first_few (form_of part.kind) (place_after layout object) (place_few layout object limits) in
    let low : low_of root ≡ here.first = ap low_of root_is ∙ omega arith in
    let in_stock : (p : ℕ) → here.first ≤ p → p < here.first + stock_size part → InRange here p = λ p from below. first_stock here layout.seats p refl from below in
    let caps : IsCap part.kind part.cap = limits.parts object no_part there in
    let most = cap_few part.kind part.cap caps in
    let h = firsts part.kind here root words caps (omega arith) (first_by part.kind part.cap here.first here.count (low_of root) words caps low (λ e. ap (λ (f : Form). first_as f (place_after layout object)) e)
    (λ p from below. start.each p (in_words layout object p there (in_stock p from below)) ∙ place_word layout object p there (in_stock p from below))) in
    record {
      tag = ap tag_of root_is ∙ omega arith;
      live_is = h.live_is;
      state = h.state;
      version = record {
        inside = λ p more. let r = run_inside p here.first (stock_size part) (subst (λ (ys : List ℕ). 0 < times p ys) h.live_is more) in in_stock p r.0 r.1;
        once = λ p. subst (λ (ys : List ℕ). times p ys ≤ 1) (sym h.live_is) (run_once p here.first (stock_size part));
        formed = h.formed;
        state = subst (λ (state : List ℕ). IsState part state) (sym h.state) (start_kept part.kind part.cap (limits.parts object no_part there));
      };
    }

-- what the code finds for a place
pub found_value : (layout : Layout) (object place first count value : ℕ) (part : Part) → object < length layout.parts → part ≡ get_or layout.parts object part → first ≡ place_after layout object → place_after layout object ≤ place
    → count ≡ places_of layout.seats part → place < first + count → value ≡ start_at (record { part = part; first = first; count = 0 }) place → value ≡ start_place layout place (length layout.parts)
found_value layout object place first count value part there part_is first_is from count_is below value_is =
    let p : part ≡ part_at layout.parts object = get_or_read layout.parts object part there part_is no_part in
    let c : count ≡ places_of layout.seats (part_at layout.parts object) = count_is ∙ ap (places_of layout.seats) p in
    value_is ∙ (λ k. start_at (record { part = p k; first = first_is k; count = 0 }) place) ∙ sym (start_found layout object place there from (omega arith))
