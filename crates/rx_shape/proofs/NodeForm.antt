-- The node form: a header, nodes and spare nodes.
use Rattle.std.proofs.Common.{◌≡◌, ℕ, suc, ◌+◌, ◌<◌, ◌≤◌, List, [], ◌∷◌, ◌++◌, length, sym, ap, subst, arith}
use Rattle.std.specs.Prelude.{slice_index}
use Rattle.std.specs.List.{All}
use mathlib.Core.Logic.{◌⊎◌, inl, inr, dite}
use native.Mathlib.Decide.{ℕ_discrete}
use Rattle.rx_seq.specs.declared.kinds.Kind.{Kind}
use Rattle.rx_seq.specs.declared.kinds.Kind.TheVariants.{Cell, Queue, Registers, List as Ordered}
use Rattle.rx_seq.specs.Table.{IsCap, most_value}
use Rattle.rx_seq.specs.States.{IsValue, IsStateBy}
use Rattle.rx_seq.specs.History.{no_part, part_at}
use Rattle.rx_seq.specs.declared.kinds.Part.{Part}
use Rattle.rx_shape.specs.declared.homes.Home.{Home}
use Rattle.rx_shape.specs.Words.{low_of}
use Rattle.rx_shape.specs.Places.{times}
use Rattle.rx_shape.specs.Nodes.{no_place, first_of, value_of, values}
use Rattle.rx_shape.specs.Forms.{Form, node, form_of, stock_as, stock_size, nodes_of, spares_of, IsLinked, live_as, decoded_as, IsFormedAs, IsStockAs, live, decoded, IsFormed, IsStock, IsVersion, AreNodes}
use Rattle.rx_shape.specs.Layout.{Layout, IsLayout, words_of, home}
use Rattle.rx_shape.proofs.Times.{times_here, times_there, times-append}
use Rattle.rx_shape.proofs.Chains.{walk_begins}
use Rattle.rx_shape.proofs.Numbering.{place_few, in_words, words_are}

module _ (home : Home) (form : form_of home.part.kind ≡ node) where
  pub live_node : (root : ℕ) (words : List ℕ) → live home root words ≡ low_of root ∷ nodes_of home.part.cap root words ++ spares_of home.part.cap root words
  unfolding live
  live_node root words = ap (λ (f : Form). live_as f home root words) form

  pub decoded_node : (root : ℕ) (words : List ℕ) → decoded home root words ≡ values words (nodes_of home.part.cap root words)
  unfolding decoded
  decoded_node root words = ap (λ (f : Form). decoded_as f home root words) form

  pub formed_node : (root : ℕ) (words : List ℕ) → IsFormed home root words → IsLinked home.part.cap root words
  unfolding IsFormed
  formed_node root words h = subst (λ (f : Form). IsFormedAs f home root words) form h

  pub node_is_formed : (root : ℕ) (words : List ℕ) → IsLinked home.part.cap root words → IsFormed home root words
  unfolding IsFormed
  node_is_formed root words h = subst (λ (f : Form). IsFormedAs f home root words) (sym form) h

  pub stock_node : (places : List ℕ) → IsStock home places → length places ≡ suc home.part.cap
  unfolding IsStock
  stock_node places h = subst (λ (f : Form). IsStockAs f home places) form h

  pub node_is_stock : (places : List ℕ) → length places ≡ suc home.part.cap → IsStock home places
  unfolding IsStock
  node_is_stock places h = subst (λ (f : Form). IsStockAs f home places) (sym form) h

  pub size_node : stock_size home.part ≡ suc home.part.cap
  size_node = ap (λ (f : Form). stock_as f home.part.cap) form

  -- the header and the nodes are live, and so are the spare nodes
  pub live_head : (root : ℕ) (words : List ℕ) → 0 < times (low_of root) (live home root words)
  live_head root words = let l = ap (times (low_of root)) (live_node root words) in let s = times_here (low_of root) (nodes_of home.part.cap root words ++ spares_of home.part.cap root words) in omega arith

  pub live_more : (root : ℕ) (words : List ℕ) (p : ℕ) → 0 < times p (nodes_of home.part.cap root words) + times p (spares_of home.part.cap root words) → 0 < times p (live home root words)
  live_more root words p more = let l = ap (times p) (live_node root words) in let a = times-append p (nodes_of home.part.cap root words) (spares_of home.part.cap root words) in omega arith

-- the values of a queue and of a list
node_values : (kind : Kind) (cap : ℕ) (state : List ℕ) → form_of kind ≡ node → IsStateBy kind cap state → All IsValue state
node_values Cell cap state form h = cc
node_values Queue cap state form h = h.values
node_values Ordered cap state form h = h.values
node_values Registers cap state form h = cc

value_among : (words ps : List ℕ) (p : ℕ) → 0 < times p ps → All IsValue (values words ps) → value_of (slice_index words p) ≤ most_value
value_among words [] p more h = absurd (omega arith)
value_among words (q ∷ ps) p more h = dite (ℕ_discrete q p)
    (λ e. subst (λ (x : ℕ). value_of (slice_index words x) ≤ most_value) e (h 0 0 (omega arith)))
    (λ ne. let t = times_there p q ps ne in value_among words ps p (omega arith) (λ k d below. h (suc k) d (omega arith)))

node_cap : (kind : Kind) (cap : ℕ) → form_of kind ≡ node → IsCap kind cap → (1 ≤ cap) × (cap ≤ 64)
node_cap Cell cap form h = cc
node_cap Queue cap form h = h
node_cap Ordered cap form h = h
node_cap Registers cap form h = cc

pub is_node : (kind : Kind) → (kind ≡ Queue) ⊎ (kind ≡ Ordered) → form_of kind ≡ node
is_node kind (inl queue) = ap form_of queue
is_node kind (inr ordered) = ap form_of ordered

-- the words of a version in node form
pub nodes_from : (layout : Layout) (object root : ℕ) (words : List ℕ) → IsLayout layout → object < length layout.parts → length words ≡ words_of layout → form_of (part_at layout.parts object).kind ≡ node → IsVersion (home layout object) root words
    → AreNodes words (low_of root) (part_at layout.parts object).cap
nodes_from layout object root words limits there size form v =
    let part : Part = part_at layout.parts object in
    let here : Home = home layout object in
    let caps = node_cap part.kind part.cap form (limits.parts object no_part there) in
    let values_are : All IsValue (values words (nodes_of part.cap root words)) = subst (λ (state : List ℕ). All IsValue state) (decoded_node here form root words) (node_values part.kind part.cap (decoded here root words) form v.state) in
    let low = in_words layout object (low_of root) there (v.inside (low_of root) (live_head here form root words)) in
    let first : ℕ = first_of (slice_index words (low_of root)) in
    let most = place_few layout (length layout.parts) limits in
    let all = words_are layout in
    let first_few : first ≤ no_place = dite (ℕ_discrete first no_place) (λ e. omega arith) (λ ne.
    let b = walk_begins part.cap words first ne (formed_node here form root words v.formed).nodes in
    let r = in_words layout object first there (v.inside first (live_more here form root words first (omega arith))) in omega arith) in
    record {
      header = omega arith;
      first = first_few;
      few = caps.1;
      inside = λ p at. let below = in_words layout object p there (v.inside p (live_more here form root words p (omega arith))) in omega arith;
      values = λ p at. value_among words (nodes_of part.cap root words) p at values_are;
    }
