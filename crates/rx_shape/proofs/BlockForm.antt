-- The block form: a length and numbers at places that follow each other.
use Rattle.std.proofs.Common.{◌≡◌, ℕ, zero, suc, ◌+◌, ◌<◌, ◌≤◌, List, [], ◌∷◌, ◌++◌, length, get_or, refl, sym, ap, ◌∙◌, subst, arith}
use Rattle.std.specs.Prelude.{slice_index}
use Rattle.std.specs.List.{All}
use Rattle.rx_seq.specs.declared.kinds.Kind.{Kind}
use Rattle.rx_seq.specs.declared.kinds.Kind.TheVariants.{Cell, Queue, Registers, List as Ordered}
use Rattle.rx_seq.specs.declared.kinds.Part.{Part}
use Rattle.rx_seq.specs.Table.{IsCap}
use Rattle.rx_seq.specs.States.{IsValue, IsStateBy, IsState}
use Rattle.rx_seq.specs.History.{no_part, part_at}
use Rattle.rx_shape.specs.declared.homes.Home.{Home}
use Rattle.rx_shape.specs.Words.{low_of}
use Rattle.rx_shape.specs.Places.{times, run, read_run}
use Rattle.rx_shape.specs.Forms.{Form, block, form_of, stock_as, stock_size, live_as, decoded_as, IsFormedAs, IsStockAs, live, decoded, IsFormed, IsStock, IsVersion, IsBlock}
use Rattle.rx_shape.specs.Layout.{Layout, IsLayout, words_of, home}
use Rattle.rx_shape.proofs.Times.{times_run, length-read_run}
use Rattle.rx_shape.proofs.Numbering.{in_words}

pub is_block : (kind : Kind) → kind ≡ Registers → form_of kind ≡ block
is_block kind is = ap form_of is

pub no_cell : (kind : Kind) → form_of kind ≡ block → kind ≡ Cell → ⊥
no_cell Cell form is = cc
no_cell Queue form is = cc
no_cell Ordered form is = cc
no_cell Registers form is = cc

pub cap_few : (kind : Kind) (cap : ℕ) → IsCap kind cap → cap ≤ 64
cap_few Cell cap h = omega arith
cap_few Queue cap h = omega arith
cap_few Ordered cap h = omega arith
cap_few Registers cap h = omega arith

values_of : (kind : Kind) (cap : ℕ) (state : List ℕ) → form_of kind ≡ block → IsStateBy kind cap state → All IsValue state
values_of Cell cap state form h = cc
values_of Queue cap state form h = cc
values_of Ordered cap state form h = cc
values_of Registers cap state form h = h.values

module _ (home : Home) (form : form_of home.part.kind ≡ block) where
  pub live_block : (root : ℕ) (words : List ℕ) → live home root words ≡ run (low_of root) (suc home.part.cap)
  unfolding live
  live_block root words = ap (λ (f : Form). live_as f home root words) form

  pub decoded_block : (root : ℕ) (words : List ℕ) → decoded home root words ≡ read_run words (low_of root + 1) (slice_index words (low_of root))
  unfolding decoded
  decoded_block root words = ap (λ (f : Form). decoded_as f home root words) form

  pub formed_block : (root : ℕ) (words : List ℕ) → IsFormed home root words → slice_index words (low_of root) ≤ home.part.cap
  unfolding IsFormed
  formed_block root words h = subst (λ (f : Form). IsFormedAs f home root words) form h

  pub block_is_formed : (root : ℕ) (words : List ℕ) → slice_index words (low_of root) ≤ home.part.cap → IsFormed home root words
  unfolding IsFormed
  block_is_formed root words h = subst (λ (f : Form). IsFormedAs f home root words) (sym form) h

  pub stock_block : (places : List ℕ) → IsStock home places → places ≡ run (slice_index places 0) (suc home.part.cap)
  unfolding IsStock
  stock_block places h = subst (λ (f : Form). IsStockAs f home places) form h

  pub block_is_stock : (first : ℕ) → IsStock home (run first (suc home.part.cap))
  unfolding IsStock
  block_is_stock first = subst (λ (f : Form). IsStockAs f home (run first (suc home.part.cap))) (sym form) refl

  pub size_block : stock_size home.part ≡ suc home.part.cap
  size_block = ap (λ (f : Form). stock_as f home.part.cap) form

-- one more word of a run
pub run_more : (words : List ℕ) (first count : ℕ) → read_run words first (count + 1) ≡ read_run words first count ++ slice_index words (first + count) ∷ []
run_more words first zero = ap (λ (n : ℕ). slice_index words n ∷ []) (let e : first ≡ first + 0 = omega arith in e)
run_more words first (suc count) =
    ap (λ (n : ℕ). read_run words first n) (let e : suc count + 1 ≡ suc (count + 1) = omega arith in e)
    ∙ ap (λ (xs : List ℕ). slice_index words first ∷ xs) (run_more words (first + 1) count)
    ∙ ap (λ (n : ℕ). slice_index words first ∷ read_run words (first + 1) count ++ slice_index words n ∷ []) (let e : first + 1 + count ≡ first + suc count = omega arith in e)

pub run_at : (words : List ℕ) (first count k other : ℕ) → k < count → get_or (read_run words first count) k other ≡ slice_index words (first + k)
run_at words first zero k other h = absurd (omega arith)
run_at words first (suc count) zero other h = ap (slice_index words) (let e : first ≡ first + 0 = omega arith in e)
run_at words first (suc count) (suc k) other h = run_at words (first + 1) count k other (omega arith) ∙ ap (slice_index words) (let e : first + 1 + k ≡ first + suc k = omega arith in e)

-- the words of a version in block form
pub block_from : (layout : Layout) (object root : ℕ) (words : List ℕ) → IsLayout layout → object < length layout.parts → length words ≡ words_of layout → form_of (part_at layout.parts object).kind ≡ block → IsVersion (home layout object) root words → IsBlock words (low_of root)
block_from layout object root words limits there size form v =
    let part : Part = part_at layout.parts object in
    let here : Home = home layout object in
    let low : ℕ = low_of root in
    let count : ℕ = slice_index words low in
    let cap : ℕ = part.cap in
    let most : cap ≤ 64 = cap_few part.kind cap (limits.parts object no_part there) in
    let fits : count ≤ cap = formed_block here form root words v.formed in
    let last : 0 < times (low + cap) (live here root words) = rw (live_block here form root words) (times_run low (suc cap) (low + cap) (omega arith) (omega arith)) in
    let within : low + cap < words_of layout = in_words layout object (low + cap) there (v.inside (low + cap) last) in
    let values : All IsValue (read_run words (low + 1) count) = values_of part.kind cap (read_run words (low + 1) count) form (subst (λ (state : List ℕ). IsState part state) (decoded_block here form root words) v.state) in
    let many : length (read_run words (low + 1) count) ≡ count = length-read_run words (low + 1) count in
    record {
      few = omega arith;
      inside = omega arith;
      values = λ k below. subst IsValue (run_at words (low + 1) count k 0 below) (values k 0 (omega arith));
    }
