-- The laws of a form: the words of the live places alone decide, stocks have their size, and the start.
use Rattle.std.proofs.Common.{◌≡◌, ℕ, suc, ◌+◌, ◌<◌, ◌≤◌, List, [], ◌∷◌, ◌++◌, length, set, refl, sym, ap, ◌∙◌, subst, arith}
use Rattle.std.specs.Prelude.{slice_index}
use Rattle.std.proofs.lemmas.List.{get_or-set_same, get_or-set_other}
use Rattle.rx_seq.specs.States.{IsState}
use Rattle.rx_shape.specs.declared.homes.Home.{Home}
use Rattle.rx_shape.specs.declared.plans.Taken.{Taken}
use Rattle.rx_shape.specs.declared.plans.Write.{Write}
use Rattle.rx_shape.specs.Words.{low_of}
use Rattle.rx_shape.specs.Places.{times, run, read_run}
use Rattle.rx_shape.specs.Nodes.{first_of, spare_of, walk, ends, values}
use Rattle.rx_shape.specs.Forms.{Form, inline, block, node, form_of, nodes_of, spares_of, stock_as, stock_size, InRange, live_as, decoded_as, IsFormedAs, IsStockAs, live, decoded, IsFormed, IsStock, IsVersion, start_own, first_own}
use Rattle.rx_shape.specs.Versions.{HasRead, HasWritten, NotWritten, Same}
use Rattle.rx_shape.proofs.Times.{times_here, times_at, times-append, times_once, times_run, same_run, length-run}
use Rattle.rx_shape.proofs.Chains.{walk_same, ends_same, values_same}

local_as : (form : Form) (home : Home) (root : ℕ) (words others : List ℕ) → IsFormedAs form home root words
    → ((p : ℕ) → 0 < times p (live_as form home root words) → slice_index others p ≡ slice_index words p)
    → (live_as form home root others ≡ live_as form home root words) × (decoded_as form home root others ≡ decoded_as form home root words) × IsFormedAs form home root others
local_as inline home root words others formed same = (refl, refl, tt)
local_as block home root words others formed same =
    let b : ℕ = low_of root in
    let here : (p : ℕ) → b ≤ p → p < b + suc home.part.cap → slice_index others p ≡ slice_index words p = λ p from to. same p (times_run b (suc home.part.cap) p from to) in
    let first : slice_index others b ≡ slice_index words b = here b (omega arith) (omega arith) in (
      refl,
      ap (λ (n : ℕ). read_run others (b + 1) n) first ∙ same_run words others (b + 1) (slice_index words b) (λ p from to. here p (omega arith) (omega arith)),
      subst (λ (n : ℕ). n ≤ home.part.cap) (sym first) formed,
    )
local_as node home root words others formed same =
    let cap : ℕ = home.part.cap in
    let b : ℕ = low_of root in
    let nodes : List ℕ = nodes_of cap root words in
    let spares : List ℕ = spares_of cap root words in
    let head : slice_index others b ≡ slice_index words b = same b (let s = times_here b (nodes ++ spares) in omega arith) in
    let inner : (q : ℕ) → 0 < times q nodes → slice_index others q ≡ slice_index words q = λ q at. same q (let s = times-append q nodes spares in omega arith) in
    let outer : (q : ℕ) → 0 < times q spares → slice_index others q ≡ slice_index words q = λ q at. same q (let s = times-append q nodes spares in omega arith) in
    let ns : nodes_of cap root others ≡ nodes = ap (λ (w : ℕ). walk cap others (first_of w)) head ∙ walk_same cap words others (first_of (slice_index words b)) inner in
    let ss : spares_of cap root others ≡ spares = ap (λ (w : ℕ). walk cap others (spare_of w)) head ∙ walk_same cap words others (spare_of (slice_index words b)) outer in (
      (λ j. b ∷ ns j ++ ss j),
      ap (values others) ns ∙ values_same words others nodes inner,
      record {
        nodes = ap (λ (w : ℕ). ends cap others (first_of w)) head ∙ ends_same cap words others (first_of (slice_index words b)) inner ∙ formed.nodes;
        spares = ap (λ (w : ℕ). ends cap others (spare_of w)) head ∙ ends_same cap words others (spare_of (slice_index words b)) outer ∙ formed.spares;
        all = (λ j. length (ns j) + length (ss j)) ∙ formed.all;
      },
    )

pub local : (home : Home) (root : ℕ) (words others : List ℕ) → IsVersion home root words → ((p : ℕ) → 0 < times p (live home root words) → slice_index others p ≡ slice_index words p) → Same home root words others
unfolding live decoded IsFormed
local home root words others v same =
    let s = local_as (form_of home.part.kind) home root words others v.formed same in
    record {
      live_is = s.0;
      decoded_is = s.1;
      version = record {
        inside = λ p more. v.inside p (subst (λ (ys : List ℕ). 0 < times p ys) s.0 more);
        once = λ p. subst (λ (ys : List ℕ). times p ys ≤ 1) (sym s.0) (v.once p);
        formed = s.2;
        state = subst (λ (ys : List ℕ). IsState home.part ys) (sym s.1) v.state;
      };
    }

many_as : (form : Form) (home : Home) (places : List ℕ) → IsStockAs form home places → length places ≡ stock_as form home.part.cap
many_as inline home places h = ap length h
many_as block home places h = ap length h ∙ length-run (slice_index places 0) (suc home.part.cap)
many_as node home places h = h

pub stock_many : (home : Home) (places : List ℕ) → IsStock home places → length places ≡ stock_size home.part
unfolding IsStock
stock_many home places h = many_as (form_of home.part.kind) home places h

start_as : (form : Form) (home : Home) (first : ℕ) → IsStockAs form home (run first (stock_as form home.part.cap))
start_as inline home first = refl
start_as block home first = refl
start_as node home first = length-run first (suc home.part.cap)

pub start_stock : (home : Home) (seat : ℕ) → IsStock home (start_own home seat)
unfolding IsStock
start_stock home seat = start_as (form_of home.part.kind) home (first_own home seat)

root_as : (form : Form) (home : Home) (root : ℕ) (words : List ℕ) → ((p : ℕ) → 0 < times p (live_as form home root words) → InRange home p) → 0 < stock_as form home.part.cap → InRange home (low_of root)
root_as inline home root words inside some = absurd (omega arith)
root_as block home root words inside some = inside (low_of root) (times_run (low_of root) (suc home.part.cap) (low_of root) (omega arith) (omega arith))
root_as node home root words inside some = inside (low_of root) (let s = times_here (low_of root) (nodes_of home.part.cap root words ++ spares_of home.part.cap root words) in omega arith)

pub root_in : (home : Home) (root : ℕ) (words : List ℕ) → IsVersion home root words → 0 < stock_size home.part → InRange home (low_of root)
unfolding live
root_in home root words v some = root_as (form_of home.part.kind) home root words v.inside some

same_as : (form : Form) (home : Home) (root new : ℕ) (words : List ℕ) → low_of new ≡ low_of root
    → (live_as form home new words ≡ live_as form home root words) × (decoded_as form home new words ≡ decoded_as form home root words) × (IsFormedAs form home root words → IsFormedAs form home new words)
same_as inline home root new words e = (refl, ap (λ (n : ℕ). n ∷ []) e, λ h. h)
same_as block home root new words e = (
  ap (λ (n : ℕ). run n (suc home.part.cap)) e,
  ap (λ (n : ℕ). read_run words (n + 1) (slice_index words n)) e,
  λ h. subst (λ (n : ℕ). slice_index words n ≤ home.part.cap) (sym e) h,
)
same_as node home root new words e = (
  (λ j. e j ∷ walk home.part.cap words (first_of (slice_index words (e j))) ++ walk home.part.cap words (spare_of (slice_index words (e j)))),
  (λ j. values words (walk home.part.cap words (first_of (slice_index words (e j))))),
  λ h. record {
    nodes = ap (λ (n : ℕ). ends home.part.cap words (first_of (slice_index words n))) e ∙ h.nodes;
    spares = ap (λ (n : ℕ). ends home.part.cap words (spare_of (slice_index words n))) e ∙ h.spares;
    all = ap (λ (n : ℕ). length (walk home.part.cap words (first_of (slice_index words n))) + length (walk home.part.cap words (spare_of (slice_index words n)))) e ∙ h.all;
  },
)

-- of a root only the low part matters
pub same_form : (home : Home) (root new : ℕ) (words : List ℕ) → low_of new ≡ low_of root → (live home new words ≡ live home root words) × (decoded home new words ≡ decoded home root words) × (IsVersion home root words → IsVersion home new words)
unfolding live decoded IsFormed
same_form home root new words e =
    let s = same_as (form_of home.part.kind) home root new words e in (
      s.0,
      s.1,
      λ v. record {
        inside = λ p more. v.inside p (subst (λ (ys : List ℕ). 0 < times p ys) s.0 more);
        once = λ p. subst (λ (ys : List ℕ). times p ys ≤ 1) (sym s.0) (v.once p);
        formed = s.2 v.formed;
        state = subst (λ (ys : List ℕ). IsState home.part ys) (sym s.1) v.state;
      },
    )

-- words that were read, and words that were written
pub read_kept : (places words others : List ℕ) (rs : List Taken) → ((p : ℕ) → 0 < times p places → slice_index others p ≡ slice_index words p) → HasRead places words rs → HasRead places others rs
read_kept places words others [] same h = tt
read_kept places words others (r ∷ rs) same h = ((λ at. same r.place at ∙ h.0 at), read_kept places words others rs same h.1)

pub read_more : (places words : List ℕ) (rs : List Taken) (r : Taken) → HasRead places words rs → slice_index words r.place ≡ r.word → HasRead places words (rs ++ r ∷ [])
read_more places words [] r h e = ((λ _. e), tt)
read_more places words (x ∷ rs) r h e = (h.0, read_more places words rs r h.1 e)

pub written_kept : (words others own : List ℕ) (ws : List Write) → ((p : ℕ) → 0 < times p own → slice_index others p ≡ slice_index words p) → HasWritten words own ws → HasWritten others own ws
written_kept words others own [] same h = tt
written_kept words others own (w ∷ ws) same h = (h.0, same (slice_index own w.own) (times_at own w.own h.0) ∙ h.1, written_kept words others own ws same h.2)

pub written_more : (words own : List ℕ) (ws : List Write) (w : Write) → w.own < length own → NotWritten w.own ws → ((p : ℕ) → times p own ≤ 1) → slice_index own w.own < length words → HasWritten words own ws → HasWritten (set words (slice_index own w.own) w.value) own (ws ++ w ∷ [])
written_more words own [] w below new once there h = (below, get_or-set_same words (slice_index own w.own) w.value 0 there, tt)
written_more words own (x ∷ ws) w below new once there h = (
  h.0,
  get_or-set_other words (slice_index own w.own) (slice_index own x.own) w.value 0 (λ e. new.0 (times_once own (slice_index own x.own) x.own w.own (once (slice_index own x.own)) h.0 below refl (sym e))) ∙ h.1,
  written_more words own ws w below new.1 once there h.2,
)
