-- The words of a version in node form.
use Rattle.std.proofs.Common.{◌≡◌, ◌≢◌, ℕ, zero, suc, ◌+◌, ◌<◌, ◌≤◌, Bool, true, false, cond, eqb, List, [], ◌∷◌, ◌++◌, length, refl, sym, ap, ◌∙◌, subst, arith}
use Rattle.std.specs.Prelude.{slice_index}
use Rattle.std.proofs.lemmas.Bool.{eqb-true}
use Rattle.rx_seq.specs.States.{IsState}
use Rattle.rx_shape.specs.declared.homes.Home.{Home}
use Rattle.rx_shape.specs.Words.{low_of}
use Rattle.rx_shape.specs.Places.{times}
use Rattle.rx_shape.specs.Nodes.{no_place, first_of, spare_of, value_of, next_of, walk, ends, values}
use Rattle.rx_shape.specs.Forms.{node, form_of, InRange, nodes_of, spares_of, live, decoded, IsVersion}
use Rattle.rx_shape.specs.Versions.{HasRead}
use Rattle.rx_shape.proofs.Times.{times_here}
use Rattle.rx_shape.proofs.Chains.{stepped}
use Rattle.rx_shape.proofs.NodeForm.{live_head, live_more, decoded_node, formed_node}
use Rattle.rx_nodes.specs.Copies.{stations, leads, tops}
use Rattle.rx_nodes.specs.Chains.{IsHeld, Begins, read_along, read_nodes}
use Rattle.rx_nodes.proofs.Paths.{grow}

-- the words at places
abbrev pub words_at : List ℕ → List ℕ → List ℕ
words_at words [] = []
words_at words (p ∷ ps) = slice_index words p ∷ words_at words ps

pub length-words_at : (words ps : List ℕ) → length (words_at words ps) ≡ length ps
length-words_at words [] = refl
length-words_at words (p ∷ ps) = ap suc (length-words_at words ps)

pub values_tops : (words ps : List ℕ) → values words ps ≡ tops (words_at words ps)
values_tops words [] = refl
values_tops words (p ∷ ps) = ap (λ (vs : List ℕ). value_of (slice_index words p) ∷ vs) (values_tops words ps)

-- a walk that comes to none goes along the places to which its words lead
pub went : (n : ℕ) (words : List ℕ) (p : ℕ) → ends n words p ≡ true → (stations p (words_at words (walk n words p)) ≡ walk n words p) × (leads p (words_at words (walk n words p)) ≡ no_place)
went zero words p e = (refl, eqb-true p no_place e)
went (suc n) words p e = go (eqb p no_place) refl e (went n words (next_of (slice_index words p)))
  where
    go : (b : Bool) → eqb p no_place ≡ b → cond b true (ends n words (next_of (slice_index words p))) ≡ true
        → (ends n words (next_of (slice_index words p)) ≡ true → (stations (next_of (slice_index words p)) (words_at words (walk n words (next_of (slice_index words p)))) ≡ walk n words (next_of (slice_index words p))) × (leads (next_of (slice_index words p)) (words_at words (walk n words (next_of (slice_index words p)))) ≡ no_place))
        → (stations p (words_at words (cond b [] (p ∷ walk n words (next_of (slice_index words p))))) ≡ cond b [] (p ∷ walk n words (next_of (slice_index words p)))) × (leads p (words_at words (cond b [] (p ∷ walk n words (next_of (slice_index words p))))) ≡ no_place)
    go true is x rec = (refl, eqb-true p no_place is)
    go false is x rec = let r = rec x in (ap (λ (ps : List ℕ). p ∷ ps) r.0, r.1)

-- words that were read along a walk begin its words
pub begun : (places words : List ℕ) (n p : ℕ) (xs : List ℕ) → ends n words p ≡ true → ((q : ℕ) → 0 < times q (stations p xs) → q ≢ no_place) → HasRead places words (read_along p xs) → ((q : ℕ) → 0 < times q (walk n words p) → 0 < times q places) → Begins xs (words_at words (walk n words p))
begun places words n p [] e away read alive = tt
begun places words zero p (x ∷ xs) e away read alive = absurd (away p (let t = times_here p (stations (next_of x) xs) in omega arith) (eqb-true p no_place e))
begun places words (suc n) p (x ∷ xs) e away read alive =
    let ne : p ≢ no_place = away p (let t = times_here p (stations (next_of x) xs) in omega arith) in
    let s = stepped n words p (next_of (slice_index words p)) ne refl in
    let t = times_here p (walk n words (next_of (slice_index words p))) in
    let a = ap (times p) s.0 in
    let here : slice_index words p ≡ x = read.0 (alive p (omega arith)) in
    let next : next_of x ≡ next_of (slice_index words p) = ap next_of (sym here) in
    let rest = begun places words n (next_of x) xs (ap (ends n words) next ∙ sym s.1 ∙ e)
    (λ q at. away q (more q p (stations (next_of x) xs) at)) read.1
    (λ q at. alive q (subst (λ (ps : List ℕ). 0 < times q ps) (sym s.0) (more q p (walk n words (next_of (slice_index words p))) (subst (λ (k : ℕ). 0 < times q (walk n words k)) next at)))) in
    subst (λ (ps : List ℕ). Begins (x ∷ xs) (words_at words ps)) (sym s.0) (sym here, subst (λ (k : ℕ). Begins xs (words_at words (walk n words k))) next rest)
  where
    more : (q y : ℕ) (ys : List ℕ) → 0 < times q ys → 0 < times q (y ∷ ys)
    more q y ys at = omega arith

-- a walk whose words begin with these goes on where they lead
pub split : (m : ℕ) (words : List ℕ) (p : ℕ) (xs : List ℕ) → Begins xs (words_at words (walk (grow xs m) words p)) → ends (grow xs m) words p ≡ true
    → (walk (grow xs m) words p ≡ stations p xs ++ walk m words (leads p xs)) × (ends m words (leads p xs) ≡ true) × (values words (stations p xs) ≡ tops xs)
split m words p [] begins e = (refl, e, refl)
split m words p (x ∷ xs) begins e = go (eqb p no_place) refl begins e (split m words (next_of (slice_index words p)) xs)
  where
    go : (b : Bool) → eqb p no_place ≡ b → Begins (x ∷ xs) (words_at words (cond b [] (p ∷ walk (grow xs m) words (next_of (slice_index words p))))) → cond b true (ends (grow xs m) words (next_of (slice_index words p))) ≡ true
        → (Begins xs (words_at words (walk (grow xs m) words (next_of (slice_index words p)))) → ends (grow xs m) words (next_of (slice_index words p)) ≡ true
        → (walk (grow xs m) words (next_of (slice_index words p)) ≡ stations (next_of (slice_index words p)) xs ++ walk m words (leads (next_of (slice_index words p)) xs)) × (ends m words (leads (next_of (slice_index words p)) xs) ≡ true) × (values words (stations (next_of (slice_index words p)) xs) ≡ tops xs))
        → (cond b [] (p ∷ walk (grow xs m) words (next_of (slice_index words p))) ≡ p ∷ stations (next_of x) xs ++ walk m words (leads (next_of x) xs)) × (ends m words (leads (next_of x) xs) ≡ true) × (value_of (slice_index words p) ∷ values words (stations (next_of x) xs) ≡ value_of x ∷ tops xs)
    go true is b x' rec = absurd b
    go false is b x' rec =
        let r = rec b.1 x' in
        let next : next_of (slice_index words p) ≡ next_of x = ap next_of (sym b.0) in (
          ap (λ (ps : List ℕ). p ∷ ps) (r.0 ∙ (λ j. stations (next j) xs ++ walk m words (leads (next j) xs))),
          ap (λ (k : ℕ). ends m words (leads k xs)) (sym next) ∙ r.1,
          (λ j. value_of (sym b.0 j) ∷ values words (stations (sym next j) xs)) ∙ ap (λ (vs : List ℕ). value_of x ∷ vs) r.2,
        )

pub grown : (xs : List ℕ) (m : ℕ) → grow xs m ≡ length xs + m
grown [] m = omega arith
grown (x ∷ xs) m = let r = grown xs m in omega arith

-- what a version tells that has a header and nodes
module _ (home : Home) (form : form_of home.part.kind ≡ node) (few : home.first + home.count ≤ no_place) (root head : ℕ) (nodes : List ℕ) (inside : (p : ℕ) → 0 < times p (stations (first_of head) nodes) → InRange home p)
    (words : List ℕ) (v : IsVersion home root words) (read : HasRead (live home root words) words (read_nodes root head nodes)) where
  abbrev cap : ℕ
  cap = home.part.cap

  pub head_is : slice_index words (low_of root) ≡ head
  head_is = read.0 (live_head home form root words)

  pub nodes_walk : nodes_of cap root words ≡ walk cap words (first_of head)
  nodes_walk = ap (λ (w : ℕ). walk cap words (first_of w)) head_is

  pub spares_walk : spares_of cap root words ≡ walk cap words (spare_of head)
  spares_walk = ap (λ (w : ℕ). walk cap words (spare_of w)) head_is

  pub nodes_end : ends cap words (first_of head) ≡ true
  nodes_end = ap (λ (w : ℕ). ends cap words (first_of w)) (sym head_is) ∙ (formed_node home form root words v.formed).nodes

  pub spares_end : ends cap words (spare_of head) ≡ true
  spares_end = ap (λ (w : ℕ). ends cap words (spare_of w)) (sym head_is) ∙ (formed_node home form root words v.formed).spares

  abbrev pub ws : List ℕ
  ws = words_at words (walk cap words (first_of head))

  abbrev pub ss : List ℕ
  ss = words_at words (walk cap words (spare_of head))

  alive : (p : ℕ) → 0 < times p (walk cap words (first_of head)) → 0 < times p (live home root words)
  alive p at = let e = ap (times p) nodes_walk in live_more home form root words p (omega arith)

  spare_alive : (p : ℕ) → 0 < times p (walk cap words (spare_of head)) → 0 < times p (live home root words)
  spare_alive p at = let e = ap (times p) spares_walk in live_more home form root words p (omega arith)

  pub begins : Begins nodes ws
  begins = begun (live home root words) words cap (first_of head) nodes nodes_end (λ q at e. let r = (inside q at).below in omega arith) read.1 alive

  pub decoded_is : decoded home root words ≡ tops ws
  decoded_is = decoded_node home form root words ∙ ap (values words) nodes_walk ∙ values_tops words (walk cap words (first_of head))

  pub held : IsHeld home head ws ss
  held =
      let a = went cap words (first_of head) nodes_end in
      let b = went cap words (spare_of head) spares_end in record {
        nodes = record { inside = λ p at. v.inside p (alive p (subst (λ (ps : List ℕ). 0 < times p ps) a.0 at)); end = a.1 };
        spares = record { inside = λ p at. v.inside p (spare_alive p (subst (λ (ps : List ℕ). 0 < times p ps) b.0 at)); end = b.1 };
        all = (let x = length-words_at words (walk cap words (first_of head)) in let y = length-words_at words (walk cap words (spare_of head)) in let c = ap length nodes_walk in let d = ap length spares_walk in let e = (formed_node home form root words v.formed).all in omega arith);
        state = subst (λ (state : List ℕ). IsState home.part state) decoded_is v.state;
      }
