-- Plans that copy the nodes before the one that changes.
use Rattle.std.proofs.Common.{◌≡◌, ℕ, zero, suc, ◌+◌, ◌<◌, ◌≤◌, true, false, List, [], ◌∷◌, ◌++◌, length, drop, refl, sym, ap, ◌∙◌, subst, arith}
use Rattle.std.specs.Prelude.{slice_index, slice_set}
use Rattle.std.proofs.lemmas.List.{length-set, length-append}
use mathlib.Core.Logic.{dite}
use native.Mathlib.Decide.{ℕ_discrete}
use Rattle.rx_seq.specs.declared.calls.Call.{Call}
use Rattle.rx_seq.specs.declared.replies.Reply.{Reply}
use Rattle.rx_seq.specs.Table.{Effect, answers, effect, fits_part}
use Rattle.rx_seq.specs.Quiet.{is_quiet, raised}
use Rattle.rx_seq.specs.States.{IsState}
use Rattle.rx_seq.proofs.Kept.{state_kept}
use Rattle.rx_shape.specs.declared.homes.Home.{Home}
use Rattle.rx_shape.specs.declared.plans.Pair.{Pair}
use Rattle.rx_shape.specs.declared.plans.Write.{Write}
use Rattle.rx_shape.specs.Words.{pack, tag_of, low_of}
use Rattle.rx_shape.specs.Places.{times}
use Rattle.rx_shape.specs.Nodes.{no_place, value_of, next_of, header_word, first_of, spare_of, walk, ends, values}
use Rattle.rx_shape.specs.Forms.{node, form_of, InRange, nodes_of, spares_of, IsLinked, live, decoded, IsStock, IsVersion}
use Rattle.rx_shape.specs.Versions.{HasWritten, traded, Makes}
use Rattle.rx_shape.proofs.Times.{times_at, times-append}
use Rattle.rx_shape.proofs.Chains.{stepped, short}
use Rattle.rx_shape.proofs.NodeForm.{live_node, decoded_node, formed_node, node_is_formed, stock_node, node_is_stock}
use Rattle.rx_shape.proofs.Quiet.{raised_loud}
use Rattle.rx_nodes.specs.Copies.{stations, tops, lead, copies, pairs_from, path_writes, path_pairs}

-- so many places of a list from a number on
abbrev pub part_of : List ℕ → ℕ → ℕ → List ℕ
part_of own k zero = []
part_of own k (suc n) = slice_index own k ∷ part_of own (suc k) n

pub length-part : (own : List ℕ) (k n : ℕ) → length (part_of own k n) ≡ n
length-part own k zero = refl
length-part own k (suc n) = ap suc (length-part own (suc k) n)

pub length-stations : (p : ℕ) (xs : List ℕ) → length (stations p xs) ≡ length xs
length-stations p [] = refl
length-stations p (x ∷ xs) = ap suc (length-stations (next_of x) xs)

pub length-tops : (xs : List ℕ) → length (tops xs) ≡ length xs
length-tops [] = refl
length-tops (x ∷ xs) = ap suc (length-tops xs)

pub length-copies : (k : ℕ) (own xs : List ℕ) (end : ℕ) → length (copies k own xs end) ≡ length xs
length-copies k own [] end = refl
length-copies k own (x ∷ xs) end = ap suc (length-copies (suc k) own xs end)

-- a number and the length of a list
abbrev pub grow : List ℕ → ℕ → ℕ
grow [] n = n
grow (x ∷ xs) n = suc (grow xs n)

-- a walk along copies goes on where they lead
chain : (words own : List ℕ) (n k : ℕ) (xs : List ℕ) (end : ℕ) → HasWritten words own (copies k own xs end) → ((j : ℕ) → j < length own → slice_index own j < no_place) → end < 16777216 → k + length xs ≤ length own
    → (walk (grow xs n) words (lead k own xs end) ≡ part_of own k (length xs) ++ walk n words end) × (ends (grow xs n) words (lead k own xs end) ≡ ends n words end) × (values words (part_of own k (length xs)) ≡ tops xs)
chain words own n k [] end written small few fits = (refl, refl, refl)
chain words own n k (x ∷ xs) end written small few fits =
    let here = small k (omega arith) in
    let next : ℕ = lead (suc k) own xs end in
    let next_few : next < 16777216 = lead_few xs refl in
    let word = written.1 in
    let step = stepped (grow xs n) words (slice_index own k) next (λ e. omega arith) (omega arith) in
    let value : value_of (slice_index words (slice_index own k)) ≡ value_of x = omega arith in
    let rest = chain words own n (suc k) xs end written.2 small few (omega arith) in
    (step.0 ∙ ap (λ (ps : List ℕ). slice_index own k ∷ ps) rest.0, step.1 ∙ rest.1, λ j. value j ∷ rest.2 j)
  where
    lead_few : (ys : List ℕ) → (length ys ≡ length xs) → lead (suc k) own ys end < 16777216
    lead_few [] same = few
    lead_few (y ∷ ys) same = let s = small (suc k) (omega arith) in omega arith

-- a trade of the first places
shift : (y : ℕ) (ys : List ℕ) (k : ℕ) (qs : List ℕ) → traded (y ∷ ys) (pairs_from (suc k) qs) ≡ y ∷ traded ys (pairs_from k qs)
shift y ys k [] = refl
shift y ys k (q ∷ qs) = shift y (slice_set ys k q) (suc k) qs

traded_first : (qs own : List ℕ) → length qs ≤ length own → traded own (pairs_from 0 qs) ≡ qs ++ drop (length qs) own
traded_first [] own le = refl
traded_first (q ∷ qs) [] le = absurd (omega arith)
traded_first (q ∷ qs) (y ∷ own) le = shift q own 0 qs ∙ ap (λ (ps : List ℕ). q ∷ ps) (traded_first qs own (omega arith))

length-traded : (ps : List Pair) (own : List ℕ) → length (traded own ps) ≡ length own
length-traded [] own = refl
length-traded (p ∷ ps) own = length-traded ps (slice_set own p.own p.place) ∙ length-set own p.own p.place

part_shift : (y : ℕ) (own : List ℕ) (k n : ℕ) → part_of (y ∷ own) (suc k) n ≡ part_of own k n
part_shift y own k zero = refl
part_shift y own k (suc n) = ap (λ (ps : List ℕ). slice_index own k ∷ ps) (part_shift y own (suc k) n)

first_part : (n : ℕ) (own : List ℕ) → n ≤ length own → part_of own 0 n ++ drop n own ≡ own
first_part zero own le = refl
first_part (suc n) [] le = absurd (omega arith)
first_part (suc n) (y ∷ own) le = ap (λ (ps : List ℕ). y ∷ ps ++ drop n own) (part_shift y own 0 n) ∙ ap (λ (ps : List ℕ). y ∷ ps) (first_part n own (omega arith))

part_last : (own : List ℕ) (k n p : ℕ) → times p (part_of own k (suc n)) ≡ times p (part_of own k n) + times p (slice_index own (k + n) ∷ [])
part_last own k zero p = let e : k ≡ k + 0 = omega arith in ap (λ (j : ℕ). times p (slice_index own j ∷ [])) e ∙ omega arith
part_last own k (suc n) p =
    let r = part_last own (suc k) n p in
    let e : suc k + n ≡ k + suc n = omega arith in
    let f = ap (λ (j : ℕ). times p (slice_index own j ∷ [])) e in omega arith

times_own : (p n : ℕ) (own : List ℕ) → suc (suc n) ≤ length own → times p own ≡ times p (slice_index own 0 ∷ []) + times p (part_of own 1 n) + times p (slice_index own (n + 1) ∷ []) + times p (drop (suc (suc n)) own)
times_own p n own le =
    let a = ap (times p) (sym (first_part (suc (suc n)) own le)) in
    let b = times-append p (part_of own 0 (suc (suc n))) (drop (suc (suc n)) own) in
    let c = part_last own 1 n p in
    let e : 1 + n ≡ n + 1 = omega arith in
    let f = ap (λ (j : ℕ). times p (slice_index own j ∷ [])) e in omega arith

pub has_more : (words own : List ℕ) (ws more : List Write) → HasWritten words own (ws ++ more) → HasWritten words own ws × HasWritten words own more
has_more words own [] more h = (tt, h)
has_more words own (w ∷ ws) more h = let r = has_more words own ws more h.2 in ((h.0, h.1, r.0), r.1)

pub values-append : (words ps qs : List ℕ) → values words (ps ++ qs) ≡ values words ps ++ values words qs
values-append words [] qs = refl
values-append words (p ∷ ps) qs = ap (λ (vs : List ℕ). value_of (slice_index words p) ∷ vs) (values-append words ps qs)

-- the copied nodes, the end to which the last of them leads, the first spare node, and one more node
module _ (home : Home) (form : form_of home.part.kind ≡ node) (few : home.first + home.count ≤ no_place) (call : Call) (fits : fits_part home.part call ≡ true) (root : ℕ) (own : List ℕ) (stock : IsStock home own) (ranges : (p : ℕ) → 0 < times p own → InRange home p)
    (head : ℕ) (xs : List ℕ) (room : length xs < home.part.cap) (end spare extra place : ℕ) (end_few : end < 16777216) (spare_few : spare < 16777216) (reply : Reply) (loud : is_quiet call reply ≡ false) where
  abbrev cap : ℕ
  cap = home.part.cap

  abbrev new : ℕ
  new = pack (tag_of root + 1) (slice_index own 0)

  many_own : length own ≡ suc cap
  many_own = stock_node home form own stock

  own_small : (j : ℕ) → j < length own → slice_index own j < no_place
  own_small j below = let r = (ranges (slice_index own j) (times_at own j below)).below in omega arith

  low_new : low_of new ≡ slice_index own 0
  low_new = let many = many_own in let s = own_small 0 (omega arith) in omega arith

  tag_new : tag_of new ≡ tag_of root + 1
  tag_new = let many = many_own in let s = own_small 0 (omega arith) in omega arith

  abbrev gone : List ℕ
  gone = low_of root ∷ stations (first_of head) xs ++ place ∷ []

  gone_many : length gone ≡ suc (suc (length xs))
  gone_many = let a = length-append (stations (first_of head) xs) (place ∷ []) in let b = length-stations (first_of head) xs in omega arith

  trade_is : traded own (path_pairs root head xs place) ≡ gone ++ drop (suc (suc (length xs))) own
  trade_is = traded_first gone own (let g = gone_many in let n = many_own in omega arith) ∙ ap (λ (n : ℕ). gone ++ drop n own) gone_many

  -- what the words tell of the old version and of what the new one goes on with
  pub record Turn (words tail left old others : List ℕ) (n k : ℕ) : Type 0 where
    pub tail_is : walk n words end ≡ tail
    pub tail_ends : ends n words end ≡ true
    pub left_is : walk k words spare ≡ left
    pub left_ends : ends k words spare ≡ true
    pub nodes_are : nodes_of cap root words ≡ stations (first_of head) xs ++ old
    pub spares_are : spares_of cap root words ≡ others
    pub values_are : values words (stations (first_of head) xs) ≡ tops xs
    pub swap : (p : ℕ) → times p tail + times p left + times p (place ∷ []) ≡ times p old + times p others + times p (slice_index own (length xs + 1) ∷ [])
    pub size : length tail + length left ≡ length old + length others
    pub effect_is : effect home.part (tops xs ++ values words old) call ≡ answers (tops xs ++ values words tail) reply

  module _ (words : List ℕ) (v : IsVersion home root words) (apart : (p : ℕ) → times p (live home root words) + times p own ≤ 1) (written : HasWritten words own (path_writes own xs end spare extra))
      (tail left old others : List ℕ) (n k : ℕ) (turn : Turn words tail left old others n k) where
    was : IsLinked cap root words
    was = formed_node home form root words v.formed

    head_new : slice_index words (low_of new) ≡ header_word (lead 1 own xs end) spare
    head_new = ap (slice_index words) low_new ∙ written.1

    lead_few : (ys : List ℕ) → length ys ≡ length xs → lead 1 own ys end < 16777216
    lead_few [] same = end_few
    lead_few (y ∷ ys) same = let many = many_own in let s = own_small 1 (omega arith) in omega arith

    first_new : first_of (slice_index words (low_of new)) ≡ lead 1 own xs end
    first_new = ap first_of head_new ∙ (let s = lead_few xs refl in let t = spare_few in omega arith)

    spare_new : spare_of (slice_index words (low_of new)) ≡ spare
    spare_new = ap spare_of head_new ∙ (let t = spare_few in omega arith)

    chained : (walk (grow xs n) words (lead 1 own xs end) ≡ part_of own 1 (length xs) ++ walk n words end) × (ends (grow xs n) words (lead 1 own xs end) ≡ ends n words end) × (values words (part_of own 1 (length xs)) ≡ tops xs)
    chained = chain words own n 1 xs end (has_more words own (copies 1 own xs end) (record { own = length xs + 1; value = extra } ∷ []) written.2).0 own_small end_few (let many = many_own in omega arith)

    counts : length xs + length old + length others ≡ cap
    counts = let a = ap length turn.nodes_are in let b = ap length turn.spares_are in let c = length-append (stations (first_of head) xs) old in let d = length-stations (first_of head) xs in let e = was.all in omega arith

    along : walk (grow xs n) words (lead 1 own xs end) ≡ part_of own 1 (length xs) ++ tail
    along = chained.0 ∙ ap (λ (ps : List ℕ). part_of own 1 (length xs) ++ ps) turn.tail_is

    kept_nodes : (walk cap words (lead 1 own xs end) ≡ walk (grow xs n) words (lead 1 own xs end)) × (ends cap words (lead 1 own xs end) ≡ true)
    kept_nodes = short (grow xs n) cap words (lead 1 own xs end) (chained.1 ∙ turn.tail_ends)
        (let a = ap length along in let b = length-append (part_of own 1 (length xs)) tail in let c = length-part own 1 (length xs) in let d = counts in let e = turn.size in omega arith)

    kept_spares : (walk cap words spare ≡ walk k words spare) × (ends cap words spare ≡ true)
    kept_spares = short k cap words spare turn.left_ends (let a = ap length turn.left_is in let d = counts in let e = turn.size in omega arith)

    nodes_new : nodes_of cap new words ≡ part_of own 1 (length xs) ++ tail
    nodes_new = ap (walk cap words) first_new ∙ kept_nodes.0 ∙ along

    spares_new : spares_of cap new words ≡ left
    spares_new = ap (walk cap words) spare_new ∙ kept_spares.0 ∙ turn.left_is

    now : IsLinked cap new words
    now = record {
      nodes = ap (ends cap words) first_new ∙ kept_nodes.1;
      spares = ap (ends cap words) spare_new ∙ kept_spares.1;
      all = (λ j. length (nodes_new j) + length (spares_new j)) ∙ (let b = length-append (part_of own 1 (length xs)) tail in let c = length-part own 1 (length xs) in let d = counts in let e = turn.size in omega arith);
    }

    live_new : live home new words ≡ slice_index own 0 ∷ (part_of own 1 (length xs) ++ tail) ++ left
    live_new = live_node home form new words ∙ (λ j. low_new j ∷ nodes_new j ++ spares_new j)

    live_old : live home root words ≡ low_of root ∷ (stations (first_of head) xs ++ old) ++ others
    live_old = live_node home form root words ∙ (λ j. low_of root ∷ turn.nodes_are j ++ turn.spares_are j)

    counted : (p : ℕ) → times p (live home new words) + times p (traded own (path_pairs root head xs place)) ≡ times p (live home root words) + times p own
    counted p =
        let a = ap (times p) live_new in
        let b = ap (times p) live_old in
        let d = ap (times p) trade_is in
        let e = times-append p (part_of own 1 (length xs) ++ tail) left in
        let f = times-append p (part_of own 1 (length xs)) tail in
        let g = times-append p (stations (first_of head) xs ++ old) others in
        let i = times-append p (stations (first_of head) xs) old in
        let l = times-append p gone (drop (suc (suc (length xs))) own) in
        let o = times-append p (stations (first_of head) xs) (place ∷ []) in
        let q = times_own p (length xs) own (let many = many_own in omega arith) in
        let s = turn.swap p in
        omega arith

    decoded_old : decoded home root words ≡ tops xs ++ values words old
    decoded_old = decoded_node home form root words ∙ ap (values words) turn.nodes_are ∙ values-append words (stations (first_of head) xs) old ∙ ap (λ (vs : List ℕ). vs ++ values words old) turn.values_are

    decoded_new : decoded home new words ≡ tops xs ++ values words tail
    decoded_new = decoded_node home form new words ∙ ap (values words) nodes_new ∙ values-append words (part_of own 1 (length xs)) tail ∙ ap (λ (vs : List ℕ). vs ++ values words tail) chained.2

    pub does : effect home.part (decoded home root words) call ≡ answers (decoded home new words) reply
    does = ap (λ (state : List ℕ). effect home.part state call) decoded_old ∙ turn.effect_is ∙ ap (λ (state : List ℕ). answers state reply) (sym decoded_new)

    more : (p : ℕ) → times p (live home new words) ≤ 1
    more p = let c = counted p in let a = apart p in omega arith

    pub path_makes : Makes home call root own new (path_pairs root head xs place) words
    path_makes = record {
      version = record {
        inside = λ p at. let c = counted p in dite (ℕ_discrete (times p (live home root words)) 0) (λ z. ranges p (omega arith)) (λ nz. v.inside p (omega arith));
        once = more;
        formed = node_is_formed home form new words now;
        state = subst (λ (state : List ℕ). IsState home.part state) (ap (λ (e : Effect). e.state) does) (state_kept home.part (decoded home root words) call v.state fits);
      };
      state = sym (ap (λ (e : Effect). e.state) does);
      tag = tag_new ∙ (let r = raised_loud call reply loud in let e = ap (raised call) (ap (λ (e : Effect). e.reply) does) in omega arith);
      quiet = λ quiet. let same = ap (is_quiet call) (ap (λ (e : Effect). e.reply) does) in cc;
      places = counted;
      stock = node_is_stock home form (traded own (path_pairs root head xs place)) (length-traded (path_pairs root head xs place) own ∙ many_own);
    }
