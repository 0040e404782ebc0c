-- Plans that take a number out.
use Rattle.std.proofs.Common.{◌≡◌, ◌≢◌, ℕ, suc, ◌+◌, ◌-◌, ◌<◌, ◌≤◌, Bool, true, false, cond, eqb, List, [], ◌∷◌, ◌++◌, length, take, refl, sym, ap, ◌∙◌, subst, arith}
use Rattle.std.specs.Prelude.{slice_index}
use Rattle.std.proofs.lemmas.List.{length-append}
use Rattle.std.proofs.lemmas.Bool.{eqb-false}
use Rattle.rx_seq.specs.declared.calls.Call.{Call}
use Rattle.rx_seq.specs.Table.{Effect, answers, effect, fits_part}
use Rattle.rx_seq.specs.Quiet.{is_quiet}
use Rattle.rx_shape.specs.declared.homes.Home.{Home}
use Rattle.rx_shape.specs.declared.plans.Taken.{Taken}
use Rattle.rx_shape.specs.Words.{pack, tag_of, low_of}
use Rattle.rx_shape.specs.Places.{times}
use Rattle.rx_shape.specs.Nodes.{no_place, node_word, next_of, first_of, spare_of, walk, ends, values}
use Rattle.rx_shape.specs.Forms.{node, form_of, stock_size, InRange, live, decoded, IsStock, IsVersion}
use Rattle.rx_shape.specs.Versions.{HasRead, HasWritten, Makes}
use Rattle.rx_shape.specs.Asks.{IsPlanned}
use Rattle.rx_shape.proofs.Times.{times_at}
use Rattle.rx_shape.proofs.Chains.{stepped}
use Rattle.rx_shape.proofs.NodeForm.{size_node, decoded_node}
use Rattle.rx_nodes.specs.Copies.{stations, leads, tops, copies, path_writes, path_pairs}
use Rattle.rx_nodes.specs.Chains.{IsHeld, Begins, IsRemoval, removed_reply, read_nodes}
use Rattle.rx_nodes.proofs.Paths.{Turn, values-append, grow, length-stations, has_more, path_makes}
use Rattle.rx_nodes.proofs.Holding.{words_at, values_tops, split, grown, nodes_walk, spares_walk, nodes_end, spares_end, ws, ss, begins, decoded_is, held}
use Rattle.rx_nodes.proofs.Copying.{path_once, pairs_below, begins_are}

-- the node that goes is the last one that was read
last_of : (words : List ℕ) (word : ℕ) (ys : List ℕ) (p n : ℕ) → Begins (ys ++ word ∷ []) (words_at words (walk (grow ys (suc n)) words p)) → (leads p ys ≢ no_place) × (slice_index words (leads p ys) ≡ word)
last_of words word [] p n b = go (eqb p no_place) refl b
  where
    go : (t : Bool) → eqb p no_place ≡ t → Begins (word ∷ []) (words_at words (cond t [] (p ∷ walk n words (next_of (slice_index words p))))) → (p ≢ no_place) × (slice_index words p ≡ word)
    go true is b = absurd b
    go false is b = (eqb-false p no_place is, sym b.0)
last_of words word (y ∷ ys) p n b = go (eqb p no_place) b (last_of words word ys (next_of (slice_index words p)) n)
  where
    go : (t : Bool) → Begins (y ∷ ys ++ word ∷ []) (words_at words (cond t [] (p ∷ walk (grow ys (suc n)) words (next_of (slice_index words p)))))
        → (Begins (ys ++ word ∷ []) (words_at words (walk (grow ys (suc n)) words (next_of (slice_index words p)))) → (leads (next_of (slice_index words p)) ys ≢ no_place) × (slice_index words (leads (next_of (slice_index words p)) ys) ≡ word))
        → (leads (next_of y) ys ≢ no_place) × (slice_index words (leads (next_of y) ys) ≡ word)
    go true b rec = absurd b
    go false b rec =
        let next : next_of (slice_index words p) ≡ next_of y = ap next_of (sym b.0) in
        subst (λ (k : ℕ). (leads k ys ≢ no_place) × (slice_index words (leads k ys) ≡ word)) next (rec b.1)

one_more : (done rest : List ℕ) (x : ℕ) → done ++ x ∷ rest ≡ (done ++ x ∷ []) ++ rest
one_more [] rest x = refl
one_more (y ∷ done) rest x = ap (λ (xs : List ℕ). y ∷ xs) (one_more done rest x)

module _ (home : Home) (form : form_of home.part.kind ≡ node) (few : home.first + home.count ≤ no_place) (call : Call) (fits : fits_part home.part call ≡ true) (root head : ℕ) (nodes : List ℕ) (inside : (p : ℕ) → 0 < times p (stations (first_of head) nodes) → InRange home p) where
  abbrev cap : ℕ
  cap = home.part.cap

  own_small : (own : List ℕ) (stock : IsStock home own) (ranges : (p : ℕ) → 0 < times p own → InRange home p) (j : ℕ) → j < length own → slice_index own j < no_place
  own_small own stock ranges j below = let r = (ranges (slice_index own j) (times_at own j below)).below in omega arith

  -- the last node that was read is taken out
  module _ (xs : List ℕ) (word : ℕ) (nodes_is : nodes ≡ xs ++ word ∷ []) (h : IsRemoval home call head nodes) (loud : is_quiet call (removed_reply call word) ≡ false) where
    abbrev gone : ℕ
    gone = leads (first_of head) xs

    abbrev place : List ℕ → ℕ
    place own = slice_index own (length xs + 1)

    abbrev reads : List Taken
    reads = read_nodes root head nodes

    abbrev extra : ℕ
    extra = node_word 0 (spare_of head)

    many_nodes : length nodes ≡ suc (length xs)
    many_nodes = ap length nodes_is ∙ length-append xs (word ∷ []) ∙ omega arith

    xs_are : take (length nodes - 1) nodes ≡ xs
    xs_are = ap (λ (n : ℕ). take n nodes) (let e = many_nodes in omega arith) ∙ ap (take (length xs)) nodes_is ∙ take_front xs
      where
        take_front : (ys : List ℕ) → take (length ys) (ys ++ word ∷ []) ≡ ys
        take_front [] = refl
        take_front (y ∷ ys) = ap (λ (zs : List ℕ). y ∷ zs) (take_front ys)

    word_is : slice_index nodes (length nodes - 1) ≡ word
    word_is = ap (slice_index nodes) (let e = many_nodes in let f : length nodes - 1 ≡ length xs = omega arith in f) ∙ ap (λ (ys : List ℕ). slice_index ys (length xs)) nodes_is ∙ at_end xs
      where
        at_end : (ys : List ℕ) → slice_index (ys ++ word ∷ []) (length ys) ≡ word
        at_end [] = refl
        at_end (y ∷ ys) = at_end ys

    module _ (words : List ℕ) (v : IsVersion home root words) (read : HasRead (live home root words) words reads) where
      abbrev m : ℕ
      m = cap - length nodes

      grown_is : grow xs (suc m) ≡ cap
      grown_is = grown xs (suc m) ∙ (let l = many_nodes in let r = h.few in omega arith)

      begins_xs : (ys zs : List ℕ) → Begins (ys ++ word ∷ []) zs → Begins ys zs
      begins_xs [] zs b = tt
      begins_xs (y ∷ ys) [] b = absurd b
      begins_xs (y ∷ ys) (z ∷ zs) b = (b.0, begins_xs ys zs b.1)

      all_begins : Begins nodes (ws home form few root head nodes inside words v read)
      all_begins = begins home form few root head nodes inside words v read

      parted : (walk (grow xs (suc m)) words (first_of head) ≡ stations (first_of head) xs ++ walk (suc m) words gone) × (ends (suc m) words gone ≡ true) × (values words (stations (first_of head) xs) ≡ tops xs)
      parted = split (suc m) words (first_of head) xs
          (subst (λ (n : ℕ). Begins xs (words_at words (walk n words (first_of head)))) (sym grown_is) (begins_xs xs _ (subst (λ (ys : List ℕ). Begins ys (ws home form few root head nodes inside words v read)) nodes_is all_begins)))
          (ap (λ (n : ℕ). ends n words (first_of head)) grown_is ∙ nodes_end home form few root head nodes inside words v read)

      gone_is : (gone ≢ no_place) × (slice_index words gone ≡ word)
      gone_is = last_of words word xs (first_of head) m
          (subst (λ (n : ℕ). Begins (xs ++ word ∷ []) (words_at words (walk n words (first_of head)))) (sym grown_is) (subst (λ (ys : List ℕ). Begins ys (ws home form few root head nodes inside words v read)) nodes_is all_begins))

      abbrev rest : List ℕ
      rest = walk m words (next_of word)

      step : (walk (suc m) words gone ≡ gone ∷ rest) × (ends (suc m) words gone ≡ ends m words (next_of word))
      step = stepped m words gone (next_of word) gone_is.0 (ap next_of gone_is.1)

      whole : walk cap words (first_of head) ≡ stations (first_of head) xs ++ gone ∷ rest
      whole = ap (λ (n : ℕ). walk n words (first_of head)) (sym grown_is) ∙ parted.0 ∙ ap (λ (ps : List ℕ). stations (first_of head) xs ++ ps) step.0

      abbrev sp : List ℕ
      sp = walk cap words (spare_of head)

      ws_is : ws home form few root head nodes inside words v read ≡ nodes ++ words_at words rest
      ws_is = ap (words_at words) whole ∙ ap (words_at words) (one_more (stations (first_of head) xs) rest gone)
          ∙ begins_are words nodes (stations (first_of head) xs ++ gone ∷ []) rest
          (subst (λ (ps : List ℕ). Begins nodes (words_at words ps)) (whole ∙ one_more (stations (first_of head) xs) rest gone) all_begins)
          (length-append (stations (first_of head) xs) (gone ∷ []) ∙ (let a = length-stations (first_of head) xs in let b = many_nodes in omega arith))

      effect_of : effect home.part (decoded home root words) call ≡ answers (tops xs ++ values words rest) (removed_reply call word)
      effect_of =
          ap (λ (vs : List ℕ). effect home.part vs call) (decoded_is home form few root head nodes inside words v read ∙ ap tops ws_is)
          ∙ h.does (words_at words rest) (ss home form few root head nodes inside words v read) (subst (λ (ys : List ℕ). IsHeld home head ys (ss home form few root head nodes inside words v read)) ws_is (held home form few root head nodes inside words v read))
          ∙ (λ j. answers (tops (xs_are j) ++ sym (values_tops words rest) j) (removed_reply call (word_is j)))

      effect_is : effect home.part (tops xs ++ values words (gone ∷ rest)) call ≡ answers (tops xs ++ values words rest) (removed_reply call word)
      effect_is = ap (λ (vs : List ℕ). effect home.part vs call) (sym old_is) ∙ effect_of
        where
          old_is : decoded home root words ≡ tops xs ++ values words (gone ∷ rest)
          old_is = decoded_node home form root words ∙ ap (values words) (nodes_walk home form few root head nodes inside words v read ∙ whole) ∙ values-append words (stations (first_of head) xs) (gone ∷ rest) ∙ ap (λ (vs : List ℕ). vs ++ values words (gone ∷ rest)) parted.2

      pub removed_says : removed_reply call word ≡ (effect home.part (decoded home root words) call).reply
      removed_says = sym (ap (λ (e : Effect). e.reply) effect_of)

      module _ (own : List ℕ) (stock : IsStock home own) (ranges : (p : ℕ) → 0 < times p own → InRange home p) (written : HasWritten words own (path_writes own xs (next_of word) (place own) extra)) where
        last : (length xs + 1 < length own) × (slice_index words (slice_index own (length xs + 1)) ≡ extra)
        last = let w = (has_more words own (copies 1 own xs (next_of word)) (record { own = length xs + 1; value = extra } ∷ []) written.2).1 in (w.0, w.1)

        spare_step : (walk (suc cap) words (place own) ≡ (place own) ∷ sp) × (ends (suc cap) words (place own) ≡ ends cap words (spare_of head))
        spare_step = stepped cap words (place own) (spare_of head) (λ e. let l = last.0 in let o = own_small own stock ranges (length xs + 1) l in omega arith) (ap next_of last.1 ∙ omega arith)

        turn : Turn home form few call fits root own stock ranges head xs (let a = many_nodes in let b = h.few in omega arith) (next_of word) (place own) extra gone (omega arith) (let l = last.0 in let o = own_small own stock ranges (length xs + 1) l in omega arith) (removed_reply call word) loud
            words rest (place own ∷ sp) (gone ∷ rest) sp m (suc cap)
        turn = record {
          tail_is = refl;
          tail_ends = sym step.1 ∙ parted.1;
          left_is = spare_step.0;
          left_ends = spare_step.1 ∙ spares_end home form few root head nodes inside words v read;
          nodes_are = nodes_walk home form few root head nodes inside words v read ∙ whole;
          spares_are = spares_walk home form few root head nodes inside words v read;
          values_are = parted.2;
          swap = λ p. omega arith;
          size = omega arith;
          effect_is = effect_is;
        }

        pub removed_makes : ((p : ℕ) → times p (live home root words) + times p own ≤ 1) → Makes home call root own (pack (tag_of root + 1) (slice_index own 0)) (path_pairs root head xs gone) words
        removed_makes apart = path_makes home form few call fits root own stock ranges head xs (let a = many_nodes in let b = h.few in omega arith) (next_of word) (place own) extra gone (omega arith) (let l = last.0 in let o = own_small own stock ranges (length xs + 1) l in omega arith) (removed_reply call word) loud
            words v apart written rest (place own ∷ sp) (gone ∷ rest) sp m (suc cap) turn

    pub removed_planned : (own : List ℕ) (stock : IsStock home own) (ranges : (p : ℕ) → 0 < times p own → InRange home p) → IsPlanned home call root reads own (pack (tag_of root + 1) (slice_index own 0)) (path_writes own xs (next_of word) (place own) extra) (path_pairs root head xs gone) (removed_reply call word)
    removed_planned own stock ranges =
        let size = size_node home form in
        let l = many_nodes in let r = h.few in
        let a = length-append (stations (first_of head) xs) (gone ∷ []) in
        let b = length-stations (first_of head) xs in
        record {
          plans = record { works = λ words v read apart written. removed_makes words v read own stock ranges written apart };
          once = path_once (stock_size home.part) own xs (next_of word) (place own) extra (omega arith);
          below = pairs_below (stock_size home.part) 0 (low_of root ∷ stations (first_of head) xs ++ gone ∷ []) (omega arith);
          says = λ words v read. removed_says words v read;
          quiet = λ quiet. cc;
        }
