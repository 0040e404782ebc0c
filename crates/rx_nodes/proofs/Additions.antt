-- Plans that add a number.
use Rattle.std.proofs.Common.{◌≡◌, ◌≢◌, ℕ, suc, ◌+◌, ◌-◌, ◌<◌, ◌≤◌, true, false, List, [], ◌∷◌, ◌++◌, length, take, refl, sym, ap, ◌∙◌, subst, arith}
use Rattle.std.specs.Prelude.{slice_index}
use Rattle.std.proofs.lemmas.List.{length-append, length-take-le}
use Rattle.rx_seq.specs.declared.calls.Call.{Call}
use Rattle.rx_seq.specs.Table.{Effect, answers, effect, fits_part}
use Rattle.rx_seq.specs.Quiet.{is_quiet}
use Rattle.rx_shape.specs.declared.homes.Home.{Home}
use Rattle.rx_shape.specs.declared.plans.Taken.{Taken}
use Rattle.rx_shape.specs.Words.{pack, tag_of, low_of}
use Rattle.rx_shape.specs.Places.{times}
use Rattle.rx_shape.specs.Nodes.{no_place, node_word, value_of, next_of, first_of, spare_of, walk, ends, values}
use Rattle.rx_shape.specs.Forms.{node, form_of, stock_size, InRange, live, decoded, IsStock, IsVersion}
use Rattle.rx_shape.specs.Versions.{HasRead, HasWritten, Makes}
use Rattle.rx_shape.specs.Asks.{IsPlanned}
use Rattle.rx_shape.proofs.Times.{times_at}
use Rattle.rx_shape.proofs.Chains.{stepped, walk_begins}
use Rattle.rx_shape.proofs.NodeForm.{size_node, live_more}
use Rattle.rx_nodes.specs.Copies.{stations, leads, tops, copies, path_writes, path_pairs}
use Rattle.rx_nodes.specs.Chains.{IsHeld, Begins, IsAddition, added_value, added_reply, read_nodes}
use Rattle.rx_nodes.proofs.Paths.{Turn, grow, length-stations, has_more, path_makes}
use Rattle.rx_nodes.proofs.Holding.{words_at, values_tops, split, grown, nodes_walk, spares_walk, nodes_end, spares_end, ws, ss, begins, decoded_is, held}
use Rattle.rx_nodes.proofs.Copying.{path_once, pairs_below, read_before, begins_take, begins_are, tops-append}

module _ (home : Home) (form : form_of home.part.kind ≡ node) (few : home.first + home.count ≤ no_place) (call : Call) (fits : fits_part home.part call ≡ true) (root head : ℕ) (nodes : List ℕ) (inside : (p : ℕ) → 0 < times p (stations (first_of head) nodes) → InRange home p) where
  abbrev cap : ℕ
  cap = home.part.cap

  own_small : (own : List ℕ) (stock : IsStock home own) (ranges : (p : ℕ) → 0 < times p own → InRange home p) (j : ℕ) → j < length own → slice_index own j < no_place
  own_small own stock ranges j below = let r = (ranges (slice_index own j) (times_at own j below)).below in omega arith

  -- a number is added
  module _ (before kept word : ℕ) (h : IsAddition home call head nodes before kept) (kept_few : kept < 16777216) (spare_in : InRange home (spare_of head)) (loud : is_quiet call (added_reply call before) ≡ false) where
    abbrev xs : List ℕ
    xs = take before nodes

    long : length xs ≡ before
    long = length-take-le before nodes h.among

    abbrev place : List ℕ → ℕ
    place own = slice_index own (before + 1)

    abbrev reads : List Taken
    reads = read_nodes root head nodes ++ record { place = spare_of head; word = word } ∷ []

    abbrev extra : ℕ
    extra = node_word (added_value call) kept

    module _ (words : List ℕ) (v : IsVersion home root words) (read : HasRead (live home root words) words reads) where
      parts : HasRead (live home root words) words (read_nodes root head nodes) × HasRead (live home root words) words (record { place = spare_of head; word = word } ∷ [])
      parts = read_before (live home root words) words (read_nodes root head nodes) (record { place = spare_of head; word = word } ∷ []) read

      abbrev m : ℕ
      m = cap - before

      grown_is : grow xs m ≡ cap
      grown_is = grown xs m ∙ (let l = long in let r = h.room in omega arith)

      parted : (walk (grow xs m) words (first_of head) ≡ stations (first_of head) xs ++ walk m words (leads (first_of head) xs)) × (ends m words (leads (first_of head) xs) ≡ true) × (values words (stations (first_of head) xs) ≡ tops xs)
      parted = split m words (first_of head) xs
          (subst (λ (n : ℕ). Begins xs (words_at words (walk n words (first_of head)))) (sym grown_is) (begins_take before nodes (ws home form few root head nodes inside words v parts.0) (begins home form few root head nodes inside words v parts.0)))
          (ap (λ (n : ℕ). ends n words (first_of head)) grown_is ∙ nodes_end home form few root head nodes inside words v parts.0)

      abbrev rest : List ℕ
      rest = walk m words kept

      whole : walk cap words (first_of head) ≡ stations (first_of head) xs ++ rest
      whole = ap (λ (n : ℕ). walk n words (first_of head)) (sym grown_is) ∙ parted.0 ∙ ap (λ (p : ℕ). stations (first_of head) xs ++ walk m words p) h.leads_to

      rest_ends : ends m words kept ≡ true
      rest_ends = ap (ends m words) (sym h.leads_to) ∙ parted.1

      spare_far : spare_of head ≢ no_place
      spare_far e = let r = spare_in.below in omega arith

      abbrev c : ℕ
      c = cap - 1

      cap_is : suc c ≡ cap
      cap_is = let r = h.room in omega arith

      spare_live : 0 < times (spare_of head) (live home root words)
      spare_live =
          let b = walk_begins cap words (spare_of head) spare_far (spares_end home form few root head nodes inside words v parts.0) in
          let e = ap (times (spare_of head)) (spares_walk home form few root head nodes inside words v parts.0) in
          live_more home form root words (spare_of head) (omega arith)

      spare_word : slice_index words (spare_of head) ≡ word
      spare_word = parts.1.0 spare_live

      opened : (walk (suc c) words (spare_of head) ≡ spare_of head ∷ walk c words (next_of word)) × (ends (suc c) words (spare_of head) ≡ ends c words (next_of word))
      opened = stepped c words (spare_of head) (next_of word) spare_far (ap next_of spare_word)

      abbrev left : List ℕ
      left = walk c words (next_of word)

      spares_are : walk cap words (spare_of head) ≡ spare_of head ∷ left
      spares_are = ap (λ (n : ℕ). walk n words (spare_of head)) (sym cap_is) ∙ opened.0

      ws_is : ws home form few root head nodes inside words v parts.0 ≡ xs ++ words_at words rest
      ws_is = ap (words_at words) whole ∙ begins_are words xs (stations (first_of head) xs) rest
          (subst (λ (ps : List ℕ). Begins xs (words_at words ps)) whole (begins_take before nodes (ws home form few root head nodes inside words v parts.0) (begins home form few root head nodes inside words v parts.0)))
          (length-stations (first_of head) xs)

      effect_is : effect home.part (tops xs ++ values words rest) call ≡ answers (tops xs ++ added_value call ∷ values words rest) (added_reply call before)
      effect_is =
          ap (λ (vs : List ℕ). effect home.part (tops xs ++ vs) call) (values_tops words rest)
          ∙ ap (λ (vs : List ℕ). effect home.part vs call) (sym (tops-append xs (words_at words rest)))
          ∙ h.does (words_at words rest) (ss home form few root head nodes inside words v parts.0)
          (subst (λ (ys : List ℕ). IsHeld home head ys (ss home form few root head nodes inside words v parts.0)) ws_is (held home form few root head nodes inside words v parts.0))
          (subst (Begins nodes) ws_is (begins home form few root head nodes inside words v parts.0))
          ∙ ap (λ (vs : List ℕ). answers (tops xs ++ added_value call ∷ vs) (added_reply call before)) (sym (values_tops words rest))

      pub added_says : added_reply call before ≡ (effect home.part (decoded home root words) call).reply
      added_says = sym (ap (λ (e : Effect). e.reply) (ap (λ (vs : List ℕ). effect home.part vs call) (decoded_is home form few root head nodes inside words v parts.0 ∙ ap tops ws_is ∙ tops-append xs (words_at words rest) ∙ ap (λ (vs : List ℕ). tops xs ++ vs) (sym (values_tops words rest))) ∙ effect_is))

      module _ (own : List ℕ) (stock : IsStock home own) (ranges : (p : ℕ) → 0 < times p own → InRange home p) (written : HasWritten words own (path_writes own xs (place own) (next_of word) extra)) where
        last : (length xs + 1 < length own) × (slice_index words (slice_index own (length xs + 1)) ≡ extra)
        last = let w = (has_more words own (copies 1 own xs (place own)) (record { own = length xs + 1; value = extra } ∷ []) written.2).1 in (w.0, w.1)

        place_is : slice_index own (length xs + 1) ≡ (place own)
        place_is = ap (λ (n : ℕ). slice_index own (n + 1)) long

        new_word : slice_index words (place own) ≡ extra
        new_word = ap (slice_index words) (sym place_is) ∙ last.1

        new_step : (walk (suc m) words (place own) ≡ (place own) ∷ rest) × (ends (suc m) words (place own) ≡ ends m words kept)
        new_step = stepped m words (place own) kept (λ e. let l = last.0 in let o = own_small own stock ranges (length xs + 1) l in let p = place_is in omega arith) (ap next_of new_word ∙ (let k = kept_few in omega arith))

        new_value : value_of (slice_index words (place own)) ≡ added_value call
        new_value = ap value_of new_word ∙ (let k = kept_few in omega arith)

        turn : Turn home form few call fits root own stock ranges head xs (let l = long in let r = h.room in omega arith) (place own) (next_of word) extra (spare_of head) (let l = last.0 in let o = own_small own stock ranges (length xs + 1) l in let p = place_is in omega arith) (omega arith) (added_reply call before) loud
            words (place own ∷ rest) left rest (spare_of head ∷ left) (suc m) c
        turn = record {
          tail_is = new_step.0;
          tail_ends = new_step.1 ∙ rest_ends;
          left_is = refl;
          left_ends = sym opened.1 ∙ ap (λ (n : ℕ). ends n words (spare_of head)) cap_is ∙ spares_end home form few root head nodes inside words v parts.0;
          nodes_are = nodes_walk home form few root head nodes inside words v parts.0 ∙ whole;
          spares_are = spares_walk home form few root head nodes inside words v parts.0 ∙ spares_are;
          values_are = parted.2;
          swap = λ p. let e = ap (λ (q : ℕ). times p (q ∷ [])) place_is in omega arith;
          size = omega arith;
          effect_is = effect_is ∙ ap (λ (n : ℕ). answers (tops xs ++ n ∷ values words rest) (added_reply call before)) (sym new_value);
        }

        pub added_makes : ((p : ℕ) → times p (live home root words) + times p own ≤ 1) → Makes home call root own (pack (tag_of root + 1) (slice_index own 0)) (path_pairs root head xs (spare_of head)) words
        added_makes apart = path_makes home form few call fits root own stock ranges head xs (let l = long in let r = h.room in omega arith) (place own) (next_of word) extra (spare_of head) (let l = last.0 in let o = own_small own stock ranges (length xs + 1) l in let p = place_is in omega arith) (omega arith) (added_reply call before) loud
            words v apart written (place own ∷ rest) left rest (spare_of head ∷ left) (suc m) c turn

    pub added_planned : (own : List ℕ) (stock : IsStock home own) (ranges : (p : ℕ) → 0 < times p own → InRange home p) → IsPlanned home call root reads own (pack (tag_of root + 1) (slice_index own 0)) (path_writes own xs (place own) (next_of word) extra) (path_pairs root head xs (spare_of head)) (added_reply call before)
    added_planned own stock ranges =
        let size = size_node home form in
        let l = long in let r = h.room in
        let a = length-append (stations (first_of head) xs) (spare_of head ∷ []) in
        let b = length-stations (first_of head) xs in
        record {
          plans = record { works = λ words v read apart written. added_makes words v read own stock ranges written apart };
          once = path_once (stock_size home.part) own xs (place own) (next_of word) extra (omega arith);
          below = pairs_below (stock_size home.part) 0 (low_of root ∷ stations (first_of head) xs ++ spare_of head ∷ []) (omega arith);
          says = λ words v read. added_says words v read;
          quiet = λ quiet. cc;
        }
