-- What the words of nodes that were taken settle.
use Rattle.std.proofs.Common.{◌≡◌, ◌≢◌, ℕ, suc, ◌+◌, ◌-◌, ◌<◌, ◌≤◌, true, List, [], ◌∷◌, ◌++◌, length, take, refl, sym, ap, ◌∙◌, arith}
use Rattle.std.specs.Prelude.{slice_index}
use Rattle.rx_seq.specs.declared.calls.Call.{Call}
use Rattle.rx_seq.specs.declared.calls.Call.TheVariants.{Set}
use Rattle.rx_seq.specs.declared.kinds.Part.{Part}
use Rattle.rx_seq.specs.declared.replies.Reply.{Reply}
use Rattle.rx_seq.specs.Table.{answers, effect, fits_part}
use Rattle.rx_seq.specs.Quiet.{is_quiet}
use Rattle.rx_seq.specs.States.{IsState}
use Rattle.rx_shape.specs.declared.homes.Home.{Home}
use Rattle.rx_shape.specs.Words.{pack, tag_of}
use Rattle.rx_shape.specs.Places.{times}
use Rattle.rx_shape.specs.Nodes.{no_place, node_word, next_of, first_of, spare_of}
use Rattle.rx_shape.specs.Forms.{node, form_of, InRange}
use Rattle.rx_shape.specs.Versions.{IsStale}
use Rattle.rx_shape.specs.Settled.{Stays}
use Rattle.rx_shape.specs.Asks.{IsSettled}
use Rattle.rx_shape.proofs.Staying.{settled_stay, quiet_stay}
use Rattle.rx_nodes.specs.Copies.{stations, leads, path_writes, path_pairs}
use Rattle.rx_nodes.specs.Chains.{HaveNone, IsKept, IsAddition, IsRemoval, added_value, added_reply, removed_reply, read_along, read_nodes}
use Rattle.rx_nodes.proofs.Holding.{ws, ss, begins, decoded_is, held}
use Rattle.rx_nodes.proofs.Additions.{added_says, added_planned}
use Rattle.rx_nodes.proofs.Removals.{removed_says, removed_planned}

pub length-read : (p : ℕ) (xs : List ℕ) → length (read_along p xs) ≡ length xs
length-read p [] = refl
length-read p (x ∷ xs) = ap suc (length-read (next_of x) xs)

-- a list that is not empty is its first elements and its last one
pub last_apart : (xs : List ℕ) → 0 < length xs → xs ≡ take (length xs - 1) xs ++ slice_index xs (length xs - 1) ∷ []
last_apart [] some = absurd (omega arith)
last_apart (x ∷ []) some = refl
last_apart (x ∷ y ∷ xs) some =
    let r = last_apart (y ∷ xs) (omega arith) in
    let e : length (x ∷ y ∷ xs) - 1 ≡ suc (length (y ∷ xs) - 1) = omega arith in
    ap (λ (zs : List ℕ). x ∷ zs) r ∙ ap (λ (n : ℕ). take n (x ∷ y ∷ xs) ++ slice_index (x ∷ y ∷ xs) n ∷ []) (sym e)

module _ (home : Home) (form : form_of home.part.kind ≡ node) (few : home.first + home.count ≤ no_place) (call : Call) (fits : fits_part home.part call ≡ true) (root head : ℕ) (nodes : List ℕ) (inside : (p : ℕ) → 0 < times p (stations (first_of head) nodes) → InRange home p) where
  pub none_stale : HaveNone home head nodes → IsStale home root (read_nodes root head nodes)
  none_stale none words v read = none (ws home form few root head nodes inside words v read) (ss home form few root head nodes inside words v read) (held home form few root head nodes inside words v read) (begins home form few root head nodes inside words v read)

  pub kept_stays : (reply : Reply) → IsKept home call head nodes reply → Stays home call root (read_nodes root head nodes) reply
  kept_stays reply kept words has =
      let v = has.version in let read = has.read in
      let is = decoded_is home form few root head nodes inside words v read in
      ap (λ (state : List ℕ). effect home.part state call) is ∙ kept (ws home form few root head nodes inside words v read) (ss home form few root head nodes inside words v read) (held home form few root head nodes inside words v read) (begins home form few root head nodes inside words v read)
      ∙ ap (λ (state : List ℕ). answers state reply) (sym is)

  pub kept_settled : (reply : Reply) → IsKept home call head nodes reply → ((part : Part) (state : List ℕ) (call : Call) → IsState part state → fits_part part call ≡ true → (effect part state call).state ≡ state → ((v : ℕ) → call ≢ Set v) → is_quiet call (effect part state call).reply ≡ true)
      → ((v : ℕ) → call ≢ Set v) → IsSettled home call root (read_nodes root head nodes)
  kept_settled reply kept only no_set =
      let stays = kept_stays reply kept in
      settled_stay home call root (read_nodes root head nodes) reply stays (quiet_stay home call root (read_nodes root head nodes) reply stays only fits no_set)

  pub added_settled : (before kept word : ℕ) → IsAddition home call head nodes before kept → InRange home (spare_of head) → IsSettled home call root (read_nodes root head nodes ++ record { place = spare_of head; word = word } ∷ [])
  added_settled before kept word h spare = record {
    reply = added_reply call before;
    says = λ words has. added_says home form few call fits root head nodes inside before kept word h h.small spare h.loud words has.version has.read;
    plan = λ tag own stock ranges once. record {
      new = pack (tag_of root + 1) (slice_index own 0);
      writes = path_writes own (take before nodes) (slice_index own (before + 1)) (next_of word) (node_word (added_value call) kept);
      pairs = path_pairs root head (take before nodes) (spare_of head);
      planned = added_planned home form few call fits root head nodes inside before kept word h h.small spare h.loud own stock ranges;
    };
  }

  pub removed_settled : IsRemoval home call head nodes → IsSettled home call root (read_nodes root head nodes)
  removed_settled h =
      let xs : List ℕ = take (length nodes - 1) nodes in
      let word : ℕ = slice_index nodes (length nodes - 1) in
      record {
        reply = removed_reply call word;
        says = λ words has. removed_says home form few call fits root head nodes inside xs word (last_apart nodes h.some) h h.loud words has.version has.read;
        plan = λ tag own stock ranges once. record {
          new = pack (tag_of root + 1) (slice_index own 0);
          writes = path_writes own xs (next_of word) (slice_index own (length xs + 1)) (node_word 0 (spare_of head));
          pairs = path_pairs root head xs (leads (first_of head) xs);
          planned = removed_planned home form few call fits root head nodes inside xs word (last_apart nodes h.some) h h.loud own stock ranges;
        };
      }
