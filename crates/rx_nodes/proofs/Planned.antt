-- Plans over a stock of own places, and how much they write.
use Rattle.std.proofs.Common.{◌≡◌, ℕ, zero, suc, ◌+◌, ◌-◌, ◌<◌, ◌≤◌, true, List, [], ◌∷◌, ◌++◌, length, take, sym, subst, arith}
use Rattle.std.specs.Prelude.{slice_index}
use Rattle.std.proofs.lemmas.List.{length-append}
use Rattle.rx_seq.specs.declared.calls.Call.{Call}
use Rattle.rx_shape.specs.declared.homes.Home.{Home}
use Rattle.rx_shape.specs.Places.{times}
use Rattle.rx_shape.specs.Nodes.{value_of, first_of, spare_of}
use Rattle.rx_shape.specs.Forms.{node, form_of, InRange, live, decoded, IsVersion}
use Rattle.rx_shape.specs.Versions.{HasRead}
use Rattle.rx_shape.specs.Settled.{HasTaken}
use Rattle.rx_shape.proofs.Times.{times_at}
use Rattle.rx_nodes.specs.Copies.{stations, tops, copies, path_writes}
use Rattle.rx_nodes.specs.Chains.{Begins, IsAddition, IsRemoval, is_passed, IsBelow, AreBelow, passed_by, read_nodes}
use Rattle.rx_nodes.proofs.Paths.{length-copies}
use Rattle.rx_nodes.proofs.Holding.{ws, begins, decoded_is}
use Rattle.rx_nodes.proofs.Copying.{begins_take, read_before}

pub own_few : (home : Home) → home.first + home.count ≤ 16777215 → (own : List ℕ) → ((p : ℕ) → 0 < times p own → InRange home p) → (n : ℕ) → n < length own → slice_index own n < 16777216
own_few home few own ranges n below = let r = (ranges (slice_index own n) (times_at own n below)).below in omega arith

pub take_at : (P : ℕ → Type 0) (n : ℕ) (xs : List ℕ) → n ≤ length xs → ((i : ℕ) → i < length xs → P (slice_index xs i)) → (i : ℕ) → i < length (take n xs) → P (slice_index (take n xs) i)
take_at P zero xs le all i below = absurd (omega arith)
take_at P (suc n) [] le all i below = absurd (omega arith)
take_at P (suc n) (x ∷ xs) le all zero below = all zero (omega arith)
take_at P (suc n) (x ∷ xs) le all (suc i) below = take_at P n xs (omega arith) (λ j less. all (suc j) (omega arith)) i (omega arith)

-- a call passes by the nodes that were read before the one that changes
pub passed_many : (call : Call) (xs words : List ℕ) → ((n : ℕ) → n < length xs → IsBelow call (value_of (slice_index xs n))) → Begins xs words → length xs ≤ passed_by call (tops words)
passed_many call [] words below begins = omega arith
passed_many call (x ∷ xs) [] below begins = absurd begins
passed_many call (x ∷ xs) (w ∷ words) below begins =
    let here : is_passed call (value_of w) ≡ true = subst (λ (y : ℕ). is_passed call (value_of y) ≡ true) begins.0 (below 0 (omega arith)) in
    let rest = passed_many call xs words (λ n there. below (suc n) (omega arith)) begins.1 in
    rw here (omega arith)

-- the header, the copies and one node more
pub length-path : (own xs : List ℕ) (end spare word : ℕ) → length (path_writes own xs end spare word) ≡ length xs + 2
length-path own xs end spare word =
    let a = length-append (copies 1 own xs end) (record { own = length xs + 1; value = word } ∷ []) in
    let b = length-copies 1 own xs end in omega arith

module _ (home : Home) (form : form_of home.part.kind ≡ node) (few : home.first + home.count ≤ 16777215) (call : Call) (root head : ℕ) (nodes : List ℕ) (inside : (p : ℕ) → 0 < times p (stations (first_of head) nodes) → InRange home p) where
  few_before : (xs words : List ℕ) (v : IsVersion home root words) (read : HasRead (live home root words) words (read_nodes root head nodes)) → AreBelow call xs
      → ((ys : List ℕ) → Begins nodes ys → Begins xs ys) → length xs ≤ passed_by call (decoded home root words)
  few_before xs words v read below begin =
      subst (λ (state : List ℕ). length xs ≤ passed_by call state) (sym (decoded_is home form few root head nodes inside words v read))
      (passed_many call xs (ws home form few root head nodes inside words v read) below.each (begin (ws home form few root head nodes inside words v read) (begins home form few root head nodes inside words v read)))

  pub added_few : (own : List ℕ) (before kept word end spare extra : ℕ) → IsAddition home call head nodes before kept → (words : List ℕ) → HasTaken home root (read_nodes root head nodes ++ record { place = spare_of head; word = word } ∷ []) words
      → length (path_writes own (take before nodes) end spare extra) ≤ passed_by call (decoded home root words) + 2
  added_few own before kept word end spare extra h words has =
      let read = (read_before (live home root words) words (read_nodes root head nodes) (record { place = spare_of head; word = word } ∷ []) has.read).0 in
      let n = few_before (take before nodes) words has.version read h.passed (λ ys b. begins_take before nodes ys b) in
      let l = length-path own (take before nodes) end spare extra in omega arith

  pub removed_few : (own : List ℕ) (end spare extra : ℕ) → IsRemoval home call head nodes → (words : List ℕ) → HasTaken home root (read_nodes root head nodes) words
      → length (path_writes own (take (length nodes - 1) nodes) end spare extra) ≤ passed_by call (decoded home root words) + 2
  removed_few own end spare extra h words has =
      let n = few_before (take (length nodes - 1) nodes) words has.version has.read h.passed (λ ys b. begins_take (length nodes - 1) nodes ys b) in
      let l = length-path own (take (length nodes - 1) nodes) end spare extra in omega arith
