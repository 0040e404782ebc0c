-- What an attempt reads, writes and trades, and what that makes of a version.
use Rattle.std.specs.Prelude.{ℕ, ◌≡◌, ◌+◌, ◌<◌, ◌≤◌, true, List, [], ◌∷◌, length, slice_index, slice_set}
use Rattle.rx_seq.specs.declared.calls.Call.{Call}
use Rattle.rx_seq.specs.Table.{start_of, effect}
use Rattle.rx_seq.specs.Quiet.{is_quiet, raised}
use Rattle.rx_shape.specs.declared.homes.Home.{Home}
use Rattle.rx_shape.specs.declared.plans.Taken.{Taken}
use Rattle.rx_shape.specs.declared.plans.Write.{Write}
use Rattle.rx_shape.specs.declared.plans.Pair.{Pair}
use Rattle.rx_shape.specs.Words.{tag_of}
use Rattle.rx_shape.specs.Places.{times, run}
use Rattle.rx_shape.specs.Forms.{stock_size, live, decoded, IsVersion, IsStock}

-- each word that was read at one of these places stands there
abbrev pub HasRead : List ℕ → List ℕ → List Taken → Type 0
HasRead places words [] = Unit {0}
HasRead places words (taken ∷ more) = (0 < times taken.place places → slice_index words taken.place ≡ taken.word) × HasRead places words more

-- what was written stands in the own places
abbrev pub HasWritten : List ℕ → List ℕ → List Write → Type 0
HasWritten words own [] = Unit {0}
HasWritten words own (write ∷ more) = (write.own < length own) × (slice_index words (slice_index own write.own) ≡ write.value) × HasWritten words own more

-- nothing was written under this own number
abbrev pub NotWritten : ℕ → List Write → Type 0
NotWritten number [] = Unit {0}
NotWritten number (write ∷ more) = (write.own ≡ number → ⊥) × NotWritten number more

-- the own places after a trade
abbrev pub traded : List ℕ → List Pair → List ℕ
traded own [] = own
traded own (pair ∷ pairs) = traded (slice_set own pair.own pair.place) pairs

-- the new root stands for the object after the call: its tag is the next one if the call was loud, and where it was
-- quiet it is the root that was there and nothing is traded. The live places and the own ones together are the same
-- places as before
pub record Makes (home : Home) (call : Call) (root : ℕ) (own : List ℕ) (new : ℕ) (pairs : List Pair) (words : List ℕ) : Type 0 where
  pub version : IsVersion home new words
  pub state : decoded home new words ≡ (effect home.part (decoded home root words) call).state
  pub tag : tag_of new ≡ tag_of root + raised call (effect home.part (decoded home root words) call).reply
  pub quiet : is_quiet call (effect home.part (decoded home root words) call).reply ≡ true → (new ≡ root) × (pairs ≡ [])
  pub places : (place : ℕ) → times place (live home new words) + times place (traded own pairs) ≡ times place (live home root words) + times place own
  pub stock : IsStock home (traded own pairs)

-- a plan for each version with this root that has the words that were read: the new root makes the call of it
pub record Plans (home : Home) (call : Call) (root : ℕ) (reads : List Taken) (own : List ℕ) (writes : List Write) (new : ℕ) (pairs : List Pair) : Type 0 where
  pub works : (words : List ℕ) → IsVersion home root words → HasRead (live home root words) words reads
      → ((place : ℕ) → times place (live home root words) + times place own ≤ 1) → HasWritten words own writes → Makes home call root own new pairs words

-- the words that were read are stale: no version with this root has them
abbrev pub IsStale : Home → ℕ → List Taken → Type 0
IsStale home root reads = (words : List ℕ) → IsVersion home root words → HasRead (live home root words) words reads → ⊥

-- with other words the root still names a version, which has the same live places and the same state
pub record Same (home : Home) (root : ℕ) (words others : List ℕ) : Type 0 where
  pub live_is : live home root others ≡ live home root words
  pub decoded_is : decoded home root others ≡ decoded home root words
  pub version : IsVersion home root others

-- at the start the root has the first tag, and the object's first stock is live and has the first state
pub record Starts (home : Home) (first : ℕ) (root : ℕ) (words : List ℕ) : Type 0 where
  pub tag : tag_of root ≡ first
  pub live_is : live home root words ≡ run home.first (stock_size home.part)
  pub state : decoded home root words ≡ start_of home.part
  pub version : IsVersion home root words
