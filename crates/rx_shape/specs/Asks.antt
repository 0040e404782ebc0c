-- What a shape wants to read, and what it plans.
use Rattle.std.specs.Prelude.{ℕ, ◌≡◌, ◌+◌, ◌<◌, ◌≤◌, ◌^◌, true, List, [], ◌∷◌, ◌++◌, length}
use Rattle.rx_seq.specs.declared.calls.Call.{Call}
use Rattle.rx_seq.specs.declared.replies.Reply.{Reply}
use Rattle.rx_seq.specs.Table.{effect}
use Rattle.rx_seq.specs.Quiet.{is_quiet}
use Rattle.rx_shape.specs.declared.homes.Home.{Home}
use Rattle.rx_shape.specs.declared.plans.Taken.{Taken}
use Rattle.rx_shape.specs.declared.plans.Write.{Write}
use Rattle.rx_shape.specs.declared.plans.Pair.{Pair}
use Rattle.rx_shape.specs.declared.plans.Want.{Want}
use Rattle.rx_shape.specs.declared.plans.Want.TheVariants.{Read, Ready, Stale}
use Rattle.rx_shape.specs.Words.{tag_of}
use Rattle.rx_shape.specs.Places.{times}
use Rattle.rx_shape.specs.Forms.{stock_size, InRange, live, decoded, IsStock, IsVersion}
use Rattle.rx_shape.specs.Versions.{HasRead, NotWritten, Plans, IsStale}
use Rattle.rx_shape.specs.Settled.{HasTaken}

-- each own number is written at most once, and none of those already written
abbrev pub WritesOnce : ℕ → List Write → List Write → Type 0
WritesOnce count done [] = Unit {0}
WritesOnce count done (write ∷ more) = (write.own < count) × NotWritten write.own done × WritesOnce count (done ++ write ∷ []) more

-- each pair names an own place
abbrev pub EachBelow : ℕ → List Pair → Type 0
EachBelow count [] = Unit {0}
EachBelow count (pair ∷ pairs) = (pair.own < count) × EachBelow count pairs

-- what a shape's plan is: it makes the call of each version that has the words taken, writes under each own number at
-- most once, trades own places alone, and has the reply of every such version. Where the call is quiet, nothing is
-- written or traded, and the new root is the root that was there
pub record IsPlanned (home : Home) (call : Call) (root : ℕ) (taken : List Taken) (own : List ℕ) (new : ℕ) (writes : List Write) (pairs : List Pair) (reply : Reply) : Type 0 where
  pub plans : Plans home call root taken own writes new pairs
  pub once : WritesOnce (stock_size home.part) [] writes
  pub below : EachBelow (stock_size home.part) pairs
  pub says : (words : List ℕ) → IsVersion home root words → HasRead (live home root words) words taken → reply ≡ (effect home.part (decoded home root words) call).reply
  pub quiet : is_quiet call reply ≡ true → (new ≡ root) × (writes ≡ []) × (pairs ≡ [])

-- a plan that has this reply
pub record HasPlan (home : Home) (call : Call) (root : ℕ) (taken : List Taken) (own : List ℕ) (reply : Reply) : Type 0 where
  pub new : ℕ
  pub writes : List Write
  pub pairs : List Pair
  pub planned : IsPlanned home call root taken own new writes pairs reply

-- the words taken settle the call: there is one reply that every version with this root has that has them, and, whatever
-- the own places are, one plan for all of them. Where the tag is the last one, no plan is asked for
pub record IsSettled (home : Home) (call : Call) (root : ℕ) (taken : List Taken) : Type 0 where
  pub reply : Reply
  pub says : (words : List ℕ) → HasTaken home root taken words → reply ≡ (effect home.part (decoded home root words) call).reply
  pub plan : tag_of root + 1 < 2 ^ 40 → (own : List ℕ) → IsStock home own → ((place : ℕ) → 0 < times place own → InRange home place) → ((place : ℕ) → times place own ≤ 1)
      → HasPlan home call root taken own reply

-- what each answer of `want` means: a place in the object's range, where fewer than the capacity and 2 words were read;
-- settled words; stale words
abbrev pub Wants : Home → Call → ℕ → List Taken → Want → Type 0
Wants home call root taken (Read place) = InRange home place × (length taken < home.part.cap + 2)
Wants home call root taken Ready = IsSettled home call root taken
Wants home call root taken Stale = IsStale home root taken
