-- The words of nodes that are read in order, and what they say of a call.
use Rattle.std.specs.Prelude.{ℕ, suc, if◌then◌else◌, ◌≡◌, ◌≢◌, ◌+◌, ◌-◌, ◌<◌, ◌≤◌, true, List, [], ◌∷◌, ◌++◌, length, take, slice_index, Bool, false, nat_lt}
use Rattle.rx_seq.specs.declared.calls.Call.{Call}
use Rattle.rx_seq.specs.declared.calls.Call.TheVariants.{Put, Take, Insert, Remove, Has}
use Rattle.rx_seq.specs.declared.replies.Reply.{Reply}
use Rattle.rx_seq.specs.declared.replies.Reply.TheVariants.{Done, Added, Removed}
use Rattle.rx_seq.specs.Table.{IsPart, answers, effect, fits_part}
use Rattle.rx_seq.specs.Quiet.{is_quiet}
use Rattle.rx_seq.specs.States.{IsState}
use Rattle.rx_shape.specs.declared.homes.Home.{Home}
use Rattle.rx_shape.specs.declared.plans.Taken.{Taken}
use Rattle.rx_shape.specs.declared.plans.Want.{Want}
use Rattle.rx_shape.specs.declared.plans.Want.TheVariants.{Read, Ready, Stale}
use Rattle.rx_shape.specs.Words.{low_of}
use Rattle.rx_shape.specs.Places.{times}
use Rattle.rx_shape.specs.Nodes.{no_place, first_of, spare_of, value_of, next_of}
use Rattle.rx_shape.specs.Forms.{InRange, node, form_of}
use Rattle.rx_nodes.specs.Copies.{stations, leads, tops}
use Rattle.rx_nodes.specs.declared.steps.Step.{Step}
use Rattle.rx_nodes.specs.declared.steps.Step.TheVariants.{First, Along, Spare, Broken, Kept, Adding, Removing}

-- the objects and calls that a walk over nodes serves. Each of the object's places is a low part, and none is the place that
-- means none
pub record ServesNodes (home : Home) (call : Call) : Type 0 where
  pub form : form_of home.part.kind ≡ node
  pub part : IsPart home.part
  pub places : home.first + home.count ≤ 16777215
  pub fits : fits_part home.part call ≡ true

-- nodes with these words lead from this place along places of the object to none
pub record IsChain (home : Home) (place : ℕ) (words : List ℕ) : Type 0 where
  pub inside : (p : ℕ) → 0 < times p (stations place words) → InRange home p
  pub end : leads place words ≡ no_place

-- a header, the words of nodes and those of spare nodes can stand in a version: both lead to none, they are as many as the
-- capacity together, and the values of the nodes are a state of the part
pub record IsHeld (home : Home) (head : ℕ) (words others : List ℕ) : Type 0 where
  pub nodes : IsChain home (first_of head) words
  pub spares : IsChain home (spare_of head) others
  pub all : length words + length others ≡ home.part.cap
  pub state : IsState home.part (tops words)

-- words begin others
abbrev pub Begins : List ℕ → List ℕ → Type 0
Begins [] words = Unit {0}
Begins (first ∷ more) [] = ⊥
Begins (first ∷ more) (word ∷ words) = (first ≡ word) × Begins more words

-- no version has this header and these first nodes
abbrev pub HaveNone : Home → ℕ → List ℕ → Type 0
HaveNone home head nodes = (words spares : List ℕ) → IsHeld home head words spares → Begins nodes words → ⊥

-- each version that has them is left equal, and the call has this reply
abbrev pub IsKept : Home → Call → ℕ → List ℕ → Reply → Type 0
IsKept home call head nodes reply =
    (words spares : List ℕ) → IsHeld home head words spares → Begins nodes words → effect home.part (tops words) call ≡ answers (tops words) reply

-- the number that a call adds, and the reply of adding it after so many nodes
abbrev pub added_value : Call → ℕ
added_value (Put v) = v
added_value (Insert k) = k
added_value _ = 0

abbrev pub added_reply : Call → ℕ → Reply
added_reply (Put v) before = Done (before + 1)
added_reply _ before = Added

-- the reply of taking out the last node that was read
abbrev pub removed_reply : Call → ℕ → Reply
removed_reply Take word = Done (value_of word)
removed_reply _ word = Removed

-- a node with this value is passed by: that of a smaller number than the one that is looked for, any by a `Put`, and none by
-- a `Take`
abbrev pub is_passed : Call → ℕ → Bool
is_passed Take value = false
is_passed (Insert k) value = nat_lt value k
is_passed (Remove k) value = nat_lt value k
is_passed (Has k) value = nat_lt value k
is_passed _ value = true

abbrev pub IsBelow : Call → ℕ → Type 0
IsBelow call value = is_passed call value ≡ true

-- the words of the nodes that a call passes by are those below this limit
pub record IsLimit (call : Call) (limit : ℕ) : Type 0 where
  pub passes : (word : ℕ) → word < limit → (word < 72057594037927936) × IsBelow call (value_of word)
  pub stops : (word : ℕ) → word < 72057594037927936 → IsBelow call (value_of word) → word < limit

-- no node has the number that is looked for
pub record AreBelow (call : Call) (nodes : List ℕ) : Type 0 where
  pub each : (n : ℕ) → n < length nodes → IsBelow call (value_of (slice_index nodes n))

-- how many of a state's numbers a call passes by before the one that it adds or takes out: all for a `Put`, none for a `Take`,
-- and the smaller ones for a list's call
abbrev pub passed_by : Call → List ℕ → ℕ
passed_by call [] = 0
passed_by call (value ∷ values) = if is_passed call value then suc (passed_by call values) else 0

-- each version that has these nodes gets the call's number after the first so many of them, which lead to this place
pub record IsAddition (home : Home) (call : Call) (head : ℕ) (nodes : List ℕ) (before kept : ℕ) : Type 0 where
  pub room : before < home.part.cap
  pub among : before ≤ length nodes
  pub leads_to : leads (first_of head) (take before nodes) ≡ kept
  pub small : kept < 16777216
  pub passed : AreBelow call (take before nodes)
  pub loud : is_quiet call (added_reply call before) ≡ false
  pub does : (later spares : List ℕ) → IsHeld home head (take before nodes ++ later) spares → Begins nodes (take before nodes ++ later)
      → effect home.part (tops (take before nodes ++ later)) call ≡ answers (tops (take before nodes) ++ added_value call ∷ tops later) (added_reply call before)

-- each version that has these nodes loses the last of them
pub record IsRemoval (home : Home) (call : Call) (head : ℕ) (nodes : List ℕ) : Type 0 where
  pub some : 0 < length nodes
  pub few : length nodes ≤ home.part.cap
  pub passed : AreBelow call (take (length nodes - 1) nodes)
  pub loud : is_quiet call (removed_reply call (slice_index nodes (length nodes - 1))) ≡ false
  pub does : (later spares : List ℕ) → IsHeld home head (nodes ++ later) spares
      → effect home.part (tops (nodes ++ later)) call ≡ answers (tops (take (length nodes - 1) nodes) ++ tops later) (removed_reply call (slice_index nodes (length nodes - 1)))

-- a list's call that looks for this number, or for one that is below it
abbrev pub IsSought : Call → ℕ → Type 0
IsSought (Insert k) value = value ≡ k
IsSought (Remove k) value = value ≡ k
IsSought (Has k) value = value ≡ k
IsSought _ value = ⊥

abbrev pub IsAbove : Call → ℕ → Type 0
IsAbove (Insert k) value = k < value
IsAbove (Remove k) value = k < value
IsAbove (Has k) value = k < value
IsAbove _ value = ⊥

-- the nodes so far: each stands in the object and has a number of 32 bits, which is below the one that is looked for
pub record IsLined (home : Home) (call : Call) (head : ℕ) (nodes : List ℕ) : Type 0 where
  pub header : head < 72057594037927936
  pub inside : (p : ℕ) → 0 < times p (stations (first_of head) nodes) → InRange home p
  pub small : (n : ℕ) → n < length nodes → slice_index nodes n < 72057594037927936
  pub few : length nodes ≤ home.part.cap

-- the walk goes on at this place
pub record IsGoing (home : Home) (call : Call) (head : ℕ) (nodes : List ℕ) (place : ℕ) : Type 0 where
  pub lined : IsLined home call head nodes
  pub below : (n : ℕ) → n < length nodes → IsBelow call (value_of (slice_index nodes n))
  pub next : place ≡ leads (first_of head) nodes
  pub here : InRange home place
  pub room : length nodes < home.part.cap
  pub spare : spare_of head ≢ no_place → length nodes + 1 < home.part.cap

-- what a step means
abbrev pub IsStep : Home → Call → ℕ → List ℕ → Step → Type 0
IsStep home call head nodes First = nodes ≡ []
IsStep home call head nodes (Along place) = IsGoing home call head nodes place
IsStep home call head nodes (Spare before kept) = IsLined home call head nodes × IsAddition home call head nodes before kept × InRange home (spare_of head)
IsStep home call head nodes Broken = ((p : ℕ) → 0 < times p (stations (first_of head) nodes) → InRange home p) × HaveNone home head nodes
IsStep home call head nodes (Kept reply) = IsLined home call head nodes × IsKept home call head nodes reply
IsStep home call head nodes (Adding before kept word) = IsLined home call head nodes × IsAddition home call head nodes before kept × InRange home (spare_of head)
IsStep home call head nodes Removing = IsLined home call head nodes × IsRemoval home call head nodes

-- what a walk has shown, by its step
pub record IsTold (home : Home) (call : Call) (head : ℕ) (nodes : List ℕ) (step : Step) : Type 0 where
  pub first : step ≡ First → nodes ≡ []
  pub along : (place : ℕ) → step ≡ Along place → IsStep home call head nodes (Along place)
  pub spare : (before kept : ℕ) → step ≡ Spare before kept → IsStep home call head nodes (Spare before kept)
  pub broken : step ≡ Broken → IsStep home call head nodes Broken
  pub kept : (reply : Reply) → step ≡ Kept reply → IsStep home call head nodes (Kept reply)
  pub adding : (before kept word : ℕ) → step ≡ Adding before kept word → IsStep home call head nodes (Adding before kept word)
  pub removing : step ≡ Removing → IsStep home call head nodes Removing

-- the limits of the capacity of a part in node form
pub record IsBounded (cap : ℕ) : Type 0 where
  pub least : 1 ≤ cap
  pub most : cap ≤ 64

-- the nodes that were read, and what they have not shown so far: none has the number that is looked for, and another node
-- or a spare one has room besides
pub record IsPassed (home : Home) (call : Call) (head : ℕ) (nodes : List ℕ) : Type 0 where
  pub lined : IsLined home call head nodes
  pub below : (n : ℕ) → n < length nodes → IsBelow call (value_of (slice_index nodes n))
  pub room : spare_of head ≢ no_place → length nodes < home.part.cap

-- the words of nodes with their places, from this place on
abbrev pub read_along : ℕ → List ℕ → List Taken
read_along place [] = []
read_along place (word ∷ words) = record { place = place; word = word } ∷ read_along (next_of word) words

-- the header, and then the nodes
abbrev pub read_nodes : ℕ → ℕ → List ℕ → List Taken
read_nodes root head nodes = record { place = low_of root; word = head } ∷ read_along (first_of head) nodes

-- the words taken, with their places: the header, the nodes, and the first spare node where a number is added
abbrev pub taken_as : Step → ℕ → ℕ → List ℕ → List Taken
taken_as First root head nodes = []
taken_as (Along place) root head nodes = read_nodes root head nodes
taken_as (Spare before kept) root head nodes = read_nodes root head nodes
taken_as Broken root head nodes = read_nodes root head nodes
taken_as (Kept reply) root head nodes = read_nodes root head nodes
taken_as (Adding before kept word) root head nodes = read_nodes root head nodes ++ record { place = spare_of head; word = word } ∷ []
taken_as Removing root head nodes = read_nodes root head nodes

-- what is wanted next
abbrev pub want_as : Step → ℕ → ℕ → Want
want_as First root head = Read (low_of root)
want_as (Along place) root head = Read place
want_as (Spare before kept) root head = Read (spare_of head)
want_as Broken root head = Stale
want_as (Kept reply) root head = Ready
want_as (Adding before kept word) root head = Ready
want_as Removing root head = Ready

-- one more word can be taken
abbrev pub IsOpen : Step → Type 0
IsOpen First = Unit {0}
IsOpen (Along place) = Unit {0}
IsOpen (Spare before kept) = Unit {0}
IsOpen Broken = ⊥
IsOpen (Kept reply) = ⊥
IsOpen (Adding before kept word) = ⊥
IsOpen Removing = ⊥
