-- What an event of a port tells, and its conditions.
use Rattle.std.specs.Prelude.{ℕ, ◌≡◌, ◌+◌, ◌<◌, ◌≤◌, ◌^◌, ◌⊎◌, ◌==◌, if◌then◌else◌, true, List, [], length, slice_index, Some}
use mathlib.Core.Option.{some}
use lib.ListN.{get_elem?}
use Rattle.rx_seq.specs.declared.calls.Call.{Call}
use Rattle.rx_seq.specs.declared.entries.Entry.{Entry}
use Rattle.rx_seq.specs.History.{part_at}
use Rattle.rx_shape.specs.declared.plans.Pair.{Pair}
use Rattle.rx_shape.specs.Words.{tag_of}
use Rattle.rx_shape.specs.Places.{times}
use Rattle.rx_shape.specs.Forms.{stock_size, InRange}
use Rattle.rx_shape.specs.Layout.{Layout, home, root_of}
use Rattle.rx_shape.specs.Asks.{EachBelow}
use Rattle.rx_shape.specs.Versions.{NotWritten, Plans, IsStale}
use Rattle.rx_port.specs.declared.views.Attempt.{Attempt}
use Rattle.rx_port.specs.declared.views.View.{View}
use Rattle.rx_port.specs.declared.views.Core.{Core}
use Rattle.rx_port.specs.Core.{own_of, loaded, stored, exchanged, begun_view, read_view, written_view, entry_for, decided_view}
use Rattle.rx_port.specs.Lawful.{OwnsAll, Lawful}

-- the event found this core, which was lawful for this history
pub record Found (layout : Layout) (stood : Core → Type 0) (view : View) (core : Core) (history : List Entry) : Type 0 where
  pub stands : stood core
  pub lawful : Lawful layout core.words core.views history
  pub alive : view.live ≡ true
  pub here : get_elem? core.views view.number ≡ some view

-- begin loads the root, and opens an attempt. Each event tells the words and seats that it found, its answer, and those
-- that it left
pub record Begun (layout : Layout) (stood stands : Core → Type 0) (before now : View) (object : ℕ) (call : Call) (root : ℕ) : Type 0 where
  pub core : Core
  pub history : List Entry
  pub found : Found layout stood before core history
  pub root_is : root ≡ root_of core.words object
  pub view_is : now ≡ begun_view history before object call root
  pub after : stands (loaded core before.number now)

-- read loads a place
pub record DidRead (layout : Layout) (stood stands : Core → Type 0) (before now : View) (attempt : Attempt) (place word : ℕ) : Type 0 where
  pub core : Core
  pub history : List Entry
  pub found : Found layout stood before core history
  pub word_is : word ≡ slice_index core.words place
  pub view_is : now ≡ read_view before attempt (record { place = place; word = word })
  pub after : stands (loaded core before.number now)

-- write stores into an own place
pub record DidWrite (layout : Layout) (stood stands : Core → Type 0) (before now : View) (attempt : Attempt) (own value : ℕ) : Type 0 where
  pub core : Core
  pub history : List Entry
  pub found : Found layout stood before core history
  pub view_is : now ≡ written_view before attempt (record { own = own; value = value })
  pub after : stands (stored core (slice_index (own_of before attempt.object) own) value before.number now)

-- decide exchanges the root if it is the expected one
pub record Decided (layout : Layout) (stood stands : Core → Type 0) (before now : View) (attempt : Attempt) (new : ℕ) (pairs : List Pair) (word : ℕ) : Type 0 where
  pub core : Core
  pub history : List Entry
  pub found : Found layout stood before core history
  pub word_is : word ≡ root_of core.words attempt.object
  pub view_is : now ≡ decided_view (word == attempt.expected) history (entry_for layout history before.number attempt.object attempt.call) before attempt word pairs
  pub after : stands (exchanged core attempt.object (if word == attempt.expected then new else word) before.number now)

-- the new root and the trade are those of a plan for the words that were read and the own places; its tag has room
pub record IsPlanOf (layout : Layout) (view : View) (attempt : Attempt) (new : ℕ) (pairs : List Pair) : Type 0 where
  pub room : tag_of attempt.expected + 1 < 2 ^ 40
  pub plans : Plans (home layout attempt.object) attempt.call attempt.expected attempt.reads (own_of view attempt.object) attempt.writes new pairs
  pub below : EachBelow (stock_size (part_at layout.parts attempt.object)) pairs

-- no version with the expected root has the words that were read, and the trade is empty
pub record IsHopeless (layout : Layout) (attempt : Attempt) (pairs : List Pair) : Type 0 where
  pub stale : IsStale (home layout attempt.object) attempt.expected attempt.reads
  pub none : pairs ≡ []

-- what a decide is asked, in one of two cases: a plan, or no hope of one
pub record IsDecision (layout : Layout) (view : View) (attempt : Attempt) (new : ℕ) (pairs : List Pair) : Type 0 where
  pub is_open : view.attempt ≡ Some attempt
  pub case : IsPlanOf layout view attempt new pairs ⊎ IsHopeless layout attempt pairs

-- the conditions of read, write and decide: an open attempt on the object; a number of an own place that the attempt
-- did not write yet; one of the two cases of a decide
pub record IsOpen (layout : Layout) (view : View) (object : ℕ) : Type 0 where
  pub attempt : Attempt
  pub is : view.attempt ≡ Some attempt
  pub on : attempt.object ≡ object
  pub few : length attempt.reads < (part_at layout.parts object).cap + 2

pub record IsWritable (layout : Layout) (view : View) (object own : ℕ) : Type 0 where
  pub attempt : Attempt
  pub is : view.attempt ≡ Some attempt
  pub on : attempt.object ≡ object
  pub below : own < stock_size (part_at layout.parts object)
  pub new : NotWritten own attempt.writes
  pub few : length attempt.writes < (part_at layout.parts object).cap + 1

pub record IsReady (layout : Layout) (view : View) (object expected new : ℕ) (pairs : List Pair) : Type 0 where
  pub attempt : Attempt
  pub on : attempt.object ≡ object
  pub root : attempt.expected ≡ expected
  pub decision : IsDecision layout view attempt new pairs

-- what a seat owns is a stock of each object, of different places in the object's range
pub record OwnsWell (layout : Layout) (view : View) : Type 0 where
  pub alive : view.live ≡ true
  pub owns : OwnsAll layout view.own
  pub ranges : (object place : ℕ) → object < length layout.parts → 0 < times place (own_of view object) → InRange (home layout object) place
  pub once : (object place : ℕ) → object < length layout.parts → times place (own_of view object) ≤ 1
