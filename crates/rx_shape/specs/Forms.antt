-- How an object stands in memory. Its root word and its live places with their words are a version, which stands for a
-- state of the part.
use Rattle.std.specs.Prelude.{ℕ, suc, ◌≡◌, ◌+◌, ◌*◌, ◌<◌, ◌≤◌, true, List, [], ◌∷◌, ◌++◌, length, slice_index}
use Rattle.rx_seq.specs.Table.{most_value}
use Rattle.rx_seq.specs.declared.kinds.Kind.{Kind}
use Rattle.rx_seq.specs.declared.kinds.Kind.TheVariants.{Cell, Queue, Registers, List as Ordered}
use Rattle.rx_seq.specs.declared.kinds.Part.{Part}
use Rattle.rx_seq.specs.States.{IsState}
use Rattle.rx_shape.specs.declared.homes.Home.{Home}
use Rattle.rx_shape.specs.Words.{low_of}
use Rattle.rx_shape.specs.Places.{times, run, read_run}
use Rattle.rx_shape.specs.Nodes.{no_place, first_of, spare_of, value_of, walk, ends, values}

-- inline: the low part of the root is the value. Block: it names the first of places that follow each other, which hold
-- the length and the numbers in order. Node: it names a header, from which linked nodes lead, one for each number, and
-- linked spare nodes
pub data Form : Type 0 where
  inline : Form
  block : Form
  node : Form

-- a cell is inline, registers are a block, and queues and lists are nodes
abbrev pub form_of : Kind → Form
form_of Cell = inline
form_of Queue = node
form_of Ordered = node
form_of Registers = block

-- a stock: how many places a version has, and how many a seat owns of the object. It is the capacity and 1 for a block and
-- for nodes, and none for a cell
abbrev pub stock_as : Form → ℕ → ℕ
stock_as inline cap = 0
stock_as block cap = suc cap
stock_as node cap = suc cap

abbrev pub stock_size : Part → ℕ
stock_size part = stock_as (form_of part.kind) part.cap

-- a place of the object
pub record InRange (home : Home) (place : ℕ) : Type 0 where
  pub from : home.first ≤ place
  pub below : place < home.first + home.count

-- the nodes and the spare nodes that the header at a root's place leads to, as many as the capacity at most
abbrev pub nodes_of : ℕ → ℕ → List ℕ → List ℕ
nodes_of cap root words = walk cap words (first_of (slice_index words (low_of root)))

abbrev pub spares_of : ℕ → ℕ → List ℕ → List ℕ
spares_of cap root words = walk cap words (spare_of (slice_index words (low_of root)))

-- the live places: none for a cell, the places of the block that the root names, and the header, the nodes and the spare
-- nodes
abbrev pub live_as : Form → Home → ℕ → List ℕ → List ℕ
live_as inline home root words = []
live_as block home root words = run (low_of root) (suc home.part.cap)
live_as node home root words = low_of root ∷ nodes_of home.part.cap root words ++ spares_of home.part.cap root words

-- the state: the low part of a cell's root; as many numbers after the first place of the block as its length says; the
-- values of the nodes
abbrev pub decoded_as : Form → Home → ℕ → List ℕ → List ℕ
decoded_as inline home root words = low_of root ∷ []
decoded_as block home root words = read_run words (low_of root + 1) (slice_index words (low_of root))
decoded_as node home root words = values words (nodes_of home.part.cap root words)

-- the nodes and the spare nodes come to none, and are together as many as the capacity
pub record IsLinked (cap root : ℕ) (words : List ℕ) : Type 0 where
  pub nodes : ends cap words (first_of (slice_index words (low_of root))) ≡ true
  pub spares : ends cap words (spare_of (slice_index words (low_of root))) ≡ true
  pub all : length (nodes_of cap root words) + length (spares_of cap root words) ≡ cap

-- the length of a block is at most the capacity, and nodes are linked
abbrev pub IsFormedAs : Form → Home → ℕ → List ℕ → Type 0
IsFormedAs inline home root words = Unit {0}
IsFormedAs block home root words = slice_index words (low_of root) ≤ home.part.cap
IsFormedAs node home root words = IsLinked home.part.cap root words

-- what a seat owns of one object, in the order of the own numbers: places that follow each other for a block, any as many
-- for nodes
abbrev pub IsStockAs : Form → Home → List ℕ → Type 0
IsStockAs inline home places = places ≡ []
IsStockAs block home places = places ≡ run (slice_index places 0) (suc home.part.cap)
IsStockAs node home places = length places ≡ suc home.part.cap

-- where a seat's places of the start are
abbrev pub first_own : Home → ℕ → ℕ
first_own home seat = home.first + suc seat * stock_size home.part

-- the places of the start of a seat
abbrev pub start_own : Home → ℕ → List ℕ
start_own home seat = run (first_own home seat) (stock_size home.part)

-- by the form of the object: its live places, its state, whether its live words are put together so, and whether some
-- places are a stock
unfoldable pub live : Home → ℕ → List ℕ → List ℕ
live home root words = live_as (form_of home.part.kind) home root words

unfoldable pub decoded : Home → ℕ → List ℕ → List ℕ
decoded home root words = decoded_as (form_of home.part.kind) home root words

unfoldable pub IsFormed : Home → ℕ → List ℕ → Type 0
IsFormed home root words = IsFormedAs (form_of home.part.kind) home root words

unfoldable pub IsStock : Home → List ℕ → Type 0
IsStock home places = IsStockAs (form_of home.part.kind) home places

-- a root and the words are a version of an object: the live places are places of the object without repeats, and the
-- state is one of the part
pub record IsVersion (home : Home) (root : ℕ) (words : List ℕ) : Type 0 where
  pub inside : (place : ℕ) → 0 < times place (live home root words) → InRange home place
  pub once : (place : ℕ) → times place (live home root words) ≤ 1
  pub formed : IsFormed home root words
  pub state : IsState home.part (decoded home root words)

-- the header at this place and the nodes that it leads to, as many as the capacity at most, are among the words, and the
-- values of the nodes are within bounds
pub record AreNodes (words : List ℕ) (low cap : ℕ) : Type 0 where
  pub header : low < length words
  pub first : first_of (slice_index words low) ≤ no_place
  pub few : cap ≤ 64
  pub inside : (place : ℕ) → 0 < times place (walk cap words (first_of (slice_index words low))) → place < length words
  pub values : (place : ℕ) → 0 < times place (walk cap words (first_of (slice_index words low))) → value_of (slice_index words place) ≤ most_value

-- the first place has the length, which is within bounds, and the numbers after it are within bounds too
pub record IsBlock (words : List ℕ) (first : ℕ) : Type 0 where
  pub few : slice_index words first ≤ 64
  pub inside : first + slice_index words first < length words
  pub values : (number : ℕ) → number < slice_index words first → slice_index words (first + 1 + number) ≤ most_value
