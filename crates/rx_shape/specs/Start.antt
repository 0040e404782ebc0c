-- The words of the start: word 0 is 0, each root has the first tag and the value 0 or the object's first place. The first
-- place of a block has the length of the first state. That of nodes has a header with no node, and as many nodes as the
-- capacity follow it, which are spare, each linked to the next one. All other words are 0.
use Rattle.std.specs.Prelude.{ℕ, zero, suc, ◌≡◌, ◌+◌, ◌-◌, ◌<◌, ◌==◌, ◌&&◌, nat_lt, nat_le, Bool, if◌then◌else◌, List, length, slice_index}
use Rattle.rx_seq.specs.Table.{start_of}
use Rattle.rx_shape.specs.declared.homes.Home.{Home}
use Rattle.rx_shape.specs.Words.{pack}
use Rattle.rx_shape.specs.Nodes.{no_place, node_word, header_word}
use Rattle.rx_shape.specs.Forms.{Form, inline, block, node, form_of}
use Rattle.rx_shape.specs.Layout.{Layout, first_place, home, words_of}

-- the word at a place of nodes that are all spare: the header, or a node that is linked to the next one, or to none where
-- it is the last
abbrev pub linked_at : ℕ → ℕ → ℕ → ℕ
linked_at first cap place =
    if place == first then header_word no_place (first + 1)
    else (if nat_lt place (first + cap) then node_word 0 (place + 1)
    else (if place == first + cap then node_word 0 no_place else 0))

-- the word at a place of the object, at the start
abbrev pub start_at_as : Form → Home → ℕ → ℕ
start_at_as inline here place = 0
start_at_as block here place = if place == here.first then length (start_of here.part) else 0
start_at_as node here place = linked_at here.first here.part.cap place

abbrev pub start_at : Home → ℕ → ℕ
start_at here place = start_at_as (form_of here.part.kind) here place

-- a place is one of the object's
abbrev pub in_range : Home → ℕ → Bool
in_range here place = nat_le here.first place && nat_lt place (here.first + here.count)

-- the word at a place of one of the first so many objects
abbrev pub start_place : Layout → ℕ → ℕ → ℕ
start_place layout place zero = 0
start_place layout place (suc object) =
    if in_range (home layout object) place then start_at (home layout object) place else start_place layout place object

-- the word of a number, at the start
abbrev pub start_word : Layout → ℕ → ℕ
start_word layout word =
    if word == 0 then 0
    else (if nat_le word (length layout.parts) then pack layout.first (first_place layout (word - 1))
    else start_place layout word (length layout.parts))

-- these are the words of the start
pub record IsStart (layout : Layout) (words : List ℕ) : Type 0 where
  pub size : length words ≡ words_of layout
  pub each : (word : ℕ) → word < words_of layout → slice_index words word ≡ start_word layout word
