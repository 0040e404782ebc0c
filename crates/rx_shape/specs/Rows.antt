-- Worked rows of root words, the numbering of places, the words of the start, what a root and a block stand for,
-- what is written and traded for a block, and what a walk wants next.
use Rattle.std.specs.Prelude.{ℕ, ◌≡◌, ◌+◌, ◌*◌, refl, [], ◌∷◌, replicate}
use Rattle.rx_seq.specs.declared.kinds.Kind.TheVariants.{Cell, Queue, Registers, List as Ordered}
use Rattle.rx_seq.specs.declared.replies.Reply.TheVariants.{Done}
use Rattle.rx_shape.specs.Words.{pack, tag_of, low_of}
use Rattle.rx_shape.specs.Nodes.{no_place, node_word, header_word}
use Rattle.rx_shape.specs.Forms.{inline, block, node, start_own, live_as, decoded_as}
use Rattle.rx_shape.specs.Layout.{Layout, words_of, first_place, home}
use Rattle.rx_shape.specs.Start.{start_word}
use Rattle.rx_shape.specs.declared.plans.Taken.{Taken}
use Rattle.rx_shape.specs.declared.plans.Write.{Write}
use Rattle.rx_shape.specs.declared.plans.Want.TheVariants.{Read, Ready, Stale}
use Rattle.rx_shape.specs.declared.steps.Step.TheVariants.{Open, Broken, Kept, Whole}
use Rattle.rx_shape.specs.Versions.{traded}
use Rattle.rx_shape.specs.Walks.{at_run, numbers_of, next_want}
use Rattle.rx_shape.specs.Moves.{block_writes, block_pairs}

abbrev write : ℕ → ℕ → Write
write own value = record { own = own; value = value }

abbrev taken : ℕ → ℕ → Taken
taken place word = record { place = place; word = word }

-- a tag of 1 and a low part of 1
pub one_and_one : pack 1 1 ≡ 16777217
one_and_one = refl

pub tag_of_it : tag_of 16777217 ≡ 1
tag_of_it = refl

pub low_of_it : low_of 16777217 ≡ 1
low_of_it = refl

-- a cell, a queue of one number, and registers of two, with two seats
abbrev small : Layout
small = record {
  parts = record { kind = Cell; cap = 1 } ∷ record { kind = Queue; cap = 1 } ∷ record { kind = Registers; cap = 2 } ∷ [];
  seats = 2;
  first = 5;
}

-- 1 and 3 roots, then 2 places for the queue and for each of its seats, and 3 for the registers and for each of theirs
pub small_words : words_of small ≡ 19
small_words = refl

pub cell_first : first_place small 0 ≡ 0
cell_first = refl

pub cell_count : (home small 0).count ≡ 0
cell_count = refl

pub queue_first : first_place small 1 ≡ 4
queue_first = refl

pub queue_count : (home small 1).count ≡ 6
queue_count = refl

pub registers_first : first_place small 2 ≡ 10
registers_first = refl

pub registers_count : (home small 2).count ≡ 9
registers_count = refl

-- the queue has places 4 and 5, its first seat 6 and 7, and its second seat 8 and 9
pub first_seat : start_own (home small 1) 0 ≡ 6 ∷ 7 ∷ []
first_seat = refl

pub second_seat : start_own (home small 1) 1 ≡ 8 ∷ 9 ∷ []
second_seat = refl

-- the words of the start
pub word_of_nobody : start_word small 0 ≡ 0
word_of_nobody = refl

pub root_of_cell : start_word small 1 ≡ pack 5 0
root_of_cell = refl

pub root_of_queue : start_word small 2 ≡ pack 5 4
root_of_queue = refl

pub root_of_registers : start_word small 3 ≡ pack 5 10
root_of_registers = refl

-- the queue's header leads to no node, and to the spare node at the next place, which leads to none
pub header_of_queue : start_word small 4 ≡ 16777215 * 16777216 + 5
header_of_queue = refl

pub spare_of_queue : start_word small 5 ≡ 16777215
spare_of_queue = refl

pub place_of_first_seat : start_word small 6 ≡ 0
place_of_first_seat = refl

pub length_of_registers : start_word small 10 ≡ 2
length_of_registers = refl

pub value_of_register : start_word small 11 ≡ 0
value_of_register = refl

pub place_of_seat : start_word small 13 ≡ 0
place_of_seat = refl

-- the largest layout: 16 objects of capacity 64, and 64 seats
abbrev largest : Layout
largest = record { parts = replicate 16 (record { kind = Queue; cap = 64 }); seats = 64; first = 0 }

pub largest_words : words_of largest ≡ 67617
largest_words = refl

-- the state 3, 7, 9 is written into an own block as its length and its numbers
pub written_block : block_writes (3 ∷ 7 ∷ 9 ∷ []) ≡ write 0 3 ∷ write 1 3 ∷ write 2 7 ∷ write 3 9 ∷ []
written_block = refl

-- an own block at places 13 to 15 trades them for those of the block at place 10
pub traded_block : traded (13 ∷ 14 ∷ 15 ∷ []) (block_pairs 0 10 3) ≡ 10 ∷ 11 ∷ 12 ∷ []
traded_block = refl

-- a walk at place 10 has read the length and one of two numbers
pub read_words : at_run 10 (2 ∷ 3 ∷ []) ≡ taken 10 2 ∷ taken 11 3 ∷ []
read_words = refl

pub numbers_read : numbers_of (2 ∷ 3 ∷ 9 ∷ []) ≡ 3 ∷ 9 ∷ []
numbers_read = refl

-- the next place is wanted while words are missing, and none of a block that does not fit the object's places
pub next_word : next_want (home small 2) Open 10 1 ≡ Read 11
next_word = refl

pub no_block : next_want (home small 2) Open 17 0 ≡ Stale
no_block = refl

-- what is read of an object settles the call, or no state has it: then nothing more is wanted
pub nothing_more : next_want (home small 2) Whole 10 3 ≡ Ready
nothing_more = refl

pub nothing_of_use : next_want (home small 2) Broken 10 1 ≡ Stale
nothing_of_use = refl

pub answered_early : next_want (home small 2) (Kept (Done 7)) 10 2 ≡ Ready
answered_early = refl

-- a queue of one number, 42: its header at place 4 leads to the node at place 5 and to no spare node
pub queue_places : live_as node (home small 1) (pack 5 4) (0 ∷ 0 ∷ 0 ∷ 0 ∷ header_word 5 no_place ∷ node_word 42 no_place ∷ []) ≡ 4 ∷ 5 ∷ []
queue_places = refl

pub queue_state : decoded_as node (home small 1) (pack 5 4) (0 ∷ 0 ∷ 0 ∷ 0 ∷ header_word 5 no_place ∷ node_word 42 no_place ∷ []) ≡ 42 ∷ []
queue_state = refl

-- an empty one: the header at place 5 leads to no node, and to the spare node at place 4, whose value means nothing
pub empty_places : live_as node (home small 1) (pack 5 5) (0 ∷ 0 ∷ 0 ∷ 0 ∷ node_word 42 no_place ∷ header_word no_place 4 ∷ []) ≡ 5 ∷ 4 ∷ []
empty_places = refl

pub empty_queue : decoded_as node (home small 1) (pack 5 5) (0 ∷ 0 ∷ 0 ∷ 0 ∷ node_word 42 no_place ∷ header_word no_place 4 ∷ []) ≡ []
empty_queue = refl

-- a list of two numbers, 3 and 9, of three: the nodes lead from the header at place 2 to places 1 and 4, and the spare node
-- is at place 0
pub list_places : live_as node (record { part = record { kind = Ordered; cap = 3 }; first = 0; count = 8 }) (pack 1 2) (node_word 7 no_place ∷ node_word 3 4 ∷ header_word 1 0 ∷ 0 ∷ node_word 9 no_place ∷ []) ≡ 2 ∷ 1 ∷ 4 ∷ 0 ∷ []
list_places = refl

pub list_state : decoded_as node (record { part = record { kind = Ordered; cap = 3 }; first = 0; count = 8 }) (pack 1 2) (node_word 7 no_place ∷ node_word 3 4 ∷ header_word 1 0 ∷ 0 ∷ node_word 9 no_place ∷ []) ≡ 3 ∷ 9 ∷ []
list_state = refl

-- a block at place 4 that has 7 and 8
pub registers_state : decoded_as block (home small 2) (pack 5 4) (0 ∷ 0 ∷ 0 ∷ 0 ∷ 2 ∷ 7 ∷ 8 ∷ []) ≡ 7 ∷ 8 ∷ []
registers_state = refl

pub cell_state : decoded_as inline (home small 0) (pack 5 9) [] ≡ 9 ∷ []
cell_state = refl
