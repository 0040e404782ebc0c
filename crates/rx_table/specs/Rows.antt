-- Worked rows of a table of a cell and a queue: the words and the seats of the start, and what a seat holds that
-- takes another in.
use Rattle.std.specs.Prelude.{◌≡◌, ◌+◌, ◌*◌, refl, [], ◌∷◌, Some}
use Rattle.rx_seq.specs.declared.kinds.Kind.TheVariants.{Cell, Queue}
use Rattle.rx_shape.specs.Layout.{Layout, words_of}
use Rattle.rx_shape.specs.Start.{start_word}
use Rattle.rx_table.specs.Rule.{first_view}
use Rattle.rx_table.specs.Seats.{maker, made, carries, taker}

-- a cell and a queue, two seats, first tag 5
abbrev pub small : Layout
small = record { parts = record { kind = Cell; cap = 1 } ∷ record { kind = Queue; cap = 2 } ∷ []; seats = 2; first = 5 }

-- word 0, two roots, and three places for the queue and for each seat
pub words_of_small : words_of small ≡ 12
words_of_small = refl

pub word_zero : start_word small 0 ≡ 0
word_zero = refl

pub root_of_queue : start_word small 2 ≡ 5 * 16777216 + 3
root_of_queue = refl

-- the first seat, and the one that it makes
pub first_owns : (first_view small).own ≡ [] ∷ (6 ∷ 7 ∷ 8 ∷ []) ∷ []
first_owns = refl

pub second_owns : (made small (first_view small)).own ≡ [] ∷ (9 ∷ 10 ∷ 11 ∷ []) ∷ []
second_owns = refl

pub second_is : (made small (first_view small)).number ≡ 1
second_is = refl

pub next_is : (maker (first_view small)).next ≡ Some 2
next_is = refl

-- a seat that takes another in keeps its places, and has its own as before
pub held : carries (taker (first_view small) (made small (first_view small)))
    ≡ record { number = 0; seen = []; mine = []; own = [] ∷ (6 ∷ 7 ∷ 8 ∷ []) ∷ [] } ∷ record { number = 1; seen = []; mine = []; own = [] ∷ (9 ∷ 10 ∷ 11 ∷ []) ∷ [] } ∷ []
held = refl

pub own_stays : (taker (first_view small) (made small (first_view small))).own ≡ (first_view small).own
own_stays = refl
