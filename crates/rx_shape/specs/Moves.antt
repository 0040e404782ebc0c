-- What a plan writes and trades that moves a state into the own block.
use Rattle.std.specs.Prelude.{ℕ, zero, suc, ◌+◌, List, [], ◌∷◌, length}
use Rattle.rx_shape.specs.declared.plans.Write.{Write}
use Rattle.rx_shape.specs.declared.plans.Pair.{Pair}

-- numbers under own numbers that follow each other
abbrev pub number_writes : ℕ → List ℕ → List Write
number_writes own [] = []
number_writes own (number ∷ numbers) = record { own = own; value = number } ∷ number_writes (own + 1) numbers

-- the length, and then the numbers: what a plan writes that changes the state of a block
abbrev pub block_writes : List ℕ → List Write
block_writes state = record { own = 0; value = length state } ∷ number_writes 1 state

-- so many own numbers become places that follow each other: the whole own block is traded for the old one
abbrev pub block_pairs : ℕ → ℕ → ℕ → List Pair
block_pairs own place zero = []
block_pairs own place (suc count) = record { own = own; place = place } ∷ block_pairs (own + 1) (place + 1) count
