-- What the definitions of a source and a sink in memory give at a few values.
use Rattle.std.proofs.Common.{◌≡◌, ◌-◌, ◌^◌, true, false, [], ◌∷◌, refl}
use Rattle.rx_io.specs.Memory.{MemoryIn, MemoryOut, next_call, is_listed, is_full, given_count, after_read, taken_count}

-- a source of five bytes in steps of three
abbrev source : MemoryIn
source = record { left = 10 ∷ 11 ∷ 12 ∷ 13 ∷ 14 ∷ []; step = 3; fails = []; calls = 0; down = false }

-- a sink that has taken four bytes of six, in steps of three
abbrev sink : MemoryOut
sink = record { taken = 10 ∷ 11 ∷ 12 ∷ 13 ∷ []; room = 6; step = 3; fails = []; calls = 2; down = false }

first_call : next_call 0 ≡ 1
first_call = refl

last_call : next_call (2 ^ 64 - 1) ≡ 2 ^ 64 - 1
last_call = refl

listed : is_listed 3 (1 ∷ 3 ∷ []) ≡ true
listed = refl

not_listed : is_listed 2 (1 ∷ 3 ∷ []) ≡ false
not_listed = refl

gives_a_step : given_count source 4 ≡ 3
gives_a_step = refl

gives_the_rest : given_count (after_read source 3) 4 ≡ 2
gives_the_rest = refl

fills_the_buffer : given_count source 1 ≡ 1
fills_the_buffer = refl

takes_the_room : taken_count sink 7 ≡ 2
takes_the_room = refl

has_room : is_full sink (20 ∷ []) ≡ false
has_room = refl

is_out_of_room : is_full (record sink { room = 4 }) (20 ∷ []) ≡ true
is_out_of_room = refl

takes_an_empty_piece : is_full (record sink { room = 4 }) [] ≡ false
takes_an_empty_piece = refl
