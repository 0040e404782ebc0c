-- What the definitions of calls say of a few lists of them, the latest call first.
use Rattle.std.proofs.Common.{ℕ, List, [], ◌∷◌, refl, arith}
use Rattle.rx_io.specs.States.{Transfer}
use Rattle.rx_io.specs.Causes.{ArePieces, AreSteps, EndRefused}

abbrev call : ℕ → ℕ → Transfer
call asked moved = record { asked = asked; moved = moved }

-- two lines of four bytes and of one
abbrev lines : List (List ℕ)
lines = (97 ∷ 98 ∷ 99 ∷ 10 ∷ []) ∷ (10 ∷ []) ∷ []

-- a call for each
two_calls : ArePieces lines (call 1 1 ∷ call 4 4 ∷ [])
two_calls = (omega arith, omega arith, refl, (omega arith, omega arith, refl, tt))

-- the sink took three bytes of the first line, and then the fourth
three_calls : ArePieces lines (call 1 1 ∷ call 1 1 ∷ call 4 3 ∷ [])
three_calls = (omega arith, omega arith, refl, (omega arith, omega arith, refl, (omega arith, omega arith, refl, tt)))

-- the first line byte by byte, or both in one piece
not_by_bytes : ArePieces lines (call 1 1 ∷ []) → ⊥
not_by_bytes are = omega (arith, are.2)

not_at_once : ArePieces lines (call 5 5 ∷ []) → ⊥
not_at_once are = omega (arith, are.2)

-- the sink took three bytes of the first line, and refused the fourth
refused : EndRefused lines 3 1 (call 1 0 ∷ call 4 3 ∷ [])
refused = (refl, refl, (omega arith, omega arith, refl, tt), refl)

-- no call goes on after that
not_after : ArePieces lines (call 1 1 ∷ call 1 0 ∷ call 4 3 ∷ []) → ⊥
not_after are = omega (arith, are.3.0)

-- six bytes by steps of four, up to a limit of ten: the last call finds the end
steps : AreSteps 4 10 (call 4 0 ∷ call 4 2 ∷ call 4 4 ∷ [])
steps = (omega arith, refl, (omega arith, (omega arith, tt)), (omega arith, refl, (omega arith, tt), (omega arith, refl, tt, tt)))

not_past_the_end : AreSteps 4 10 (call 4 0 ∷ call 4 0 ∷ []) → ⊥
not_past_the_end are = omega (arith, are.2.0)
