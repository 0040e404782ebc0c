use Rattle.std.proofs.Common.{ℕ, ◌≡◌, ◌<◌, ◌-◌, ◌++◌, length}
use Rattle.std.specs.Prelude.{slice_index}
use Rattle.rx_shape.specs.Places.{times}
use Rattle.rx_shape.specs.Nodes.{first_of, values, walk}
use Rattle.rx_shape.proofs.layouts.read_nodes.Given as goal

abbrev pub invariant-loop-turn : goal.invariant-loop-turn
invariant-loop-turn l = record {
  sofar : l.state.items ++ values l.words (walk (l.cap - l._turn) l.words l.place) ≡ values l.words (walk l.cap l.words (first_of (slice_index l.words l.low)));
  among : (q : ℕ) → 0 < times q (walk (l.cap - l._turn) l.words l.place) → 0 < times q (walk l.cap l.words (first_of (slice_index l.words l.low)));
  many : length l.state.items ≡ l._turn;
}
