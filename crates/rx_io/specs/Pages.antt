-- What a clause sees of a `PageSink`, and what it tells.
use Rattle.std.specs.Prelude.{ℕ, List, Bool, Option}
use Rattle.std.specs.Io.KnownBytes.{append_known}
use Rattle.rx_io.specs.States.{SinkState, failures_of}

-- the writer, the bytes that it has not taken yet, and whether the latest call failed
pub record Pages (W : Type 0) : Type 0 where
  pub inner : W
  pub gathered : List ℕ
  pub down : Bool

-- the writer's bytes, where those are known, and then the bytes that it has not taken yet
abbrev pub page_contents : {W : Type 0} → (W → Option (List ℕ)) → Pages W → Option (List ℕ)
page_contents contents sink = append_known (contents sink.inner) sink.gathered

-- what such a sink tells: all those bytes
abbrev pub page_state : {W : Type 0} → (W → Option (List ℕ)) → Pages W → SinkState
page_state contents sink = record { taken = page_contents contents sink; calls = λ past. Unit {0}; refuses = λ piece. Unit {0}; failures = failures_of sink.down }
