-- What a clause reads of an `InSource` and an `OutSink`.
use Rattle.std.specs.Prelude.{Bool}
use Rattle.rx_io.specs.declared.adapters.InSource.{InSource}
use Rattle.rx_io.specs.declared.adapters.OutSink.{OutSink}

-- the reader behind a source
abbrev pub in_inner : {R : Type 0} → InSource R → R
in_inner source = source.inner

-- whether the latest call of a source failed
abbrev pub in_down : {R : Type 0} → InSource R → Bool
in_down source = source.down

-- the writer behind a sink
abbrev pub out_inner : {W : Type 0} → OutSink W → W
out_inner sink = sink.inner

-- whether the latest call of a sink failed
abbrev pub out_down : {W : Type 0} → OutSink W → Bool
out_down sink = sink.down
