use Rattle.std.proofs.Common.{◌≡◌, ◌<◌, ◌^◌, take}
use Rattle.rx_file.specs.Texts.{value_of}
use Rattle.rx_file.proofs.texts.value_of.Given as goal

abbrev pub invariant-loop-byte : goal.invariant-loop-byte
invariant-loop-byte l = record {
  value : l.value ≡ value_of (take l.byte-index l.digits);
  bound : l.value < 10 ^ l.byte-index;
}
