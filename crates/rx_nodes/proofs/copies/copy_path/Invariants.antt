use Rattle.std.proofs.Common.{◌≡◌, ◌+◌, ◌∷◌, take}
use Rattle.std.specs.Prelude.{slice_index}
use Rattle.rx_shape.specs.Words.{low_of, pack, tag_of}
use Rattle.rx_shape.specs.Nodes.{first_of, header_word}
use Rattle.rx_nodes.specs.Copies.{copies, lead, leads, pairs_from, stations}
use Rattle.rx_nodes.proofs.copies.copy_path.Given as goal

abbrev pub invariant-loop-n : goal.invariant-loop-n
invariant-loop-n l = record {
  root : l.out.root ≡ pack (tag_of l.root + 1) (slice_index l.own 0);
  writes : l.out.writes.items ≡ record { own = 0; value = header_word (lead 1 l.own l.nodes l.end) l.spare } ∷ take l.n (copies 1 l.own l.nodes l.end);
  pairs : l.out.trade.pairs.items ≡ pairs_from 0 (low_of l.root ∷ stations (first_of l.head) (take l.n l.nodes));
  place : l.place ≡ leads (first_of l.head) (take l.n l.nodes);
}
