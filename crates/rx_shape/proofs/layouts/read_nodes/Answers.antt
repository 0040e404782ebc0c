use Rattle.std.proofs.Common.{◌≡◌, ◌-◌, ◌+◌, suc, ap, arith}
use Rattle.rx_shape.specs.Places.{times}
use Rattle.rx_shape.proofs.Chains.{walk_on, read_on}
use Rattle.rx_shape.proofs.layouts.read_nodes.Goals as goal

pub loop-turn-preserved : goal.loop-turn-preserved
loop-turn-preserved c =
    let n = c.args.cap - c.loop-turn._turn in
    let m = c.args.cap - (c.loop-turn._turn + 1) in
    let one : n ≡ suc m = omega arith in
    let on = walk_on n m c.args.words.now c.loop-turn.place c.next_of-place.result one c.if-place-eq-NO_PLACE.false c.next_of-place.ensures.value in
    record {
      sofar = read_on c.args.words.now c.loop-turn.state.items c.push.new.self.items _ n m c.loop-turn.place c.next_of-place.result c.value_of.result one c.if-place-eq-NO_PLACE.false c.next_of-place.ensures.value c.value_of.ensures c.push.ensures.items c.loop-turn.invariant.sofar;
      among = λ q at. c.loop-turn.invariant.among q (let e = ap (times q) on in omega arith);
      many = let many = c.loop-turn.invariant.many in let more = c.push.ensures.len in omega arith;
    }
