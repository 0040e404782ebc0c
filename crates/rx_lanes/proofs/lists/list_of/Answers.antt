use Rattle.std.proofs.Common.{List, length, take, ap, sym, subst, arith, length-append}
use Rattle.rx_lanes.specs.Lists.{IsTold}
use Rattle.rx_set.specs.Operations.{Asked, operations_of, repeated}
use Rattle.rx_lanes.proofs.Parts.{repeated_next, repeated_more}
use Rattle.rx_lanes.proofs.lists.list_of.Goals as goal

pub add_job-requires-clause-answers : goal.add_job-requires-clause-answers
add_job-requires-clause-answers c = omega (arith, c.loop.invariant.many, c.requires.many, repeated_next c.loop.counter c.args.jobs (operations_of c.args.items.now) c.loop-test.true)

pub loop-preserved : goal.loop-preserved
loop-preserved c =
    let ops = operations_of c.args.items.now in
    let more = repeated_more c.loop.counter ops in
    record {
      many = omega (arith, c.add_job.ensures.many, c.loop.invariant.many, ap length more, length-append (repeated c.loop.counter ops) ops);
      room = omega (arith, c.add_job.ensures.room, c.loop.invariant.room);
      told = subst (λ (xs : List Asked). IsTold c.args.caller xs (take (length c.add_job.new.list.items) c.args.answers.now) c.add_job.new.list.items) (sym more)
          (c.add_job.ensures.told (repeated c.loop.counter ops) c.loop.invariant.told);
    }
