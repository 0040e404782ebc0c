use Rattle.std.proofs.Common.{◌≡◌, ◌+◌, ap, arith}
use Rattle.rx_io.proofs.Puts.{puts_cut, takes_next}
use Rattle.rx_tick.specs.Executive.{Moment}
use Rattle.rx_slots.specs.Events.{events}
use Rattle.rx_trace.specs.Runs.{lines_of}
use Rattle.rx_trace.proofs.Lines.{slot_lines, lines_later}
use Rattle.rx_trace.proofs.runs.write_slots.Goals as goal

pub loop-executive-preserved : goal.loop-executive-preserved
loop-executive-preserved g c =
    let time : c.write_slot.new.executive.time ≡ c.loop-executive.executive.time + 1 = ap (λ (m : Moment). m.time) c.in_ok-write_slot.ensures.next in record {
      system = ap (λ (m : Moment). m.system) c.in_ok-write_slot.ensures.next;
      within = omega (arith, time, c.now.ensures, c.loop-executive-test.true);
      taken = rw time (takes_next _ _ _ _ _ (lines_of c.args.set.now (events c.args.set.now (c.loop-executive.executive.time + 1))) c.loop-executive.invariant.taken c.in_ok-write_slot.ensures.puts (slot_lines c.args.set.now c.loop-executive.executive.time));
      counts = rw time c.in_ok-write_slot.ensures.counts;
    }

pub returns-in_err-write_slot-clause-puts : goal.returns-in_err-write_slot-clause-puts
returns-in_err-write_slot-clause-puts g c =
    let later = lines_later c.args.set.now c.loop-executive.executive.time c.args.ticks (omega (arith, c.now.ensures, c.loop-executive-test.true)) in
    puts_cut _ _ _ _ _ _ _ _ c.from_residual.ensures.0 c.loop-executive.invariant.taken c.in_err-write_slot.ensures.puts later.1
