use Rattle.std.proofs.Common.{◌++◌, ◌∙◌, ap, sym, append-nil}
use Rattle.rx_io.proofs.Puts.{puts_cut, puts_cut_first, takes_next}
use Rattle.rx_slots.specs.Events.{events}
use Rattle.rx_trace.specs.Runs.{lines_of}
use Rattle.rx_trace.proofs.Banks.{bank_left}
use Rattle.rx_trace.proofs.Lines.{schedule_parts}
use Rattle.rx_trace.proofs.runs.write_schedule.Goals as goal

pub returns-in_err-write_slots-clause-puts : goal.returns-in_err-write_slots-clause-puts
returns-in_err-write_slots-clause-puts g c = puts_cut_first _ _ _ _ _ _ c.from_residual.ensures.0 c.in_err-write_slots.ensures.puts (schedule_parts c.args.set.now c.args.ticks)

pub returns-in_err-write_end-clause-puts : goal.returns-in_err-write_end-clause-puts
returns-in_err-write_end-clause-puts g c =
    puts_cut _ _ _ _ _ _ _ _ c.from_residual-in_err-write_end.ensures.0 c.in_ok-write_slots.ensures.puts c.in_err-write_end.ensures.puts
    (schedule_parts c.args.set.now c.args.ticks ∙ ap (λ r. lines_of c.args.set.now (events c.args.set.now c.args.ticks) ++ r) (sym (append-nil _)))

pub returns-clause-puts : goal.returns-clause-puts
returns-clause-puts g c = takes_next _ _ _ _ _ _ c.in_ok-write_slots.ensures.puts c.in_ok-write_end.ensures.puts (schedule_parts c.args.set.now c.args.ticks)

pub returns-clause-bank : goal.returns-clause-bank
returns-clause-bank g c =
    bank_left _ _ _ _ c.in_ok-write_slots.ensures.end (c.replies_and_retries_are_told.ensures.count c.args.set.now c.args.ticks) c.into_bank-bank.ensures.history
    c.into_bank-bank.ensures.sums
