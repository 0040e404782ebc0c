use Rattle.std.proofs.Common.{◌≡◌, ◌∙◌, [], length, refl, ap, sym, arith}
use Rattle.std.proofs.lemmas.Bool.{eqb-true}
use Rattle.std.proofs.lemmas.List.{nil_from_length}
use Rattle.std.proofs.lemmas.Result.{on_ok_weaker}
use Rattle.rx_ledger.specs.Counts.{with_slot}
use Rattle.rx_trace.proofs.Counting.{counts_next}
use Rattle.rx_trace.proofs.Lines.{no_lines}
use Rattle.rx_io.proofs.Puts.{takes_same_nothing}
use Rattle.rx_trace.proofs.runs.write_slot.Goals as goal

pub returns-then-is_empty-clause-puts : goal.returns-then-is_empty-clause-puts
returns-then-is_empty-clause-puts g c =
    let none : c.tick.new.out.events.items ≡ [] = nil_from_length _ (eqb-true _ 0 (sym c.is_empty.ensures ∙ c.if-is_empty.true)) in
    takes_same_nothing _ _ (no_lines c.args.set.now c.args.executive.now.time _ (rw c.requires.system at c.tick.ensures.events) none)

pub returns-then-is_empty-clause-counts : goal.returns-then-is_empty-clause-counts
returns-then-is_empty-clause-counts g c =
    let none : c.tick.new.out.events.items ≡ [] = nil_from_length _ (eqb-true _ 0 (sym c.is_empty.ensures ∙ c.if-is_empty.true)) in
    counts_next _ _ _ _ _ _ _ c.requires.counts (rw c.requires.system at c.tick.ensures.slot) (rw c.requires.system at c.tick.ensures.events)
    (omega (arith, ap length none)) (c.slot.ensures ∙ ap (with_slot c.args.totals.now) c.is_some.ensures) (rw none refl)

pub returns-clause-puts : goal.returns-clause-puts
returns-clause-puts g c =
    let told = c.as_slice.ensures.value ∙ (rw c.requires.system at c.tick.ensures.events) in
    rw told at c.put_events.ensures.puts

pub returns-clause-counts : goal.returns-clause-counts
returns-clause-counts g c =
    let told = c.as_slice.ensures.value ∙ (rw c.requires.system at c.tick.ensures.events) in
    on_ok_weaker _ (counts_next _ _ _ _ _ _ _ c.requires.counts (rw c.requires.system at c.tick.ensures.slot) told
    (omega (arith, c.as_slice.ensures.fits)) (c.slot.ensures ∙ ap (with_slot c.args.totals.now) c.is_some.ensures)) c.put_events.ensures.totals
