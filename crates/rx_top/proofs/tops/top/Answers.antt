use Rattle.rx_top.specs.Outcome.{Ends, ends}
use Rattle.rx_top.proofs.Endings.{answered_ends, answered_kept, answered_outcome, last_answered, last_stopped}
use Rattle.rx_top.proofs.Determinations.{determined, unread}
use Rattle.rx_top.proofs.Outcomes.{Laws, admission, drawing, headline, sharing}
use Rattle.rx_top.proofs.tops.top.Goals as goal

pub returns-in-Ok-clause-outcome : goal.returns-in-Ok-clause-outcome
returns-in-Ok-clause-outcome g c = answered_outcome _ _ _ _ _ (rw c.command_of.ensures.value at c.in-Ok.ensures)

pub returns-in-Ok-clause-last : goal.returns-in-Ok-clause-last
returns-in-Ok-clause-last g c =
    let before : Ends = ends (g.S.Source.tells c.args.source.now) (g.K.Sink.tells c.args.sink.now) in
    let after : Ends = ends (g.S.Source.tells c.answer_words.new.source) (g.K.Sink.tells c.answer_words.new.sink) in
    let kept = answered_kept _ before after _ _ c.in-Ok.ensures in
    last_answered before after c.requires.source c.requires.sink c.in-Ok.status (answered_ends _ before after _ _ c.in-Ok.ensures) kept.0 kept.1

pub returns-in-Err-clause-last : goal.returns-in-Err-clause-last
returns-in-Err-clause-last g c = rw c.status.ensures.status (last_stopped (ends (g.S.Source.tells c.args.source.now) (g.K.Sink.tells c.args.sink.now)) (ends (g.S.Source.tells c.answer_words.new.source) (g.K.Sink.tells c.answer_words.new.sink)) c.requires.source c.requires.sink c.command_of.result _ c.in-Err.stop c.in-Err.ensures)

pub returns-in-Ok-clause-determined : goal.returns-in-Ok-clause-determined
returns-in-Ok-clause-determined g c = determined _ _ _ _ _ (rw c.command_of.ensures.value at c.in-Ok.ensures)

pub returns-in-Ok-clause-unread : goal.returns-in-Ok-clause-unread
returns-in-Ok-clause-unread g c = unread _ _ _ _ _ (rw c.command_of.ensures.value at c.in-Ok.ensures)

pub returns-in-Ok-clause-headline : goal.returns-in-Ok-clause-headline
returns-in-Ok-clause-headline g c =
    let laws : Laws = record {
      served = c.least_times_serve.ensures.test;
      fits = c.verdicts_are_exact.ensures.yes;
      fails = c.verdicts_are_exact.ensures.no;
      drawn = c.drawn_sets_are_valid.ensures.costs;
      bodies = c.entries_follow_the_bodies.ensures.entries;
      bounds = c.retries_are_bounded.ensures.all;
      ranks = c.retries_are_bounded.ensures.ranks;
      ranked = c.served_sets_miss_nothing.ensures.fixed;
      earliest = c.fitting_spans_miss_nothing.ensures.earliest;
    } in
    headline laws _ _ _ _ _ (rw c.command_of.ensures.value at c.in-Ok.ensures)

pub returns-in-Ok-clause-admission : goal.returns-in-Ok-clause-admission
returns-in-Ok-clause-admission g c =
    let laws : Laws = record {
      served = c.least_times_serve.ensures.test;
      fits = c.verdicts_are_exact.ensures.yes;
      fails = c.verdicts_are_exact.ensures.no;
      drawn = c.drawn_sets_are_valid.ensures.costs;
      bodies = c.entries_follow_the_bodies.ensures.entries;
      bounds = c.retries_are_bounded.ensures.all;
      ranks = c.retries_are_bounded.ensures.ranks;
      ranked = c.served_sets_miss_nothing.ensures.fixed;
      earliest = c.fitting_spans_miss_nothing.ensures.earliest;
    } in
    admission laws _ _ _ _ _ (rw c.command_of.ensures.value at c.in-Ok.ensures)

pub returns-in-Ok-clause-drawing : goal.returns-in-Ok-clause-drawing
returns-in-Ok-clause-drawing g c =
    let laws : Laws = record {
      served = c.least_times_serve.ensures.test;
      fits = c.verdicts_are_exact.ensures.yes;
      fails = c.verdicts_are_exact.ensures.no;
      drawn = c.drawn_sets_are_valid.ensures.costs;
      bodies = c.entries_follow_the_bodies.ensures.entries;
      bounds = c.retries_are_bounded.ensures.all;
      ranks = c.retries_are_bounded.ensures.ranks;
      ranked = c.served_sets_miss_nothing.ensures.fixed;
      earliest = c.fitting_spans_miss_nothing.ensures.earliest;
    } in
    drawing laws _ _ _ _ _ (rw c.command_of.ensures.value at c.in-Ok.ensures)

pub returns-in-Ok-clause-sharing : goal.returns-in-Ok-clause-sharing
returns-in-Ok-clause-sharing g c = sharing c.lines_tell_their_calls.ensures.calls _ _ _ _ _ (rw c.command_of.ensures.value at c.in-Ok.ensures)
