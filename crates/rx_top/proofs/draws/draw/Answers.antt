use Rattle.std.proofs.Common.{refl, subst}
use Rattle.rx_io.specs.Causes.{Takes, TakesFront}
use Rattle.rx_set.specs.System.{System}
use Rattle.rx_top.specs.Drawn.{drawn_report}
use Rattle.rx_trace.specs.RunBanks.{IsBankLeft}
use Rattle.rx_top.proofs.Endings.{writes_stopped}
use Rattle.rx_top.proofs.draws.draw.Goals as goal

pub returns-in_err-write_drawn : goal.returns-in_err-write_drawn
returns-in_err-write_drawn g c =
    writes_stopped _ _ _ _ _ c.from_residual-in_err-write_drawn.ensures.1 (record {
      written = subst (λ (s : System). TakesFront (g.K.Sink.tells c.args.sink.now) (g.K.Sink.tells c.write_drawn.new.sink) (drawn_report s c.args.ticks)) c.in_ok-set.ensures.set (c.in_err-write_drawn.ensures c.args.ticks c.in_ok-run.ensures.run);
      made = tt;
      nothing = c.requires.nothing;
    })

pub returns : goal.returns
returns g c = record {
  status = refl;
  written = subst (λ (s : System). Takes (g.K.Sink.tells c.args.sink.now) (g.K.Sink.tells c.write_drawn.new.sink) (drawn_report s c.args.ticks)) c.in_ok-set.ensures.set (c.in_ok-write_drawn.ensures c.args.ticks c.in_ok-run.ensures.run);
  valid = c.generate.ensures.valid;
  made = tt;
  leaves = subst (λ (s : System). IsBankLeft s c.args.ticks c.in_ok-run.run'.bank) c.in_ok-set.ensures.set c.in_ok-run.ensures.bank;
}
