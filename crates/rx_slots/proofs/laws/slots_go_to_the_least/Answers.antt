use Rattle.std.proofs.Common.{ap}
use Rattle.rx_slots.specs.Schedule.{job_in}
use Rattle.rx_slots.proofs.Choices.{idle_at, not_idle, who_least, least_who}
use Rattle.rx_slots.proofs.laws.slots_go_to_the_least.Goals as goal

pub returns-clause-idle : goal.returns-clause-idle
returns-clause-idle c = λ system n valid. (λ idle job pending. not_idle system n job valid pending (ap job_in idle), idle_at system n)

pub returns-clause-busy : goal.returns-clause-busy
returns-clause-busy c = λ system n job valid. (who_least system n job valid, least_who system n job valid)
