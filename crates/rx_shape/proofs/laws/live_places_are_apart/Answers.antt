use Rattle.rx_shape.proofs.Local.{root_in}
use Rattle.rx_shape.proofs.laws.live_places_are_apart.Goals as goal

pub returns-clause-inside : goal.returns-clause-inside
returns-clause-inside c home root place words v at = v.inside place at

pub returns-clause-once : goal.returns-clause-once
returns-clause-once c home root place words v = v.once place

pub returns-clause-root : goal.returns-clause-root
returns-clause-root c home root words v some = root_in home root words v some
