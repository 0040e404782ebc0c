use Rattle.std.proofs.Common.{◌≡◌, [], nat_lt, get_or}
use Rattle.std.specs.Prelude.{slice_get}
use Rattle.rx_set.specs.Charges.{exposed_by}
use Rattle.rx_set.specs.System.{largest, parts_of}
use Rattle.rx_set.specs.View.{system_of}
use Rattle.rx_set.specs.declared.policies.Policy.TheVariants.{Rm}
use Rattle.rx_set.proofs.exposures.longest_exposed.Given as goal

abbrev pub invariant-loop-item : goal.invariant-loop-item
invariant-loop-item l = l.longest ≡ largest (λ place. exposed_by (λ object. nat_lt (get_or l.lowest object 0) l.most) (parts_of (system_of Rm l.objects [] [])) (slice_get l.items place)) l.item-index
