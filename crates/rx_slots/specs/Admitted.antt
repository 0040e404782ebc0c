-- That an admission test holds for a set.
use Rattle.std.specs.Prelude.{◌≡◌, ◌≢◌, ◌⊎◌}
use Rattle.rx_set.specs.Admission.{EachIsServed, EachSpanFits}
use Rattle.rx_set.specs.System.{System}
use Rattle.rx_set.specs.declared.policies.Policy.TheVariants.{Edf}

-- an admission test holds for a set: under fixed priorities each task is served, or under earliest deadlines first each
-- span fits
abbrev pub IsAdmitted : System → Type 0
IsAdmitted system = ((system.policy ≢ Edf) × EachIsServed system) ⊎ ((system.policy ≡ Edf) × EachSpanFits system)
