-- The bank of a set before its first slot.
use Rattle.std.proofs.Common.{ℕ, ◌≡◌, List, [], length, Result, Ok, Err, sym, ap, ◌∙◌, subst, arith}
use Rattle.std.specs.Prelude.{IfOk}
use Rattle.std.specs.List.{All}
use Rattle.std.proofs.lemmas.List.{length-map}
use Rattle.rx_seq.specs.declared.kinds.Part.{Part}
use Rattle.rx_seq.specs.declared.memory.NoMemory.{NoMemory}
use Rattle.rx_seq.specs.Table.{IsPart}
use Rattle.rx_set.specs.System.{System, part_of_row, parts_of}
use Rattle.rx_set.specs.Valid.{IsValid}
use Rattle.rx_set.proofs.Readings.{parts_valid}
use Rattle.rx_shape.specs.Layout.{Layout, IsLayout}
use Rattle.rx_port.specs.Lawful.{Lawful}
use Rattle.rx_port.specs.Plain.{Whole}
use Rattle.rx_tick.specs.Banks.{IsBankOf}

-- its layout is within the limits
pub layout_fits : (system : System) (parts : List Part) (seats : ℕ) → IsValid system → parts ≡ parts_of system → seats ≡ length system.tasks → IsLayout (record { parts = parts; seats = seats; first = 0 })
layout_fits system parts seats valid same tasks = record {
  few = omega (arith, ap length same, length-map system.objects part_of_row, valid.few_objects);
  parts = subst (All IsPart) (sym same) (parts_valid system valid);
  one = omega (arith, valid.some_tasks.0);
  seats = omega (arith, valid.some_tasks.1);
  tag = omega arith;
}

-- and it stands for no entry
pub new_stands : (system : System) (parts : List Part) (seats : ℕ) (layout : Layout) (result : Result Whole NoMemory) → layout ≡ record { parts = parts; seats = seats; first = 0 } → parts ≡ parts_of system → seats ≡ length system.tasks
    → IfOk result (λ bank. bank.layout ≡ layout) → IfOk result (λ bank. Lawful layout bank.core.words bank.core.views []) → IfOk result (IsBankOf system [])
new_stands system parts seats layout (Ok bank) e same tasks its lawful = record {
  parts = ap (λ (l : Layout). l.parts) (its ∙ e) ∙ same;
  seats = ap (λ (l : Layout). l.seats) (its ∙ e) ∙ tasks;
  first = ap (λ (l : Layout). l.first) (its ∙ e);
  lawful = subst (λ (l : Layout). Lawful l bank.core.words bank.core.views []) (sym its) lawful;
}
new_stands system parts seats layout (Err none) e same tasks its lawful = tt
