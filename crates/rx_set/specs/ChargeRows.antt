-- Worked rows of what a release is charged: who may change an object, whose attempts can be spoiled, and the charges.
use Rattle.std.specs.Prelude.{ℕ, ◌≡◌, true, false, refl, List, [], ◌∷◌, codes, Some}
use Rattle.rx_seq.specs.declared.kinds.Kind.{Kind}
use Rattle.rx_seq.specs.declared.kinds.Kind.TheVariants.{Cell, Queue, Registers}
use Rattle.rx_seq.specs.declared.calls.Call.TheVariants.{Get, Set, Add, Swap, Put, Take, Read, Shift, Multi}
use Rattle.rx_seq.specs.declared.calls.Row.{Row}
use Rattle.rx_set.specs.declared.policies.Policy.{Policy}
use Rattle.rx_set.specs.declared.policies.Policy.TheVariants.{Rm, Dm, Edf}
use Rattle.rx_set.specs.declared.items.Item.{Item}
use Rattle.rx_set.specs.declared.items.Item.TheVariants.{Work, Op}
use Rattle.rx_set.specs.System.{System, TaskRow, ObjectRow}
use Rattle.rx_set.specs.Charges.{may_change, exposure, charge, charge_edf}
use Rattle.rx_set.specs.Admission.{need, least_time, due_need}

abbrev task : ℕ → ℕ → List Item → TaskRow
task period deadline items = record { name = codes "t"; period = period; deadline = deadline; offset = 0; items = items }

abbrev object : List ℕ → Kind → ℕ → ObjectRow
object name kind cap = record { name = name; part = record { kind = kind; cap = cap } }

-- a sensor that fills a queue and counts, a controller that empties the queue and shifts axes, and a logger that looks
abbrev control : Policy → System
control policy = record {
  policy = policy;
  objects = object (codes "samples") Queue 16 ∷ object (codes "beats") Cell 1 ∷ object (codes "axes") Registers 8 ∷ [];
  tasks =
      record { name = codes "sensor"; period = 500; deadline = 500; offset = 0; items = Work 60 ∷ Op 0 (Put 7) ∷ Op 1 (Add 1) ∷ [] }
      ∷ record { name = codes "control"; period = 1000; deadline = 1000; offset = 0; items = Op 0 Take ∷ Op 0 Take ∷ Work 200 ∷ Op 2 (Shift 0 1 5) ∷ [] }
      ∷ record { name = codes "logger"; period = 5000; deadline = 5000; offset = 0; items = Op 2 (Read 1) ∷ Op 1 Get ∷ Work 900 ∷ [] } ∷ [];
  demands = [];
}

-- nobody can preempt the sensor; the sensor can spoil the controller's 38 ticks on the queue, and the controller the
-- logger's 22 on the registers
pub sensor_exposed : exposure (control Rm) 0 ≡ 0
sensor_exposed = refl

pub control_exposed : exposure (control Rm) 1 ≡ 38
control_exposed = refl

pub logger_exposed : exposure (control Rm) 2 ≡ 22
logger_exposed = refl

pub sensor_to_control : charge (control Rm) 2 1 ≡ 38
sensor_to_control = refl

pub sensor_to_logger : charge (control Rm) 3 1 ≡ 38
sensor_to_logger = refl

-- the controller is not charged its own 38
pub control_to_logger : charge (control Rm) 3 2 ≡ 22
control_to_logger = refl

-- 2,418 ticks of stated costs, 6 releases at 38 and 3 at 22
pub logger_served : need (control Rm) 3 2712 ≡ 2712
logger_served = refl

pub logger_a_tick_less : need (control Rm) 3 2711 ≡ 2712
logger_a_tick_less = refl

-- by deadlines, the same; the longest deadline has nobody to spoil
pub sensor_due_first : charge_edf (control Edf) 0 ≡ 38
sensor_due_first = refl

pub control_due_next : charge_edf (control Edf) 1 ≡ 22
control_due_next = refl

pub logger_due_last : charge_edf (control Edf) 2 ≡ 0
logger_due_last = refl

-- two tasks on a cell: the first has an item of its own, and the second works before and after one
abbrev on_cell : Policy → Item → Item → System
on_cell policy short long = record {
  policy = policy;
  objects = object (codes "c") Cell 1 ∷ [];
  tasks = task 10 10 (short ∷ []) ∷ task 20 20 (Work 1 ∷ long ∷ Work 1 ∷ []) ∷ [];
  demands = [];
}

-- tasks that only look spoil nobody
pub lookers_charged : charge (on_cell Rm (Op 0 Get) (Op 0 Get)) 2 1 ≡ 0
lookers_charged = refl

pub first_looker : least_time (on_cell Rm (Op 0 Get) (Op 0 Get)) 1 ≡ Some 2
first_looker = refl

pub second_looker : least_time (on_cell Rm (Op 0 Get) (Op 0 Get)) 2 ≡ Some 6
second_looker = refl

-- one that writes spoils a look too
pub look_spoiled : charge (on_cell Rm (Op 0 (Add 1)) (Op 0 Get)) 2 1 ≡ 2
look_spoiled = refl

-- a task of a higher rank can write as it will: it preempts nobody
pub writes_below : charge (on_cell Rm (Op 0 Get) (Op 0 (Add 1))) 2 1 ≡ 0
writes_below = refl

-- a set counts as a change, also of the value that is there
pub set_changes : may_change (on_cell Rm (Op 0 (Set 0)) (Op 0 Get)) 0 0 ≡ true
set_changes = refl

pub set_charged : charge (on_cell Rm (Op 0 (Set 0)) (Op 0 Get)) 2 1 ≡ 2
set_charged = refl

-- to add 0, or to swap a value for itself, is none
pub add_of_zero : may_change (on_cell Rm (Op 0 (Add 0)) (Op 0 Get)) 0 0 ≡ false
add_of_zero = refl

pub swap_for_itself : may_change (on_cell Rm (Op 0 (Swap 5 5)) (Op 0 Get)) 0 0 ≡ false
swap_for_itself = refl

pub swap_for_another : may_change (on_cell Rm (Op 0 (Swap 5 6)) (Op 0 Get)) 0 0 ≡ true
swap_for_another = refl

pub still_charged : charge (on_cell Rm (Op 0 (Add 0)) (Op 0 (Add 1))) 2 1 ≡ 0
still_charged = refl

-- work changes no object
pub work_changes : may_change (on_cell Rm (Work 1) (Op 0 Get)) 0 0 ≡ false
work_changes = refl

-- a task whose body has a change behind other items may change the object
pub later_item : may_change (on_cell Rm (Op 0 Get) (Op 0 (Add 1))) 0 1 ≡ true
later_item = refl

-- a queue that is only put to may be changed, however full it is
abbrev full : System
full = record {
  policy = Rm;
  objects = object (codes "q") Queue 1 ∷ [];
  tasks = task 100 100 (Op 0 (Put 1) ∷ []) ∷ task 200 200 (Op 0 (Put 2) ∷ []) ∷ [];
  demands = [];
}

pub put_changes : may_change full 0 0 ≡ true
put_changes = refl

pub put_charged : charge full 2 1 ≡ 8
put_charged = refl

-- rows of registers whose values stay are no change, and one that does not is
abbrev keep : Row
keep = record { i = 0; old = 3; new = 3 }

abbrev write : Row
write = record { i = 1; old = 3; new = 4 }

abbrev none : Row
none = record { i = 0; old = 0; new = 0 }

abbrev on_registers : List Row → System
on_registers rows = record {
  policy = Rm;
  objects = object (codes "r") Registers 4 ∷ [];
  tasks = task 100 100 (Op 0 (Multi 2 rows) ∷ []) ∷ task 200 200 (Op 0 (Read 1) ∷ []) ∷ [];
  demands = [];
}

pub rows_kept : charge (on_registers (keep ∷ keep ∷ none ∷ none ∷ [])) 2 1 ≡ 0
rows_kept = refl

pub row_written : charge (on_registers (keep ∷ write ∷ none ∷ none ∷ [])) 2 1 ≡ 14
row_written = refl

-- ranks decide under fixed priorities: by periods the first of these can preempt, and by deadlines the second
abbrev crossed : Policy → System
crossed policy = record {
  policy = policy;
  objects = object (codes "c") Cell 1 ∷ [];
  tasks = task 10 9 (Op 0 (Add 1) ∷ []) ∷ task 20 4 (Op 0 Get ∷ []) ∷ [];
  demands = [];
}

pub by_periods : charge (crossed Rm) 2 1 ≡ 2
by_periods = refl

pub by_deadlines : charge (crossed Dm) 2 1 ≡ 0
by_deadlines = refl

pub by_due_times : charge_edf (crossed Edf) 1 ≡ 0
by_due_times = refl

-- of equal periods the first in the file can preempt
pub equal_periods : charge (record (on_cell Rm (Op 0 (Add 1)) (Op 0 Get)) { tasks = task 10 10 (Op 0 (Add 1) ∷ []) ∷ task 10 10 (Op 0 (Add 1) ∷ []) ∷ [] }) 2 1 ≡ 2
equal_periods = refl

-- but jobs of equal relative deadlines do not preempt each other by deadlines
abbrev equal : System
equal = record (on_cell Edf (Op 0 Get) (Op 0 Get)) { tasks = task 4 4 (Op 0 (Add 1) ∷ []) ∷ task 4 4 (Op 0 (Add 1) ∷ []) ∷ [] }

pub first_of_equals : charge_edf equal 0 ≡ 0
first_of_equals = refl

pub second_of_equals : charge_edf equal 1 ≡ 0
second_of_equals = refl

pub equals_due : due_need equal 4 ≡ 4
equals_due = refl

-- a short task and a rare one that add to one cell: each job of the short one is charged the attempt of the other, and
-- 1,000,002 ticks are wanted in 1,000,000
abbrev rare : System
rare = record (on_cell Edf (Op 0 Get) (Op 0 Get)) { tasks = task 4 4 (Op 0 (Add 1) ∷ []) ∷ task 1000000 1000000 (Op 0 (Add 1) ∷ []) ∷ [] }

pub short_charged : charge_edf rare 0 ≡ 2
short_charged = refl

pub rare_charged : charge_edf rare 1 ≡ 0
rare_charged = refl

pub rare_due : due_need rare 1000000 ≡ 1000002
rare_due = refl

-- three tasks on a queue of four and a cell, by deadlines: the second task of the file has rank 1
abbrev mixed : System
mixed = record {
  policy = Dm;
  objects = object (codes "q") Queue 4 ∷ object (codes "c") Cell 1 ∷ [];
  tasks = task 100 90 (Op 0 (Put 1) ∷ []) ∷ task 60 40 (Op 1 (Add 1) ∷ []) ∷ task 200 150 (Op 0 Take ∷ Op 1 Get ∷ []) ∷ [];
  demands = [];
}

-- the putter shares nothing with the adder, and the taker loses 14 ticks to either
pub adder_to_putter : charge mixed 2 1 ≡ 0
adder_to_putter = refl

pub adder_to_taker : charge mixed 3 1 ≡ 14
adder_to_taker = refl

pub putter_to_taker : charge mixed 3 2 ≡ 14
putter_to_taker = refl

pub adder_served : least_time mixed 1 ≡ Some 2
adder_served = refl

pub putter_served : least_time mixed 2 ≡ Some 16
putter_served = refl

pub taker_served : least_time mixed 3 ≡ Some 60
taker_served = refl
