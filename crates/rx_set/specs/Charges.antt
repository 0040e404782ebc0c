-- What a lost attempt can cost: whose calls can spoil whose attempts, and what a release is charged for those that it can
-- preempt.
use Rattle.std.specs.Prelude.{ℕ, ◌==◌, ◌&&◌, nat_lt, nat_le, not, Bool, false, if◌then◌else◌, List, length, slice_get, Option, Some, None}
use Rattle.std.specs.List.{list_any}
use Rattle.rx_seq.specs.declared.kinds.Part.{Part}
use Rattle.rx_seq.specs.Table.{attempt_steps}
use Rattle.rx_seq.specs.Quiet.{is_still}
use Rattle.rx_seq.specs.History.{part_at}
use Rattle.rx_set.specs.declared.policies.Policy.{Policy}
use Rattle.rx_set.specs.declared.policies.Policy.TheVariants.{Rm, Dm, Edf}
use Rattle.rx_set.specs.declared.items.Item.{Item}
use Rattle.rx_set.specs.declared.items.Item.TheVariants.{Work, Op}
use Rattle.rx_set.specs.System.{System, task_at, rank, parts_of, largest, numbers}

-- an item is a call on the object that can change it
abbrev pub changes : ℕ → Item → Bool
changes object (Work ticks) = false
changes object (Op other call) = (object == other) && not (is_still call)

-- a task may change an object: its body has such a call
abbrev pub may_change : System → ℕ → ℕ → Bool
may_change system object task = list_any (changes object) (task_at system task).items

-- the level of a task: its rank, or under earliest deadlines first its relative deadline. Only jobs of a lower level can come
-- in the midst of an attempt and change its object
abbrev pub level_by : Policy → ℕ → ℕ → ℕ
level_by Rm place deadline = place
level_by Dm place deadline = place
level_by Edf place deadline = deadline

abbrev pub level : System → ℕ → ℕ
level system task = level_by system.policy (rank system task) (task_at system task).deadline

-- a task is of a level below this and may change the object
abbrev pub can_spoil : System → ℕ → ℕ → ℕ → Bool
can_spoil system most object task = nat_lt (level system task) most && may_change system object task

-- attempts on the object of a task of this level can be spoiled: some task can
abbrev pub is_exposed : System → ℕ → ℕ → Bool
is_exposed system most object = list_any (can_spoil system most object) (numbers (length system.tasks))

-- a number where a test is passed, and else 0
abbrev pub where_passed : Bool → ℕ → ℕ
where_passed passed value = if passed then value else 0

-- the ticks of one attempt of an item on an object that passes a test
abbrev pub exposed_by : (ℕ → Bool) → List Part → Option Item → ℕ
exposed_by passes parts None = 0
exposed_by passes parts (Some (Work ticks)) = 0
exposed_by passes parts (Some (Op object call)) = where_passed (passes object) (attempt_steps (part_at parts object))

-- the exposure of a task: the ticks of the longest attempt of its operations that some task can spoil, which are none where
-- no task can spoil any
abbrev pub exposure : System → ℕ → ℕ
exposure system task =
    largest (λ place. exposed_by (is_exposed system (level system task)) (parts_of system) (slice_get (task_at system task).items place)) (length (task_at system task).items)

-- fixed priorities: what a release of the task of a lower rank can cost those up to a rank, by one attempt that is lost
abbrev pub charge : System → ℕ → ℕ → ℕ
charge system place by = largest (λ task. where_passed (nat_lt by (rank system task) && nat_le (rank system task) place) (exposure system task)) (length system.tasks)

-- earliest deadlines first: what a release of a task can cost those of longer relative deadlines, by one attempt that is lost
abbrev pub charge_edf : System → ℕ → ℕ
charge_edf system by = largest (λ task. where_passed (nat_lt (task_at system by).deadline (task_at system task).deadline) (exposure system task)) (length system.tasks)
