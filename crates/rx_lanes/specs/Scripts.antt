-- Which lane makes the operations of which tasks.
use Rattle.std.specs.Prelude.{ℕ, ◌%◌, ◌==◌, Bool, List, length, filter}
use Rattle.std.specs.List.{flat_map}
use Rattle.rx_set.specs.Operations.{Asked, script_of}
use Rattle.rx_set.specs.System.{System, numbers}

-- a task is a lane's if its number has the lane's as its remainder by the number of lanes; the tasks of a lane among
-- the first so many
abbrev pub is_of : ℕ → ℕ → ℕ → Bool
is_of workers lane task = (task % workers) == lane

abbrev pub share : ℕ → ℕ → ℕ → List ℕ
share tasks workers lane = filter (is_of workers lane) (numbers tasks)

-- the scripts of a lane's tasks among the first so many, one after the other, and those of all
abbrev pub calls_to : System → ℕ → ℕ → ℕ → ℕ → List Asked
calls_to system jobs workers lane tasks = flat_map (script_of system jobs) (share tasks workers lane)

abbrev pub lane_script : System → ℕ → ℕ → ℕ → List Asked
lane_script system jobs workers lane = calls_to system jobs workers lane (length system.tasks)
