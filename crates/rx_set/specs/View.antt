-- What is shown of objects and tasks in memory.
use Rattle.std.specs.Prelude.{List, map}
use Rattle.rx_set.specs.declared.policies.Policy.{Policy}
use Rattle.rx_set.specs.declared.demands.Demand.{Demand}
use Rattle.rx_set.specs.declared.objects.Object.{Object}
use Rattle.rx_set.specs.declared.tasks.Task.{Task}
use Rattle.rx_set.specs.System.{ObjectRow, TaskRow, System}

-- the plain rows of an object and of a task
abbrev pub object_row : Object → ObjectRow
object_row object = record { name = object.name.bytes; part = object.part }

abbrev pub row_of : Task → TaskRow
row_of task = record { name = task.name.bytes; period = task.period; deadline = task.deadline; offset = task.offset; items = task.body }

-- the system of a policy, objects, tasks and demand rows
abbrev pub system_of : Policy → List Object → List Task → List Demand → System
system_of policy objects tasks demands = record { policy = policy; objects = map object_row objects; tasks = map row_of tasks; demands = demands }
