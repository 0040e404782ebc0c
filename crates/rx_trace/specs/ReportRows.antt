-- Worked reports.
use Rattle.std.specs.Prelude.{ℕ, ◌≡◌, refl, List, [], ◌∷◌, codes}
use Rattle.std.specs.List.{concat}
use Rattle.std.specs.Fmt.{digits}
use Rattle.rx_seq.specs.declared.kinds.Kind.{Kind}
use Rattle.rx_seq.specs.declared.kinds.Kind.TheVariants.{Cell, Queue}
use Rattle.rx_seq.specs.declared.calls.Call.TheVariants.{Get, Add, Put, Take}
use Rattle.rx_set.specs.declared.policies.Policy.TheVariants.{Rm}
use Rattle.rx_set.specs.declared.items.Item.{Item}
use Rattle.rx_set.specs.declared.items.Item.TheVariants.{Work, Op}
use Rattle.rx_set.specs.System.{System, ObjectRow, TaskRow}
use Rattle.rx_trace.specs.Tests.{fixed_report}
use Rattle.rx_trace.specs.Report.{reported_misses, report}

abbrev task : List ℕ → ℕ → ℕ → List Item → TaskRow
task name period offset items = record { name = name; period = period; deadline = period; offset = offset; items = items }

abbrev object : List ℕ → Kind → ℕ → ObjectRow
object name kind cap = record { name = name; part = record { kind = kind; cap = cap } }

-- two tasks with work alone
abbrev work_alone : System
work_alone = record {
  policy = Rm;
  objects = [];
  tasks = task (codes "a") 4 1 (Work 1 ∷ []) ∷ task (codes "b") 8 0 (Work 3 ∷ []) ∷ [];
  demands = [];
}

pub work_alone_report : concat (report work_alone 10) ≡
    codes "test yes\n0 release b 1\n1 release a 1\n1 preempt b 1 by a 1\n1 finish a 1\n3 finish b 1\n5 release a 2\n5 finish a 2\n8 release b 2\n9 release a 3\n9 preempt b 2 by a 3\n9 finish a 3\ntotal ticks 10 idle 3 released 5 finished 4 replies 0 retries 0 preempted 2 missed 0\n"
unfolding digits
work_alone_report = refl

-- b's first attempt is spoiled by a, which preempts it
abbrev pub retried : System
retried = record {
  policy = Rm;
  objects = object (codes "c") Cell 1 ∷ [];
  tasks = task (codes "a") 10 2 (Op 0 (Add 1) ∷ []) ∷ task (codes "b") 20 0 (Work 1 ∷ Op 0 (Add 5) ∷ Work 1 ∷ []) ∷ [];
  demands = [];
}

pub retried_report : concat (report retried 10) ≡
    codes "test yes\n0 release b 1\n2 release a 1\n2 preempt b 1 by a 1\n3 reply a 1 1 add c 1 -> done 1 tag 1\n3 finish a 1\n4 retry b 1 2 c tag 0 now 1\n6 reply b 1 2 add c 5 -> done 6 tag 2\n7 finish b 1\nobject c cell tag 2 state 6\ntotal ticks 10 idle 2 released 2 finished 2 replies 2 retries 1 preempted 1 missed 0\n"
unfolding digits
retried_report = refl

-- where a only looks, it spoils no attempt, and raises no tag
abbrev looked : System
looked = record retried { tasks = task (codes "a") 10 2 (Op 0 Get ∷ []) ∷ task (codes "b") 20 0 (Work 1 ∷ Op 0 (Add 5) ∷ Work 1 ∷ []) ∷ [] }

pub looked_report : concat (report looked 10) ≡
    codes "test yes\n0 release b 1\n2 release a 1\n2 preempt b 1 by a 1\n3 reply a 1 1 get c -> done 0 tag 0\n3 finish a 1\n4 reply b 1 2 add c 5 -> done 5 tag 1\n5 finish b 1\nobject c cell tag 1 state 5\ntotal ticks 10 idle 4 released 2 finished 2 replies 2 retries 0 preempted 1 missed 0\n"
unfolding digits
looked_report = refl

-- a run of no ticks tells the objects as they are at first
pub fresh_report : concat (report retried 0) ≡
    codes "test yes\nobject c cell tag 0 state 0\ntotal ticks 0 idle 0 released 0 finished 0 replies 0 retries 0 preempted 0 missed 0\n"
unfolding digits
fresh_report = refl

-- the preempting job calls another object, so the preempted attempt wins; each object has its own tag and state
abbrev apart : System
apart = record {
  policy = Rm;
  objects = object (codes "c") Cell 1 ∷ object (codes "e") Cell 1 ∷ [];
  tasks = task (codes "hi") 10 1 (Op 1 (Add 2) ∷ []) ∷ task (codes "lo") 20 0 (Op 0 (Add 1) ∷ []) ∷ [];
  demands = [];
}

pub apart_report : concat (report apart 5) ≡
    codes "test yes\n0 release lo 1\n1 release hi 1\n1 preempt lo 1 by hi 1\n2 reply hi 1 1 add e 2 -> done 2 tag 1\n2 finish hi 1\n3 reply lo 1 1 add c 1 -> done 1 tag 1\n3 finish lo 1\nobject c cell tag 1 state 1\nobject e cell tag 1 state 2\ntotal ticks 5 idle 1 released 2 finished 2 replies 2 retries 0 preempted 1 missed 0\n"
unfolding digits
apart_report = refl

-- a preempts b, which preempted c, all on one queue of one number, whose attempts take 8 ticks
abbrev nested : System
nested = record {
  policy = Rm;
  objects = object (codes "q") Queue 1 ∷ [];
  tasks = task (codes "a") 100 4 (Op 0 (Put 7) ∷ []) ∷ task (codes "b") 200 2 (Op 0 Take ∷ []) ∷ task (codes "c") 400 0 (Op 0 Take ∷ []) ∷ [];
  demands = [];
}

pub nested_report : concat (report nested 50) ≡
    codes "test yes\n0 release c 1\n2 release b 1\n2 preempt c 1 by b 1\n4 release a 1\n4 preempt b 1 by a 1\n11 reply a 1 1 put q 7 -> done 1 tag 1\n11 finish a 1\n17 retry b 1 1 q tag 0 now 1\n25 reply b 1 1 take q -> done 7 tag 2\n25 finish b 1\n31 retry c 1 1 q tag 0 now 2\n39 reply c 1 1 take q -> empty tag 2\n39 finish c 1\nobject q queue tag 2 state\ntotal ticks 50 idle 10 released 3 finished 3 replies 3 retries 2 preempted 2 missed 0\n"
unfolding digits
nested_report = refl

-- more work than the processor has: the miss at the end of the run is told too
abbrev pub overload : System
overload = record { policy = Rm; objects = []; tasks = task (codes "late") 2 0 (Work 3 ∷ []) ∷ []; demands = [] }

pub overload_report : concat (report overload 4) ≡
    codes "test no rank 1\n0 release late 1\n2 miss late 1\n2 release late 2\n2 finish late 1\n4 miss late 2\ntotal ticks 4 idle 0 released 2 finished 1 replies 0 retries 0 preempted 0 missed 2\n"
unfolding digits
overload_report = refl

pub overload_misses : reported_misses overload 4 ≡ 2
overload_misses = refl

-- what the admission test says of three of these sets
pub retried_admitted : concat (fixed_report retried) ≡ codes "test yes\nrank 1 a least 2 deadline 10\nrank 2 b least 8 deadline 20\n"
unfolding digits
retried_admitted = refl

pub nested_admitted : concat (fixed_report nested) ≡ codes "test yes\nrank 1 a least 8 deadline 100\nrank 2 b least 24 deadline 200\nrank 3 c least 40 deadline 400\n"
unfolding digits
nested_admitted = refl

pub overload_refused : concat (fixed_report overload) ≡ codes "test no rank 1\nrank 1 late fails deadline 2\n"
unfolding digits
overload_refused = refl
