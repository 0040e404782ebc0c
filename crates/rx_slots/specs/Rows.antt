-- Worked schedules: work alone, overload, a retry, calls that change nothing, nested preemption on a queue, two releases at once, a tie under
-- earliest deadline first, and a demand row under rate-monotonic and one under deadline-monotonic priorities.
use Rattle.std.specs.Prelude.{ℕ, ◌≡◌, refl, List, [], ◌∷◌, codes}
use Rattle.rx_seq.specs.declared.kinds.Kind.TheVariants.{Cell, Queue}
use Rattle.rx_seq.specs.declared.calls.Call.TheVariants.{Get, Set, Add, Put, Take}
use Rattle.rx_seq.specs.declared.replies.Reply.TheVariants.{Done, Full, Empty}
use Rattle.rx_set.specs.declared.policies.Policy.TheVariants.{Rm, Dm, Edf}
use Rattle.rx_set.specs.declared.items.Item.{Item}
use Rattle.rx_set.specs.declared.items.Item.TheVariants.{Work, Op}
use Rattle.rx_set.specs.declared.jobs.Job.{Job}
use Rattle.rx_set.specs.System.{System, ObjectRow, TaskRow}
use Rattle.rx_ledger.specs.declared.events.Event.TheVariants.{Miss, Release, Preempt, Reply, Retry, Finish}
use Rattle.rx_slots.specs.Schedule.{slots}
use Rattle.rx_slots.specs.Events.{events, misses}

abbrev task : ℕ → ℕ → List Item → TaskRow
task period offset items = record { name = codes "t"; period = period; deadline = period; offset = offset; items = items }

abbrev pub job : ℕ → ℕ → Job
job task number = record { task = task; number = number }

abbrev cell : ObjectRow
cell = record { name = codes "c"; part = record { kind = Cell; cap = 1 } }

abbrev queue : ObjectRow
queue = record { name = codes "q"; part = record { kind = Queue; cap = 1 } }

-- two tasks with work alone: a of period 4 from 1 on, b of period 8
abbrev pub work_alone : System
work_alone = record { policy = Rm; objects = []; tasks = task 4 1 (Work 1 ∷ []) ∷ task 8 0 (Work 3 ∷ []) ∷ []; demands = [] }

pub work_alone_events : events work_alone 10 ≡
    Release 0 (job 1 1) ∷ Release 1 (job 0 1) ∷ Preempt 1 (job 1 1) (job 0 1) ∷ Finish 1 (job 0 1) ∷ Finish 3 (job 1 1) ∷ Release 5 (job 0 2)
    ∷ Finish 5 (job 0 2) ∷ Release 8 (job 1 2) ∷ Release 9 (job 0 3) ∷ Preempt 9 (job 1 2) (job 0 3) ∷ Finish 9 (job 0 3) ∷ []
work_alone_events = refl

-- more work than the processor has: each job is late
abbrev overload : System
overload = record { policy = Rm; objects = []; tasks = task 2 0 (Work 3 ∷ []) ∷ []; demands = [] }

pub overload_events : events overload 6 ≡
    Release 0 (job 0 1) ∷ Miss 2 (job 0 1) ∷ Release 2 (job 0 2) ∷ Finish 2 (job 0 1) ∷ Miss 4 (job 0 2) ∷ Release 4 (job 0 3) ∷ Finish 5 (job 0 2) ∷ []
overload_events = refl

pub overload_late : misses overload (slots overload 6) ≡ Miss 6 (job 0 3) ∷ []
overload_late = refl

-- b's first attempt is spoiled by a, which preempts it
abbrev pub retried : System
retried = record {
  policy = Rm;
  objects = cell ∷ [];
  tasks = task 10 2 (Op 0 (Add 1) ∷ []) ∷ task 20 0 (Work 1 ∷ Op 0 (Add 5) ∷ Work 1 ∷ []) ∷ [];
  demands = [];
}

pub retried_events : events retried 10 ≡
    Release 0 (job 1 1) ∷ Release 2 (job 0 1) ∷ Preempt 2 (job 1 1) (job 0 1) ∷ Reply 3 2 (job 0 1) 1 (Done 1) 1 ∷ Finish 3 (job 0 1)
    ∷ Retry 4 1 (job 1 1) 2 0 1 ∷ Reply 6 5 (job 1 1) 2 (Done 6) 2 ∷ Finish 7 (job 1 1) ∷ []
retried_events = refl

-- a preempts b, and its call changes nothing: it wins with the tag that was there, and b's attempt is not spoiled
abbrev pub quiet_winner : System
quiet_winner = record {
  policy = Rm;
  objects = cell ∷ [];
  tasks = task 10 2 (Op 0 Get ∷ []) ∷ task 20 0 (Work 1 ∷ Op 0 (Add 5) ∷ Work 1 ∷ []) ∷ [];
  demands = [];
}

pub quiet_winner_events : events quiet_winner 10 ≡
    Release 0 (job 1 1) ∷ Release 2 (job 0 1) ∷ Preempt 2 (job 1 1) (job 0 1) ∷ Reply 3 2 (job 0 1) 1 (Done 0) 0 ∷ Finish 3 (job 0 1)
    ∷ Reply 4 1 (job 1 1) 2 (Done 5) 1 ∷ Finish 5 (job 1 1) ∷ []
quiet_winner_events = refl

-- a sets the value that is there: that is loud, and spoils b's attempt
abbrev pub same_set : System
same_set = record {
  policy = Rm;
  objects = cell ∷ [];
  tasks = task 10 2 (Op 0 (Set 0) ∷ []) ∷ task 20 0 (Work 1 ∷ Op 0 (Add 5) ∷ Work 1 ∷ []) ∷ [];
  demands = [];
}

pub same_set_events : events same_set 10 ≡
    Release 0 (job 1 1) ∷ Release 2 (job 0 1) ∷ Preempt 2 (job 1 1) (job 0 1) ∷ Reply 3 2 (job 0 1) 1 (Done 0) 1 ∷ Finish 3 (job 0 1)
    ∷ Retry 4 1 (job 1 1) 2 0 1 ∷ Reply 6 5 (job 1 1) 2 (Done 5) 2 ∷ Finish 7 (job 1 1) ∷ []
same_set_events = refl

-- b's call changes nothing, and a spoils its attempt like any other
abbrev pub quiet_loser : System
quiet_loser = record {
  policy = Rm;
  objects = cell ∷ [];
  tasks = task 10 2 (Op 0 (Add 1) ∷ []) ∷ task 20 0 (Work 1 ∷ Op 0 Get ∷ Work 1 ∷ []) ∷ [];
  demands = [];
}

pub quiet_loser_events : events quiet_loser 10 ≡
    Release 0 (job 1 1) ∷ Release 2 (job 0 1) ∷ Preempt 2 (job 1 1) (job 0 1) ∷ Reply 3 2 (job 0 1) 1 (Done 1) 1 ∷ Finish 3 (job 0 1)
    ∷ Retry 4 1 (job 1 1) 2 0 1 ∷ Reply 6 5 (job 1 1) 2 (Done 1) 1 ∷ Finish 7 (job 1 1) ∷ []
quiet_loser_events = refl

-- a's put finds the queue full, which spoils nobody: c, which it preempts, takes what b put
abbrev full_put : System
full_put = record {
  policy = Rm;
  objects = queue ∷ [];
  tasks = task 100 12 (Op 0 (Put 6) ∷ []) ∷ task 200 0 (Op 0 (Put 5) ∷ []) ∷ task 400 10 (Op 0 Take ∷ []) ∷ [];
  demands = [];
}

pub full_put_events : events full_put 30 ≡
    Release 0 (job 1 1) ∷ Reply 7 0 (job 1 1) 1 (Done 1) 1 ∷ Finish 7 (job 1 1) ∷ Release 10 (job 2 1) ∷ Release 12 (job 0 1)
    ∷ Preempt 12 (job 2 1) (job 0 1) ∷ Reply 19 12 (job 0 1) 1 Full 1 ∷ Finish 19 (job 0 1) ∷ Reply 25 10 (job 2 1) 1 (Done 5) 2
    ∷ Finish 25 (job 2 1) ∷ []
full_put_events = refl

-- a preempts b, which preempted c, all on one queue of capacity 1, whose attempts take 8 ticks
abbrev pub nested : System
nested = record {
  policy = Rm;
  objects = queue ∷ [];
  tasks = task 100 4 (Op 0 (Put 7) ∷ []) ∷ task 200 2 (Op 0 Take ∷ []) ∷ task 400 0 (Op 0 Take ∷ []) ∷ [];
  demands = [];
}

pub nested_events : events nested 50 ≡
    Release 0 (job 2 1) ∷ Release 2 (job 1 1) ∷ Preempt 2 (job 2 1) (job 1 1) ∷ Release 4 (job 0 1) ∷ Preempt 4 (job 1 1) (job 0 1)
    ∷ Reply 11 4 (job 0 1) 1 (Done 1) 1 ∷ Finish 11 (job 0 1) ∷ Retry 17 2 (job 1 1) 1 0 1 ∷ Reply 25 18 (job 1 1) 1 (Done 7) 2 ∷ Finish 25 (job 1 1)
    ∷ Retry 31 0 (job 2 1) 1 0 2 ∷ Reply 39 32 (job 2 1) 1 Empty 2 ∷ Finish 39 (job 2 1) ∷ []
nested_events = refl

-- both deadlines are 10: under Edf the task that stands first in the file goes first
abbrev tie : System
tie = record {
  policy = Edf;
  objects = [];
  tasks = record { name = codes "u"; period = 10; deadline = 8; offset = 2; items = Work 1 ∷ [] } ∷ task 10 0 (Work 4 ∷ []) ∷ [];
  demands = [];
}

pub tie_events : events tie 6 ≡
    Release 0 (job 1 1) ∷ Release 2 (job 0 1) ∷ Preempt 2 (job 1 1) (job 0 1) ∷ Finish 2 (job 0 1) ∷ Finish 4 (job 1 1) ∷ []
tie_events = refl

-- b's third item needs 2 ticks in its first job, one more than stated, and b is late by one tick
abbrev not_kept : System
not_kept = record {
  policy = Rm;
  objects = cell ∷ [];
  tasks = task 10 2 (Op 0 (Add 1) ∷ []) ∷ record { name = codes "b"; period = 20; deadline = 8; offset = 0; items = Work 1 ∷ Op 0 (Add 5) ∷ Work 1 ∷ [] } ∷ [];
  demands = record { task = 1; job = 1; item = 3; ticks = 2 } ∷ [];
}

pub not_kept_events : events not_kept 10 ≡
    Release 0 (job 1 1) ∷ Release 2 (job 0 1) ∷ Preempt 2 (job 1 1) (job 0 1) ∷ Reply 3 2 (job 0 1) 1 (Done 1) 1 ∷ Finish 3 (job 0 1)
    ∷ Retry 4 1 (job 1 1) 2 0 1 ∷ Reply 6 5 (job 1 1) 2 (Done 6) 2 ∷ Miss 8 (job 1 1) ∷ Finish 8 (job 1 1) ∷ []
not_kept_events = refl

-- y has the shorter deadline, and its first job needs a tick more than stated
abbrev by_deadline : System
by_deadline = record {
  policy = Dm;
  objects = [];
  tasks =
      record { name = codes "x"; period = 10; deadline = 9; offset = 0; items = Work 2 ∷ [] }
      ∷ record { name = codes "y"; period = 20; deadline = 4; offset = 1; items = Work 2 ∷ [] } ∷ [];
  demands = record { task = 1; job = 1; item = 1; ticks = 3 } ∷ [];
}

pub by_deadline_events : events by_deadline 6 ≡
    Release 0 (job 0 1) ∷ Release 1 (job 1 1) ∷ Preempt 1 (job 0 1) (job 1 1) ∷ Finish 3 (job 1 1) ∷ Finish 4 (job 0 1) ∷ []
by_deadline_events = refl

-- two releases at one tick, and two attempts that one retry of a third has to yield to
abbrev pub two_releases : System
two_releases = record {
  policy = Rm;
  objects = cell ∷ [];
  tasks = task 10 1 (Op 0 (Add 1) ∷ []) ∷ task 20 1 (Op 0 (Add 1) ∷ []) ∷ task 40 0 (Op 0 (Add 1) ∷ []) ∷ [];
  demands = [];
}

pub two_releases_events : events two_releases 8 ≡
    Release 0 (job 2 1) ∷ Release 1 (job 0 1) ∷ Release 1 (job 1 1) ∷ Preempt 1 (job 2 1) (job 0 1) ∷ Reply 2 1 (job 0 1) 1 (Done 1) 1 ∷ Finish 2 (job 0 1)
    ∷ Reply 4 3 (job 1 1) 1 (Done 2) 2 ∷ Finish 4 (job 1 1) ∷ Retry 5 0 (job 2 1) 1 0 2 ∷ Reply 7 6 (job 2 1) 1 (Done 3) 3 ∷ Finish 7 (job 2 1) ∷ []
two_releases_events = refl

-- one task calls two cells in turn: its first job is finished, and its second has its call on the second cell before it
abbrev pub two_calls : System
two_calls = record { policy = Rm; objects = cell ∷ cell ∷ []; tasks = task 8 0 (Op 0 (Add 1) ∷ Work 1 ∷ Op 1 (Add 2) ∷ []) ∷ []; demands = [] }

pub two_calls_events : events two_calls 11 ≡
    Release 0 (job 0 1) ∷ Reply 1 0 (job 0 1) 1 (Done 1) 1 ∷ Reply 4 3 (job 0 1) 3 (Done 2) 1 ∷ Finish 4 (job 0 1) ∷ Release 8 (job 0 2)
    ∷ Reply 9 8 (job 0 2) 1 (Done 2) 2 ∷ []
two_calls_events = refl
