-- The words of the laws, on worked schedules, and how many attempts and slots of attempts these have.
use Rattle.std.specs.Prelude.{◌≡◌, ◌+◌, refl, true, false, [], ◌∷◌, take, Some, None}
use Rattle.std.proofs.Common.{arith}
use Rattle.rx_seq.specs.History.{replay, tag_of}
use Rattle.rx_seq.specs.declared.calls.Call.TheVariants.{Get, Add}
use Rattle.rx_seq.specs.declared.replies.Reply.TheVariants.{Done}
use Rattle.rx_set.specs.System.{task_at, parts_of}
use Rattle.rx_set.specs.Operations.{operations_of}
use Rattle.rx_slots.specs.Schedule.{Idle, Busy, Decide, history, wins_on, slots, slot_at}
use Rattle.rx_slots.specs.Events.{wins, wins_below}
use Rattle.rx_slots.specs.Laws.{who, so_far, finished_before, IsReply, IsRetry, slots_of, asked_up_to, lost_ticks, nth_job, operations_up_to, operations_in, IsAmid}
use Rattle.rx_slots.specs.Rows.{job, work_alone, retried, quiet_winner, same_set, quiet_loser, nested, two_calls}
use Rattle.rx_slots.specs.AttemptSlots.{tried_slots, opened_slots, decided_slots}

-- b has slots 0, 2 and 3, and a preempts it in slot 1
pub work_owners : who work_alone 0 ∷ who work_alone 1 ∷ who work_alone 2 ∷ who work_alone 3 ∷ [] ≡ Some (job 1 1) ∷ Some (job 0 1) ∷ Some (job 1 1) ∷ Some (job 1 1) ∷ []
work_owners = refl

pub work_idle : slot_at work_alone 4 ≡ Idle
work_idle = refl

pub work_unfinished : finished_before work_alone (job 1 1) 3 ≡ false
work_unfinished = refl

pub work_finished : finished_before work_alone (job 1 1) 4 ≡ true
work_finished = refl

-- it has had the three ticks that its one item asks for
pub work_share : slots_of (job 1 1) (slots work_alone 4) ≡ 3
work_share = refl

pub work_asked : asked_up_to work_alone (job 1 1) 1 ≡ 3
work_asked = refl

-- b's attempt from slot 1 to slot 4 is lost to that of a, which ends in slot 3
pub lost_slot : slot_at retried 4 ≡ Decide (job 1 1) 0 None
lost_slot = refl

pub lost_first : (so_far retried (job 1 1) 4).first ≡ 1
lost_first = refl

pub lost_begins : slot_at retried 1 ≡ Busy (job 1 1)
lost_begins = refl

pub lost_to : wins_on 0 (slot_at retried 3) ≡ true
lost_to = refl

-- it expected no loud entry of the object, and found one
pub lost_retry : IsRetry retried 4 1 (job 1 1) 2 0 1
lost_retry = record { object = 0; loses = refl; begins = refl; number = refl; expects = refl; finds = refl }

-- b's next attempt, from slot 5 to slot 6, wins
pub won_reply : IsReply retried 6 5 (job 1 1) 2 (Done 6) 2
won_reply = record {
  object = 0;
  entry = record { caller = 1; index = 1; object = 0; call = Add 5; reply = Done 6; tag = 2 };
  wins = refl;
  begins = refl;
  number = refl;
  replies = refl;
  tags = refl;
}

-- two slots of the job from its first to its last
pub lost_cost : slots_of (job 1 1) (slots retried 5) ≡ slots_of (job 1 1) (slots retried 1) + 2
lost_cost = refl

-- its six slots are the four ticks that its items ask for and the two of that attempt
pub retried_share : slots_of (job 1 1) (slots retried 10) ≡ 6
retried_share = refl

pub retried_asked : asked_up_to retried (job 1 1) 3 ≡ 4
retried_asked = refl

pub retried_lost : lost_ticks retried (job 1 1) (slots retried 10) ≡ 2
retried_lost = refl

-- the whole history, newest first: b's second attempt won, and before it a's
pub retried_history : history (slots retried 10) ≡
    record { caller = 1; index = 1; object = 0; call = Add 5; reply = Done 6; tag = 2 }
    ∷ record { caller = 0; index = 1; object = 0; call = Add 1; reply = Done 1; tag = 1 } ∷ []
retried_history = refl

-- two loud entries, of which the first was there before slot 4
pub retried_tag : tag_of 0 (history (slots retried 10)) ≡ 2
retried_tag = refl

pub retried_wins : wins 0 (slots retried 10) ≡ 2
retried_wins = refl

pub retried_before : wins_below 0 4 (slots retried 10) ≡ 1
retried_before = refl

-- a's entry raises no tag, so b's attempt from slot 1 to slot 4 wins, with the first tag
pub quiet_win : wins_on 0 (slot_at quiet_winner 3) ≡ false
quiet_win = refl

pub quiet_history : history (slots quiet_winner 10) ≡
    record { caller = 1; index = 1; object = 0; call = Add 5; reply = Done 5; tag = 1 }
    ∷ record { caller = 0; index = 1; object = 0; call = Get; reply = Done 0; tag = 0 } ∷ []
quiet_history = refl

pub quiet_reply : IsReply quiet_winner 4 1 (job 1 1) 2 (Done 5) 1
quiet_reply = record {
  object = 0;
  entry = record { caller = 1; index = 1; object = 0; call = Add 5; reply = Done 5; tag = 1 };
  wins = refl;
  begins = refl;
  number = refl;
  replies = refl;
  tags = refl;
}

pub quiet_tag : tag_of 0 (history (slots quiet_winner 10)) ≡ 1
quiet_tag = refl

pub quiet_wins : wins 0 (slots quiet_winner 10) ≡ 1
quiet_wins = refl

-- a's call leaves the state of the cell as it was
pub quiet_state : replay (parts_of quiet_winner) 0 (history (slots quiet_winner 4)) ≡ replay (parts_of quiet_winner) 0 (history (slots quiet_winner 3))
quiet_state = refl

-- so does a set of the value that is there, which wins with a tag of its own all the same
pub same_state : replay (parts_of same_set) 0 (history (slots same_set 4)) ≡ replay (parts_of same_set) 0 (history (slots same_set 3))
same_state = refl

pub same_wins : wins_on 0 (slot_at same_set 3) ≡ true
same_wins = refl

pub same_tag : tag_of 0 (history (slots same_set 4)) ≡ 1
same_tag = refl

-- the other way round it is lost
pub quiet_retry : IsRetry quiet_loser 4 1 (job 1 1) 2 0 1
quiet_retry = record { object = 0; loses = refl; begins = refl; number = refl; expects = refl; finds = refl }

-- the third entry of one task is its second job's
pub calls_history : history (slots two_calls 11) ≡
    record { caller = 0; index = 3; object = 0; call = Add 1; reply = Done 2; tag = 2 }
    ∷ record { caller = 0; index = 2; object = 1; call = Add 2; reply = Done 2; tag = 1 }
    ∷ record { caller = 0; index = 1; object = 0; call = Add 1; reply = Done 1; tag = 1 } ∷ []
calls_history = refl

-- oldest first they are the operations of one whole body, and then those of the next job's two complete items
pub calls_made : operations_in 0 (history (slots two_calls 11)) ≡
    record { object = 0; call = Add 1 } ∷ record { object = 1; call = Add 2 } ∷ record { object = 0; call = Add 1 } ∷ []
calls_made = refl

pub calls_finished : finished_before two_calls (nth_job 0 1) 11 ≡ true
calls_finished = refl

pub calls_in_hand : (so_far two_calls (nth_job 0 2) 11).complete ≡ 2
calls_in_hand = refl

pub calls_up_to : operations_up_to two_calls 0 1 ≡ record { object = 0; call = Add 1 } ∷ record { object = 1; call = Add 2 } ∷ []
calls_up_to = refl

pub calls_of_two : operations_of (take 2 (task_at two_calls 0).items) ≡ record { object = 0; call = Add 1 } ∷ []
calls_of_two = refl

-- the other task's entries are left out
pub retried_made : operations_in 1 (history (slots retried 10)) ≡ record { object = 0; call = Add 5 } ∷ []
retried_made = refl

-- three attempts of two slots each, all of them decided
pub retried_tried : tried_slots retried (slots retried 10) ≡ 6
retried_tried = refl

pub retried_opened : opened_slots retried (slots retried 10) ≡ 3
retried_opened = refl

pub retried_decided : decided_slots (slots retried 10) ≡ 3
retried_decided = refl

-- before slot 3 two attempts are open
pub retried_open : opened_slots retried (slots retried 3) ≡ 2
retried_open = refl

pub retried_undecided : decided_slots (slots retried 3) ≡ 0
retried_undecided = refl

-- five attempts of eight slots each, of which two are lost
pub nested_tried : tried_slots nested (slots nested 50) ≡ 40
nested_tried = refl

pub nested_opened : opened_slots nested (slots nested 50) ≡ 5
nested_opened = refl

pub nested_decided : decided_slots (slots nested 50) ≡ 5
nested_decided = refl

-- c's first attempt has had two ticks before b preempts it, and goes on in slot 26 with its third
pub nested_amid : IsAmid nested (job 2 1) 0 0 26
nested_amid = let two : (so_far nested (job 2 1) 26).made ≡ 2 = refl in record { busy = refl; item = refl; begins = refl; some = omega (arith, two); made = refl }
