-- What a tick of an operation does to the bank and to the machine of its task.
use Rattle.std.proofs.Common.{ℕ, zero, suc, ◌≡◌, ◌≢◌, ◌≤◌, ◌<◌, ◌+◌, ◌^◌, ◌==◌, inl, inr, Bool, true, false, if◌then◌else◌, List, [], ◌∷◌, ◌++◌, length, Option, Some, None, refl, sym, ◌∙◌, ap, arith, subst}
use Rattle.std.specs.Prelude.{slice_set, get_or, IfSome}
use Rattle.std.proofs.lemmas.Bool.{lt-leb}
use Rattle.std.proofs.Common.{leb}
use Rattle.std.proofs.lemmas.Bool.Decides.{nat_tests}
use Rattle.std.proofs.lemmas.List.{length-map, length-set, get_or-set_other, get_or_default}
use Rattle.std.proofs.lemmas.Grind.{get_or-set_at}
use Rattle.rx_seq.specs.declared.kinds.Part.{Part}
use Rattle.rx_seq.specs.declared.calls.Call.{Call}
use Rattle.rx_seq.specs.declared.entries.Entry.{Entry}
use Rattle.rx_seq.specs.declared.replies.Reply.{Reply}
use Rattle.rx_seq.specs.Table.{attempt_steps, effect, fits_part}
use Rattle.rx_seq.specs.History.{part_at, replay, tag_of as count_loud, entry_after}
use Rattle.rx_set.specs.declared.items.Item.{Item}
use Rattle.rx_set.specs.declared.items.Item.TheVariants.{Work, Op}
use Rattle.rx_set.specs.declared.jobs.Job.{Job}
use Rattle.rx_set.specs.System.{System, task_of, parts_of, part_of_row, item_at, attempt_cost}
use Rattle.rx_set.specs.Valid.{IsItem}
use Rattle.rx_shape.specs.Words.{tag_of as tag_in}
use Rattle.rx_shape.specs.declared.homes.Home.{Home}
use Rattle.rx_shape.specs.Layout.{Layout, home, root_of}
use Rattle.rx_port.specs.declared.views.Counts.{Counts}
use Rattle.rx_port.specs.declared.views.Core.{Core}
use Rattle.rx_port.specs.declared.views.View.{View}
use Rattle.rx_port.specs.Core.{tag_after, entry_for}
use Rattle.rx_port.specs.Lawful.{Lawful}
use Rattle.rx_port.specs.Plain.{Whole, IsSeatOf, HasRoom, HasRoomIn, view_at}
use Rattle.rx_machine.specs.declared.steps.Step.{Step as Stepping}
use Rattle.rx_machine.specs.declared.steps.Step.TheVariants as Step
use Rattle.rx_machine.specs.declared.steps.Step.TheVariants.{Going}
use Rattle.rx_machine.specs.Operations.{Operation, Outlook, Unsettled, Settled, Progress as Attempting, Follows, fresh, goes_on as on_with, begun, attempt_for}
use Rattle.rx_machine.specs.Steps.{Loads, Spends, Reads, Writes, Idles, Decides}
use Rattle.rx_machine.specs.OnBanks.{Stepped, TellsOf, history_by, bank_stands, bank_view}
use Rattle.rx_ledger.specs.declared.events.Event.TheVariants as Event
use Rattle.rx_tick.specs.declared.objects.Objects.{Objects}
use Rattle.rx_tick.specs.declared.states.State.{State}
use Rattle.rx_tick.specs.declared.states.Made.{Made}
use Rattle.rx_tick.specs.declared.states.Made.TheVariants.{On, Ended, Lost}
use Rattle.rx_slots.specs.Schedule.{Slot, Busy, Decide, Progress, completed, lost, ticked, after, progress, history, won_after, wins_on, ends_work, decides, tick_in, tick_of, slot_of, slots, slot_at}
use Rattle.rx_slots.specs.Events.{wins, wins_below, decision}
use Rattle.rx_slots.specs.Laws.{who, finished_before, asked_by}
use Rattle.rx_tick.specs.States.{job, progress_of, with_progress, after_slot, progress_made}
use Rattle.rx_tick.specs.Banks.{IsBankOf, Touch, Nothing, Load, Store, Exchange, MayTouch, TouchesIn, TouchesAfter, KeepsMachines, machine_at, IsAtWork, IsInHand, IsTicking, HasTicked, CanStep, HasStepped}
use Rattle.rx_tick.specs.Sums.{AreSums}
use Rattle.rx_tick.proofs.Sums.{tried_few}
use Rattle.rx_slots.proofs.Prefixes.{slots_count}
use Rattle.rx_slots.proofs.Choices.{who_is}
use Rattle.rx_slots.proofs.Steps.{same_self}
use Rattle.rx_tick.proofs.Moves.{made_bound}
use Rattle.rx_slots.proofs.Attempts.{IsBegun, held}
use Rattle.rx_slots.proofs.Entries.{wins_tags, wins_before}
use Rattle.rx_slots.proofs.Fitting.{op_fits}
use Rattle.rx_slots.proofs.Wins.{not_true, spoiled_more, calm_same, wins_few}
use Rattle.rx_tick.proofs.Effects.{Does, begin_does, read_does, write_does, decide_does, idle_does}
use Rattle.rx_slots.proofs.Shares.{in_hand_share, cost_some}

-- what the slot of a job is
module _ (system : System) (now : ℕ) (mine : Job) (s : State) (objects : Objects) (is : IsTicking system now mine s objects) where
  slot_is : slot_at system now ≡ tick_in system (slots system now) mine (progress_of s) (decides system (item_at system mine s.complete) s.made)
  slot_is = ap (slot_of system (slots system now)) (sym (who_is system now) ∙ is.owner) ∙ ap (tick_of system (slots system now) mine) is.started

  unfinished_is : finished_before system mine now ≡ false
  unfinished_is =
      ap (λ (p : Progress). leb (length (task_of system mine).items) p.complete) is.started ∙ lt-leb (length (task_of system mine).items) s.complete is.unfinished

  in_hand_is : s.made < asked_by system (item_at system mine s.complete)
  in_hand_is = subst (λ (p : Progress). p.made < asked_by system (item_at system mine p.complete)) is.started
      (in_hand_share system now mine is.valid (record { task = is.known.task; number = is.known.number.0 }) unfinished_is)

  begun_is : 1 ≤ s.made → IsBegun system mine now (progress_of s)
  begun_is = subst (λ (p : Progress). 1 ≤ p.made → IsBegun system mine now p) is.started (held system mine now)

  pub seat_here : mine.task < objects.bank.layout.seats
  seat_here = omega (arith, is.stands.seats, is.known.task)

  pub machine_here : mine.task < length objects.machines.items
  machine_here = omega (arith, is.machines, is.known.task)

  owner_alone : (other : ℕ) → ((job : Job) → who system now ≡ Some job → other ≢ job.task) → other ≢ mine.task
  owner_alone other apart = apart mine is.owner

  -- the slot of a work item
  work_slot : (ticks : ℕ) → item_at system mine s.complete ≡ Some (Work ticks) → slot_at system now ≡ Busy mine
  work_slot ticks item = slot_is ∙ ap (λ (i : Option Item). tick_in system (slots system now) mine (progress_of s) (decides system i s.made)) item

  work_after : (ticks : ℕ) → item_at system mine s.complete ≡ Some (Work ticks)
      → after system mine now (slot_at system now) (progress_of s) ≡ (if s.made + 1 == ticks then completed (progress_of s) else ticked now (progress_of s))
  work_after ticks item =
      ap (λ (slot : Slot). after system mine now slot (progress_of s)) (work_slot ticks item)
      ∙ ap (λ (b : Bool). if b then (if ends_work (item_at system mine s.complete) s.made then completed (progress_of s) else ticked now (progress_of s)) else progress_of s) (same_self mine)
      ∙ ap (λ (i : Option Item). if ends_work i s.made then completed (progress_of s) else ticked now (progress_of s)) item

  -- what a tick leaves, where the item in hand is not the last one or is not complete
  left_over : (t : State) (p : Progress) → p.made ≡ 0 → (with_progress (length (task_of system mine).items) t p).made ≡ 0
  left_over t p none = by_test (p.complete == length (task_of system mine).items)
    where
      by_test : (b : Bool) → (if b then record t { finished = t.finished + 1; complete = 0; made = 0; first = 0 } else record t { complete = p.complete; made = p.made; first = p.first }).made ≡ 0
      by_test true = refl
      by_test false = none

  goes_on : (t : State) (p : Progress) → p.complete < length (task_of system mine).items
      → with_progress (length (task_of system mine).items) t p ≡ record t { complete = p.complete; made = p.made; first = p.first }
  goes_on t p h = ap (λ (b : Bool). if b then record t { finished = t.finished + 1; complete = 0; made = 0; first = 0 } else record t { complete = p.complete; made = p.made; first = p.first }) (differs p.complete (length (task_of system mine).items) h)
    where
      differs : (a b : ℕ) → a < b → (a == b) ≡ false
      differs a b h = grind (arith, nat_tests)

  -- with no tick in hand no machine is at work
  none_open : (past : List Slot) (new : Objects) (t : State) → t.made ≡ 0 → IsInHand system past new mine.task t
  none_open past new t none = λ some. absurd (omega arith)

  -- the bank of the schedule with this slot
  bank_next : (touch : Touch) (new : Objects) → Does (slot_at system now) touch mine.task (history (slot_at system now ∷ slots system now)) objects.bank new.bank
      → IsBankOf system (slot_at system now ∷ slots system now) new.bank
  bank_next touch new does = record {
    parts = ap (λ (l : Layout). l.parts) does.layout ∙ is.stands.parts;
    seats = ap (λ (l : Layout). l.seats) does.layout ∙ is.stands.seats;
    first = ap (λ (l : Layout). l.first) does.layout ∙ is.stands.first;
    lawful = does.lawful;
  }

  -- a tick that does so
  has_ticked : (tick : Made) (touch : Touch) (new : Objects) → progress_made tick now (progress_of s) ≡ after system mine now (slot_at system now) (progress_of s)
      → Does (slot_at system now) touch mine.task (history (slot_at system now ∷ slots system now)) objects.bank new.bank → MayTouch system (slots system now) (slot_at system now) touch
      → IsInHand system (slot_at system now ∷ slots system now) new mine.task (after_slot system now mine (slot_at system now) s) → KeepsMachines mine.task objects new
      → HasTicked system now mine s tick objects new
  has_ticked tick touch new made does may hand machines = record {
    made = made;
    stands = bank_next touch new does;
    hand = hand;
    touches = record {
      touch = touch;
      may = may;
      rise = does.rise;
      layout = does.layout;
      quiet = does.quiet;
      words = does.words;
      others = λ other apart. does.others other (owner_alone other apart);
    };
    machines = machines;
  }

  -- the counts have room for one event more
  room_here : HasRoom 1 objects.bank.core
  room_here = by_counts objects.bank.core.counts is.sums
    where
      by_counts : (counts : Option Counts) → AreSums system (slots system now) counts → IfSome counts (HasRoomIn 1)
      by_counts None h = tt
      by_counts (Some counts) h =
          let few = tried_few system (slots system now) in
          let time = slots_count system now in
          let early = is.early in
          (omega (arith, h.events), omega (arith, h.events), omega (arith, h.events))

  -- the machines after one of them is changed
  pub machines_kept : (new : Objects) (a b : Option Operation) → new.machines.items ≡ slice_set (slice_set objects.machines.items mine.task a) mine.task b → KeepsMachines mine.task objects new
  machines_kept new a b e = record {
    count = ap (λ (ms : List (Option Operation)). length ms) e ∙ length-set (slice_set objects.machines.items mine.task a) mine.task b ∙ length-set objects.machines.items mine.task a;
    others = λ other apart. ap (λ (ms : List (Option Operation)). get_or ms other None) e
        ∙ get_or-set_other (slice_set objects.machines.items mine.task a) mine.task other b None apart ∙ get_or-set_other objects.machines.items mine.task other a None apart;
  }

  pub machine_set : (new : Objects) (a b : Option Operation) → new.machines.items ≡ slice_set (slice_set objects.machines.items mine.task a) mine.task b → machine_at new mine.task ≡ b
  machine_set new a b e =
      ap (λ (ms : List (Option Operation)). get_or ms mine.task None) e
      ∙ get_or-set_at (slice_set objects.machines.items mine.task a) mine.task mine.task b None refl (omega (arith, length-set objects.machines.items mine.task a, machine_here))

  -- the machine of the task, once it is that of the operation in hand
  pub record IsTakenUp (was : Operation) : Type 0 where
    pub asks : item_at system mine s.complete ≡ Some (Op was.object was.call)
    pub going : was.ended ≡ false
    pub follows : Follows objects.bank.layout (view_at objects.bank.core mine.task) was
    pub none : was.progress ≡ None → s.made ≡ 0
    pub some : (step : Attempting) → was.progress ≡ Some step → (1 ≤ s.made) × (step.made ≡ s.made) × (tag_in step.expected ≡ wins_below was.object s.first (slots system now))

  some_one : {A : Type 0} (a b : A) → Some a ≡ Some b → a ≡ b
  some_one a b e = cc

  none_some : {A : Type 0} (a : A) (o : Option A) → o ≡ None → o ≡ Some a → ⊥
  none_some a o e f = cc

  module _ (object : ℕ) (call : Call) (item : item_at system mine s.complete ≡ Some (Op object call)) where
    op_call : IsItem system (Op object call)
    op_call = op_fits system mine s.complete object call is.valid is.known.task item

    pub exists_here : object < length objects.bank.layout.parts
    exists_here = omega (arith, ap (λ (ps : List Part). length ps) is.stands.parts, length-map system.objects part_of_row, op_call.0)

    part_here : part_at objects.bank.layout.parts object ≡ part_at (parts_of system) object
    part_here = ap (λ (ps : List Part). part_at ps object) is.stands.parts

    pub fits_here : fits_part (part_at objects.bank.layout.parts object) call ≡ true
    fits_here = ap (λ (p : Part). fits_part p call) part_here ∙ op_call.1

    pub steps_here : (place : Home) → place ≡ home objects.bank.layout object → attempt_steps place.part ≡ attempt_cost system object
    steps_here place e =
        ap (λ (h : Home). attempt_steps h.part) e ∙ ap attempt_steps part_here

    op_slot : (b : Bool) → (s.made + 1 == attempt_cost system object) ≡ b
        → slot_at system now ≡ tick_in system (slots system now) mine (progress_of s) (if b then Some (record { object = object; call = call }) else None)
    op_slot b e =
        slot_is
        ∙ ap (λ (i : Option Item). tick_in system (slots system now) mine (progress_of s) (decides system i s.made)) item
        ∙ ap (λ (t : Bool). tick_in system (slots system now) mine (progress_of s) (if t then Some (record { object = object; call = call }) else None)) e

    -- a tick before the last one of an attempt
    pub first_early : s.made ≡ 0 → s.made + 1 < attempt_cost system object
    first_early none = omega (arith, cost_some system object)

    on_slot : s.made + 1 < attempt_cost system object → slot_at system now ≡ Busy mine
    on_slot early = op_slot false (grind (arith, nat_tests))

    pub last_slot : s.made + 1 ≡ attempt_cost system object → slot_at system now
        ≡ Decide mine object (if won_after object s.first (slots system now) then None else Some (entry_after (parts_of system) (history (slots system now)) mine.task object call))
    last_slot last = op_slot true (grind (arith, nat_tests))

    on_after : s.made + 1 < attempt_cost system object → ticked now (progress_of s) ≡ after system mine now (slot_at system now) (progress_of s)
    on_after early = sym (
        ap (λ (slot : Slot). after system mine now slot (progress_of s)) (on_slot early)
        ∙ ap (λ (b : Bool). if b then (if ends_work (item_at system mine s.complete) s.made then completed (progress_of s) else ticked now (progress_of s)) else progress_of s) (same_self mine)
        ∙ ap (λ (i : Option Item). if ends_work i s.made then completed (progress_of s) else ticked now (progress_of s)) item
        )

    pub nothing_told : s.made + 1 < attempt_cost system object → decision system (slots system now) (slot_at system now) ≡ []
    nothing_told early = ap (decision system (slots system now)) (on_slot early)

    on_may : (touch : Touch) → s.made + 1 < attempt_cost system object → TouchesAfter s.made touch → MayTouch system (slots system now) (slot_at system now) touch
    on_may touch early may =
        let here : TouchesIn (Some (Op object call)) s.made touch = may in
        subst (λ (slot : Slot). MayTouch system (slots system now) slot touch) (sym (on_slot early))
        (subst (λ (p : Progress). TouchesIn (item_at system mine p.complete) p.made touch) (sym is.started)
        (subst (λ (i : Option Item). TouchesIn i s.made touch) (sym item) here))

    pub same_history : s.made + 1 < attempt_cost system object → history (slots system now) ≡ history (slot_at system now ∷ slots system now)
    same_history early = sym (ap (λ (slot : Slot). history (slot ∷ slots system now)) (on_slot early))

    -- the tag of the object is the number of its wins
    pub tag_here : (tag : ℕ) → tag ≡ tag_after objects.bank.layout (history (slots system now)) object → tag ≡ wins object (slots system now)
    tag_here tag e = e ∙ ap (λ (n : ℕ). n + count_loud object (history (slots system now))) is.stands.first ∙ omega (arith, wins_tags object (slots system now))

    open_here : 1 ≤ s.made → IsAtWork (slots system now) objects mine.task s.made s.first object call
    open_here some = is.hand some object call (ap (λ (j : Job). item_at system j s.complete) (ap (job mine.task) (sym is.number)) ∙ item)

    taken_fresh : (was : Operation) → s.made ≡ 0 → was ≡ fresh (home objects.bank.layout object) object call → IsTakenUp was
    taken_fresh was none e = subst IsTakenUp (sym e) (record {
      asks = item;
      going = refl;
      follows = record { exists = exists_here; place_is = refl; fits = fits_here; under_way = tt };
      none = λ f. none;
      some = λ step f. absurd (none_some step None refl f);
    })

    taken_later : (was : Operation) → 1 ≤ s.made → machine_at objects mine.task ≡ Some was → IsTakenUp was
    taken_later was some e =
        let h = open_here some in
        let same : h.machine ≡ was = some_one h.machine was (sym h.there ∙ e) in
        subst IsTakenUp same (record {
          asks = item ∙ ap (λ (o : ℕ). Some (Op o call)) (sym h.on) ∙ ap (λ (x : Call). Some (Op h.machine.object x)) (sym h.calls);
          going = h.going;
          follows = h.follows;
          none = λ f. absurd (none_some h.step h.machine.progress f h.under_way);
          some = λ step f. let step_is : h.step ≡ step = some_one h.step step (sym h.under_way ∙ f) in (
            some,
            ap (λ (p : Attempting). p.made) (sym step_is) ∙ h.position,
            ap (λ (p : Attempting). tag_in p.expected) (sym step_is) ∙ h.tag ∙ ap (λ (o : ℕ). wins_below o s.first (slots system now)) (sym h.on),
          );
        })

    -- what stands in the place of the machine once it is taken up
    pub record IsReady (machine : Option Operation) : Type 0 where
      pub was : Operation
      pub there : machine ≡ Some was
      pub taken : IsTakenUp was

    pub ready : (machine : Option Operation) → (s.made ≡ 0 → machine ≡ Some (fresh (home objects.bank.layout object) object call)) → (1 ≤ s.made → machine ≡ machine_at objects mine.task) → IsReady machine
    ready machine first later = by_made s.made refl
      where
        by_made : (m : ℕ) → s.made ≡ m → IsReady machine
        by_made zero e = record { was = fresh (home objects.bank.layout object) object call; there = first e; taken = taken_fresh (fresh (home objects.bank.layout object) object call) e refl }
        by_made (suc m) e =
            let h = open_here (omega arith) in
            record { was = h.machine; there = later (omega arith) ∙ h.there; taken = taken_later h.machine (omega arith) h.there }

    pub can_step : (machine : Option Operation) → IsReady machine → IsSeatOf objects.bank mine.task → CanStep objects.bank mine.task machine
    can_step machine h ours = record { operation = h.was; there = h.there; going = h.taken.going; ours = ours; follows = h.taken.follows; room = room_here }

    pub taken_up : (machine : Option Operation) (was : Operation) → IsReady machine → machine ≡ Some was → IsTakenUp was
    taken_up machine was h e = subst IsTakenUp (some_one h.was was (sym h.there ∙ e)) h.taken

    -- the attempt goes on
    tag_first : (root : ℕ) → tag_in root ≡ wins object (slots system now) → tag_in root ≡ wins_below object now (slot_at system now ∷ slots system now)
    tag_first root e = e ∙ sym (wins_before system object now (suc now) (omega arith))

    tag_later : (root : ℕ) → 1 ≤ s.made → tag_in root ≡ wins_below object s.first (slots system now) → tag_in root ≡ wins_below object s.first (slot_at system now ∷ slots system now)
    tag_later root some e =
        let before = (begun_is some).before in
        e ∙ wins_before system object s.first now (omega arith) ∙ sym (wins_before system object s.first (suc now) (omega arith))

    first_now : s.made ≡ 0 → (ticked now (progress_of s)).first ≡ now
    first_now none = ap (λ (b : Bool). if b then now else s.first) (zero_is s.made none)
      where
        zero_is : (a : ℕ) → a ≡ 0 → (a == 0) ≡ true
        zero_is a h = grind (arith, nat_tests)

    first_stays : 1 ≤ s.made → (ticked now (progress_of s)).first ≡ s.first
    first_stays some = ap (λ (b : Bool). if b then now else s.first) (not_zero s.made some)
      where
        not_zero : (a : ℕ) → 1 ≤ a → (a == 0) ≡ false
        not_zero a h = grind (arith, nat_tests)

    in_hand_on : (new : Objects) → s.made + 1 < attempt_cost system object → IsAtWork (slot_at system now ∷ slots system now) new mine.task (s.made + 1) (ticked now (progress_of s)).first object call
        → IsInHand system (slot_at system now ∷ slots system now) new mine.task (after_slot system now mine (slot_at system now) s)
    in_hand_on new early work =
        let p : Progress = ticked now (progress_of s) in
        let state : after_slot system now mine (slot_at system now) s ≡ record s { complete = s.complete; made = s.made + 1; first = p.first }
        = ap (with_progress (length (task_of system mine).items) s) (sym (on_after early)) ∙ goes_on s p is.unfinished in
        let mine_is : job mine.task (s.finished + 1) ≡ mine = ap (job mine.task) (sym is.number) in
        subst (IsInHand system (slot_at system now ∷ slots system now) new mine.task) (sym state)
        (λ some o its e.
        let same_item : Some (Op object call) ≡ Some (Op o its) = sym item ∙ ap (λ (j : Job). item_at system j s.complete) (sym mine_is) ∙ e in
        let object_is : object ≡ o = cc in
        let call_is_its : call ≡ its = cc in
        subst (λ (x : ℕ). IsAtWork (slot_at system now ∷ slots system now) new mine.task (s.made + 1) p.first x its) object_is
        (subst (IsAtWork (slot_at system now ∷ slots system now) new mine.task (s.made + 1) p.first object) call_is_its work))

    pub may_first : s.made ≡ 0 → TouchesAfter s.made Load
    may_first none = subst (λ (n : ℕ). TouchesAfter n Load) (sym none) refl

    pub may_later : (touch : Touch) → 1 ≤ s.made → touch ≢ Exchange → TouchesAfter s.made touch
    may_later touch some not = by_made s.made refl
      where
        by_made : (m : ℕ) → s.made ≡ m → TouchesAfter m touch
        by_made zero e = absurd (omega arith)
        by_made (suc m) e = not

    -- the tags are never spent
    pub tag_left : (tag : ℕ) → tag ≡ tag_after objects.bank.layout (history (slots system now)) object → tag + 1 < 2 ^ 40
    tag_left tag e = by_time now refl
      where
        by_time : (n : ℕ) → now ≡ n → tag + 1 < 2 ^ 40
        by_time zero same = let few : wins object (slots system now) ≡ 0 = ap (λ (k : ℕ). wins object (slots system k)) same in omega (arith, tag_here tag e)
        by_time (suc n) same = omega (arith, tag_here tag e, ap (λ (k : ℕ). wins object (slots system k)) same, wins_few system object n, is.early)

    -- the last tick of an attempt, whose root has the tag of its first slot
    module _ (some : 1 ≤ s.made) (root : ℕ) (root_is : tag_in root ≡ wins_below object s.first (slots system now)) where
      root_tag : tag_in root ≡ wins object (slots system s.first)
      root_tag = root_is ∙ wins_before system object s.first now (let before = (begun_is some).before in omega arith)

      calm_first : wins_on object (slot_at system s.first) ≡ false
      calm_first = ap (wins_on object) (begun_is some).begins

      -- the root is still there exactly where no attempt won since with an entry that raised the tag
      pub calm_where : tag_in root ≡ tag_after objects.bank.layout (history (slots system now)) object → won_after object s.first (slots system now) ≡ false
      calm_where e = not_true (won_after object s.first (slots system now)) (λ won.
          let more = spoiled_more system object s.first now won in let tag = tag_here (tag_in root) e in let was = root_tag in absurd (omega arith))

      tags_where : won_after object s.first (slots system now) ≡ false → tag_in root ≡ tag_after objects.bank.layout (history (slots system now)) object
      tags_where calm =
          let here = tag_here (tag_after objects.bank.layout (history (slots system now)) object) refl in
          let same_wins = calm_same system object s.first now (begun_is some).before calm_first calm in
          let was = root_tag in omega arith

      pub spoiled_where : (tag_in root ≡ tag_after objects.bank.layout (history (slots system now)) object → ⊥) → won_after object s.first (slots system now) ≡ true
      spoiled_where differs = by_test (won_after object s.first (slots system now)) refl
        where
          by_test : (b : Bool) → won_after object s.first (slots system now) ≡ b → won_after object s.first (slots system now) ≡ true
          by_test true e = e
          by_test false e = absurd (differs (tags_where e))

    pub won_slot : s.made + 1 ≡ attempt_cost system object → won_after object s.first (slots system now) ≡ false
        → slot_at system now ≡ Decide mine object (Some (entry_after (parts_of system) (history (slots system now)) mine.task object call))
    won_slot last calm = last_slot last ∙ ap (λ (b : Bool). Decide mine object (if b then None else Some (entry_after (parts_of system) (history (slots system now)) mine.task object call))) calm

    pub lost_slot : s.made + 1 ≡ attempt_cost system object → won_after object s.first (slots system now) ≡ true → slot_at system now ≡ Decide mine object None
    lost_slot last spoiled = last_slot last ∙ ap (λ (b : Bool). Decide mine object (if b then None else Some (entry_after (parts_of system) (history (slots system now)) mine.task object call))) spoiled

    won_after_slot : (entry : Entry) → slot_at system now ≡ Decide mine object (Some entry) → completed (progress_of s) ≡ after system mine now (slot_at system now) (progress_of s)
    won_after_slot entry e = sym (ap (λ (slot : Slot). after system mine now slot (progress_of s)) e ∙ ap (λ (b : Bool). if b then completed (progress_of s) else progress_of s) (same_self mine))

    lost_after_slot : slot_at system now ≡ Decide mine object None → lost (progress_of s) ≡ after system mine now (slot_at system now) (progress_of s)
    lost_after_slot e = sym (ap (λ (slot : Slot). after system mine now slot (progress_of s)) e ∙ ap (λ (b : Bool). if b then lost (progress_of s) else progress_of s) (same_self mine))

    -- the entry of the bank is that of the schedule
    entry_is : entry_for objects.bank.layout (history (slots system now)) mine.task object call ≡ entry_after (parts_of system) (history (slots system now)) mine.task object call
    entry_is =
        ap (λ (ps : List Part). let e : Entry = entry_after ps (history (slots system now)) mine.task object call in record e { tag = objects.bank.layout.first + e.tag }) is.stands.parts
        ∙ ap (λ (n : ℕ). let e : Entry = entry_after (parts_of system) (history (slots system now)) mine.task object call in record e { tag = n + e.tag }) is.stands.first
        ∙ ap (λ (n : ℕ). let e : Entry = entry_after (parts_of system) (history (slots system now)) mine.task object call in record e { tag = n })
        (zero_plus (entry_after (parts_of system) (history (slots system now)) mine.task object call).tag)
      where
        zero_plus : (n : ℕ) → 0 + n ≡ n
        zero_plus n = omega arith

    pub decided_won : (new : Objects) → s.made + 1 ≡ attempt_cost system object → won_after object s.first (slots system now) ≡ false
        → Does (slot_at system now) Exchange mine.task (entry_for objects.bank.layout (history (slots system now)) mine.task object call ∷ history (slots system now)) objects.bank new.bank
        → KeepsMachines mine.task objects new → HasTicked system now mine s Ended objects new
    decided_won new last calm does machines =
        let slot = won_slot last calm in
        let entry : Entry = entry_after (parts_of system) (history (slots system now)) mine.task object call in
        let more : entry_for objects.bank.layout (history (slots system now)) mine.task object call ∷ history (slots system now) ≡ history (slot_at system now ∷ slots system now)
        = ap (λ (e : Entry). e ∷ history (slots system now)) entry_is ∙ sym (ap (λ (x : Slot). history (x ∷ slots system now)) slot) in
        has_ticked Ended Exchange new (won_after_slot entry slot) (subst (λ (h : List Entry). Does (slot_at system now) Exchange mine.task h objects.bank new.bank) more does)
        (subst (λ (x : Slot). MayTouch system (slots system now) x Exchange) (sym slot) refl)
        (none_open (slot_at system now ∷ slots system now) new (after_slot system now mine (slot_at system now) s)
        (left_over s (after system mine now (slot_at system now) (progress_of s)) (ap (λ (p : Progress). p.made) (sym (won_after_slot entry slot)))))
        machines

    pub decided_lost : (new : Objects) → s.made + 1 ≡ attempt_cost system object → won_after object s.first (slots system now) ≡ true
        → Does (slot_at system now) Exchange mine.task (history (slots system now)) objects.bank new.bank
        → KeepsMachines mine.task objects new → HasTicked system now mine s Lost objects new
    decided_lost new last spoiled does machines =
        let slot = lost_slot last spoiled in
        let more : history (slots system now) ≡ history (slot_at system now ∷ slots system now) = sym (ap (λ (x : Slot). history (x ∷ slots system now)) slot) in
        has_ticked Lost Exchange new (lost_after_slot slot) (subst (λ (h : List Entry). Does (slot_at system now) Exchange mine.task h objects.bank new.bank) more does)
        (subst (λ (x : Slot). MayTouch system (slots system now) x Exchange) (sym slot) refl)
        (none_open (slot_at system now ∷ slots system now) new (after_slot system now mine (slot_at system now) s)
        (left_over s (after system mine now (slot_at system now) (progress_of s)) (ap (λ (p : Progress). p.made) (sym (lost_after_slot slot)))))
        machines

    -- what is told of it
    pub reply_told : (reply : Reply) (tag : ℕ) → s.made + 1 ≡ attempt_cost system object → won_after object s.first (slots system now) ≡ false
        → reply ≡ (effect (part_at objects.bank.layout.parts object) (replay objects.bank.layout.parts object (history (slots system now))) call).reply
        → tag ≡ (entry_for objects.bank.layout (history (slots system now)) mine.task object call).tag
        → Event.Reply now s.first mine (s.complete + 1) reply tag ∷ [] ≡ decision system (slots system now) (slot_at system now)
    reply_told reply tag last calm says is_tag =
        let entry : Entry = entry_after (parts_of system) (history (slots system now)) mine.task object call in
        let counted : entry.tag ≡ tag = ap (λ (e : Entry). e.tag) (sym entry_is) ∙ sym is_tag in
        sym (
        ap (decision system (slots system now)) (won_slot last calm)
        ∙ ap (λ (n : ℕ). let p = progress system mine (slots system now) in Event.Reply n p.first mine (p.complete + 1) entry.reply entry.tag ∷ []) (slots_count system now)
        ∙ ap (λ (p : Progress). Event.Reply now p.first mine (p.complete + 1) entry.reply entry.tag ∷ []) is.started
        ∙ ap (λ (r : Reply). Event.Reply now s.first mine (s.complete + 1) r entry.tag ∷ []) (ap (λ (ps : List Part). (effect (part_at ps object) (replay ps object (history (slots system now))) call).reply) (sym is.stands.parts) ∙ sym says)
        ∙ ap (λ (n : ℕ). Event.Reply now s.first mine (s.complete + 1) reply n ∷ []) counted
        )

    pub retry_told : (expected found : ℕ) → s.made + 1 ≡ attempt_cost system object → won_after object s.first (slots system now) ≡ true
        → expected ≡ wins_below object s.first (slots system now) → found ≡ tag_after objects.bank.layout (history (slots system now)) object
        → Event.Retry now s.first mine (s.complete + 1) expected found ∷ [] ≡ decision system (slots system now) (slot_at system now)
    retry_told expected found last spoiled is_expected is_found = sym (
        ap (decision system (slots system now)) (lost_slot last spoiled)
        ∙ ap (λ (n : ℕ). let p = progress system mine (slots system now) in Event.Retry n p.first mine (p.complete + 1) (wins_below object p.first (slots system now)) (wins object (slots system now)) ∷ []) (slots_count system now)
        ∙ ap (λ (p : Progress). Event.Retry now p.first mine (p.complete + 1) (wins_below object p.first (slots system now)) (wins object (slots system now)) ∷ []) is.started
        ∙ ap (λ (n : ℕ). Event.Retry now s.first mine (s.complete + 1) n (wins object (slots system now)) ∷ []) (sym is_expected)
        ∙ ap (λ (n : ℕ). Event.Retry now s.first mine (s.complete + 1) expected n ∷ []) (sym (tag_here found is_found))
        )

  -- a step of the machine of the task, by which the bank and the machines become new
  module _ (was next : Operation) (new : Objects) (seat : ℕ) (taken : IsTakenUp was) (before : IsSeatOf objects.bank mine.task)
      (layout : new.bank.layout ≡ objects.bank.layout) (there : machine_at new mine.task ≡ Some next) (follows : Follows new.bank.layout (view_at new.bank.core seat) next)
      (machines : KeepsMachines mine.task objects new) where
    steps_are : attempt_steps was.place.part ≡ attempt_cost system was.object
    steps_are = steps_here was.object was.call taken.asks was.place taken.follows.place_is

    -- the machine follows the seat of its task
    follows_at : (step : Stepping) → Stepped objects.bank.layout objects.bank.core new.bank.core mine.task (view_at new.bank.core seat) was next step → Follows new.bank.layout (view_at new.bank.core mine.task) next
    follows_at step stepped = subst (λ (v : View). Follows new.bank.layout v next) (sym stepped.moves.moved) follows

    -- what a step that does not decide leaves
    record GoesOn (step : Attempting) : Type 0 where
      pub outlook : Outlook
      pub next_is : next ≡ on_with was step outlook
      pub position : step.made ≡ s.made + 1
      pub tag : tag_in step.expected ≡ wins_below was.object (ticked now (progress_of s)).first (slot_at system now ∷ slots system now)

    goes_first : (root : ℕ) → was.progress ≡ None → next ≡ on_with was (begun root) Unsettled → tag_in root ≡ tag_after objects.bank.layout (history (slots system now)) was.object → GoesOn (begun root)
    goes_first root none e tag =
        let made = taken.none none in record {
          outlook = Unsettled;
          next_is = e;
          position = omega arith;
          tag = tag_first was.object was.call taken.asks root (tag_here was.object was.call taken.asks (tag_in root) tag)
              ∙ ap (λ (n : ℕ). wins_below was.object n (slot_at system now ∷ slots system now)) (sym (first_now was.object was.call taken.asks made));
        }

    goes_later : (old step : Attempting) (outlook : Outlook) → was.progress ≡ Some old → next ≡ on_with was step outlook → step.made ≡ old.made + 1 → step.expected ≡ old.expected → GoesOn step
    goes_later old step outlook under e more same =
        let h = taken.some old under in record {
          outlook = outlook;
          next_is = e;
          position = omega (arith, h.1);
          tag = ap tag_in same ∙ tag_later was.object was.call taken.asks old.expected h.0 h.2
              ∙ ap (λ (n : ℕ). wins_below was.object n (slot_at system now ∷ slots system now)) (sym (first_stays was.object was.call taken.asks h.0));
        }

    went : (touch : Touch) (step : Attempting) → s.made + 1 < attempt_cost system was.object → TouchesAfter s.made touch
        → Does (slot_at system now) touch mine.task (history (slots system now)) objects.bank new.bank → GoesOn step → Follows new.bank.layout (view_at new.bank.core mine.task) next
        → HasTicked system now mine s On objects new
    went touch step early may does on here =
        has_ticked On touch new (on_after was.object was.call taken.asks early)
        (subst (λ (h : List Entry). Does (slot_at system now) touch mine.task h objects.bank new.bank) (same_history was.object was.call taken.asks early) does)
        (on_may was.object was.call taken.asks touch early may)
        (in_hand_on was.object was.call taken.asks new early (record {
          machine = next;
          step = step;
          there = there;
          on = ap (λ (m : Operation). m.object) on.next_is;
          calls = ap (λ (m : Operation). m.call) on.next_is;
          going = ap (λ (m : Operation). m.ended) on.next_is ∙ taken.going;
          under_way = ap (λ (m : Operation). m.progress) on.next_is;
          position = on.position;
          tag = on.tag;
          follows = here;
        }))
        machines

    tag_there : (core : Core) → core ≡ objects.bank.core → tag_in (root_of core.words was.object) ≡ tag_after objects.bank.layout (history (slots system now)) was.object
    tag_there core e = ap (λ (c : Core). tag_in (root_of c.words was.object)) e ∙ is.stands.lawful.tags was.object taken.follows.exists

    pub ticked_loads : Stepped objects.bank.layout objects.bank.core new.bank.core mine.task (view_at new.bank.core seat) was next Going
        → Loads objects.bank.layout (bank_stands objects.bank mine.task) (bank_stands new.bank seat) (view_at objects.bank.core mine.task) (view_at new.bank.core seat) was next
        → HasTicked system now mine s On objects new
    ticked_loads stepped h =
        let none = taken.none h.first in
        went Load (begun h.root) (first_early was.object was.call taken.asks none) (may_first was.object was.call taken.asks none)
        (begin_does (slot_at system now) objects.bank new.bank mine.task (view_at objects.bank.core mine.task) (view_at new.bank.core seat) (history (slots system now)) layout was.object was.call h.root h.event stepped.moves is.stands.lawful)
        (goes_first h.root h.first h.next (ap tag_in h.event.root_is ∙ tag_there h.event.core h.event.found.stands))
        (follows_at Going stepped)

    early_here : (old : Attempting) → was.progress ≡ Some old → old.made + 1 < attempt_steps was.place.part → s.made + 1 < attempt_cost system was.object
    early_here old under early = let h = taken.some old under in omega (arith, steps_are, h.1)

    load_exchange : Load ≡ Exchange → ⊥
    load_exchange e = cc

    store_exchange : Store ≡ Exchange → ⊥
    store_exchange e = cc

    nothing_exchange : Nothing ≡ Exchange → ⊥
    nothing_exchange e = cc

    pub ticked_reads : Stepped objects.bank.layout objects.bank.core new.bank.core mine.task (view_at new.bank.core seat) was next Going
        → Reads objects.bank.layout (bank_stands objects.bank mine.task) (bank_stands new.bank seat) (view_at objects.bank.core mine.task) (view_at new.bank.core seat) was next
        → HasTicked system now mine s On objects new
    ticked_reads stepped h =
        let old = h.progress in
        let some = (taken.some old h.amid.is).0 in
        went Load (record old { made = old.made + 1; reads = old.reads ++ (record { place = h.place; word = h.word }) ∷ [] }) (early_here old h.amid.is h.amid.early)
        (may_later was.object was.call taken.asks Load some load_exchange)
        (read_does (slot_at system now) objects.bank new.bank mine.task (view_at objects.bank.core mine.task) (view_at new.bank.core seat) (history (slots system now)) layout (attempt_for was old) h.place h.word h.event stepped.moves is.stands.lawful)
        (goes_later old _ Unsettled h.amid.is h.next refl refl)
        (follows_at Going stepped)

    pub ticked_writes : Stepped objects.bank.layout objects.bank.core new.bank.core mine.task (view_at new.bank.core seat) was next Going
        → Writes objects.bank.layout (bank_stands objects.bank mine.task) (bank_stands new.bank seat) (view_at objects.bank.core mine.task) (view_at new.bank.core seat) was next
        → HasTicked system now mine s On objects new
    ticked_writes stepped h =
        let old = h.progress in
        let some = (taken.some old h.amid.is).0 in
        went Store (record old { made = old.made + 1; writes = old.writes ++ (record { own = h.own; value = h.value }) ∷ [] }) (early_here old h.amid.is h.amid.early)
        (may_later was.object was.call taken.asks Store some store_exchange)
        (write_does (slot_at system now) objects.bank new.bank mine.task (view_at objects.bank.core mine.task) (view_at new.bank.core seat) (history (slots system now)) layout mine (attempt_for was old) h.own h.value is.owner refl refl before.owns taken.follows.exists h.below h.event stepped.moves is.stands.lawful)
        (goes_later old _ (Settled h.plan) h.amid.is h.next refl refl)
        (follows_at Going stepped)

    pub ticked_idles : Idles objects.bank.layout bank_stands bank_view objects.bank mine.task new.bank seat was next → HasTicked system now mine s On objects new
    ticked_idles h =
        let old = h.progress in
        let some = (taken.some old h.is).0 in
        went Nothing (record old { made = old.made + 1 }) (early_here old h.is h.early)
        (may_later was.object was.call taken.asks Nothing some nothing_exchange)
        (idle_does (slot_at system now) mine.task (history (slots system now)) objects.bank new.bank h.port_is is.stands.lawful)
        (goes_later old _ h.outlook h.is h.next refl refl)
        (subst (λ (n : ℕ). Follows new.bank.layout (view_at new.bank.core n) next) h.seat_is follows)

    -- before the last tick nothing is told
    pub loads_told : Loads objects.bank.layout (bank_stands objects.bank mine.task) (bank_stands new.bank seat) (view_at objects.bank.core mine.task) (view_at new.bank.core seat) was next
        → decision system (slots system now) (slot_at system now) ≡ []
    loads_told h = nothing_told was.object was.call taken.asks (first_early was.object was.call taken.asks (taken.none h.first))

    pub amid_told : (old : Attempting) → was.progress ≡ Some old → old.made + 1 < attempt_steps was.place.part → decision system (slots system now) (slot_at system now) ≡ []
    amid_told old under early = nothing_told was.object was.call taken.asks (early_here old under early)

    -- the last tick
    module _ (found : ℕ) (d : Decides objects.bank.layout (bank_stands objects.bank mine.task) (bank_stands new.bank seat) (view_at objects.bank.core mine.task) (view_at new.bank.core seat) was next found) where
      some_here : 1 ≤ s.made
      some_here = (taken.some d.progress d.is).0

      last_here : s.made + 1 ≡ attempt_cost system was.object
      last_here = let h = taken.some d.progress d.is in omega (arith, steps_are, d.last, h.1)

      expected_tag : tag_in d.progress.expected ≡ wins_below was.object s.first (slots system now)
      expected_tag = (taken.some d.progress d.is).2

      found_tag : tag_in found ≡ tag_after objects.bank.layout (history (slots system now)) was.object
      found_tag = ap tag_in d.event.word_is ∙ tag_there d.event.core d.event.found.stands

      calm_here : found ≡ d.progress.expected → won_after was.object s.first (slots system now) ≡ false
      calm_here e = calm_where was.object was.call taken.asks some_here d.progress.expected expected_tag (ap tag_in (sym e) ∙ found_tag)

      spoiled_here : tag_in d.progress.expected < tag_in found → won_after was.object s.first (slots system now) ≡ true
      spoiled_here higher = spoiled_where was.object was.call taken.asks some_here d.progress.expected expected_tag (λ e. absurd (omega (arith, found_tag, e)))

      pub ticked_wins : (reply : Reply) (tag : ℕ) → found ≡ d.progress.expected → Stepped objects.bank.layout objects.bank.core new.bank.core mine.task (view_at new.bank.core seat) was next (Step.Won reply tag) → HasTicked system now mine s Ended objects new
      ticked_wins reply tag e stepped =
          let calm = calm_here e in
          decided_won was.object was.call taken.asks new last_here calm
          (decide_does (slot_at system now) objects.bank new.bank mine.task (view_at objects.bank.core mine.task) (view_at new.bank.core seat) (history (slots system now)) layout mine _ (attempt_for was d.progress) d.root found d.pairs
          (λ past. history_by (Step.Won reply tag) (entry_for objects.bank.layout past mine.task was.object was.call) past) (won_slot was.object was.call taken.asks last_here calm) d.event stepped.moves is.stands.lawful)
          machines

      pub wins_told : (reply : Reply) (tag : ℕ) → found ≡ d.progress.expected → Stepped objects.bank.layout objects.bank.core new.bank.core mine.task (view_at new.bank.core seat) was next (Step.Won reply tag)
          → Event.Reply now s.first mine (s.complete + 1) reply tag ∷ [] ≡ decision system (slots system now) (slot_at system now)
      wins_told reply tag e stepped =
          let says = stepped.says (history (slots system now)) is.stands.lawful in
          reply_told was.object was.call taken.asks reply tag last_here (calm_here e) says.0 says.1

      pub ticked_loses : (expected : ℕ) → tag_in d.progress.expected < tag_in found → Stepped objects.bank.layout objects.bank.core new.bank.core mine.task (view_at new.bank.core seat) was next (Step.Lost expected found) → HasTicked system now mine s Lost objects new
      ticked_loses expected higher stepped =
          let spoiled = spoiled_here higher in
          decided_lost was.object was.call taken.asks new last_here spoiled
          (decide_does (slot_at system now) objects.bank new.bank mine.task (view_at objects.bank.core mine.task) (view_at new.bank.core seat) (history (slots system now)) layout mine None (attempt_for was d.progress) d.root found d.pairs
          (λ past. past) (lost_slot was.object was.call taken.asks last_here spoiled) d.event stepped.moves is.stands.lawful)
          machines

      pub loses_told : (expected had : ℕ) → expected ≡ tag_in d.progress.expected → had ≡ tag_in found → tag_in d.progress.expected < tag_in found
          → Event.Retry now s.first mine (s.complete + 1) expected had ∷ [] ≡ decision system (slots system now) (slot_at system now)
      loses_told expected had e f higher =
          retry_told was.object was.call taken.asks expected had last_here (spoiled_here higher) (e ∙ expected_tag) (f ∙ found_tag)

    -- the tags are never spent
    pub never_spent : (tag : ℕ) → Spends objects.bank.layout (bank_stands objects.bank mine.task) (bank_stands new.bank seat) (view_at objects.bank.core mine.task) (view_at new.bank.core seat) was next tag → ⊥
    never_spent tag h = absurd (omega (arith, h.last, tag_left was.object was.call taken.asks (tag_in h.root) (ap tag_in h.event.root_is ∙ tag_there h.event.core h.event.found.stands)))

  -- a tick of an operation: its machine is taken up and makes a step
  module _ (object : ℕ) (call : Call) (item : item_at system mine s.complete ≡ Some (Op object call)) (before : IsSeatOf objects.bank mine.task)
      (first up a : Option Operation) (layout : Layout) (layout_is : layout ≡ objects.bank.layout) (first_is : first ≡ get_or objects.machines.items mine.task first)
      (fresh_is : s.made ≡ 0 → up ≡ Some (fresh (home layout object) object call)) (later_is : 1 ≤ s.made → up ≡ first)
      (again : a ≡ get_or (slice_set objects.machines.items mine.task up) mine.task a) where
    up_is : a ≡ up
    up_is = again ∙ get_or-set_at objects.machines.items mine.task mine.task up a refl machine_here

    machine_is : IsReady object call item a
    machine_is = ready object call item a
        (λ e. up_is ∙ fresh_is e ∙ ap (λ (l : Layout). Some (fresh (home l object) object call)) layout_is)
        (λ e. up_is ∙ later_is e ∙ first_is ∙ get_or_default objects.machines.items mine.task first None machine_here)

    pub steps : CanStep objects.bank mine.task a
    steps = can_step object call item a machine_is before

    module _ (b : Option Operation) (new : Objects) (new_is : new.machines.items ≡ slice_set (slice_set objects.machines.items mine.task up) mine.task b) (step : Stepping) (stepped : HasStepped objects.bank new.bank mine.task a b step)
        (law : (old now' : Whole) (seat other : ℕ) (machine after : Operation) (did : Stepping) → IsSeatOf old seat → Follows old.layout (view_at old.core seat) machine → TellsOf old seat now' other machine after did
        → Stepped old.layout old.core now'.core seat (view_at now'.core other) machine after did) where
      taken : IsTakenUp stepped.was
      taken = taken_up object call item a stepped.was machine_is stepped.there

      there : machine_at new mine.task ≡ Some stepped.is
      there = machine_set new up b new_is ∙ stepped.stays

      machines : KeepsMachines mine.task objects new
      machines = machines_kept new up b new_is

      did : Stepped objects.bank.layout objects.bank.core new.bank.core mine.task (view_at new.bank.core stepped.after) stepped.was stepped.is step
      did = law objects.bank new.bank mine.task stepped.after stepped.was stepped.is step before taken.follows stepped.tells

      tells_as : (other : Stepping) → step ≡ other → TellsOf objects.bank mine.task new.bank stepped.after stepped.was stepped.is other
      tells_as other e = subst (TellsOf objects.bank mine.task new.bank stepped.after stepped.was stepped.is) e stepped.tells

      did_as : (other : Stepping) → step ≡ other → Stepped objects.bank.layout objects.bank.core new.bank.core mine.task (view_at new.bank.core stepped.after) stepped.was stepped.is other
      did_as other e = subst (Stepped objects.bank.layout objects.bank.core new.bank.core mine.task (view_at new.bank.core stepped.after) stepped.was stepped.is) e did

      pub tick_going : step ≡ Going → HasTicked system now mine s On objects new
      tick_going e = elim (tells_as Going e) [
        | inl loads ↦ ticked_loads stepped.was stepped.is new stepped.after taken before stepped.layout there stepped.follows machines (did_as Going e) loads
        | inr (inl reads) ↦ ticked_reads stepped.was stepped.is new stepped.after taken before stepped.layout there stepped.follows machines (did_as Going e) reads
        | inr (inr writes) ↦ ticked_writes stepped.was stepped.is new stepped.after taken before stepped.layout there stepped.follows machines (did_as Going e) writes
      ]

      pub told_going : step ≡ Going → decision system (slots system now) (slot_at system now) ≡ []
      told_going e = elim (tells_as Going e) [
        | inl loads ↦ loads_told stepped.was stepped.is new stepped.after taken before stepped.layout there stepped.follows machines loads
        | inr (inl reads) ↦ amid_told stepped.was stepped.is new stepped.after taken before stepped.layout there stepped.follows machines reads.progress reads.amid.is reads.amid.early
        | inr (inr writes) ↦ amid_told stepped.was stepped.is new stepped.after taken before stepped.layout there stepped.follows machines writes.progress writes.amid.is writes.amid.early
      ]

      pub tick_idle : step ≡ Step.Idle → HasTicked system now mine s On objects new
      tick_idle e = ticked_idles stepped.was stepped.is new stepped.after taken before stepped.layout there stepped.follows machines (tells_as Step.Idle e)

      pub told_idle : step ≡ Step.Idle → decision system (slots system now) (slot_at system now) ≡ []
      told_idle e =
          let h = tells_as Step.Idle e in
          amid_told stepped.was stepped.is new stepped.after taken before stepped.layout there stepped.follows machines h.progress h.is h.early

      pub tick_won : (reply : Reply) (tag : ℕ) → step ≡ Step.Won reply tag → HasTicked system now mine s Ended objects new
      tick_won reply tag e =
          let h = tells_as (Step.Won reply tag) e in
          ticked_wins stepped.was stepped.is new stepped.after taken before stepped.layout there stepped.follows machines h.found h.decides reply tag h.same (did_as (Step.Won reply tag) e)

      pub told_won : (reply : Reply) (tag : ℕ) → step ≡ Step.Won reply tag → Event.Reply now s.first mine (s.complete + 1) reply tag ∷ [] ≡ decision system (slots system now) (slot_at system now)
      told_won reply tag e =
          let h = tells_as (Step.Won reply tag) e in
          wins_told stepped.was stepped.is new stepped.after taken before stepped.layout there stepped.follows machines h.found h.decides reply tag h.same (did_as (Step.Won reply tag) e)

      pub tick_lost : (expected found : ℕ) → step ≡ Step.Lost expected found → HasTicked system now mine s Lost objects new
      tick_lost expected found e =
          let h = tells_as (Step.Lost expected found) e in
          ticked_loses stepped.was stepped.is new stepped.after taken before stepped.layout there stepped.follows machines found h.decides expected
          (subst (λ (n : ℕ). tag_in n < tag_in found) h.expected_is h.higher) (did_as (Step.Lost expected found) e)

      pub told_lost : (expected found one other : ℕ) → step ≡ Step.Lost expected found → one ≡ tag_in expected → other ≡ tag_in found
          → Event.Retry now s.first mine (s.complete + 1) one other ∷ [] ≡ decision system (slots system now) (slot_at system now)
      told_lost expected found one other e f g =
          let h = tells_as (Step.Lost expected found) e in
          loses_told stepped.was stepped.is new stepped.after taken before stepped.layout there stepped.follows machines found h.decides one other (f ∙ ap tag_in h.expected_is) g
          (subst (λ (n : ℕ). tag_in n < tag_in found) h.expected_is h.higher)

      pub not_spent : (tag : ℕ) → step ≡ Step.Spent tag → ⊥
      not_spent tag e =
          never_spent stepped.was stepped.is new stepped.after taken before stepped.layout there stepped.follows machines tag (tells_as (Step.Spent tag) e)

  -- a tick of work
  work_may : (ticks : ℕ) → item_at system mine s.complete ≡ Some (Work ticks) → MayTouch system (slots system now) (slot_at system now) Nothing
  work_may ticks item =
      let here : TouchesIn (Some (Work ticks)) s.made Nothing = refl in
      subst (λ (slot : Slot). MayTouch system (slots system now) slot Nothing) (sym (work_slot ticks item))
      (subst (λ (p : Progress). TouchesIn (item_at system mine p.complete) p.made Nothing) (sym is.started)
      (subst (λ (i : Option Item). TouchesIn i s.made Nothing) (sym item) here))

  work_or_call : (ticks object : ℕ) (call : Call) → Some (Work ticks) ≡ Some (Op object call) → ⊥
  work_or_call ticks object call e = cc

  -- no attempt is open after a tick of work
  work_hand : (ticks : ℕ) → item_at system mine s.complete ≡ Some (Work ticks) → (past : List Slot) (new : Objects) → IsInHand system past new mine.task (after_slot system now mine (slot_at system now) s)
  work_hand ticks item past new = by_test (s.made + 1 == ticks) refl
    where
      state : (b : Bool) → (s.made + 1 == ticks) ≡ b
          → after_slot system now mine (slot_at system now) s ≡ with_progress (length (task_of system mine).items) s (if b then completed (progress_of s) else ticked now (progress_of s))
      state b e = ap (with_progress (length (task_of system mine).items) s) (work_after ticks item ∙ ap (λ (t : Bool). if t then completed (progress_of s) else ticked now (progress_of s)) e)

      mine_is : job mine.task (s.finished + 1) ≡ mine
      mine_is = ap (job mine.task) (sym is.number)

      on : (t : State) → t ≡ record s { complete = s.complete; made = s.made + 1; first = (ticked now (progress_of s)).first } → IsInHand system past new mine.task t
      on t e = subst (IsInHand system past new mine.task) (sym e)
          (λ some o its f. absurd (work_or_call ticks o its (sym item ∙ ap (λ (j : Job). item_at system j s.complete) (sym mine_is) ∙ f)))

      by_test : (b : Bool) → (s.made + 1 == ticks) ≡ b → IsInHand system past new mine.task (after_slot system now mine (slot_at system now) s)
      by_test true e = none_open past new (after_slot system now mine (slot_at system now) s) (ap (λ (t : State). t.made) (state true e) ∙ left_over s (completed (progress_of s)) refl)
      by_test false e = on (after_slot system now mine (slot_at system now) s) (state false e ∙ goes_on s (ticked now (progress_of s)) is.unfinished)

  pub worked : (ticks : ℕ) (tick : Made) → item_at system mine s.complete ≡ Some (Work ticks)
      → progress_made tick now (progress_of s) ≡ (if s.made + 1 == ticks then completed (progress_of s) else ticked now (progress_of s)) → HasTicked system now mine s tick objects objects
  worked ticks tick item made =
      let same_history : history (slots system now) ≡ history (slot_at system now ∷ slots system now) = sym (ap (λ (slot : Slot). history (slot ∷ slots system now)) (work_slot ticks item)) in
      has_ticked tick Nothing objects (made ∙ sym (work_after ticks item))
      (idle_does (slot_at system now) mine.task (history (slot_at system now ∷ slots system now)) objects.bank objects.bank refl
      (subst (Lawful objects.bank.layout objects.bank.core.words objects.bank.core.views) same_history is.stands.lawful))
      (work_may ticks item) (work_hand ticks item (slot_at system now ∷ slots system now) objects) (record { count = refl; others = λ other apart. refl })

  pub work_told : (ticks : ℕ) → item_at system mine s.complete ≡ Some (Work ticks) → decision system (slots system now) (slot_at system now) ≡ []
  work_told ticks item = ap (decision system (slots system now)) (work_slot ticks item)

  pub made_small : s.made < 2 ^ 40
  made_small = omega (arith, made_bound system mine (slots system now), ap (λ (p : Progress). p.made) is.started, slots_count system now, is.early)
