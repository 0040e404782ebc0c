use Rattle.std.specs.Vec.{with_item}
use Rattle.std.proofs.Common.{◌≡◌, ◌<◌, ◌++◌, inl, inr, [], List, length, true, refl, sym, ap, ◌∙◌, subst, append-nil}
use Rattle.rx_seq.specs.Table.{fits_part}
use Rattle.rx_seq.specs.History.{part_at}
use Rattle.rx_shape.specs.Layout.{Layout}
use Rattle.rx_ledger.specs.declared.events.Event.{Event}
use Rattle.rx_tick.specs.declared.objects.Objects.{Objects}
use Rattle.rx_slots.specs.Events.{decision}
use Rattle.rx_slots.specs.Schedule.{slots, slot_at}
use Rattle.rx_tick.proofs.Banks.{exists_here, fits_here, seat_here, steps, tick_going, told_going, tick_idle, told_idle, tick_won, told_won, tick_lost, told_lost, not_spent}
use Rattle.rx_tick.proofs.objects.Objects.operate.Goals as goal

pub take_up-requires-clause-exists : goal.take_up-requires-clause-exists
take_up-requires-clause-exists c =
    subst (λ (l : Layout). c.args.object < length l.parts) (sym c.layout.ensures.layout) (exists_here c.args.set.now c.args.now c.args.job c.args.state.now c.args.self.now c.requires.is c.args.object c.args.call.now c.requires.item)

pub take_up-requires-clause-fits : goal.take_up-requires-clause-fits
take_up-requires-clause-fits c =
    subst (λ (l : Layout). fits_part (part_at l.parts c.args.object) c.args.call.now ≡ true) (sym c.layout.ensures.layout) (fits_here c.args.set.now c.args.now c.args.job c.args.state.now c.args.self.now c.requires.is c.args.object c.args.call.now c.requires.item)

pub make_step-requires : goal.make_step-requires
make_step-requires c =
    let system = c.args.set.now in
    let objects = c.args.self.now in
    let call = c.args.call.now in
    let before = c.layout.ensures.ours c.args.job.task (seat_here system c.args.now c.args.job c.args.state.now objects c.requires.is) in
    steps system c.args.now c.args.job c.args.state.now objects c.requires.is c.args.object call c.requires.item before c.index_mut.result.now c.take_up.new.machine c.index_mut-2.result.now c.layout.result.now c.layout.ensures.layout
    c.index_mut.ensures.value c.take_up.ensures.first c.take_up.ensures.later c.index_mut-2.ensures.value

pub unreachable-requires : goal.unreachable-requires
unreachable-requires c =
    let system = c.args.set.now in
    let objects = c.args.self.now in
    let call = c.args.call.now in
    let before = c.layout.ensures.ours c.args.job.task (seat_here system c.args.now c.args.job c.args.state.now objects c.requires.is) in
    let new : Objects = record { bank = c.make_step.new.bank; machines = with_item (with_item objects.machines c.args.job.task c.take_up.new.machine) c.args.job.task c.make_step.new.machine } in
    not_spent system c.args.now c.args.job c.args.state.now objects c.requires.is c.args.object call c.requires.item before c.index_mut.result.now c.take_up.new.machine c.index_mut-2.result.now c.layout.result.now c.layout.ensures.layout
    c.index_mut.ensures.value c.take_up.ensures.first c.take_up.ensures.later c.index_mut-2.ensures.value c.make_step.new.machine new refl c.make_step.result c.make_step.ensures c.steps_on_a_bank.ensures c.in-Spent.tag c.in-Spent.is

pub returns-in-Won-clause-ticked : goal.returns-in-Won-clause-ticked
returns-in-Won-clause-ticked c =
    let system = c.args.set.now in
    let objects = c.args.self.now in
    let call = c.args.call.now in
    let before = c.layout.ensures.ours c.args.job.task (seat_here system c.args.now c.args.job c.args.state.now objects c.requires.is) in
    let new : Objects = record { bank = c.make_step.new.bank; machines = with_item (with_item objects.machines c.args.job.task c.take_up.new.machine) c.args.job.task c.make_step.new.machine } in
    tick_won system c.args.now c.args.job c.args.state.now objects c.requires.is c.args.object call c.requires.item before c.index_mut.result.now c.take_up.new.machine c.index_mut-2.result.now c.layout.result.now c.layout.ensures.layout
    c.index_mut.ensures.value c.take_up.ensures.first c.take_up.ensures.later c.index_mut-2.ensures.value c.make_step.new.machine new refl c.make_step.result c.make_step.ensures c.steps_on_a_bank.ensures c.in-Won.reply c.in-Won.tag c.in-Won.is

pub returns-in-Won-clause-told : goal.returns-in-Won-clause-told
returns-in-Won-clause-told c =
    let system = c.args.set.now in
    let objects = c.args.self.now in
    let call = c.args.call.now in
    let before = c.layout.ensures.ours c.args.job.task (seat_here system c.args.now c.args.job c.args.state.now objects c.requires.is) in
    let new : Objects = record { bank = c.make_step.new.bank; machines = with_item (with_item objects.machines c.args.job.task c.take_up.new.machine) c.args.job.task c.make_step.new.machine } in
    c.push.ensures.items ∙ ap (λ (es : List Event). c.args.events.now.items ++ es)
    (told_won system c.args.now c.args.job c.args.state.now objects c.requires.is c.args.object call c.requires.item before c.index_mut.result.now c.take_up.new.machine c.index_mut-2.result.now c.layout.result.now c.layout.ensures.layout
    c.index_mut.ensures.value c.take_up.ensures.first c.take_up.ensures.later c.index_mut-2.ensures.value c.make_step.new.machine new refl c.make_step.result c.make_step.ensures c.steps_on_a_bank.ensures c.in-Won.reply c.in-Won.tag c.in-Won.is)

pub returns-in-Lost-clause-ticked : goal.returns-in-Lost-clause-ticked
returns-in-Lost-clause-ticked c =
    let system = c.args.set.now in
    let objects = c.args.self.now in
    let call = c.args.call.now in
    let before = c.layout.ensures.ours c.args.job.task (seat_here system c.args.now c.args.job c.args.state.now objects c.requires.is) in
    let new : Objects = record { bank = c.make_step.new.bank; machines = with_item (with_item objects.machines c.args.job.task c.take_up.new.machine) c.args.job.task c.make_step.new.machine } in
    tick_lost system c.args.now c.args.job c.args.state.now objects c.requires.is c.args.object call c.requires.item before c.index_mut.result.now c.take_up.new.machine c.index_mut-2.result.now c.layout.result.now c.layout.ensures.layout
    c.index_mut.ensures.value c.take_up.ensures.first c.take_up.ensures.later c.index_mut-2.ensures.value c.make_step.new.machine new refl c.make_step.result c.make_step.ensures c.steps_on_a_bank.ensures c.in-Lost.expected c.in-Lost.found c.in-Lost.is

pub returns-in-Lost-clause-told : goal.returns-in-Lost-clause-told
returns-in-Lost-clause-told c =
    let system = c.args.set.now in
    let objects = c.args.self.now in
    let call = c.args.call.now in
    let before = c.layout.ensures.ours c.args.job.task (seat_here system c.args.now c.args.job c.args.state.now objects c.requires.is) in
    let new : Objects = record { bank = c.make_step.new.bank; machines = with_item (with_item objects.machines c.args.job.task c.take_up.new.machine) c.args.job.task c.make_step.new.machine } in
    c.push-in-Lost.ensures.items ∙ ap (λ (es : List Event). c.args.events.now.items ++ es)
    (told_lost system c.args.now c.args.job c.args.state.now objects c.requires.is c.args.object call c.requires.item before c.index_mut.result.now c.take_up.new.machine c.index_mut-2.result.now c.layout.result.now c.layout.ensures.layout
    c.index_mut.ensures.value c.take_up.ensures.first c.take_up.ensures.later c.index_mut-2.ensures.value c.make_step.new.machine new refl c.make_step.result c.make_step.ensures c.steps_on_a_bank.ensures c.in-Lost.expected c.in-Lost.found c.tag_of.result c.tag_of-in-Lost.result c.in-Lost.is c.tag_of.ensures.value c.tag_of-in-Lost.ensures.value)

pub returns-in-Going-clause-ticked : goal.returns-in-Going-clause-ticked
returns-in-Going-clause-ticked c =
    let system = c.args.set.now in
    let objects = c.args.self.now in
    let call = c.args.call.now in
    let before = c.layout.ensures.ours c.args.job.task (seat_here system c.args.now c.args.job c.args.state.now objects c.requires.is) in
    let new : Objects = record { bank = c.make_step.new.bank; machines = with_item (with_item objects.machines c.args.job.task c.take_up.new.machine) c.args.job.task c.make_step.new.machine } in
    elim c.in-Going.is [
      | inl going ↦ tick_going system c.args.now c.args.job c.args.state.now objects c.requires.is c.args.object call c.requires.item before c.index_mut.result.now c.take_up.new.machine c.index_mut-2.result.now c.layout.result.now c.layout.ensures.layout
          c.index_mut.ensures.value c.take_up.ensures.first c.take_up.ensures.later c.index_mut-2.ensures.value c.make_step.new.machine new refl c.make_step.result c.make_step.ensures c.steps_on_a_bank.ensures going
      | inr idle ↦ tick_idle system c.args.now c.args.job c.args.state.now objects c.requires.is c.args.object call c.requires.item before c.index_mut.result.now c.take_up.new.machine c.index_mut-2.result.now c.layout.result.now c.layout.ensures.layout
          c.index_mut.ensures.value c.take_up.ensures.first c.take_up.ensures.later c.index_mut-2.ensures.value c.make_step.new.machine new refl c.make_step.result c.make_step.ensures c.steps_on_a_bank.ensures idle
    ]

pub returns-in-Going-clause-told : goal.returns-in-Going-clause-told
returns-in-Going-clause-told c =
    let system = c.args.set.now in
    let objects = c.args.self.now in
    let call = c.args.call.now in
    let before = c.layout.ensures.ours c.args.job.task (seat_here system c.args.now c.args.job c.args.state.now objects c.requires.is) in
    let new : Objects = record { bank = c.make_step.new.bank; machines = with_item (with_item objects.machines c.args.job.task c.take_up.new.machine) c.args.job.task c.make_step.new.machine } in
    let none : decision system (slots system c.args.now) (slot_at system c.args.now) ≡ [] = elim c.in-Going.is [
      | inl going ↦ told_going system c.args.now c.args.job c.args.state.now objects c.requires.is c.args.object call c.requires.item before c.index_mut.result.now c.take_up.new.machine c.index_mut-2.result.now c.layout.result.now c.layout.ensures.layout
          c.index_mut.ensures.value c.take_up.ensures.first c.take_up.ensures.later c.index_mut-2.ensures.value c.make_step.new.machine new refl c.make_step.result c.make_step.ensures c.steps_on_a_bank.ensures going
      | inr idle ↦ told_idle system c.args.now c.args.job c.args.state.now objects c.requires.is c.args.object call c.requires.item before c.index_mut.result.now c.take_up.new.machine c.index_mut-2.result.now c.layout.result.now c.layout.ensures.layout
          c.index_mut.ensures.value c.take_up.ensures.first c.take_up.ensures.later c.index_mut-2.ensures.value c.make_step.new.machine new refl c.make_step.result c.make_step.ensures c.steps_on_a_bank.ensures idle
    ] in
    sym (ap (λ (es : List Event). c.args.events.now.items ++ es) none ∙ append-nil c.args.events.now.items)
