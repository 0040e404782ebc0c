-- A step that writes.
use Rattle.std.proofs.Common.{◌≡◌, ℕ, ◌+◌, ◌<◌, ◌≤◌, inr, [], ◌∷◌, ◌++◌, length, refl, sym, ap, ◌∙◌, subst, arith, take}
use Rattle.std.specs.Prelude.{Some, IfSome}
use Rattle.std.proofs.lemmas.List.{length-take-le}
use Rattle.rx_shape.specs.declared.plans.Write.{Write}
use Rattle.rx_shape.specs.Forms.{Form, inline, block, node, form_of, stock_as, stock_size}
use Rattle.rx_shape.specs.Asks.{IsPlanned}
use Rattle.rx_shape.specs.Layout.{Layout}
use Rattle.rx_shape.specs.Versions.{NotWritten}
use Rattle.rx_port.proofs.Seating.{length-end}
use Rattle.rx_port.specs.declared.views.Attempt.{Attempt}
use Rattle.rx_port.specs.declared.views.Core.{Core}
use Rattle.rx_port.specs.declared.views.View.{View}
use Rattle.rx_port.specs.Core.{own_of, written_view}
use Rattle.rx_port.specs.Events.{DidWrite, IsWritable}
use Rattle.rx_machine.specs.declared.steps.Step.TheVariants.{Going}
use Rattle.rx_machine.specs.declared.machine_states.Stage.TheVariants.{Writing}
use Rattle.rx_machine.specs.declared.machine_states.MachineState.{MachineState}
use Rattle.rx_machine.specs.AnyShapes.{any_taken}
use Rattle.rx_seq.specs.declared.kinds.Kind.{Kind}
use Rattle.rx_seq.specs.declared.kinds.Kind.TheVariants.{Cell, Queue, Registers, List as Ordered}
use Rattle.rx_seq.specs.Table.{attempt_by, attempt_steps}
use Rattle.rx_machine.specs.Operations.{Settled, position, goes_on, IsBusy, attempt_for, IsShown, Follows}
use Rattle.rx_machine.specs.Turns.{Turns}
use Rattle.rx_machine.specs.MachineStates.{intent_of, outlook_by, writes_by, progress_of, operation_of, IsCounted, IsIdleTrade, IsMachineState, IsGoing, IsNextWrite, HasStepped}
use Rattle.rx_machine.proofs.Counting.{few_writes, next_new, take_next}
use Rattle.rx_machine.proofs.Working.{opened, open_is, going_running, going_follows, going_under, going_part, going_planned, going_writes}

-- there are steps for all writes before the last step
fits_by : (kind : Kind) (cap r k n : ℕ) → r ≤ cap + 2 → k < n → n ≤ stock_as (form_of kind) cap → 1 + r + k + 1 < attempt_by kind cap
fits_by Cell cap r k n few below most = absurd (omega arith)
fits_by Queue cap r k n few below most = omega arith
fits_by Ordered cap r k n few below most = omega arith
fits_by Registers cap r k n few below most = omega arith

stock_as_few : (f : Form) (cap : ℕ) → stock_as f cap ≤ cap + 1
stock_as_few inline cap = omega arith
stock_as_few block cap = omega arith
stock_as_few node cap = omega arith

module _ (l : Layout) (v : View) (state : MachineState) (h : IsGoing l v state) (w : Write) (next : IsNextWrite state w) where
  once : (w.own < stock_size state.home.part) × NotWritten w.own (take state.written state.plan.writes.items)
  once = next_new (stock_size state.home.part) state.plan.writes.items state.written w (going_planned l v state h next.stage).once next.more next.is

  many : length state.plan.writes.items ≤ stock_size state.home.part
  many = few_writes (stock_size state.home.part) state.plan.writes.items (going_planned l v state h next.stage).once

  done : (progress_of state).writes ≡ take state.written state.plan.writes.items
  done = going_writes l v state h next.stage

  done_many : length (progress_of state).writes ≡ state.written
  done_many = ap length done ∙ length-take-le state.written state.plan.writes.items (let b = next.more in omega arith)

  counted : IsCounted Writing state.made (length (any_taken state.shape state.root)) state.written (length state.plan.writes.items)
  counted = subst (λ st. IsCounted st state.made (length (any_taken state.shape state.root)) state.written (length state.plan.writes.items)) next.stage (going_running l v state h).counted

  pub writable : IsWritable l v state.object w.own
  writable = record {
    attempt = attempt_for (opened state) (progress_of state);
    is = (going_under l v state h).is_open;
    on = refl;
    below = subst (λ part. w.own < stock_size part) (going_part l v state h) once.0;
    new = subst (λ ws. NotWritten w.own ws) (sym done) once.1;
    few = subst (λ part. length (progress_of state).writes < part.cap + 1) (going_part l v state h) (let a = done_many in let b = next.more in let c = many in let d = stock_as_few (form_of state.home.part.kind) state.home.part.cap in omega arith);
  }

-- the state after it
abbrev pub wrote : MachineState → MachineState
wrote state = record state { written = state.written + 1; made = state.made + 1 }

module _ (l : Layout) (v : View) (state : MachineState) (h : IsGoing l v state) (w : Write) (next : IsNextWrite state w) where
  early : state.made + 1 < attempt_steps state.home.part
  early =
      let r = going_running l v state h in
      let c = (counted l v state h w next).2 next.more in
      let f : 1 + length (any_taken state.shape state.root) + state.written + 1 < attempt_steps state.home.part = fits_by state.home.part.kind state.home.part.cap (length (any_taken state.shape state.root)) state.written (length state.plan.writes.items) r.few next.more (many l v state h w next) in
      omega arith

  busy : IsBusy (progress_of state)
  busy = let c = (counted l v state h w next).2 next.more in let d = done_many l v state h w next in omega arith

  wrote_writes : (progress_of (wrote state)).writes ≡ (progress_of state).writes ++ w ∷ []
  wrote_writes =
      ap (λ st. writes_by st (state.written + 1) state.plan.writes.items) next.stage
      ∙ sym (take_next state.plan.writes.items state.written w next.more next.is) ∙ ap (λ ws. ws ++ w ∷ []) (sym (done l v state h w next))

  wrote_work : IsMachineState (wrote state)
  wrote_work =
      let r = going_running l v state h in
      record {
        part = h.work_is.part;
        fits = h.work_is.fits;
        places = h.work_is.places;
        steps = h.work_is.steps;
        running = λ _. record {
          shape_home = r.shape_home;
          shape_call = r.shape_call;
          room = r.room;
          here = r.here;
          early = early;
          few = r.few;
          counted = subst (λ st. IsCounted st (state.made + 1) (length (any_taken state.shape state.root)) (state.written + 1) (length state.plan.writes.items)) (sym next.stage)
              (let c = counted l v state h w next in let d = c.2 next.more in let b = next.more in (omega arith, omega arith, λ more. omega arith));
          trade = subst (λ st. IsIdleTrade st (wrote state)) (sym next.stage) tt;
        };
      }

  wrote_next : operation_of (wrote state) ≡ goes_on (operation_of state) (record (progress_of state) { made = state.made + 1; writes = (progress_of state).writes ++ w ∷ [] }) (Settled (intent_of state))
  wrote_next =
      open_is (wrote state) (omega arith)
      ∙ ap (λ ws. goes_on (operation_of state) (record (progress_of state) { made = state.made + 1; writes = ws }) (outlook_by state.stage (intent_of state))) wrote_writes
      ∙ ap (λ st. goes_on (operation_of state) (record (progress_of state) { made = state.made + 1; writes = (progress_of state).writes ++ w ∷ [] }) (outlook_by st (intent_of state))) next.stage

  wrote_turns : Turns (operation_of state) Going (operation_of (wrote state))
  wrote_turns = record {
    next = record (progress_of state) { made = state.made + 1; writes = (progress_of state).writes ++ w ∷ [] };
    outlook = Settled (intent_of state);
    new_is = wrote_next;
    one = ap (λ x. position x + 1) (sym (open_is state h.many));
    early = early;
    busy = subst (λ x. IfSome x.progress IsBusy) (sym (open_is state h.many)) busy;
    still = let b = busy in let e = length-end (progress_of state).writes w in omega arith;
  }

  wrote_follows : (u : View) → u ≡ written_view v (attempt_for (opened state) (progress_of state)) w → Follows l u (operation_of (wrote state))
  wrote_follows u is =
      let f = going_follows l v state h in
      let own : own_of u state.object ≡ own_of v state.object = ap (λ x. own_of x state.object) is in
      let planned = going_planned l v state h next.stage in
      let length_is : length (progress_of (wrote state)).writes ≡ state.written + 1 = ap (λ st. length (writes_by st (state.written + 1) state.plan.writes.items)) next.stage ∙ length-take-le (state.written + 1) state.plan.writes.items (let b = next.more in omega arith) in
      let writes_are : (progress_of (wrote state)).writes ≡ take (length (progress_of (wrote state)).writes) state.plan.writes.items = ap (λ st. writes_by st (state.written + 1) state.plan.writes.items) next.stage ∙ ap (λ n. take n state.plan.writes.items) (sym length_is) in
      subst (λ x. Follows l u x) (sym (open_is (wrote state) (omega arith))) (record {
        exists = f.exists;
        place_is = f.place_is;
        fits = f.fits;
        under_way = record {
          is_open = ap (λ x. x.attempt) is ∙ ap (λ ws. Some (record (attempt_for (opened state) (progress_of state)) { writes = ws })) (sym wrote_writes);
          shown = subst (λ st. IsShown state.home state.call (progress_of (wrote state)) (own_of u state.object) (outlook_by st (intent_of state))) (sym next.stage)
              (subst (λ own. IsPlanned state.home state.call state.root (any_taken state.shape state.root) own state.plan.root state.plan.writes.items state.plan.trade.pairs.items state.reply) (sym own) planned, writes_are);
        };
      })

module _ {P S : Type 0} (l : Layout) (stands : P → S → Core → Type 0) (view : P → S → View) (port : P) (seat : S) (port' : P) (seat' : S) (state : MachineState) (h : IsGoing l (view port seat) state) (w : Write) (next : IsNextWrite state w)
    (event : (a : Attempt) → (view port seat).attempt ≡ Some a → DidWrite l (stands port seat) (stands port' seat') (view port seat) (view port' seat') a w.own w.value) where
  pub wrote_steps : HasStepped l stands view port seat port' seat' state (wrote state) Going
  wrote_steps =
      let v : View = view port seat in
      let under = going_under l v state h in
      let d : DidWrite l (stands port seat) (stands port' seat') v (view port' seat') (attempt_for (opened state) (progress_of state)) w.own w.value = event (attempt_for (opened state) (progress_of state)) under.is_open in
      let b = once l v state h w next in
      record {
        tells = inr (inr (record {
          progress = progress_of state;
          amid = record { is = ap (λ x. x.progress) (open_is state h.many); is_open = under.is_open; early = early l v state h w next; busy = busy l v state h w next };
          own = w.own;
          value = w.value;
          below = subst (λ part. w.own < stock_size part) (going_part l v state h) b.0;
          blank = subst (λ ws. NotWritten w.own ws) (sym (done l v state h w next)) b.1;
          event = d;
          plan = intent_of state;
          next = wrote_next l v state h w next;
        }));
        turns = wrote_turns l v state h w next;
        follows = wrote_follows l v state h w next (view port' seat') d.view_is;
        work_is = wrote_work l v state h w next;
      }
