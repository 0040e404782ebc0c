-- The last step of an attempt.
use Rattle.std.proofs.Common.{◌≡◌, ℕ, ◌+◌, ◌<◌, ◌≤◌, ◌≢◌, inl, inr, length, refl, sym, ap, ◌∙◌, subst, arith, take, true, cond, set}
use Rattle.std.specs.Prelude.{Some, ◌==◌, slice_index}
use Rattle.std.proofs.lemmas.List.{set-get_or}
use Rattle.std.proofs.lemmas.Bool.{ne_eqb}
use mathlib.Core.Logic.{dite}
use native.Mathlib.Decide.{ℕ_discrete}
use Rattle.rx_seq.specs.Quiet.{raised}
use Rattle.rx_seq.specs.History.{part_at, replay, tag_of as count_loud}
use Rattle.rx_seq.specs.Table.{attempt_steps, effect}
use Rattle.rx_shape.specs.Words.{tag_of}
use Rattle.rx_shape.specs.Places.{times}
use Rattle.rx_shape.specs.Forms.{stock_size, IsVersion, live, decoded}
use Rattle.rx_shape.specs.Layout.{Layout, home, root_of}
use Rattle.rx_shape.specs.Versions.{HasRead, Makes, Plans, IsStale}
use Rattle.rx_shape.specs.Asks.{IsPlanned, EachBelow}
use Rattle.rx_port.specs.declared.views.Attempt.{Attempt}
use Rattle.rx_port.specs.declared.views.Core.{Core}
use Rattle.rx_port.specs.declared.views.View.{View}
use Rattle.rx_port.specs.Core.{own_of, tag_after, entry_for}
use Rattle.rx_port.specs.Lawful.{IsAttempt}
use Rattle.rx_port.specs.Events.{Decided, IsPlanOf, IsHopeless, IsDecision, IsReady}
use Rattle.rx_port.proofs.Lawfully.{attempt_here}
use Rattle.rx_port.proofs.Placing.{placed_at}
use Rattle.rx_machine.specs.declared.steps.Step.TheVariants.{Won, Lost}
use Rattle.rx_machine.specs.declared.machine_states.Stage.TheVariants.{Writing, Waiting}
use Rattle.rx_machine.specs.declared.machine_states.MachineState.{MachineState}
use Rattle.rx_machine.specs.AnyShapes.{any_taken}
use Rattle.rx_machine.specs.Operations.{Operation, over, lost, attempt_for, Follows}
use Rattle.rx_machine.specs.MachineStates.{progress_of, operation_of, IsIdleTrade, IsMachineState, IsGoing, HasNoWrite, HasStepped}
use Rattle.rx_machine.proofs.Counting.{take_whole}
use Rattle.rx_machine.proofs.Working.{by_stage, opened, open_is, going_running, going_follows, going_under, going_part, going_planned, going_stale, going_writes}

-- the state after it
abbrev pub closed : MachineState → MachineState
closed state = record state { made = 0 }

abbrev pub won : MachineState → MachineState
won state = record state { made = 0; ended = true }

module _ (l : Layout) (v : View) (state : MachineState) (h : IsGoing l v state) (none : HasNoWrite state) where
  tried : Attempt
  tried = attempt_for (opened state) (progress_of state)

  home_is : state.home ≡ home l state.object
  home_is = (going_follows l v state h).place_is

  all_written : state.stage ≡ Writing → (progress_of state).writes ≡ state.plan.writes.items
  all_written e = going_writes l v state h e ∙ ap (λ n. take n state.plan.writes.items) (none.all e) ∙ take_whole state.plan.writes.items

  decision_planned : state.stage ≡ Writing → IsPlanOf l v (attempt_for (opened state) (progress_of state)) state.plan.root state.plan.trade.pairs.items
  decision_planned e =
      let planned = going_planned l v state h e in
      record {
        room = (going_running l v state h).room;
        plans = subst (λ x. Plans x state.call state.root (any_taken state.shape state.root) (own_of v state.object) (progress_of state).writes state.plan.root state.plan.trade.pairs.items) home_is
            (subst (λ ws. Plans state.home state.call state.root (any_taken state.shape state.root) (own_of v state.object) ws state.plan.root state.plan.trade.pairs.items) (sym (all_written e)) planned.plans);
        below = subst (λ part. EachBelow (stock_size part) state.plan.trade.pairs.items) (going_part l v state h) planned.below;
      }

  decision_hopeless : state.stage ≡ Waiting → IsHopeless l (attempt_for (opened state) (progress_of state)) state.plan.trade.pairs.items
  decision_hopeless e = record {
    stale = subst (λ x. IsStale x state.root (any_taken state.shape state.root)) home_is (going_stale l v state h e);
    none = let t : IsIdleTrade Waiting state = subst (λ st. IsIdleTrade st state) e (going_running l v state h).trade in t;
  }

  pub decision : IsDecision l v (attempt_for (opened state) (progress_of state)) state.plan.root state.plan.trade.pairs.items
  decision = record {
    is_open = (going_under l v state h).is_open;
    case = by_stage state.stage (λ e. absurd (none.stage e)) (λ e. inl (decision_planned e)) (λ e. inr (decision_hopeless e));
  }

  pub ready : IsReady l v state.object state.root state.plan.root state.plan.trade.pairs.items
  ready = record { attempt = attempt_for (opened state) (progress_of state); on = refl; root = refl; decision = decision }

  -- the exchange found a core and a word
  module _ (stood stands : Core → Type 0) (u : View) (found : ℕ) (d : Decided l stood stands v u (attempt_for (opened state) (progress_of state)) state.plan.root state.plan.trade.pairs.items found) where
    is_attempt : IsAttempt l d.core.words d.history v.own (attempt_for (opened state) (progress_of state))
    is_attempt = attempt_here l d.core.words d.core.views d.history v.number v (attempt_for (opened state) (progress_of state)) d.found.lawful d.found.here (going_under l v state h).is_open

    there : state.object < length l.parts
    there = (going_follows l v state h).exists

    module _ (same : found ≡ state.root) where
      root_here : state.root ≡ root_of d.core.words state.object
      root_here = sym same ∙ d.word_is

      version : IsVersion (home l state.object) state.root d.core.words
      version = subst (λ r. IsVersion (home l state.object) r d.core.words) (sym root_here) (d.found.lawful.versions state.object there)

      fresh : HasRead (live (home l state.object) state.root d.core.words) d.core.words (any_taken state.shape state.root)
      fresh = is_attempt.fresh root_here

      state_is : decoded (home l state.object) state.root d.core.words ≡ replay l.parts state.object d.history
      state_is = ap (λ r. decoded (home l state.object) r d.core.words) root_here ∙ d.found.lawful.states state.object there

      is_planned : state.stage ≡ Writing
      is_planned = by_stage state.stage (λ e. absurd (none.stage e)) (λ e. e) (λ e. absurd ((decision_hopeless e).stale d.core.words version fresh))

      pub won_reply : state.reply ≡ (effect (part_at l.parts state.object) (replay l.parts state.object d.history) state.call).reply
      won_reply =
          let planned : IsPlanned (home l state.object) state.call state.root (any_taken state.shape state.root) (own_of v state.object) state.plan.root state.plan.writes.items state.plan.trade.pairs.items state.reply =
          subst (λ x. IsPlanned x state.call state.root (any_taken state.shape state.root) (own_of v state.object) state.plan.root state.plan.writes.items state.plan.trade.pairs.items state.reply) home_is (going_planned l v state h is_planned) in
          planned.says d.core.words version fresh ∙ ap (λ s. (effect (part_at l.parts state.object) s state.call).reply) state_is

      -- no place is live and owned at once
      apart : (place : ℕ) → times place (live (home l state.object) state.root d.core.words) + times place (own_of v state.object) ≤ 1
      apart place = subst (λ r. times place (live (home l state.object) r d.core.words) + times place (own_of v state.object) ≤ 1) (sym root_here)
          (let owned = placed_at l state.object place d.core.views v.number v d.found.here in let once = d.found.lawful.places state.object place there in omega arith)

      makes : Makes (home l state.object) state.call state.root (own_of v state.object) state.plan.root state.plan.trade.pairs.items d.core.words
      makes = (decision_planned is_planned).plans.works d.core.words version fresh apart is_attempt.stands

      abbrev raise : ℕ
      raise = raised state.call (effect (part_at l.parts state.object) (replay l.parts state.object d.history) state.call).reply

      -- the new root has the tag of the entry: the next one if the call was loud, else the one that was there
      pub won_tag : tag_of state.plan.root ≡ (entry_for l d.history v.number state.object state.call).tag
      won_tag =
          let new : tag_of state.plan.root ≡ tag_of state.root + raise = makes.tag ∙ ap (λ s. tag_of state.root + raised state.call (effect (part_at l.parts state.object) s state.call).reply) state_is in
          let old : tag_of state.root ≡ tag_after l d.history state.object = ap tag_of root_here ∙ d.found.lawful.tags state.object there in
          let next : tag_after l d.history state.object + raise ≡ l.first + (count_loud state.object d.history + raise) = omega arith in
          new ∙ ap (λ n. n + raise) old ∙ next

      pub won_fresh : HasRead (live (home l state.object) found d.core.words) d.core.words (any_taken state.shape state.root)
      won_fresh = subst (λ r. HasRead (live (home l state.object) r d.core.words) d.core.words (any_taken state.shape state.root)) (sym same) fresh

    found_tag : tag_of found ≡ tag_after l d.history state.object
    found_tag = ap tag_of d.word_is ∙ d.found.lawful.tags state.object there

    pub lost_higher : found ≢ state.root → tag_of state.root < tag_of found
    lost_higher apart =
        let most = is_attempt.at_most in
        let t = found_tag in
        dite (ℕ_discrete (tag_of state.root) (tag_after l d.history state.object)) (λ e. absurd (apart (d.word_is ∙ sym (is_attempt.same e)))) (λ ne. omega arith)

module _ {P S : Type 0} (l : Layout) (stands : P → S → Core → Type 0) (view : P → S → View) (port : P) (seat : S) (port' : P) (seat' : S) (state : MachineState) (h : IsGoing l (view port seat) state) (none : HasNoWrite state) (last : state.made + 1 ≡ state.steps) (found : ℕ)
    (event : (a : Attempt) → (view port seat).attempt ≡ Some a → Decided l (stands port seat) (stands port' seat') (view port seat) (view port' seat') a state.plan.root state.plan.trade.pairs.items found) where
  decided_event : Decided l (stands port seat) (stands port' seat') (view port seat) (view port' seat') (attempt_for (opened state) (progress_of state)) state.plan.root state.plan.trade.pairs.items found
  decided_event = event (attempt_for (opened state) (progress_of state)) (going_under l (view port seat) state h).is_open

  last_step : state.made + 1 ≡ attempt_steps state.home.part
  last_step = last ∙ h.work_is.steps

  closed_work : IsMachineState (closed state)
  closed_work = record { part = h.work_is.part; fits = h.work_is.fits; places = h.work_is.places; steps = h.work_is.steps; running = λ many. absurd (omega arith) }

  won_work : IsMachineState (won state)
  won_work = record { part = h.work_is.part; fits = h.work_is.fits; places = h.work_is.places; steps = h.work_is.steps; running = λ many. absurd (omega arith) }

  -- a machine with no open attempt follows every seat
  rests : (u : View) (x : Operation) → x ≡ over (operation_of state) → Follows l u x
  rests u x e = let f = going_follows l (view port seat) state h in subst (λ y. Follows l u y) (sym e) (record { exists = f.exists; place_is = f.place_is; fits = f.fits; under_way = tt })

  rests_lost : (u : View) (x : Operation) → x ≡ lost (operation_of state) → Follows l u x
  rests_lost u x e = let f = going_follows l (view port seat) state h in subst (λ y. Follows l u y) (sym e) (record { exists = f.exists; place_is = f.place_is; fits = f.fits; under_way = tt })

  pub won_steps : (tag : ℕ) → found ≡ state.root → tag ≡ tag_of state.plan.root → HasStepped l stands view port seat port' seat' state (won state) (Won state.reply tag)
  won_steps tag same tag_is =
      let v : View = view port seat in
      let d = decided_event in
      record {
        tells = record {
          found = found;
          decides = record {
            progress = progress_of state;
            is = ap (λ x. x.progress) (open_is state h.many);
            last = last_step;
            root = state.plan.root;
            pairs = state.plan.trade.pairs.items;
            decision = decision l v state h none;
            event = d;
          };
          same = same;
          fresh = won_fresh l v state h none (stands port seat) (stands port' seat') (view port' seat') found d same;
          reply_is = won_reply l v state h none (stands port seat) (stands port' seat') (view port' seat') found d same;
          tag_is = tag_is ∙ won_tag l v state h none (stands port seat) (stands port' seat') (view port' seat') found d same;
          root_is = tag_is;
          next = refl;
        };
        turns = record { progress = progress_of state; is = ap (λ x. x.progress) (open_is state h.many); last = last_step; new_is = refl };
        follows = rests (view port' seat') (operation_of (won state)) refl;
        work_is = won_work;
      }

  pub lost_steps : found ≢ state.root → HasStepped l stands view port seat port' seat' state (closed state) (Lost state.root found)
  lost_steps apart =
      let v : View = view port seat in
      let d = decided_event in
      let word : cond (found == state.root) state.plan.root found ≡ slice_index d.core.words (state.object + 1) = ap (λ b. cond b state.plan.root found) (ne_eqb found state.root apart) ∙ d.word_is in
      record {
        tells = record {
          decides = record {
            progress = progress_of state;
            is = ap (λ x. x.progress) (open_is state h.many);
            last = last_step;
            root = state.plan.root;
            pairs = state.plan.trade.pairs.items;
            decision = decision l v state h none;
            event = d;
          };
          expected_is = refl;
          apart = apart;
          higher = lost_higher l v state h none (stands port seat) (stands port' seat') (view port' seat') found d apart;
          tag_is = found_tag l v state h none (stands port seat) (stands port' seat') (view port' seat') found d;
          unchanged = ap (λ n. set d.core.words (state.object + 1) n) word ∙ set-get_or d.core.words (state.object + 1) 0;
          next = refl;
        };
        turns = record { progress = progress_of state; is = ap (λ x. x.progress) (open_is state h.many); last = last_step; new_is = refl };
        follows = rests_lost (view port' seat') (operation_of (closed state)) refl;
        work_is = closed_work;
      }
