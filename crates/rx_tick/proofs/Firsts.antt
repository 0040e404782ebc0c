-- What is kept before the first slot.
use Rattle.std.proofs.Common.{ℕ, zero, suc, ◌≡◌, ◌≤◌, ◌<◌, ◌+◌, ◌∙◌, List, [], ◌∷◌, ◌++◌, length, get_or, take, map, None, refl, sym, ap, subst, arith}
use Rattle.std.proofs.lemmas.Grind.{take_at_read}
use Rattle.std.proofs.lemmas.List.{map-append, get_or-map, length-map, take_all}
use Rattle.rx_set.specs.declared.tasks.Task.{Task}
use Rattle.rx_set.specs.System.{System, no_task, task_at}
use Rattle.rx_set.specs.Valid.{IsValid}
use Rattle.rx_set.specs.View.{row_of}
use Rattle.rx_tick.specs.declared.states.State.{State}
use Rattle.rx_tick.specs.States.{no_state, state_at, first_state_of, IsState, AreStates, IsTurn, best_of, offer}
use Rattle.rx_tick.proofs.Moves.{known_none}

abbrev pub firsts : List Task → List State
firsts tasks = map first_state_of (map row_of tasks)

pub firsts_more : (tasks : List Task) (i : ℕ) (task : Task) → i < length tasks → task ≡ get_or tasks i task → firsts (take (i + 1) tasks) ≡ firsts (take i tasks) ++ first_state_of (row_of task) ∷ []
firsts_more tasks i task h is =
    ap firsts ((take_at_read tasks i task h).1 ∙ ap (λ (t : Task). take i tasks ++ t ∷ []) (sym is))
    ∙ ap (map first_state_of) (map-append row_of (take i tasks) (task ∷ []))
    ∙ map-append first_state_of (map row_of (take i tasks)) (row_of task ∷ [])

first_at : (system : System) (states : List State) (task : ℕ) → states ≡ map first_state_of system.tasks → task < length system.tasks → state_at states task ≡ first_state_of (task_at system task)
first_at system states task e known = ap (λ (xs : List State). state_at xs task) e ∙ get_or-map first_state_of system.tasks task no_task no_state known

first_is : (system : System) (task : ℕ) → IsValid system → task < length system.tasks → IsState system [] 0 task (first_state_of (task_at system task))
first_is system task valid known = record {
  finished = λ k low high. absurd (omega arith);
  started = refl;
  unfinished = omega (arith, (valid.tasks task known).some_items.0);
  later = λ k above. refl;
  next_release = omega arith;
  next = omega arith;
  last = λ some. absurd (omega arith);
  order = omega arith;
}

pub first_states_are : (system : System) (states : List State) → IsValid system → states ≡ map first_state_of system.tasks → AreStates system [] 0 states
first_states_are system states valid e = record {
  valid = valid;
  count = ap (λ (xs : List State). length xs) e ∙ length-map system.tasks first_state_of;
  each = λ task known. subst (IsState system [] 0 task) (sym (first_at system states task e known)) (first_is system task valid known);
}

none_best : (system : System) (states : List State) → states ≡ map first_state_of system.tasks → (tasks : ℕ) → tasks ≤ length system.tasks → None ≡ best_of system tasks states
none_best system states e zero h = refl
none_best system states e (suc tasks) h =
    none_best system states e tasks (omega arith)
    ∙ ap (offer system (best_of system tasks states) tasks) (sym (first_at system states tasks e (omega arith)))

pub first_turn : (system : System) (states : List State) → states ≡ map first_state_of system.tasks → IsTurn system 0 states (record { next_release = 0; next_due = 0; best = None; last = None })
first_turn system states e = record {
  best = none_best system states e (length system.tasks) (omega arith);
  dues = record { each = λ task known some later. omega arith };
  releases = record { each = λ task known. omega arith };
  last = refl;
  last_known = known_none system None refl;
}

pub firsts_all : (tasks : List Task) (i : ℕ) → length tasks ≤ i → firsts (take i tasks) ≡ firsts tasks
firsts_all tasks i h = ap firsts (take_all i tasks h)
