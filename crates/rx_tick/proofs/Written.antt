-- The states of tasks after that of one is written.
use Rattle.std.proofs.Common.{ℕ, ◌≢◌, ◌<◌, inl, inr, List, length, slice_set, sym, subst}
use Rattle.std.proofs.lemmas.Bool.{cases_eq}
use Rattle.std.proofs.lemmas.List.{get_or-set_other}
use Rattle.std.proofs.lemmas.Grind.{get_or-set_at}
use Rattle.rx_tick.specs.declared.states.State.{State}
use Rattle.rx_tick.specs.States.{no_state, state_at}

-- what holds of the written state holds in its place, and what holds of another one still holds
pub at_written : (P : ℕ → State → Type 0) (states : List State) (task : ℕ) (new : State) → task < length states → P task new
    → (other : ℕ) → (other ≢ task → P other (state_at states other)) → P other (state_at (slice_set states task new) other)
at_written P states task new inside here other rest = elim (cases_eq other task) [
  | inl same ↦ subst (P other) (sym (get_or-set_at states task other new no_state same inside)) (subst (λ (t : ℕ). P t new) (sym same) here)
  | inr apart ↦ subst (P other) (sym (get_or-set_other states task other new no_state apart)) (rest apart)
]
