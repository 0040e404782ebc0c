-- The jobs of tasks that pass a test.
use Rattle.std.proofs.Common.{ℕ, zero, suc, ◌≡◌, ◌≢◌, ◌≤◌, ◌+◌, Bool, true, false, cond, List, [], ◌∷◌, ◌++◌, map, filter, Some, None, refl, sym, ◌∙◌, ap, arith, append-nil}
use Rattle.std.proofs.Math.Decide.{dec_le}
use Rattle.std.specs.List.{flat_map}
use Rattle.std.proofs.lemmas.List.Elements.{filter-append}
use Rattle.std.proofs.lemmas.List.{map-append}
use Rattle.std.proofs.lemmas.Grind.{flat_map-append}
use Rattle.rx_set.specs.declared.jobs.Job.{Job}
use Rattle.rx_set.specs.System.{numbers}
use Rattle.rx_slots.specs.Schedule.{jobs_of}
use Rattle.rx_slots.specs.Laws.{nth_job}

pub some_same : (a b : Job) → Some a ≡ Some b → a ≡ b
some_same a b e = cc

pub none_not : (a : Job) → None ≡ Some a → ⊥
none_not a e = cc

kept : (test : Job → Bool) (j : Job) (js : List Job) (b : Bool) → test j ≡ b → filter test (j ∷ js) ≡ cond b (j ∷ filter test js) (filter test js)
kept test j js b h = ap (λ (t : Bool). cond t (j ∷ filter test js) (filter test js)) h

-- no job of a task passes
pub none_of : (test : Job → Bool) (task m : ℕ) → ((k : ℕ) → 1 ≤ k → k ≤ m → test (nth_job task k) ≡ false) → filter test (jobs_of task m) ≡ []
none_of test task zero h = refl
none_of test task (suc m) h =
    filter-append test (jobs_of task m) (nth_job task (suc m) ∷ [])
    ∙ ap (λ (xs : List Job). xs ++ filter test (nth_job task (suc m) ∷ [])) (none_of test task m (λ k low high. h k low (omega arith)))
    ∙ kept test (nth_job task (suc m)) [] false (h (suc m) (omega arith) (omega arith))

-- one job of a task passes
pub only_of : (test : Job → Bool) (task m k : ℕ) → 1 ≤ k → k ≤ m → test (nth_job task k) ≡ true
    → ((j : ℕ) → 1 ≤ j → j ≤ m → j ≢ k → test (nth_job task j) ≡ false) → filter test (jobs_of task m) ≡ nth_job task k ∷ []
only_of test task zero k low high h others = absurd (omega arith)
only_of test task (suc m) k low high h others = elim (dec_le k m) [
  | yes below ↦
      filter-append test (jobs_of task m) (nth_job task (suc m) ∷ [])
      ∙ ap (λ (xs : List Job). xs ++ filter test (nth_job task (suc m) ∷ [])) (only_of test task m k low below h (λ j first last. others j first (omega arith)))
      ∙ ap (λ (xs : List Job). nth_job task k ∷ [] ++ xs) (kept test (nth_job task (suc m)) [] false (others (suc m) (omega arith) (omega arith) (λ e. absurd (omega arith))))
  | no above ↦
      let same : k ≡ suc m = omega arith in
      filter-append test (jobs_of task m) (nth_job task (suc m) ∷ [])
      ∙ ap (λ (xs : List Job). xs ++ filter test (nth_job task (suc m) ∷ [])) (none_of test task m (λ j first last. others j first (omega arith) (λ e. absurd (omega arith))))
      ∙ kept test (nth_job task (suc m)) [] true (ap (λ (n : ℕ). test (nth_job task n)) (sym same) ∙ h)
      ∙ ap (λ (n : ℕ). nth_job task n ∷ []) (sym same)
]

-- what is told of the first tasks' jobs with numbers up to n + 1, and what of one more task's
abbrev pub told_of : {X : Type 0} → (Job → X) → (Job → Bool) → ℕ → ℕ → List X
told_of make test n tasks = map make (filter test (flat_map (λ (t : ℕ). jobs_of t (n + 1)) (numbers tasks)))

pub told_more : {X : Type 0} (make : Job → X) (test : Job → Bool) (n tasks : ℕ)
    → told_of make test n (suc tasks) ≡ told_of make test n tasks ++ map make (filter test (jobs_of tasks (n + 1)))
told_more make test n tasks =
    ap (λ (js : List Job). map make (filter test js))
    (flat_map-append (λ (t : ℕ). jobs_of t (n + 1)) (numbers tasks) (tasks ∷ []) ∙ ap (λ (js : List Job). flat_map (λ (t : ℕ). jobs_of t (n + 1)) (numbers tasks) ++ js) (append-nil (jobs_of tasks (n + 1))))
    ∙ ap (map make) (filter-append test (flat_map (λ (t : ℕ). jobs_of t (n + 1)) (numbers tasks)) (jobs_of tasks (n + 1)))
    ∙ map-append make (filter test (flat_map (λ (t : ℕ). jobs_of t (n + 1)) (numbers tasks))) (filter test (jobs_of tasks (n + 1)))
