-- What is read of the tasks of a valid set is small, and gives their needs.
use Rattle.std.proofs.Common.{ℕ, zero, suc, ◌≡◌, ◌≤◌, ◌<◌, ◌+◌, ◌-◌, ◌*◌, ◌≢◌, ◌&&◌, Bool, true, false, if◌then◌else◌, nat_lt, nat_le, List, [], ◌∷◌, ◌++◌, length, get_or, set, replicate, map, sum_by, All, Option, Some, None, refl, sym, subst, ap, ◌∙◌, arith, add-one, inl, inr}
use Rattle.std.specs.Prelude.{slice_get}
use Rattle.std.proofs.Math.Decide.{dec_le}
use Rattle.std.proofs.lemmas.Bool.Decides.{eqb_tells, nat_tests}
use Rattle.std.proofs.lemmas.List.{get_or-map, get_or-set_other, length-map, map-append}
use Rattle.std.proofs.lemmas.Grind.{get_or-set_at}
use Rattle.std.proofs.lemmas.List.Elements.{All-from_get_or}
use Rattle.std.proofs.lemmas.List.Sums.{sum_by-le, sum_by_push}
use Rattle.std.proofs.lemmas.Option.{slice_get-get_or}
use Rattle.rx_set.specs.declared.items.Item.{Item}
use Rattle.rx_set.specs.declared.items.Item.TheVariants.{Work, Op}
use Rattle.rx_set.specs.System.{System, cost, item_cost, larger, largest, numbers, rank, task_at}
use Rattle.rx_set.specs.Valid.{IsItem, IsValid}
use Rattle.rx_set.specs.Admission.{ceiling, charge_of, charge_to, cost_to, need, total}
use Rattle.rx_set.proofs.Counts.{length-numbers, get_or-numbers}
use Rattle.rx_set.specs.Charges.{charge, exposure, where_passed}
use Rattle.rx_set.proofs.Exposed.{charge_few, largest_same}
use Rattle.rx_set.proofs.Ranks.{rank_bound, rank_found, rank_same}
use Rattle.rx_set.proofs.Totals.{total_same}
use Rattle.rx_set.proofs.Readings.{attempt_bound}
use Rattle.rx_fixed.specs.declared.needs.Row.{Row}
use Rattle.rx_fixed.specs.Needs.{AreCharges, IsRow, needed, row_charge, row_cost, row_of, rows_of}

-- one more row
pub rows_more : (system : System) (n : ℕ) → map (row_of system) (numbers (n + 1)) ≡ map (row_of system) (numbers n) ++ row_of system n ∷ []
rows_more system n =
    ap (λ (m : ℕ). map (row_of system) (numbers m)) (add-one n) ∙ map-append (row_of system) (numbers n) (n ∷ [])

pub length-rows : (system : System) (n : ℕ) → length (map (row_of system) (numbers n)) ≡ n
length-rows system n = length-map (numbers n) (row_of system) ∙ length-numbers n

-- a sum over rows is one over tasks
sum_rows : (f : Row → ℕ) (system : System) (n : ℕ) → sum_by f (map (row_of system) (numbers n)) ≡ total (λ k. f (row_of system k)) n
sum_rows f system zero = refl
sum_rows f system (suc n) =
    ap (sum_by f) (map-append (row_of system) (numbers n) (n ∷ []))
    ∙ sum_by_push f (map (row_of system) (numbers n)) (row_of system n)
    ∙ ap (λ (m : ℕ). m + f (row_of system n)) (sum_rows f system n)

needed_is : (system : System) (charges : List ℕ) (place t : ℕ) → IsValid system → AreCharges system place charges → needed (rows_of system) charges place t ≡ need system place t
needed_is system charges place t valid are =
    let n : ℕ = length system.tasks in
    ap (λ (m : ℕ). m + sum_by (row_charge charges place t) (rows_of system)) (sum_rows (row_cost place t) system n)
    ∙ ap (λ (m : ℕ). total (cost_to system place t) n + m)
    (sum_rows (row_charge charges place t) system n
    ∙ total_same (λ k. row_charge charges place t (row_of system k)) (charge_to system (charge_of system place) place t) n
    (λ k known.
    let ranked = rank_bound system k known in
    ap (λ (x : ℕ). where_passed (nat_lt (rank system k) place) (ceiling (t - 1) (task_at system k).period * x)) (are (rank system k) ranked.0 (omega (arith, ranked.1, valid.some_tasks.1)))))

-- the stated cost of a task is small
item_cost_few : (system : System) (item : Item) → IsValid system → IsItem system item → item_cost system item ≤ 1000000
item_cost_few system (Work ticks) valid is = is.1
item_cost_few system (Op object call) valid is = omega (arith, (attempt_bound system object valid is.0).1)

cost_few : (system : System) (task : ℕ) → IsValid system → task < length system.tasks → cost system task ≤ 64000000
cost_few system task valid known =
    let row = valid.tasks task known in
    let items : List Item = (task_at system task).items in
    let each : All (λ item. item_cost system item ≤ 1000000) items =
    All-from_get_or (λ item. item_cost system item ≤ 1000000) items (Work 0)
    (λ place inside. item_cost_few system (get_or items place (Work 0)) valid (row.items place (get_or items place (Work 0)) (slice_get-get_or items place (Work 0) inside))) in
    omega (arith, row.some_items.1, sum_by-le (item_cost system) 1000000 items each)

row_small : (system : System) (task : ℕ) → IsValid system → task < length system.tasks → IsRow (row_of system task)
row_small system task valid known = record {
  rank = let ranked = rank_bound system task known in (ranked.0, omega (arith, ranked.1, valid.some_tasks.1));
  period = (valid.tasks task known).period;
  cost = cost_few system task valid known;
}

pub rows_small : (system : System) → IsValid system → All IsRow (rows_of system)
rows_small system valid =
    let n : ℕ = length system.tasks in
    let none : Row = record { rank = 0; period = 0; cost = 0 } in
    All-from_get_or IsRow (rows_of system) none
    (λ k inside.
    let below : k < n = omega (arith, inside, length-rows system n) in
    let here : get_or (rows_of system) k none ≡ row_of system k =
    get_or-map (row_of system) (numbers n) k 0 none (omega (arith, below, length-numbers n)) ∙ ap (row_of system) (get_or-numbers n k below) in
    subst IsRow (sym here) (row_small system k valid below))

-- the need by what was read of a set
pub need_read : (system : System) (rows : List Row) (charges : List ℕ) (place t need_told : ℕ) → IsValid system → rows ≡ rows_of system → AreCharges system place charges → need_told ≡ needed rows charges place t → need_told ≡ need system place t
need_read system rows charges place t need_told valid of_set are told = told ∙ ap (λ (all : List Row). needed all charges place t) of_set ∙ needed_is system charges place t valid are

pub few_rows : (system : System) → IsValid system → length (rows_of system) ≤ 64
few_rows system valid = omega (arith, length-rows system (length system.tasks), valid.some_tasks.1)

-- no deadline is later than this
pub deadline_few : (system : System) (task : ℕ) → IsValid system → task < length system.tasks → (task_at system task).deadline ≤ 1000000
deadline_few system task valid known = let row = valid.tasks task known in omega (arith, row.deadline.1, row.period.1)

-- the largest of numbers none of which passes a test
none_passed : (test : ℕ → Bool) (value : ℕ → ℕ) (n : ℕ) → ((k : ℕ) → test k ≡ false) → largest (λ k. where_passed (test k) (value k)) n ≡ 0
none_passed test value zero none = refl
none_passed test value (suc n) none =
    ap (λ (x : ℕ). larger x (where_passed (test n) (value n))) (none_passed test value n none) ∙ ap (λ (x : Bool). larger 0 (where_passed x (value n))) (none n)

none_between : (a b place : ℕ) → place ≤ a → (nat_lt a b && nat_le b place) ≡ false
none_between a b place h = grind (arith, nat_tests)

-- no rank is above another and at most one below that
pub no_charge : (system : System) (place by : ℕ) → place ≤ by → charge system place by ≡ 0
no_charge system place by high =
    none_passed (λ other. nat_lt by (rank system other) && nat_le (rank system other) place) (exposure system) (length system.tasks) (λ k. none_between by (rank system k) place high)

-- numbers that are the same but at one place, where the second ones have 0
one_raised : (f g : ℕ → ℕ) (r n : ℕ) → r < n → g r ≡ 0 → ((k : ℕ) → k < n → k ≢ r → f k ≡ g k) → largest f n ≡ larger (largest g n) (f r)
one_raised f g r zero inside none same = absurd (omega (arith, inside))
one_raised f g r (suc n) inside none same = elim (dec_le n r) [
  | yes last ↦
      let here : r ≡ n = omega (arith, last, inside) in
      let before : largest f n ≡ largest g n = largest_same f g n (λ k less. same k (omega (arith, less)) (λ e. absurd (omega (arith, e, less, here)))) in
      ap (λ (x : ℕ). larger x (f n)) before
      ∙ ap (λ (x : ℕ). larger (largest g n) (f x)) (sym here)
      ∙ ap (λ (x : ℕ). larger x (f r)) (larger_zero (largest g n) ∙ ap (larger (largest g n)) (sym (ap g (sym here) ∙ none)))
  | no later ↦
      let before : r < n = omega (arith, later) in
      ap (λ (x : ℕ). larger x (f n)) (one_raised f g r n before none (λ k less apart. same k (omega (arith, less)) apart))
      ∙ ap (larger (larger (largest g n) (f r))) (same n (omega arith) (λ e. absurd (omega (arith, e, before))))
      ∙ larger_swap (largest g n) (f r) (g n)
]
  where
    larger_zero : (x : ℕ) → x ≡ larger x 0
    larger_zero x = grind (arith, nat_tests)

    larger_swap : (x y z : ℕ) → larger (larger x y) z ≡ larger (larger x z) y
    larger_swap x y z = grind (arith, nat_tests)

-- a release of the rank before is charged the exposure of this one too
pub charge_down : (system : System) (r place by : ℕ) → r < length system.tasks → rank system r ≡ suc by → suc by ≤ place → charge system place by ≡ larger (charge system place (suc by)) (exposure system r)
charge_down system r place by known is low =
    one_raised f g r (length system.tasks) known (ap (λ (x : Bool). where_passed x (exposure system r)) (itself (suc by) (rank system r) is)) others
    ∙ ap (larger (largest g (length system.tasks))) (ap (λ (x : Bool). where_passed x (exposure system r)) (here (rank system r) is))
  where
    f : ℕ → ℕ
    f k = where_passed (nat_lt by (rank system k) && nat_le (rank system k) place) (exposure system k)

    g : ℕ → ℕ
    g k = where_passed (nat_lt (suc by) (rank system k) && nat_le (rank system k) place) (exposure system k)

    itself : (a b : ℕ) → b ≡ a → (nat_lt a b && nat_le b place) ≡ false
    itself a b e = grind (arith, nat_tests)

    here : (b : ℕ) → b ≡ suc by → (nat_lt by b && nat_le b place) ≡ true
    here b e = grind (arith, nat_tests)

    above : (b : ℕ) → suc by < b → (nat_lt by b && nat_le b place) ≡ (nat_lt (suc by) b && nat_le b place)
    above b h = grind (arith, nat_tests)

    below : (b : ℕ) → b ≤ by → (nat_lt by b && nat_le b place) ≡ (nat_lt (suc by) b && nat_le b place)
    below b h = grind (arith, nat_tests)

    apart_same : (b : ℕ) → b ≢ suc by → (nat_lt by b && nat_le b place) ≡ (nat_lt (suc by) b && nat_le b place)
    apart_same b h = elim (dec_le b by) [
      | yes less ↦ below b less
      | no more ↦ above b (omega (arith, h, more))
    ]

    others : (k : ℕ) → k < length system.tasks → k ≢ r → f k ≡ g k
    others k inside apart = ap (λ (x : Bool). where_passed x (exposure system k)) (apart_same (rank system k) (λ e. apart (rank_same system k r inside known (e ∙ sym is))))

pub charge_small : (system : System) (place by : ℕ) → IsValid system → charge system place by ≤ 134
charge_small system place by valid = charge_few system (λ other. nat_lt by (rank system other) && nat_le (rank system other) place) valid

-- the exposure of one more task stands at its rank
pub noted_rank : (system : System) (xs : List ℕ) (k r value : ℕ) → k < length system.tasks → r ≡ rank system k → value ≡ exposure system k → r < length xs
    → ((task : ℕ) → task < k → get_or xs (rank system task) 0 ≡ exposure system task) → (task : ℕ) → task < k + 1 → get_or (set xs r value) (rank system task) 0 ≡ exposure system task
noted_rank system xs k r value known is e inside so_far task below = elim (dec_le k task) [
  | yes last ↦
      let same : k ≡ task = omega (arith, last, below) in
      get_or-set_at xs r (rank system task) value 0 (ap (rank system) (sym same) ∙ sym is) inside ∙ e ∙ ap (exposure system) same
  | no before ↦
      get_or-set_other xs r (rank system task) value 0
      (λ same. absurd (let one : task ≡ k = rank_same system task k (omega (arith, before, known)) known (same ∙ is) in omega (arith, one, before)))
      ∙ so_far task (omega (arith, before))
]

-- one more rank, going down
pub charged_rank : (system : System) (xs : List ℕ) (place by most next : ℕ) → IsValid system → 1 < by → by ≤ place → place ≤ length system.tasks
    → ((task : ℕ) → task < length system.tasks → get_or xs (rank system task) 0 ≡ exposure system task) → most ≡ charge system place by → next ≡ larger most (get_or xs by 0) → next ≡ charge system place (by - 1)
charged_rank system xs place zero most next valid some low few noted was e = absurd (omega (arith, some))
charged_rank system xs place (suc by) most next valid some low few noted was e =
    let found = rank_found system (suc by) (omega (arith, some)) (omega (arith, low, few)) in
    e ∙ ap (λ (x : ℕ). larger x (get_or xs (suc by) 0)) was
    ∙ ap (larger (charge system place (suc by))) (ap (λ (x : ℕ). get_or xs x 0) (sym found.2) ∙ noted found.0 found.1)
    ∙ sym (charge_down system found.0 place by found.1 found.2 low) ∙ ap (charge system place) (less_one by)
  where
    less_one : (x : ℕ) → x ≡ suc x - 1
    less_one x = omega arith

pub all_alike : (n k : ℕ) → get_or {A = ℕ} (replicate n 0) k 0 ≡ 0
all_alike zero k = refl
all_alike (suc n) zero = refl
all_alike (suc n) (suc k) = all_alike n k

-- the charge of a rank is written, and those above it stay
pub written_charge : (system : System) (xs : List ℕ) (place by value : ℕ) → length xs ≡ 65 → 1 ≤ by → by ≤ 64 → value ≡ charge system place by → ((k : ℕ) → by + 1 ≤ k → k ≤ 64 → get_or xs k 0 ≡ charge system place k)
    → (k : ℕ) → by ≤ k → k ≤ 64 → get_or (set xs by value) k 0 ≡ charge system place k
written_charge system xs place by value whole some few is above k from to = elim (dec_le k by) [
  | yes here ↦ let same : k ≡ by = omega (arith, here, from) in get_or-set_at xs by k value 0 same (omega (arith, whole, few)) ∙ is ∙ ap (charge system place) (sym same)
  | no later ↦ get_or-set_other xs by k value 0 (λ same. absurd (omega (arith, same, later))) ∙ above k (omega (arith, later)) to
]

pub written_few : (xs : List ℕ) (by value k : ℕ) → length xs ≡ 65 → by ≤ 64 → value ≤ 134 → ((j : ℕ) → get_or xs j 0 ≤ 134) → get_or (set xs by value) k 0 ≤ 134
written_few xs by value k whole inside small few = elim (eqb_tells k by) [
  | inl here ↦ omega (arith, get_or-set_at xs by k value 0 here.1 (omega (arith, whole, inside)), small)
  | inr other ↦ omega (arith, get_or-set_other xs by k value 0 other.1, few k)
]
