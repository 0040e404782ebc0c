-- Scripts and shares by their parts.
use Rattle.std.proofs.Common.{ℕ, zero, suc, ◌≡◌, ◌+◌, ◌-◌, ◌*◌, ◌<◌, ◌≤◌, Bool, true, false, List, [], ◌∷◌, ◌++◌, length, take, get_or, refl, ap, ◌∙◌, subst, arith, append-nil, length-append}
use Rattle.std.specs.Prelude.{filter}
use Rattle.std.specs.List.{flat_map}
use Rattle.std.proofs.lemmas.List.{take_more}
use Rattle.std.proofs.lemmas.List.Concat.{flat_map-append}
use Rattle.std.proofs.lemmas.List.Elements.{filter-append}
use Rattle.rx_set.specs.declared.items.Item.{Item}
use Rattle.rx_set.specs.declared.items.Item.TheVariants.{Work, Op}
use Rattle.rx_set.specs.System.{System, numbers}
use Rattle.rx_set.specs.Operations.{Asked, operation_of, operations_of, repeated, script_of}
use Rattle.rx_lanes.specs.Scripts.{is_of, share, calls_to}

-- the operations of one item more
pub operations_more : (items : List Item) (i : ℕ) (d item : Item) → i < length items → get_or items i d ≡ item → operations_of (take (i + 1) items) ≡ operations_of (take i items) ++ operation_of item
operations_more items i d item inside is =
    ap operations_of (take_more items i d inside)
    ∙ flat_map-append operation_of (take i items) (get_or items i d ∷ [])
    ∙ ap (λ (xs : List Asked). operations_of (take i items) ++ xs) (append-nil (operation_of (get_or items i d)))
    ∙ ap (λ (x : Item). operations_of (take i items) ++ operation_of x) is

pub count_more : (items : List Item) (i : ℕ) (d item : Item) → i < length items → get_or items i d ≡ item → length (operations_of (take (i + 1) items)) ≡ length (operations_of (take i items)) + length (operation_of item)
count_more items i d item inside is = ap length (operations_more items i d item inside is) ∙ length-append (operations_of (take i items)) (operation_of item)

pub some_more : (items : List Item) → length (operations_of items) ≤ length items
some_more [] = omega arith
some_more (Work n ∷ items) = omega (arith, some_more items)
some_more (Op object call ∷ items) = omega (arith, some_more items)

-- the operations of the first items are no more than those of all
pub count_up : (items : List Item) (i : ℕ) → length (operations_of (take i items)) ≤ length (operations_of items)
count_up [] zero = omega arith
count_up [] (suc i) = omega arith
count_up (item ∷ items) zero = omega arith
count_up (item ∷ items) (suc i) =
    omega (arith, count_up items i, length-append (operation_of item) (operations_of (take i items)), length-append (operation_of item) (operations_of items))

-- repeated once more
pub repeated_more : (n : ℕ) (xs : List Asked) → repeated (n + 1) xs ≡ repeated n xs ++ xs
repeated_more n xs = let next : suc n ≡ n + 1 = omega arith in subst (λ (k : ℕ). repeated k xs ≡ repeated n xs ++ xs) next refl

pub repeated_length : (n : ℕ) (xs : List Asked) → length (repeated n xs) ≡ n * length xs
repeated_length zero xs = omega arith
repeated_length (suc n) xs =
    let one : length (repeated (suc n) xs) ≡ length (repeated n xs) + length xs = length-append (repeated n xs) xs in
    let before = repeated_length n xs in
    let step : suc n * length xs ≡ n * length xs + length xs = omega arith in
    omega (arith, one, before, step)

pub repeated_up : (n k : ℕ) (xs : List Asked) → length (repeated n xs) ≤ length (repeated (n + k) xs)
repeated_up n zero xs = let same : n + 0 ≡ n = omega arith in rw same (omega arith)
repeated_up n (suc k) xs =
    let same : n + suc k ≡ (n + k) + 1 = omega arith in
    let one : length (repeated ((n + k) + 1) xs) ≡ length (repeated (n + k) xs) + length xs = ap length (repeated_more (n + k) xs) ∙ length-append (repeated (n + k) xs) xs in
    rw same (omega (arith, one, repeated_up n k xs))

pub repeated_next : (n jobs : ℕ) (xs : List Asked) → n < jobs → length (repeated n xs) + length xs ≤ length (repeated jobs xs)
repeated_next n jobs xs h =
    let rest : (n + 1) + (jobs - (n + 1)) ≡ jobs = omega arith in
    let up : length (repeated (n + 1) xs) ≤ length (repeated jobs xs) = rw rest at (repeated_up (n + 1) (jobs - (n + 1)) xs) in
    omega (arith, up, ap length (repeated_more n xs), length-append (repeated n xs) xs)

-- the tasks of a lane among one more
pub numbers_more : (n : ℕ) → numbers (n + 1) ≡ numbers n ++ n ∷ []
numbers_more n = let next : suc n ≡ n + 1 = omega arith in subst (λ (k : ℕ). numbers k ≡ numbers n ++ n ∷ []) next refl

share_more : (workers lane n : ℕ) → share (n + 1) workers lane ≡ share n workers lane ++ filter (is_of workers lane) (n ∷ [])
share_more workers lane n = ap (filter (is_of workers lane)) (numbers_more n) ∙ filter-append (is_of workers lane) (numbers n) (n ∷ [])

pub share_yes : (workers lane n : ℕ) → is_of workers lane n ≡ true → share (n + 1) workers lane ≡ share n workers lane ++ n ∷ []
share_yes workers lane n h = rw h at (share_more workers lane n)

pub share_no : (workers lane n : ℕ) → is_of workers lane n ≡ false → share (n + 1) workers lane ≡ share n workers lane
share_no workers lane n h = (rw h at (share_more workers lane n)) ∙ append-nil (share n workers lane)

module _ {X : Type 0} (f : ℕ → List X) (workers lane n : ℕ) where
  pub over_yes : is_of workers lane n ≡ true → flat_map f (share (n + 1) workers lane) ≡ flat_map f (share n workers lane) ++ f n
  over_yes h =
      ap (flat_map f) (share_yes workers lane n h) ∙ flat_map-append f (share n workers lane) (n ∷ [])
      ∙ ap (λ (xs : List X). flat_map f (share n workers lane) ++ xs) (append-nil (f n))

  pub over_no : is_of workers lane n ≡ false → flat_map f (share (n + 1) workers lane) ≡ flat_map f (share n workers lane)
  over_no h = ap (flat_map f) (share_no workers lane n h)

-- how many calls a lane makes
module _ (system : System) (jobs workers lane n : ℕ) where
  pub calls_yes : is_of workers lane n ≡ true → length (calls_to system jobs workers lane (n + 1)) ≡ length (calls_to system jobs workers lane n) + length (script_of system jobs n)
  calls_yes h = ap length (over_yes (script_of system jobs) workers lane n h) ∙ length-append (calls_to system jobs workers lane n) (script_of system jobs n)

  pub calls_no : is_of workers lane n ≡ false → length (calls_to system jobs workers lane (n + 1)) ≡ length (calls_to system jobs workers lane n)
  calls_no h = ap length (over_no (script_of system jobs) workers lane n h)

-- one step of a lane over the tasks
module _ (system : System) (jobs workers lane : ℕ) where
  calls_step : (n : ℕ) (b : Bool) → is_of workers lane n ≡ b → length (calls_to system jobs workers lane n) ≤ length (calls_to system jobs workers lane (n + 1))
  calls_step n true h = omega (arith, calls_yes system jobs workers lane n h)
  calls_step n false h = omega (arith, calls_no system jobs workers lane n h)

  pub calls_up : (n k : ℕ) → length (calls_to system jobs workers lane n) ≤ length (calls_to system jobs workers lane (n + k))
  calls_up n zero = let same : n + 0 ≡ n = omega arith in rw same (omega arith)
  calls_up n (suc k) =
      let same : n + suc k ≡ (n + k) + 1 = omega arith in
      rw same (omega (arith, calls_up n k, calls_step (n + k) (is_of workers lane (n + k)) refl))

  pub calls_below : (n m : ℕ) → n ≤ m → length (calls_to system jobs workers lane n) ≤ length (calls_to system jobs workers lane m)
  calls_below n m h = let same : n + (m - n) ≡ m = omega arith in rw same at (calls_up n (m - n))

  -- where the task is the lane's, its script is among the calls
  pub calls_within : (n m : ℕ) → n < m → is_of workers lane n ≡ true → length (calls_to system jobs workers lane n) + length (script_of system jobs n) ≤ length (calls_to system jobs workers lane m)
  calls_within n m h mine = omega (arith, calls_yes system jobs workers lane n mine, calls_below (n + 1) m (omega arith))
