-- Lanes and seats by their numbers.
use Rattle.std.proofs.Common.{ℕ, zero, suc, ◌≡◌, ◌+◌, ◌*◌, ◌<◌, ◌≤◌, ◌⊎◌, List, [], ◌∷◌, ◌++◌, length, map, reverse, get_or, remove, All, Vec, Global, refl, sym, ap, ap₂, ◌∙◌, subst, inl, inr, arith, length-append, append_assoc}
use mathlib.Core.Option.{some, some-injective, some-ne-none}
use lib.ListN.{get_elem?}
use Rattle.std.proofs.Math.Decide.{dec_le}
use Rattle.std.proofs.lemmas.List.{length-map, get_or-map, get_or_default, get_or_append_left, get_or_push, map_push}
use Rattle.std.proofs.lemmas.Option.{same_Some}
use Rattle.rx_seq.specs.declared.kinds.Part.{Part}
use Rattle.rx_seq.specs.declared.entries.Entry.{Entry}
use Rattle.rx_seq.specs.Table.{IsPart}
use Rattle.rx_seq.specs.Legal.{entries_of}
use Rattle.rx_set.specs.System.{System, part_of_row, parts_of, numbers, task_at}
use Rattle.rx_set.specs.Valid.{IsValid}
use Rattle.rx_shape.specs.Layout.{Layout, IsLayout}
use Rattle.rx_port.specs.declared.views.Known.{Known}
use Rattle.rx_port.specs.Lawful.{IsOlder}
use Rattle.rx_table.specs.Tables.{SharedTable, SeatView, IsSeatOf, AreSeats, AreNew, new_seat}
use Rattle.rx_table.specs.Closings.{HasSeen}
use Rattle.rx_set.specs.Operations.{asked_of, script_of}
use Rattle.rx_set.proofs.Counts.{length-numbers}
use Rattle.rx_set.proofs.Readings.{parts_valid}
use Rattle.rx_lanes.specs.declared.answers.Answer.{Answer}
use Rattle.rx_lanes.specs.declared.lanes.Lane.{Lane}
use Rattle.rx_lanes.specs.Scripts.{is_of, calls_to, lane_script}
use Rattle.rx_lanes.specs.Lists.{answer_of}
use Rattle.rx_lanes.specs.Lanes.{HasSpent, HasMade, HasRun, IsReady, IsNew, number_of, seat_of, answers_of}
use Rattle.rx_lanes.specs.Runs.{entries_by, IsKept, answers_at, items_of, AreKept, table_of}
use Rattle.rx_lanes.proofs.Parts.{calls_yes, calls_no}
use Rattle.rx_lanes.proofs.Bodies.{script_count, script_few}
use Rattle.rx_lanes.proofs.Making.{spent_stays}
use Rattle.rx_lanes.proofs.Plain.{calls_of_length, tag_few, all_below, below_none, below_more, below_all, count_below}

-- the table's layout is within the limits
pub layout_fits : (system : System) (parts : List Part) (seats : ℕ) → IsValid system → parts ≡ parts_of system → 1 ≤ seats → seats ≤ 16 → IsLayout (record { parts = parts; seats = seats; first = 0 })
layout_fits system parts seats valid same one few = record {
  few = omega (arith, ap length same, length-map system.objects part_of_row, valid.few_objects);
  parts = subst (All IsPart) (sym same) (parts_valid system valid);
  one = one;
  seats = omega arith;
  tag = omega arith;
}

-- the first of a list is taken off
first_off : {X : Type 0} (xs rest : List X) (x : X) → 0 < length xs → x ≡ get_or xs 0 x → rest ≡ remove xs 0 → xs ≡ x ∷ rest
first_off [] rest x full is after = absurd (omega arith)
first_off {X} (y ∷ xs) rest x full is after = ap₂ (λ (z : X) (zs : List X). z ∷ zs) (sym is) (sym after)

pub moved : {X Y : Type 0} (f : Y → X) (done : List Y) (left rest all : List X) (x : X) (y : Y) → 0 < length left → x ≡ get_or left 0 x → rest ≡ remove left 0 → f y ≡ x → (map f done ++ left) ≡ all → (map f (done ++ y ∷ []) ++ rest) ≡ all
moved {X} f done left rest all x y full is after same so_far =
    ap (λ (xs : List X). xs ++ rest) (map_push f done y) ∙ append_assoc (map f done) (f y ∷ []) rest
    ∙ ap (λ (z : X). map f done ++ (z ∷ rest)) same ∙ ap (λ (xs : List X). map f done ++ xs) (sym (first_off left rest x full is after)) ∙ so_far

-- numbers
pub numbers_at : (n k d : ℕ) → k < n → get_or (numbers n) k d ≡ k
numbers_at zero k d h = absurd (omega arith)
numbers_at (suc n) k d h = elim (dec_le (suc k) n) [
  | yes early ↦ get_or_append_left (numbers n) (n ∷ []) d k (omega (arith, length-numbers n)) ∙ numbers_at n k d early
  | no late ↦ let same : n ≡ k = omega arith in get_or_push (numbers n) n d k (length-numbers n ∙ same) ∙ same
]

pub number_more : {Y : Type 0} (f : Y → ℕ) (done more : List Y) (y : Y) → more ≡ (done ++ y ∷ []) → map f done ≡ numbers (length done) → f y ≡ length done → map f more ≡ numbers (length more)
number_more f done more y is so_far here =
    let many : length more ≡ length done + 1 = ap length is ∙ length-append done (y ∷ []) in
    ap (map f) is ∙ map_push f done y ∙ ap₂ (λ (xs : List ℕ) (n : ℕ). xs ++ n ∷ []) so_far here ∙ sym (ap numbers many ∙ Rattle.rx_lanes.proofs.Parts.numbers_more (length done))

-- elements by their places
place_of : {X : Type 0} (xs : List X) (k : ℕ) (x : X) → get_elem? xs k ≡ some x → (k < length xs) × (get_or xs k x ≡ x)
place_of [] k x at = absurd (some-ne-none x (sym at))
place_of (y ∷ xs) zero x at = (omega arith, some-injective y x at)
place_of (y ∷ xs) (suc k) x at = let r = place_of xs k x at in (omega (arith, r.0), r.1)

has_at : {X : Type 0} (xs : List X) (k : ℕ) → k < length xs → (x : X) × (get_elem? xs k ≡ some x)
has_at [] k h = absurd (omega arith)
has_at (x ∷ xs) zero h = (x, refl)
has_at (x ∷ xs) (suc k) h = has_at xs k (omega arith)

map_at : {X Y : Type 0} (f : X → Y) (xs : List X) (k : ℕ) (x : X) → get_elem? xs k ≡ some x → get_elem? (map f xs) k ≡ some (f x)
map_at f [] k x at = absurd (some-ne-none x (sym at))
map_at {X} f (y ∷ xs) zero x at = ap (λ (z : X). some (f z)) (some-injective y x at)
map_at f (y ∷ xs) (suc k) x at = map_at f xs k x at

from_map : {X Y : Type 0} (f : X → Y) (xs : List X) (k : ℕ) (y : Y) → get_elem? (map f xs) k ≡ some y → (x : X) × (get_elem? xs k ≡ some x) × (f x ≡ y)
from_map f [] k y at = absurd (some-ne-none y (sym at))
from_map f (x ∷ xs) zero y at = (x, refl, some-injective (f x) y at)
from_map f (x ∷ xs) (suc k) y at = from_map f xs k y at

all_at : {X : Type 0} (P : X → Type 0) (xs : List X) (k : ℕ) (x : X) → All P xs → get_elem? xs k ≡ some x → P x
all_at P xs k x all at = let here = place_of xs k x at in subst P here.1 (all k x here.0)

-- a lane at a place has the number of the place
number_at : (n : ℕ) (lanes : List Lane) (k : ℕ) (lane : Lane) → map number_of lanes ≡ numbers n → get_elem? lanes k ≡ some lane → (number_of lane ≡ k) × (k < n)
number_at n lanes k lane are at =
    let here = place_of lanes k lane at in
    let many : length lanes ≡ n = sym (length-map lanes number_of) ∙ ap length are ∙ length-numbers n in
    let below : k < n = omega (arith, here.0, many) in
    (ap number_of (sym here.1) ∙ sym (get_or-map number_of lanes k lane 0 here.0) ∙ ap (λ (xs : List ℕ). get_or xs k 0) are ∙ numbers_at n k 0 below, below)

pub lanes_many : (n : ℕ) (lanes : List Lane) → map number_of lanes ≡ numbers n → length lanes ≡ n
lanes_many n lanes are = sym (length-map lanes number_of) ∙ ap length are ∙ length-numbers n

-- lanes that are ready
nothing_made : (shared : SharedTable) (n : ℕ) (lane : Lane) → lane.seat ≡ new_seat shared n lane.number → lane.answers.items ≡ [] → HasMade shared [] lane
nothing_made shared n lane is none = record {
  number = ap (λ (s : SeatView). s.view.number) is;
  known = Rattle.rx_table.specs.Rule.knows_nothing;
  is = ap (λ (s : SeatView). s.view.known) is;
  answers = sym none;
  few = omega arith;
  all = inl refl;
}

pub lanes_ready : (shared : SharedTable) (system : System) (jobs workers : ℕ) (seats : List SeatView) (lanes : List Lane) → AreSeats shared seats → AreNew shared seats → map seat_of lanes ≡ seats → map number_of lanes ≡ numbers (length seats) → All (IsNew system jobs workers) lanes
    → All (IsReady shared system jobs workers) lanes
lanes_ready shared system jobs workers seats lanes are fresh same numbered new = λ k d inside.
    let found = has_at lanes k inside in
    let lane = found.0 in
    let number = number_at (length seats) lanes k lane numbered found.1 in
    let seat : get_elem? seats k ≡ some (seat_of lane) = subst (λ (xs : List SeatView). get_elem? xs k ≡ some (seat_of lane)) same (map_at seat_of lanes k lane found.1) in
    let h = all_at (IsNew system jobs workers) lanes k lane new found.1 in
    let few = h.few in
    let made = h.made in
    let none : length lane.answers.items ≡ 0 = ap length h.none in
    let is : lane.seat ≡ new_seat shared (length seats) lane.number = fresh k (seat_of lane) seat ∙ ap (λ (n : ℕ). new_seat shared (length seats) n) (sym number.0) in
    let here = place_of lanes k lane found.1 in
    subst (IsReady shared system jobs workers) (sym here.1 ∙ get_or_default lanes k lane d here.0) (record {
      ours = (are.each k (seat_of lane) seat).0;
      room = record { short = omega (arith, none); room = omega (arith, made, h.room); few = omega (arith, few, made) };
      none = nothing_made shared (length seats) lane is h.none;
    })

-- the seats of lanes are those of the table
pub lanes_seats : (shared : SharedTable) (system : System) (jobs workers : ℕ) (lanes : List Lane) (seats : List SeatView) → shared.layout.seats ≡ workers → seats ≡ map seat_of lanes → map number_of lanes ≡ numbers workers → All (HasRun shared system jobs workers) lanes → AreSeats shared seats
lanes_seats shared system jobs workers lanes seats count is numbered run = record {
  many = ap length is ∙ length-map lanes seat_of ∙ sym (length-map lanes number_of) ∙ ap length numbered ∙ length-numbers workers ∙ sym count;
  each = λ k seat at.
      let found = from_map seat_of lanes k seat (subst (λ (xs : List SeatView). get_elem? xs k ≡ some seat) is at) in
      let h = all_at (HasRun shared system jobs workers) lanes k found.0 run found.1 in
      let number = number_at workers lanes k found.0 numbered found.1 in
      (subst (IsSeatOf shared) found.2 h.ours, ap (λ (s : SeatView). s.view.number) (sym found.2) ∙ h.made.number ∙ number.0);
}

-- how many operations a lane makes
module _ (system : System) (jobs workers lane : ℕ) (valid : IsValid system) (few : jobs ≤ 200) where
  one_script : (task : ℕ) → task < length system.tasks → length (script_of system jobs task) ≤ 12800
  one_script task known =
      let count = script_count system jobs task (task_at system task).items valid known refl in
      let bound = script_few system jobs task (task_at system task).items valid known refl few in
      omega (arith, count, bound)

  calls_few : (n : ℕ) → n ≤ length system.tasks → length (calls_to system jobs workers lane n) ≤ n * 12800
  calls_few zero h = omega arith
  calls_few (suc n) h =
      let next : suc n ≡ n + 1 = omega arith in
      let before = calls_few n (omega arith) in
      let one = one_script n (omega arith) in
      subst (λ (k : ℕ). length (calls_to system jobs workers lane k) ≤ k * 12800) (sym next) (elim (Rattle.std.proofs.lemmas.Bool.cases_Bool (is_of workers lane n)) [
        | inl y ↦ omega (arith, calls_yes system jobs workers lane n y, before, one)
        | inr y ↦ omega (arith, calls_no system jobs workers lane n y, before)
      ])

  pub script_bound : length (lane_script system jobs workers lane) ≤ 819200
  script_bound = let all = calls_few (length system.tasks) (omega arith) in let tasks = valid.some_tasks.1 in omega (arith, all, tasks)

-- what a seat's entries are in the last history
pub record IsSeen (system : System) (jobs workers : ℕ) (layout : Layout) (history : List Entry) (lane : ℕ) (answers : List Answer) : Type 0 where
  pub told : map answer_of (entries_by lane history) ≡ answers
  pub few : length (entries_of lane history) ≤ length (lane_script system jobs workers lane)
  pub all : (map asked_of (entries_by lane history) ≡ lane_script system jobs workers lane) ⊎ HasSpent layout history

seen_by : (shared : SharedTable) (system : System) (jobs workers : ℕ) (history : List Entry) (k : ℕ) (lane : Lane) → number_of lane ≡ k → HasRun shared system jobs workers lane → HasSeen history lane.seat.view → IsSeen system jobs workers shared.layout history k lane.answers.items
seen_by shared system jobs workers history k lane number run seen =
    let made = run.made in
    let known : seen.known ≡ made.known = same_Some seen.known made.known (sym seen.is ∙ made.is) in
    let mine : made.known.mine ≡ entries_of k history = ap (λ (x : Known). x.mine) (sym known) ∙ seen.mine ∙ ap (λ (n : ℕ). entries_of n history) (made.number ∙ number) in
    let script : lane_script system jobs workers lane.number ≡ lane_script system jobs workers k = ap (lane_script system jobs workers) number in
    let few = made.few in
    record {
      told = ap (λ (xs : List Entry). map answer_of (reverse xs)) (sym mine) ∙ made.answers;
      few = omega (arith, few, ap length mine, ap length script);
      all = elim made.all [
        | inl same ↦ inl (ap (λ (xs : List Entry). map asked_of (reverse xs)) (sym mine) ∙ same ∙ script)
        | inr spent ↦
            let older : IsOlder made.known.seen history = subst (λ (x : Known). IsOlder x.seen history) known seen.seen in
            inr (subst (HasSpent shared.layout) (sym older.1) (spent_stays shared.layout older.0 made.known.seen spent))
      ];
    }

-- the last history is short, so that no object has reached its last tag
module _ (system : System) (jobs workers : ℕ) (layout : Layout) (history : List Entry) (valid : IsValid system) (jobs_few : jobs ≤ 200) (few : workers ≤ 16) (first : layout.first ≡ 0)
    (all : ℕ → List Answer) (seen : (lane : ℕ) → lane < workers → IsSeen system jobs workers layout history lane (all lane)) (callers : (seat : ℕ) → workers ≤ seat → entries_of seat history ≡ []) where
  counted : (n : ℕ) → n ≤ workers → count_below n history ≤ n * 819200
  counted zero h = omega (arith, below_none history)
  counted (suc n) h =
      let next : suc n ≡ n + 1 = omega arith in
      let before = counted n (omega arith) in
      let here = (seen n (omega arith)).few in
      subst (λ (k : ℕ). count_below k history ≤ k * 819200) (sym next) (omega (arith, below_more n history, calls_of_length n history, here, script_bound system jobs workers n valid jobs_few, before))

  never_spent : HasSpent layout history → ⊥
  never_spent h =
      let many = counted workers (omega arith) in
      let whole = below_all workers history (all_below workers history callers) in
      absurd (omega (arith, h.1, tag_few h.0 history, many, whole, first, few))

  pub kept : (lane : ℕ) → lane < workers → IsKept system jobs workers history lane (all lane)
  kept lane h =
      let here = seen lane h in
      record {
        calls = elim here.all [
          | inl same ↦ same
          | inr spent ↦ absurd (never_spent spent)
        ];
        told = here.told;
      }

-- the answers of each lane
pub answers_is : (answers : List (Vec Answer Global)) (lanes : List Lane) (k : ℕ) (lane : Lane) → answers ≡ map answers_of lanes → get_elem? lanes k ≡ some lane → answers_at (items_of answers) k ≡ lane.answers.items
answers_is answers lanes k lane is at =
    let here = place_of lanes k lane at in
    let inside : k < length (map answers_of lanes) = omega (arith, here.0, length-map lanes answers_of) in
    ap (λ (xs : List (Vec Answer Global)). answers_at (items_of xs) k) is
    ∙ get_or-map (λ (v : Vec Answer Global). v.items) (map answers_of lanes) k (answers_of lane) [] inside
    ∙ ap (λ (v : Vec Answer Global). v.items) (get_or-map answers_of lanes k lane (answers_of lane) here.0 ∙ ap answers_of here.1)

pub all_kept : (shared : SharedTable) (system : System) (jobs workers : ℕ) (history : List Entry) (lanes : List Lane) (seats : List SeatView) (answers : List (Vec Answer Global)) → IsValid system → jobs ≤ 200 → workers ≤ 16 → shared.layout ≡ table_of system workers
    → seats ≡ map seat_of lanes → answers ≡ map answers_of lanes → map number_of lanes ≡ numbers workers → All (HasRun shared system jobs workers) lanes
    → ((number : ℕ) (seat : SeatView) → get_elem? seats number ≡ some seat → HasSeen history seat.view) → ((seat : ℕ) → workers ≤ seat → entries_of seat history ≡ []) → AreKept system jobs workers history (items_of answers)
all_kept shared system jobs workers history lanes seats answers valid jobs_few few is seats_are answers_are numbered run seen callers =
    let many : length lanes ≡ workers = sym (length-map lanes number_of) ∙ ap length numbered ∙ length-numbers workers in
    kept system jobs workers shared.layout history valid jobs_few few (ap (λ (l : Layout). l.first) is) (answers_at (items_of answers))
    (λ k below.
    let found = has_at lanes k (omega (arith, many)) in
    let lane = found.0 in
    let number = number_at workers lanes k lane numbered found.1 in
    let seat : get_elem? seats k ≡ some (seat_of lane) = subst (λ (xs : List SeatView). get_elem? xs k ≡ some (seat_of lane)) (sym seats_are) (map_at seat_of lanes k lane found.1) in
    subst (IsSeen system jobs workers shared.layout history k) (sym (answers_is answers lanes k lane answers_are found.1))
    (seen_by shared system jobs workers history k lane number.0 (all_at (HasRun shared system jobs workers) lanes k lane run found.1) (seen k (seat_of lane) seat)))
    callers
