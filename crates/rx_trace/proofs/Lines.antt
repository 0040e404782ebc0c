-- The lines of a report, part by part.
use Rattle.std.proofs.Common.{ℕ, zero, suc, ◌≡◌, ◌<◌, ◌+◌, ◌-◌, List, [], ◌∷◌, ◌++◌, map, length, take, drop, get_or, refl, sym, ap, ◌∙◌, append_assoc, append-nil, take-append-drop, add-one, add-zero, add-suc, arith}
use Rattle.std.proofs.lemmas.Grind.{take_at_read}
use Rattle.std.proofs.lemmas.List.{map-append}
use Rattle.rx_set.specs.System.{System, numbers}
use Rattle.rx_ledger.specs.declared.events.Event.{Event}
use Rattle.rx_slots.specs.Schedule.{slots, slot_at}
use Rattle.rx_slots.specs.Events.{events, events_of, misses}
use Rattle.rx_report.specs.Lines.{event_line, total_line}
use Rattle.rx_trace.specs.Report.{schedule_lines, object_lines, run_totals}
use Rattle.rx_trace.specs.Runs.{lines_of, end_lines}

-- a slot without events has no line
pub no_lines : (system : System) (n : ℕ) (told : List Event) → told ≡ events_of system (slots system n) (slot_at system n) → told ≡ []
    → lines_of system (events_of system (slots system n) (slot_at system n)) ≡ []
no_lines system n told same none = ap (lines_of system) (sym same ∙ none)

-- one more item of those that each have a line
pub line_next : {X : Type 0} (line : X → List ℕ) (xs : List X) (i : ℕ) (d : X) → i < length xs
    → map line (take (i + 1) xs) ≡ map line (take i xs) ++ line (get_or xs i d) ∷ []
line_next line xs i d h = ap (map line) (take_at_read xs i d h).1 ∙ map-append line (take i xs) (get_or xs i d ∷ [])

-- an item's line, and those before and after it
pub line_around : {X : Type 0} (line : X → List ℕ) (xs : List X) (i : ℕ) (d : X) → i < length xs
    → map line xs ≡ map line (take i xs) ++ (line (get_or xs i d) ∷ [] ++ map line (drop (i + 1) xs))
line_around line xs i d h =
    ap (map line) (sym (take-append-drop (i + 1) xs))
    ∙ map-append line (take (i + 1) xs) (drop (i + 1) xs)
    ∙ ap (λ r. r ++ map line (drop (i + 1) xs)) (line_next line xs i d h)
    ∙ append_assoc (map line (take i xs)) (line (get_or xs i d) ∷ []) (map line (drop (i + 1) xs))

-- one line more of those of the numbers from 0 on
pub numbered_next : (line : ℕ → List ℕ) (count : ℕ) → map line (numbers (count + 1)) ≡ map line (numbers count) ++ line count ∷ []
numbered_next line count = rw (add-one count) (map-append line (numbers count) (count ∷ []))

-- the lines of more numbers begin with those of fewer
numbered_from : (line : ℕ → List ℕ) (count more : ℕ) → (rest : List (List ℕ)) × (map line (numbers (count + more)) ≡ map line (numbers count) ++ rest)
numbered_from line count zero = ([], rw (add-zero count) (sym (append-nil (map line (numbers count)))))
numbered_from line count (suc more) =
    let fewer = numbered_from line count more in
    let next = line (count + more) ∷ [] in
    (fewer.0 ++ next, rw (add-suc count more) (ap (λ k. map line (numbers k)) (sym (add-one (count + more))) ∙ numbered_next line (count + more) ∙ ap (λ r. r ++ next) fewer.1 ∙ append_assoc (map line (numbers count)) fewer.0 next))

-- a number's line, and those before and after it
pub numbered_around : (line : ℕ → List ℕ) (count last : ℕ) → count < last
    → (rest : List (List ℕ)) × (map line (numbers last) ≡ map line (numbers count) ++ (line count ∷ [] ++ rest))
numbered_around line count last h =
    let more = numbered_from line (count + 1) (last - (count + 1)) in
    let same : count + 1 + (last - (count + 1)) ≡ last = omega arith in (
      more.0,
      ap (λ k. map line (numbers k)) (sym same)
          ∙ more.1
          ∙ ap (λ r. r ++ more.0) (numbered_next line count)
          ∙ append_assoc (map line (numbers count)) (line count ∷ []) more.0,
    )

-- one more slot
pub events_next : (system : System) (n : ℕ) → events system (n + 1) ≡ events system n ++ events_of system (slots system n) (slot_at system n)
events_next system n = rw (add-one n) refl

pub slot_lines : (system : System) (n : ℕ)
    → lines_of system (events system (n + 1)) ≡ lines_of system (events system n) ++ lines_of system (events_of system (slots system n) (slot_at system n))
slot_lines system n = ap (lines_of system) (events_next system n) ∙ map-append (event_line system) (events system n) (events_of system (slots system n) (slot_at system n))

-- the events of more slots begin with those of fewer
events_from : (system : System) (n more : ℕ) → (rest : List Event) × (events system (n + more) ≡ events system n ++ rest)
events_from system n zero = ([], rw (add-zero n) (sym (append-nil (events system n))))
events_from system n (suc more) =
    let before = events_from system n more in
    let next = events_of system (slots system (n + more)) (slot_at system (n + more)) in
    (before.0 ++ next, rw (add-suc n more) (ap (λ r. r ++ next) before.1 ∙ append_assoc (events system n) before.0 next))

-- the lines of a slot, and those before and after it
pub lines_later : (system : System) (n last : ℕ) → n < last
    → (rest : List (List ℕ)) × (lines_of system (events system last) ≡ lines_of system (events system n) ++ (lines_of system (events_of system (slots system n) (slot_at system n)) ++ rest))
lines_later system n last h =
    let told = events_of system (slots system n) (slot_at system n) in
    let more = events_from system (n + 1) (last - (n + 1)) in
    let same : n + 1 + (last - (n + 1)) ≡ last = omega arith in (
      lines_of system more.0,
      ap (λ k. lines_of system (events system k)) (sym same)
          ∙ ap (lines_of system) more.1
          ∙ map-append (event_line system) (events system (n + 1)) more.0
          ∙ ap (λ r. r ++ lines_of system more.0) (slot_lines system n)
          ∙ append_assoc (lines_of system (events system n)) (lines_of system told) (lines_of system more.0),
    )

-- the parts of the lines of a schedule
pub schedule_parts : (system : System) (n : ℕ) → schedule_lines system n ≡ lines_of system (events system n) ++ end_lines system n
schedule_parts system n =
    let late = misses system (slots system n) in
    let rest = object_lines system n ++ total_line (run_totals system n) ∷ [] in
    ap (λ r. r ++ rest) (map-append (event_line system) (events system n) late)
    ∙ append_assoc (lines_of system (events system n)) (lines_of system late) rest
