-- What lanes made, and how it is told.
use Rattle.std.proofs.Common.{ℕ, ◌≡◌, List, [], ◌∷◌, ◌++◌, map, length, reverse, refl, sym, ap, ap₂, ◌∙◌, subst}
use Rattle.std.proofs.lemmas.List.{length-reverse, reverse-reverse}
use Rattle.rx_seq.specs.declared.entries.Entry.{Entry}
use Rattle.rx_set.specs.System.{System, numbers, parts_of}
use Rattle.rx_lanes.specs.Histories.{HaveSameEnds, HaveSameObjects}
use Rattle.rx_lanes.specs.Runs.{AreShared, lists_in, table_of}
use Rattle.rx_table.specs.Closings.{Ending, HasEnded}
use Rattle.rx_report.specs.Lines.{object_line}
use Rattle.rx_report.specs.LaneLines.{calls_line, entry_line}
use Rattle.rx_trace.specs.Report.{first_objects, object_line_after}
use Rattle.rx_top.specs.LaneReport.{IsTableLeft, history_lines}

-- two histories in which each object ends with the same tag and in the same state have the same lines of the objects
same_lines : (system : System) (history other : List Entry) → HaveSameEnds (parts_of system) history other → (objects : List ℕ) → map (object_line_after system history) objects ≡ map (object_line_after system other) objects
same_lines system history other same [] = refl
same_lines system history other same (object ∷ objects) =
    let here = same object in
    ap₂ (λ (line : List ℕ) (lines : List (List ℕ)). line ∷ lines) (ap₂ (λ (tag : ℕ) (state : List ℕ). object_line system object tag state) here.0 here.1) (same_lines system history other same objects)

-- the lines of a history, with those of the objects of another one
pub history_parts : (system : System) (entries other : List Entry) → HaveSameEnds (parts_of system) (reverse entries) other
    → history_lines system (reverse entries) ≡ map (entry_line system) entries ++ (first_objects system other (length system.objects) ++ calls_line (length entries) ∷ [])
history_parts system entries other same =
    ap (λ (es : List Entry). map (entry_line system) es ++ (first_objects system (reverse entries) (length system.objects) ++ calls_line (length (reverse entries)) ∷ [])) (reverse-reverse entries)
    ∙ ap (λ (lines : List (List ℕ)). map (entry_line system) entries ++ (lines ++ calls_line (length (reverse entries)) ∷ [])) (same_lines system (reverse entries) other same (numbers (length system.objects)))
    ∙ ap (λ (n : ℕ). map (entry_line system) entries ++ (first_objects system other (length system.objects) ++ calls_line n ∷ [])) (length-reverse entries)

-- the closed table of lanes
pub table_is : (system : System) (workers : ℕ) (lists : List (List Entry)) (order : List Entry) (table : Ending) → lists_in system (reverse order) ≡ lists → table.layout ≡ table_of system workers → HasEnded table
    → AreShared system workers lists table.history → HaveSameObjects (reverse order) table.history → HaveSameEnds (parts_of system) (reverse order) table.history → IsTableLeft system workers (reverse order) table
table_is system workers lists order table own layout ended shared objects ends = record {
  layout = layout;
  ended = ended;
  lanes = subst (λ (ls : List (List Entry)). AreShared system workers ls table.history) (sym own) shared;
  objects = objects;
  ends = ends;
}
