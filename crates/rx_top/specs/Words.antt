-- What the words ask.
use Rattle.std.specs.Prelude.{ℕ, ◌≤◌, nat_le, Bool, true, false, if◌then◌else◌, List, [], ◌∷◌, codes, Option, Some, None}
use Rattle.std.specs.Str.{bytes_eq}
use Rattle.rx_file.specs.Texts.{number_of}
use Rattle.rx_top.specs.declared.words.Query.TheVariants.{Run, Admit, Lanes}
use Rattle.rx_top.specs.declared.words.Command.{Command}
use Rattle.rx_top.specs.declared.words.Command.TheVariants.{Ask, Draw}

-- whether a command reads its input: one that asks something of a set does; words of no shape do not
abbrev pub reads_input : Option Command → Bool
reads_input None = false
reads_input (Some (Ask query)) = true
reads_input (Some (Draw number)) = false

-- whether threads have a part in the answer
abbrev pub uses_threads : Option Command → Bool
uses_threads (Some (Ask (Lanes workers jobs))) = true
uses_threads _ = false

-- a number up to the most, or no shape
abbrev pub number_up_to : ℕ → Option ℕ → Option ℕ
number_up_to most None = None
number_up_to most (Some number) = if nat_le number most then Some number else None

-- the command of the number, if there is one
abbrev pub as_run : Option ℕ → Option Command
as_run None = None
as_run (Some ticks) = Some (Ask (Run ticks))

-- `run` and a number word of 1 to 20 digits
abbrev pub run_of : List ℕ → Option Command
run_of number = as_run (number_up_to 1000000 (number_of 20 number))

-- the command of the number, if there is one
abbrev pub as_draw : Option ℕ → Option Command
as_draw None = None
as_draw (Some number) = Some (Draw number)

-- `gen` and a number word of 1 to 20 digits, whose number has at most 64 bits
abbrev pub draw_of : List ℕ → Option Command
draw_of number = as_draw (number_up_to 18446744073709551615 (number_of 20 number))

-- a number from 1 up to the most, or no shape
abbrev pub from_one_to : ℕ → Option ℕ → Option ℕ
from_one_to most None = None
from_one_to most (Some number) = if nat_le 1 number then number_up_to most (Some number) else None

-- the command of both numbers, if there are two
abbrev pub as_lanes : Option ℕ → Option ℕ → Option Command
as_lanes (Some workers) (Some jobs) = Some (Ask (Lanes workers jobs))
as_lanes _ _ = None

-- `lanes`, a number word for how many lanes there are, 1 to 16, and one for how many jobs they make of each task, 1 to 200
abbrev pub lanes_of : List ℕ → List ℕ → Option Command
lanes_of workers jobs = as_lanes (from_one_to 16 (number_of 20 workers)) (from_one_to 200 (number_of 20 jobs))

-- the command of one word, of a word and a number word, and of a word and two
abbrev pub one_word : List ℕ → Option Command
one_word name = if bytes_eq name (codes "admit") then Some (Ask Admit) else None

abbrev pub two_words : List ℕ → List ℕ → Option Command
two_words name number = if bytes_eq name (codes "run") then run_of number else (if bytes_eq name (codes "gen") then draw_of number else None)

abbrev pub three_words : List ℕ → List ℕ → List ℕ → Option Command
three_words name workers jobs = if bytes_eq name (codes "lanes") then lanes_of workers jobs else None

-- the command that the words spell, if they have a shape
abbrev pub command_of : List (List ℕ) → Option Command
command_of (name ∷ []) = one_word name
command_of (name ∷ number ∷ []) = two_words name number
command_of (name ∷ workers ∷ jobs ∷ []) = three_words name workers jobs
command_of _ = None

-- the numbers of a command are in their limits
abbrev pub IsLimited : Command → Type 0
IsLimited (Ask (Run ticks)) = ticks ≤ 1000000
IsLimited (Ask Admit) = Unit {0}
IsLimited (Ask (Lanes workers jobs)) = ((1 ≤ workers) × (workers ≤ 16)) × ((1 ≤ jobs) × (jobs ≤ 200))
IsLimited (Draw number) = Unit {0}
