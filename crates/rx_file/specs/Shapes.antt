-- The shapes of items, by words.
use Rattle.std.specs.Prelude.{ℕ, ◌+◌, ◌*◌, ◌==◌, if◌then◌else◌, List, [], ◌∷◌, length, get_or, codes, Option, Some, None, option_map}
use Rattle.std.specs.List.{find}
use Rattle.std.specs.Option.{option_and_then}
use Rattle.std.specs.Str.{bytes_eq}
use Rattle.rx_seq.specs.declared.calls.Row.{Row}
use Rattle.rx_seq.specs.declared.calls.Call.{Call}
use Rattle.rx_seq.specs.declared.calls.Call.TheVariants as call
use Rattle.rx_file.specs.declared.shapes.Verb.{Verb}
use Rattle.rx_file.specs.declared.shapes.Verb.TheVariants.{Get, Set, Add, Swap, Put, Take, Insert, Remove, Has, Read, Shift, Multi}
use Rattle.rx_file.specs.Texts.{within, word_number}

-- what the words of an item spell, whatever objects there are: ticks of work, or a call on an object of this name
pub data Shape : Type 0 where
  Work : ℕ → Shape
  On : List ℕ → Call → Shape

-- the word of a call
abbrev pub word_of : Verb → List ℕ
word_of Get = codes "get"
word_of Set = codes "set"
word_of Add = codes "add"
word_of Swap = codes "swap"
word_of Put = codes "put"
word_of Take = codes "take"
word_of Insert = codes "insert"
word_of Remove = codes "remove"
word_of Has = codes "has"
word_of Read = codes "read"
word_of Shift = codes "shift"
word_of Multi = codes "multi"

-- the calls that have a word, and the call that a word names
abbrev pub verbs : List Verb
verbs = Get ∷ Set ∷ Add ∷ Swap ∷ Put ∷ Take ∷ Insert ∷ Remove ∷ Has ∷ Read ∷ Shift ∷ Multi ∷ []

abbrev pub verb_of : List ℕ → Option Verb
verb_of word = find (λ verb. bytes_eq (word_of verb) word) verbs

-- the row of a transaction at a place from 0, three numbers to a row: zeros after the last one
abbrev pub row_of : List ℕ → ℕ → Row
row_of numbers place = record { i = get_or numbers (3 * place) 0; old = get_or numbers (3 * place + 1) 0; new = get_or numbers (3 * place + 2) 0 }

-- how many rows so many numbers make, three to a row: 1 to 4
abbrev pub row_count : ℕ → Option ℕ
row_count numbers = find (λ count. 3 * count == numbers) (1 ∷ 2 ∷ 3 ∷ 4 ∷ [])

-- the transaction of 1 to 4 rows, three numbers to a row, with zeros for the rows that are left out
abbrev pub multi_of : List ℕ → Option Call
multi_of numbers =
    option_map (λ count. call.Multi count (row_of numbers 0 ∷ row_of numbers 1 ∷ row_of numbers 2 ∷ row_of numbers 3 ∷ [])) (row_count (length numbers))

-- the call with these numbers, which stand after the object's name. This is the table of shapes
abbrev pub call_of : Verb → List ℕ → Option Call
call_of Get [] = Some call.Get
call_of Set (v ∷ []) = Some (call.Set v)
call_of Add (v ∷ []) = Some (call.Add v)
call_of Swap (old ∷ new ∷ []) = Some (call.Swap old new)
call_of Put (v ∷ []) = Some (call.Put v)
call_of Take [] = Some call.Take
call_of Insert (k ∷ []) = Some (call.Insert k)
call_of Remove (k ∷ []) = Some (call.Remove k)
call_of Has (k ∷ []) = Some (call.Has k)
call_of Read (i ∷ []) = Some (call.Read i)
call_of Shift (from ∷ to ∷ n ∷ []) = Some (call.Shift from to n)
call_of Multi numbers = multi_of numbers
call_of _ _ = None

-- the numbers that words spell, if each is a number word
abbrev pub with_number : Option ℕ → Option (List ℕ) → Option (List ℕ)
with_number (Some number) (Some numbers) = Some (number ∷ numbers)
with_number (Some number) None = None
with_number None numbers = None

abbrev pub numbers_of : List (List ℕ) → Option (List ℕ)
numbers_of [] = Some []
numbers_of (word ∷ rest) = with_number (word_number word) (numbers_of rest)

-- the call that the words after the object's name complete
abbrev pub call_with : Verb → List (List ℕ) → Option Call
call_with verb words = option_and_then (call_of verb) (numbers_of words)

-- `work n`, of which the first word was read
abbrev pub work_of : List (List ℕ) → Option Shape
work_of (number ∷ []) = option_map Work (within 1 1000000 (word_number number))
work_of _ = None

-- a call on an object, of which the first word was read
abbrev pub operation_of : Verb → List (List ℕ) → Option Shape
operation_of verb [] = None
operation_of verb (object ∷ rest) = option_map (On object) (call_with verb rest)

-- the shape that the words of an item have, if any: ticks of work, or a call on an object of some name
abbrev pub shape_of : List (List ℕ) → Option Shape
shape_of [] = None
shape_of (word ∷ rest) =
    if bytes_eq word (codes "work") then work_of rest else option_and_then (λ verb. operation_of verb rest) (verb_of word)
