-- Steps of the readers.
use Rattle.std.proofs.Common.{◌≡◌, ℕ, Bool, true, false, ◌||◌, List, [], ◌∷◌, ◌++◌, length, refl, arith, Ok, Err, None, Some}
use Rattle.std.specs.List.{list_any}
use Rattle.std.specs.Str.{bytes_eq, is_utf8, IsUtf8}
use Rattle.std.proofs.lemmas.List.Folds.{list_any-append}
use Rattle.std.proofs.lemmas.Bool.{false_from_ne_true}
use Rattle.std.proofs.lemmas.Str.{IsUtf8-from_is_utf8, is_utf8-from_IsUtf8}
use Rattle.toml.specs.declared.value.Value.{Value}
use Rattle.toml.specs.Data.{Members}
use Rattle.toml.specs.Parse.{parse_document}
use Rattle.toml.specs.View.{items_view}
use Rattle.rx_set.specs.Names.{has_repeat}
use Rattle.rx_file.specs.declared.faults.FileFault.TheVariants.{NotToml}
use Rattle.rx_file.specs.Fields.{is_taken}
use Rattle.rx_file.specs.Arrays.{items_len}
use Rattle.rx_file.specs.SetOf.{file_of}

pub items_len_view : (values : List Value) → items_len (items_view values) ≡ length values
items_len_view [] = refl
items_len_view (value ∷ values) = omega (arith, items_len_view values)

-- the bytes are no text, or a text that is a document or none
pub no_text : (bytes : List ℕ) → ¬ IsUtf8 bytes → file_of bytes ≡ Err NotToml
unfolding file_of
no_text bytes h = rw (false_from_ne_true (is_utf8 bytes) (λ e. h (IsUtf8-from_is_utf8 bytes e))) refl

pub of_text : (bytes text : List ℕ) (file : Members) → text ≡ bytes → IsUtf8 bytes → parse_document text ≡ Some file → file_of bytes ≡ Ok file
unfolding file_of
of_text bytes text file same h e = rw (is_utf8-from_IsUtf8 bytes h, ← same, e) refl

pub no_document : (bytes text : List ℕ) → text ≡ bytes → IsUtf8 bytes → parse_document text ≡ None → file_of bytes ≡ Err NotToml
unfolding file_of
no_document bytes text same h e = rw (is_utf8-from_IsUtf8 bytes h, ← same, e) refl

bool_step : (a b c d : Bool) → ((a || (b || false)) || (c || d)) ≡ ((a || c) || (b || d))
bool_step true b c d = refl
bool_step false true true d = refl
bool_step false true false d = refl
bool_step false false c d = refl

-- one more name
pub repeat_next : (names : List (List ℕ)) (name : List ℕ) → has_repeat (names ++ name ∷ []) ≡ (has_repeat names || is_taken names name)
repeat_next [] name = refl
repeat_next (first ∷ names) name =
    rw (list_any-append (bytes_eq first) names (name ∷ []), repeat_next names name)
    (bool_step (list_any (bytes_eq first) names) (bytes_eq first name) (has_repeat names) (is_taken names name))
