-- Words that are kept one after the other.
use Rattle.std.proofs.Common.{ℕ, zero, suc, ◌≡◌, ◌<◌, ◌≤◌, ◌+◌, ◌-◌, List, [], ◌∷◌, ◌++◌, length, get_or, slice_get, None, Some, IfSome, Bor, ap, sym, subst, ◌∙◌, arith, length-take-le}
use Rattle.std.proofs.lemmas.Option.{none-some, same_Some, slice_get-get_or}
use Rattle.std.specs.Prelude.{codes}
use Rattle.std.specs.Slice.{IsItemAt}
use Rattle.std.specs.declared.option.Option.{Option}
use Rattle.rx_set.specs.System.{System, task_at}
use Rattle.rx_report.specs.declared.wordings.Long.{Long}
use Rattle.rx_report.specs.declared.wordings.TaskWords.{TaskWords}
use Rattle.rx_report.specs.Wordings.{AreRequests, AreWords, AreWordsOf, IsRequest, IsText, request_text}

-- what was looked up stands at its place
pub looked_up : {X : Type 0} (xs : List X) (place : ℕ) (x : X) → place < length xs → x ≡ get_or xs place x → slice_get xs place ≡ Some x
looked_up xs place x inside read = slice_get-get_or xs place x inside ∙ ap Some (sym read)

-- what holds of each at its place holds with one more
pub each_added : {X : Type 0} (P : ℕ → X → Type 0) (xs : List X) (y : X) → ((place : ℕ) (x : X) → slice_get xs place ≡ Some x → P place x) → P (length xs) y
    → (place : ℕ) (x : X) → slice_get (xs ++ y ∷ []) place ≡ Some x → P place x
each_added P [] y each last zero x at = subst (P zero) (same_Some y x at) last
each_added P [] y each last (suc place) x at = absurd (none-some x at)
each_added P (first ∷ xs) y each last zero x at = each zero x at
each_added P (first ∷ xs) y each last (suc place) x at = each_added (λ n. P (suc n)) xs y (λ n. each (suc n)) last place x at

-- a text that is kept of a line, of which so many bytes count
text_long : (most : ℕ) (bytes : List ℕ) (len : ℕ) (text : List ℕ) → IsText most bytes len text → len ≡ length text
text_long most bytes len text is = sym (length-take-le len bytes (omega (arith, is.few, is.long))) ∙ ap length is.front

pub kept_request : (system : System) (task place : ℕ) (kept : Long) (line : List ℕ) → IsText 192 kept.bytes kept.len line → line ≡ request_text system (record { task = task; number = 0 }) (place + 1) → length line ≤ 181
    → IsRequest system task place kept
kept_request system task place kept line is same few = record { text = rw same at is; few = omega (arith, text_long 192 kept.bytes kept.len line is, few) }

pub kept_words : (system : System) (task : ℕ) (words : TaskWords) (line : List ℕ) → IsText 32 words.name.bytes words.name.len line → line ≡ (task_at system task).name ++ codes " " → length line ≤ 17
    → AreRequests system task words.requests.items → AreWordsOf system task words
kept_words system task words line is same few requests = record { name = rw same at is; short = omega (arith, text_long 32 words.name.bytes words.name.len line is, few); requests = requests }

-- the words of an item that were looked up
pub request_found : (words : List TaskWords) (task item : ℕ) (one : TaskWords) (found : Option (Bor Long)) → slice_get words task ≡ Some one → 1 ≤ item → IsItemAt one.requests.items (item - 1) found
    → IfSome found (λ text. (x : TaskWords) × (slice_get words task ≡ Some x) × (1 ≤ item) × (slice_get x.requests.items (item - 1) ≡ Some text.now))
request_found words task item one None at some is = tt
request_found words task item one (Some text) at some is = (one, at, some, looked_up one.requests.items (item - 1) text.now is.3.0 is.1)

-- the words of an item that were found are those of the item
pub found_request : (system : System) (words : List TaskWords) (task item : ℕ) (kept : Long) → AreWords system words → (x : TaskWords) × (slice_get words task ≡ Some x) × (1 ≤ item) × (slice_get x.requests.items (item - 1) ≡ Some kept)
    → IsText 192 kept.bytes kept.len (request_text system (record { task = task; number = 0 }) item) × (kept.len ≤ 181)
found_request system words task item kept are found =
    let one = (are task found.0 found.1).requests (item - 1) kept found.3 in
    let same : item - 1 + 1 ≡ item = omega (arith, found.2) in
    (rw same at one.text, one.few)
