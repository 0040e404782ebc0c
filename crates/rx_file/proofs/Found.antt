-- The places of names, and the items of jobs that are named.
use Rattle.std.proofs.Common.{◌≡◌, ◌<◌, ◌≤◌, ◌∙◌, ℕ, suc, ◌+◌, Bool, true, false, not, ◌||◌, List, [], ◌∷◌, ◌++◌, length, map, get_or, refl, sym, ap, arith, Option, Some, None, is_some, cond, nat_lt, eqb, rules}
use Rattle.std.specs.List.{list_any, position_or_len}
use Rattle.std.specs.Str.{bytes_eq}
use Rattle.std.proofs.lemmas.Bool.{lt-ltb}
use Rattle.std.proofs.lemmas.Bool.Decides.{nat_tests}
use Rattle.std.proofs.lemmas.Grind.{common_steps}
use Rattle.std.proofs.lemmas.List.{length-map, map-append, get_or-map}
use Rattle.std.proofs.lemmas.List.Folds.{position_or_len_push}
use Rattle.std.proofs.lemmas.List.Sums.{prefix_len-le-length}
use Rattle.std.proofs.lemmas.Slice.Eq.{bytes_eq-Decides}
use Rattle.std.specs.Map.{update}
use Rattle.rx_seq.specs.History.{no_part, part_at}
use Rattle.rx_set.specs.declared.objects.Object.{Object}
use Rattle.rx_set.specs.declared.tasks.Task.{Task}
use Rattle.rx_set.specs.System.{TaskRow, part_of_row, no_task}
use Rattle.rx_set.specs.View.{object_row, row_of}
use Rattle.rx_file.specs.declared.names.NameIndex.{NameIndex}
use Rattle.rx_file.specs.Fields.{place_of, is_taken}
use Rattle.rx_file.specs.Index.{found, IsIndex}

some_cond : (b : Bool) (place : ℕ) → is_some (cond b (Some place) None) ≡ b
some_cond true place = refl
some_cond false place = refl

one_more : (here : Bool) (place count : ℕ) → nat_lt (cond (not here) (1 + place) 0) (suc count) ≡ (here || nat_lt place count)
one_more true place count = lt-ltb 0 (suc count) (omega arith)
one_more false place count = grind (arith, nat_tests)

any_before_end : (p : List ℕ → Bool) (names : List (List ℕ)) → list_any p names ≡ nat_lt (position_or_len p names) (length names)
any_before_end p [] = refl
any_before_end p (name ∷ names) = rw (one_more (p name) (position_or_len p names) (length names), any_before_end p names) refl

-- a name is taken where it has a place
pub taken_has_place : (names : List (List ℕ)) (name : List ℕ) → is_taken names name ≡ is_some (place_of names name)
taken_has_place names name =
    rw (some_cond (nat_lt (position_or_len (λ other. bytes_eq other name) names) (length names)) (position_or_len (λ other. bytes_eq other name) names))
    (any_before_end (λ other. bytes_eq other name) names)

none_if : (place : Option ℕ) → is_some place ≡ false → place ≡ None
none_if None h = refl
none_if (Some place) h = cc

pub none_is_no_place : (names : List (List ℕ)) (name : List ℕ) → is_taken names name ≡ false → place_of names name ≡ None
none_is_no_place names name free = none_if (place_of names name) (sym (taken_has_place names name) ∙ free)

place_within : (b : Bool) (place count : ℕ) → b ≡ nat_lt place count → (n : ℕ) → cond b (Some place) None ≡ Some n → n < count
place_within true place count e n h = grind (arith, nat_tests)
place_within false place count e n h = cc

-- a place is one of a name
pub place_bound : (names : List (List ℕ)) (name : List ℕ) (n : ℕ) → place_of names name ≡ Some n → n < length names
place_bound names name n h =
    place_within (nat_lt (position_or_len (λ other. bytes_eq other name) names) (length names)) (position_or_len (λ other. bytes_eq other name) names) (length names) refl n h

-- the place after one name more, which is at the end if it is at all
push_place : (here : Bool) (t n : ℕ) → t ≤ n → (here ≡ true → nat_lt t n ≡ false)
    → cond (nat_lt (cond (eqb t n) (n + cond here 0 1) t) (n + 1)) (Some (cond (eqb t n) (n + cond here 0 1) t)) None
    ≡ cond here (Some n) (cond (nat_lt t n) (Some t) None)
push_place true t n bound last = grind (arith, nat_tests, last refl)
push_place false t n bound last = grind (arith, nat_tests)

none_cond : (b : Bool) (place : ℕ) → cond b (Some place) None ≡ None → b ≡ false
none_cond true place h = cc
none_cond false place h = refl

same_text : (a b : List ℕ) → bytes_eq a b ≡ true → a ≡ b
same_text a b h = search (rules, bytes_eq-Decides a b)

last_if : (names : List (List ℕ)) (name other : List ℕ) → bytes_eq name other ≡ true → place_of names name ≡ None
    → nat_lt (position_or_len (λ key. bytes_eq key other) names) (length names) ≡ false
last_if names name other h new =
    rw (← same_text name other h) (none_cond (nat_lt (position_or_len (λ key. bytes_eq key name) names) (length names)) (position_or_len (λ key. bytes_eq key name) names) new)

length_next : (names : List (List ℕ)) (name : List ℕ) → length (names ++ name ∷ []) ≡ length names + 1
length_next names name = grind (arith, common_steps)

-- the place of a name among these and one more
place_next : (names : List (List ℕ)) (name other : List ℕ) (same : Bool) → same ≡ bytes_eq name other → place_of names name ≡ None
    → place_of (names ++ name ∷ []) other ≡ cond same (Some (length names)) (place_of names other)
place_next names name other same e new =
    let p : List ℕ → Bool = λ key. bytes_eq key other in
    let last : same ≡ true → nat_lt (position_or_len p names) (length names) ≡ false = λ h. last_if names name other (sym e ∙ h) new in
    rw (position_or_len_push p names name, ← e, length_next names name)
    (push_place same (position_or_len p names) (length names) (prefix_len-le-length (λ key. not (p key)) names) last)

-- an index with one name more
pub index_next : (old new : NameIndex) (names : List (List ℕ)) (name : List ℕ) (place : ℕ)
    → ((other : List ℕ) → found new other ≡ update bytes_eq (found old) name (Some place) other) → IsIndex old names → place_of names name ≡ None
    → place ≡ length names → IsIndex new (names ++ name ∷ [])
index_next old new names name place updates index free e other =
    updates other ∙ rw (index other, e) (sym (place_next names name other (bytes_eq name other) refl free))

-- the part of an object, and the items of a task
pub part_of_object : (objects : List Object) (place : ℕ) (d : Object) → place < length objects
    → part_at (map part_of_row (map object_row objects)) place ≡ (get_or objects place d).part
part_of_object objects place d within =
    get_or-map part_of_row (map object_row objects) place (object_row d) no_part (simp length-map within)
    ∙ ap part_of_row (get_or-map object_row objects place d (object_row d) within)

pub items_of_task : (tasks : List Task) (place : ℕ) (d : Task) → place < length tasks
    → (get_or (map row_of tasks) place no_task).items ≡ (get_or tasks place d).body
items_of_task tasks place d within = ap (λ (row : TaskRow). row.items) (get_or-map row_of tasks place d no_task within)

-- an index of the names of some rows, with one row more
pub index_rows : {A X : Type 0} (name_of : X → List ℕ) (show : A → X) (index : NameIndex) (rows more : List A) (row : A) (name : List ℕ)
    → more ≡ rows ++ row ∷ [] → name_of (show row) ≡ name → IsIndex index (map name_of (map show rows) ++ name ∷ [])
    → IsIndex index (map name_of (map show more))
index_rows name_of show index rows more row name e same h other =
    rw e (rw (map-append show rows (row ∷ []), map-append name_of (map show rows) (show row ∷ []), same) (h other))
