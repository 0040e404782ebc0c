-- Worked rows of a queue and a list of at most three numbers that hold 5 and 6: where the nodes stand, what the plans of
-- calls write and trade, and what a walk tells.
use Rattle.std.specs.Prelude.{◌≡◌, refl, true, false, [], ◌∷◌, List, ℕ}
use Rattle.rx_seq.specs.declared.calls.Call.TheVariants.{Put, Take, Insert, Remove, Has}
use Rattle.rx_seq.specs.declared.replies.Reply.TheVariants.{Done, Added, Removed, Yes}
use Rattle.rx_shape.specs.declared.plans.Want.TheVariants.{Read, Ready, Stale}
use Rattle.rx_shape.specs.Nodes.{no_place, node_word, header_word, first_of, spare_of}
use Rattle.rx_nodes.specs.declared.steps.Step.TheVariants.{First, Along, Spare, Broken, Kept, Adding, Removing}
use Rattle.rx_nodes.specs.Copies.{stations, leads, tops, lead, path_writes, path_pairs}
use Rattle.rx_nodes.specs.Chains.{Begins, added_value, added_reply, removed_reply, is_passed, passed_by, taken_as, want_as}

-- a header at place 10, the nodes of 5 and 6 at 11 and 12, and a spare one at 13; own places stand at 20 to 23
abbrev head : ℕ
head = header_word 11 13

abbrev nodes : List ℕ
nodes = node_word 5 12 ∷ node_word 6 no_place ∷ []

abbrev own : List ℕ
own = 20 ∷ 21 ∷ 22 ∷ 23 ∷ []

pub head_is : head ≡ 184549389
head_is = refl

pub places_are : stations (first_of head) nodes ≡ 11 ∷ 12 ∷ []
places_are = refl

pub last_leads : leads (first_of head) nodes ≡ 16777215
last_leads = refl

pub numbers_are : tops nodes ≡ 5 ∷ 6 ∷ []
numbers_are = refl

-- a `Put` of 7 copies both nodes, and the new one stands in the own place 3. No spare node is left
pub put_writes : path_writes own nodes 23 no_place (node_word 7 no_place)
    ≡ record { own = 0; value = header_word 21 no_place } ∷ record { own = 1; value = node_word 5 22 } ∷ record { own = 2; value = node_word 6 23 } ∷ record { own = 3; value = node_word 7 no_place } ∷ []
put_writes = refl

pub put_pairs : path_pairs 10 head nodes (spare_of head)
    ≡ record { own = 0; place = 10 } ∷ record { own = 1; place = 11 } ∷ record { own = 2; place = 12 } ∷ record { own = 3; place = 13 } ∷ []
put_pairs = refl

-- a `Take` copies nothing: the header leads to the second node, and to a spare one in the own place 1
pub take_writes : path_writes own [] 12 21 (node_word 0 13) ≡ record { own = 0; value = header_word 12 21 } ∷ record { own = 1; value = node_word 0 13 } ∷ []
take_writes = refl

pub take_pairs : path_pairs 10 head [] 11 ≡ record { own = 0; place = 10 } ∷ record { own = 1; place = 11 } ∷ []
take_pairs = refl

-- a `Remove` of 6 copies the node of 5, which then leads to none
pub remove_writes : path_writes own (node_word 5 12 ∷ []) no_place 22 (node_word 0 13)
    ≡ record { own = 0; value = header_word 21 22 } ∷ record { own = 1; value = node_word 5 no_place } ∷ record { own = 2; value = node_word 0 13 } ∷ []
remove_writes = refl

-- the copies begin at the first own place after the header's, and where there is none, at the end
pub copies_begin : lead 1 own nodes 12 ≡ 21
copies_begin = refl

pub none_begin : lead 1 own [] 12 ≡ 12
none_begin = refl

-- numbers and replies
pub put_adds : added_value (Put 7) ≡ 7
put_adds = refl

pub put_reply : added_reply (Put 7) 2 ≡ Done 3
put_reply = refl

pub insert_adds : added_value (Insert 4) ≡ 4
insert_adds = refl

pub insert_reply : added_reply (Insert 4) 0 ≡ Added
insert_reply = refl

pub take_reply : removed_reply Take (node_word 5 12) ≡ Done 5
take_reply = refl

pub remove_reply : removed_reply (Remove 5) (node_word 5 12) ≡ Removed
remove_reply = refl

-- a list's call passes by smaller numbers, a `Put` by all, and a `Take` by none
pub smaller_passed : is_passed (Has 6) 5 ≡ true
smaller_passed = refl

pub same_not_passed : is_passed (Has 6) 6 ≡ false
same_not_passed = refl

pub put_passes : is_passed (Put 7) 4294967295 ≡ true
put_passes = refl

pub take_stops : is_passed Take 0 ≡ false
take_stops = refl

-- words that begin others, and words that do not
pub one_begins : Begins (node_word 5 12 ∷ []) nodes
one_begins = (refl, tt)

-- a walk reads the header, the nodes, and the spare node where a number is added
pub header_wanted : want_as First 10 0 ≡ Read 10
header_wanted = refl

pub node_wanted : want_as (Along 11) 10 head ≡ Read 11
node_wanted = refl

pub spare_wanted : want_as (Spare 2 16777215) 10 head ≡ Read 13
spare_wanted = refl

pub all_read : want_as (Adding 2 16777215 16777215) 10 head ≡ Ready
all_read = refl

pub told_early : want_as (Kept Yes) 10 head ≡ Ready
told_early = refl

pub taken_out : want_as Removing 10 head ≡ Ready
taken_out = refl

pub none_has_them : want_as Broken 10 head ≡ Stale
none_has_them = refl

pub words_read : taken_as (Adding 2 16777215 16777215) 10 head nodes
    ≡ record { place = 10; word = head } ∷ record { place = 11; word = node_word 5 12 } ∷ record { place = 12; word = node_word 6 no_place } ∷ record { place = 13; word = 16777215 } ∷ []
words_read = refl

-- a `Put` passes by all numbers, a `Take` by none, and a list's call by the smaller ones
pub put_passes_all : passed_by (Put 7) (5 ∷ 6 ∷ []) ≡ 2
put_passes_all = refl

pub take_passes_none : passed_by Take (5 ∷ 6 ∷ []) ≡ 0
take_passes_none = refl

pub insert_passes_one : passed_by (Insert 6) (5 ∷ 6 ∷ []) ≡ 1
insert_passes_one = refl

pub remove_passes_two : passed_by (Remove 9) (5 ∷ 6 ∷ []) ≡ 2
remove_passes_two = refl
