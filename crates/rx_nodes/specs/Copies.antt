-- What a plan writes and trades that copies the nodes before the one that changes.
use Rattle.std.specs.Prelude.{ℕ, suc, ◌+◌, List, [], ◌∷◌, ◌++◌, length, slice_index}
use Rattle.rx_shape.specs.declared.plans.Write.{Write}
use Rattle.rx_shape.specs.declared.plans.Pair.{Pair}
use Rattle.rx_shape.specs.Words.{low_of}
use Rattle.rx_shape.specs.Nodes.{node_word, value_of, next_of, header_word, first_of}

-- the places of nodes that have these words, from this place on, and where they lead
abbrev pub stations : ℕ → List ℕ → List ℕ
stations place [] = []
stations place (word ∷ words) = place ∷ stations (next_of word) words

abbrev pub leads : ℕ → List ℕ → ℕ
leads place [] = place
leads place (word ∷ words) = leads (next_of word) words

-- the values of nodes that have these words
abbrev pub tops : List ℕ → List ℕ
tops [] = []
tops (word ∷ words) = value_of word ∷ tops words

-- where copies of these nodes begin, the first of which stands under this own number. Where there is none it is the end
abbrev pub lead : ℕ → List ℕ → List ℕ → ℕ → ℕ
lead number own [] end = end
lead number own (word ∷ words) end = slice_index own number

-- copies of these nodes under own numbers from this one on, each of which leads to the next one, and the last to the end
abbrev pub copies : ℕ → List ℕ → List ℕ → ℕ → List Write
copies number own [] end = []
copies number own (word ∷ words) end = record { own = number; value = node_word (value_of word) (lead (suc number) own words end) } ∷ copies (suc number) own words end

-- own numbers from this one on become these places
abbrev pub pairs_from : ℕ → List ℕ → List Pair
pairs_from number [] = []
pairs_from number (place ∷ places) = record { own = number; place = place } ∷ pairs_from (suc number) places

-- a header that leads to the copies and to this spare node, the copies, and one more node with this word
abbrev pub path_writes : List ℕ → List ℕ → ℕ → ℕ → ℕ → List Write
path_writes own nodes end spare word =
    record { own = 0; value = header_word (lead 1 own nodes end) spare } ∷ copies 1 own nodes end ++ record { own = length nodes + 1; value = word } ∷ []

-- the old header, the old nodes and one more place are traded
abbrev pub path_pairs : ℕ → ℕ → List ℕ → ℕ → List Pair
path_pairs root head nodes place = pairs_from 0 (low_of root ∷ stations (first_of head) nodes ++ place ∷ [])
