-- What plans write and trade, and words that begin others.
use Rattle.std.proofs.Common.{◌≡◌, ◌≢◌, ℕ, zero, suc, ◌+◌, ◌<◌, ◌≤◌, List, [], ◌∷◌, ◌++◌, length, take, refl, sym, ap, ◌∙◌, arith}
use Rattle.rx_shape.specs.declared.plans.Taken.{Taken}
use Rattle.rx_shape.specs.declared.plans.Write.{Write}
use Rattle.rx_shape.specs.Nodes.{value_of}
use Rattle.rx_shape.specs.Versions.{HasRead, NotWritten}
use Rattle.rx_shape.specs.Asks.{WritesOnce, EachBelow}
use Rattle.rx_nodes.specs.Copies.{tops, copies, pairs_from, path_writes}
use Rattle.rx_nodes.specs.Chains.{Begins}
use Rattle.rx_nodes.proofs.Holding.{words_at}

-- own numbers that follow each other are written once
pub not_more : (own : ℕ) (writes : List Write) (write : Write) → NotWritten own writes → write.own ≢ own → NotWritten own (writes ++ write ∷ [])
not_more own [] write none other = (other, tt)
not_more own (first ∷ writes) write none other = (none.0, not_more own writes write none.1 other)

pub copies_once : (count k : ℕ) (own xs : List ℕ) (end last word : ℕ) (done : List Write) → last ≡ k + length xs → last < count → ((later : ℕ) → k ≤ later → NotWritten later done) → WritesOnce count done (copies k own xs end ++ record { own = last; value = word } ∷ [])
copies_once count k own [] end last word done is below none = (below, none last (omega arith), tt)
copies_once count k own (x ∷ xs) end last word done is below none = (
  omega arith,
  none k (omega arith),
  copies_once count (suc k) own xs end last word (done ++ _ ∷ []) (omega arith) below (λ later from. not_more later done _ (none later (omega arith)) (λ e. omega arith)),
)

pub path_once : (count : ℕ) (own xs : List ℕ) (end spare word : ℕ) → length xs + 1 < count → WritesOnce count [] (path_writes own xs end spare word)
path_once count own xs end spare word few = (omega arith, tt, copies_once count 1 own xs end (length xs + 1) word (_ ∷ []) (omega arith) few (λ later from. ((λ e. omega arith), tt)))

pub pairs_below : (count k : ℕ) (ps : List ℕ) → k + length ps ≤ count → EachBelow count (pairs_from k ps)
pairs_below count k [] few = tt
pairs_below count k (p ∷ ps) few = (omega arith, pairs_below count (suc k) ps (omega arith))

pub read_before : (places words : List ℕ) (rs ts : List Taken) → HasRead places words (rs ++ ts) → HasRead places words rs × HasRead places words ts
read_before places words [] ts h = (tt, h)
read_before places words (r ∷ rs) ts h = let q = read_before places words rs ts h.1 in ((h.0, q.0), q.1)

pub begins_take : (n : ℕ) (xs words : List ℕ) → Begins xs words → Begins (take n xs) words
begins_take zero xs words h = tt
begins_take (suc n) [] words h = tt
begins_take (suc n) (x ∷ xs) [] h = absurd h
begins_take (suc n) (x ∷ xs) (w ∷ words) h = (h.0, begins_take n xs words h.1)

pub begins_few : (xs words : List ℕ) → Begins xs words → length xs ≤ length words
begins_few [] words h = omega arith
begins_few (x ∷ xs) [] h = absurd h
begins_few (x ∷ xs) (w ∷ words) h = let r = begins_few xs words h.1 in omega arith

-- words that begin others are the first of them
pub begins_are : (words : List ℕ) (xs ps qs : List ℕ) → Begins xs (words_at words (ps ++ qs)) → length ps ≡ length xs → words_at words (ps ++ qs) ≡ xs ++ words_at words qs
begins_are words [] [] qs h same = refl
begins_are words [] (p ∷ ps) qs h same = absurd (omega arith)
begins_are words (x ∷ xs) [] qs h same = absurd (omega arith)
begins_are words (x ∷ xs) (p ∷ ps) qs h same = (λ j. sym h.0 j ∷ words_at words (ps ++ qs)) ∙ ap (λ (ys : List ℕ). x ∷ ys) (begins_are words xs ps qs h.1 (omega arith))

pub tops-append : (ys zs : List ℕ) → tops (ys ++ zs) ≡ tops ys ++ tops zs
tops-append [] zs = refl
tops-append (y ∷ ys) zs = ap (λ (vs : List ℕ). value_of y ∷ vs) (tops-append ys zs)
