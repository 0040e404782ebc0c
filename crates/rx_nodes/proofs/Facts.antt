-- What headers and nodes tell of the versions that have them.
use Rattle.std.proofs.Common.{◌≡◌, ◌≢◌, ℕ, zero, suc, ◌+◌, ◌-◌, ◌<◌, ◌≤◌, true, false, ne_eqb, eq-eqb, List, [], ◌∷◌, ◌++◌, length, take, drop, refl, sym, ap, ◌∙◌, subst, arith}
use Rattle.std.specs.Prelude.{slice_index, ◌==◌}
use Rattle.std.specs.List.{All}
use Rattle.std.proofs.lemmas.Bool.{lt-ltb, le-ltb}
use Rattle.std.proofs.lemmas.List.{length-append}
use Rattle.std.proofs.lemmas.List.Elements.{All-from_get_or}
use Rattle.std.proofs.Math.Seq.{get_or-append_seam}
use mathlib.Core.Logic.{dite}
use native.Mathlib.Decide.{ℕ_discrete}
use Rattle.rx_seq.specs.declared.kinds.Kind.{Kind}
use Rattle.rx_seq.specs.declared.kinds.Kind.TheVariants.{Cell, Queue, Registers, List as Ordered}
use Rattle.rx_seq.specs.declared.calls.Call.TheVariants.{Put, Take, Insert, Remove, Has}
use Rattle.rx_seq.specs.declared.replies.Reply.TheVariants.{Done, Full, Empty, Added, Present, Removed, Absent, Yes, No}
use Rattle.rx_seq.specs.Table.{answers, has_number, with_number, without_number, most_value}
use Rattle.rx_seq.specs.States.{IsValue, IsStateBy}
use Rattle.rx_seq.proofs.Ordered.{Rises, rises_head, rises_tail, has_number_at, without_greater}
use Rattle.rx_shape.specs.declared.homes.Home.{Home}
use Rattle.rx_shape.specs.Nodes.{no_place, first_of, spare_of, value_of, next_of}
use Rattle.rx_shape.specs.Forms.{node, form_of, InRange}
use Rattle.rx_shape.proofs.Times.{times_here}
use Rattle.rx_nodes.specs.Copies.{stations, leads, tops}
use Rattle.rx_nodes.specs.Chains.{IsChain, IsHeld, Begins, HaveNone, IsKept, IsAddition, IsRemoval, IsBelow}
use Rattle.rx_nodes.proofs.Paths.{length-tops}
use Rattle.rx_nodes.proofs.Copying.{tops-append}

-- words that begin others
pub begins_split : (xs ws : List ℕ) → Begins xs ws → ws ≡ xs ++ drop (length xs) ws
begins_split [] ws h = refl
begins_split (x ∷ xs) [] h = absurd h
begins_split (x ∷ xs) (w ∷ ws) h = (λ j. sym h.0 j ∷ ws) ∙ ap (λ (ys : List ℕ). x ∷ ys) (begins_split xs ws h.1)

begins_whole : (xs zs : List ℕ) → Begins xs (xs ++ zs)
begins_whole [] zs = tt
begins_whole (x ∷ xs) zs = (refl, begins_whole xs zs)

-- a chain that begins with nodes goes on where they lead
chain_rest : (home : Home) (p : ℕ) (xs zs : List ℕ) → IsChain home p (xs ++ zs) → IsChain home (leads p xs) zs
chain_rest home p [] zs h = h
chain_rest home p (x ∷ xs) zs h = chain_rest home (next_of x) xs zs (record { inside = λ q at. h.inside q (omega arith); end = h.end })

-- what leads to none is empty, and what does not is not
module _ (home : Home) (few : home.first + home.count ≤ no_place) where
  pub chain_none : (p : ℕ) (ws : List ℕ) → IsChain home p ws → p ≡ no_place → ws ≡ []
  chain_none p [] h e = refl
  chain_none p (w ∷ ws) h e = absurd (let r = (h.inside p (let t = times_here p (stations (next_of w) ws) in omega arith)).below in omega arith)

  pub chain_some : (p : ℕ) (ws : List ℕ) → IsChain home p ws → p ≢ no_place → 0 < length ws
  chain_some p [] h ne = absurd (ne h.end)
  chain_some p (w ∷ ws) h ne = omega arith

  pub chain_here : (p : ℕ) (ws : List ℕ) → IsChain home p ws → p ≢ no_place → InRange home p
  chain_here p [] h ne = absurd (ne h.end)
  chain_here p (w ∷ ws) h ne = h.inside p (let t = times_here p (stations (next_of w) ws) in omega arith)

  pub chain_small : (p : ℕ) (ws : List ℕ) → IsChain home p ws → p ≤ no_place
  chain_small p ws h = dite (ℕ_discrete p no_place) (λ e. omega arith) (λ ne. let r = (chain_here p ws h ne).below in omega arith)

  -- the nodes of a version after those that were read
  module _ (head : ℕ) (nodes ws ss : List ℕ) (held : IsHeld home head ws ss) (begins : Begins nodes ws) where
    abbrev later : List ℕ
    later = drop (length nodes) ws

    pub ws_are : ws ≡ nodes ++ later
    ws_are = begins_split nodes ws begins

    pub rest : IsChain home (leads (first_of head) nodes) later
    rest = chain_rest home (first_of head) nodes later (subst (IsChain home (first_of head)) ws_are held.nodes)

    pub length_ws : length ws ≡ length nodes + length later
    length_ws = ap length ws_are ∙ length-append nodes later

    pub all_read : leads (first_of head) nodes ≡ no_place → ws ≡ nodes
    all_read e = ws_are ∙ ap (λ (zs : List ℕ). nodes ++ zs) (chain_none (leads (first_of head) nodes) later rest e) ∙ no_more nodes
      where
        no_more : (ys : List ℕ) → ys ++ [] ≡ ys
        no_more [] = refl
        no_more (y ∷ ys) = ap (λ (zs : List ℕ). y ∷ zs) (no_more ys)

    pub no_spare : spare_of head ≡ no_place → length ws ≡ home.part.cap
    no_spare e = let z = ap length (chain_none (spare_of head) ss held.spares e) in let a = held.all in omega arith

    pub some_spare : spare_of head ≢ no_place → length ws < home.part.cap
    some_spare ne = let z = chain_some (spare_of head) ss held.spares ne in let a = held.all in omega arith

-- no version has these
module _ (home : Home) (few : home.first + home.count ≤ no_place) (head : ℕ) (nodes : List ℕ) where
  pub none_header : 72057594037927936 ≤ head → HaveNone home head nodes
  none_header great ws ss held begins = let s = chain_small home few (first_of head) ws held.nodes in omega arith

  pub none_place : leads (first_of head) nodes ≢ no_place → (InRange home (leads (first_of head) nodes) → ⊥) → HaveNone home head nodes
  none_place ne out ws ss held begins = out (chain_here home few (leads (first_of head) nodes) (drop (length nodes) ws) (rest home few head nodes ws ss held begins) ne)

  pub none_spare : spare_of head ≢ no_place → (InRange home (spare_of head) → ⊥) → HaveNone home head nodes
  none_spare ne out ws ss held begins = out (chain_here home few (spare_of head) ss held.spares ne)

  pub none_long : leads (first_of head) nodes ≢ no_place → home.part.cap ≤ length nodes → HaveNone home head nodes
  none_long ne long ws ss held begins =
      let s = chain_some home few (leads (first_of head) nodes) (drop (length nodes) ws) (rest home few head nodes ws ss held begins) ne in
      let l = length_ws home few head nodes ws ss held begins in let a = held.all in omega arith

  pub none_full : leads (first_of head) nodes ≢ no_place → spare_of head ≢ no_place → home.part.cap ≤ length nodes + 1 → HaveNone home head nodes
  none_full ne spare long ws ss held begins =
      let s = chain_some home few (leads (first_of head) nodes) (drop (length nodes) ws) (rest home few head nodes ws ss held begins) ne in
      let l = length_ws home few head nodes ws ss held begins in let a = some_spare home few head nodes ws ss held begins spare in omega arith

-- the values of a state in node form, and the order of a list
state_values : (kind : Kind) (cap : ℕ) (state : List ℕ) → form_of kind ≡ node → IsStateBy kind cap state → All IsValue state
state_values Cell cap state form h = cc
state_values Queue cap state form h = h.values
state_values Ordered cap state form h = h.values
state_values Registers cap state form h = cc

module _ (home : Home) (form : form_of home.part.kind ≡ node) (head : ℕ) where
  pub none_great : (xs : List ℕ) (w : ℕ) → 72057594037927936 ≤ w → HaveNone home head (xs ++ w ∷ [])
  none_great xs w great ws ss held begins = let v = value_at xs ws begins (state_values home.part.kind home.part.cap (tops ws) form held.state) in omega arith
    where
      value_at : (ys zs : List ℕ) → Begins (ys ++ w ∷ []) zs → All IsValue (tops zs) → value_of w ≤ most_value
      value_at [] [] b all = absurd b
      value_at [] (z ∷ zs) b all = subst (λ (x : ℕ). value_of x ≤ most_value) (sym b.0) (all 0 0 (omega arith))
      value_at (y ∷ ys) [] b all = absurd b
      value_at (y ∷ ys) (z ∷ zs) b all = value_at ys zs b.1 (λ i d below. all (suc i) d (omega arith))

-- numbers of which the first are below one, and the others above
pub with_apart : (k : ℕ) (xs zs : List ℕ) → ((i : ℕ) → i < length xs → slice_index xs i < k) → ((i : ℕ) → i < length zs → k < slice_index zs i) → with_number k (xs ++ zs) ≡ xs ++ k ∷ zs
with_apart k [] [] below above = refl
with_apart k [] (z ∷ zs) below above = rw (lt-ltb k z (above 0 (omega arith))) refl
with_apart k (x ∷ xs) zs below above =
    let here : x < k = below 0 (omega arith) in
    rw (le-ltb k x (omega arith)) (ap (λ (ys : List ℕ). x ∷ ys) (with_apart k xs zs (λ i h. below (suc i) (omega arith)) above))

pub has_none_apart : (k : ℕ) (xs zs : List ℕ) → ((i : ℕ) → i < length xs → slice_index xs i < k) → ((i : ℕ) → i < length zs → k < slice_index zs i) → has_number k (xs ++ zs) ≡ false
has_none_apart k [] [] below above = refl
has_none_apart k [] (z ∷ zs) below above = let a = above 0 (omega arith) in rw (ne_eqb z k (λ e. omega arith)) (has_none_apart k [] zs below (λ i h. above (suc i) (omega arith)))
has_none_apart k (x ∷ xs) zs below above = let a = below 0 (omega arith) in rw (ne_eqb x k (λ e. omega arith)) (has_none_apart k xs zs (λ i h. below (suc i) (omega arith)) above)

pub has_here : (k : ℕ) (xs zs : List ℕ) → has_number k (xs ++ k ∷ zs) ≡ true
has_here k xs zs = has_number_at k (xs ++ k ∷ zs) (length xs) (let l = length-append xs (k ∷ zs) in omega arith) (get_or-append_seam xs k zs 0)

pub without_apart : (k : ℕ) (xs zs : List ℕ) → ((i : ℕ) → i < length xs → slice_index xs i < k) → ((i : ℕ) → i < length zs → k < slice_index zs i) → without_number k (xs ++ k ∷ zs) ≡ xs ++ zs
without_apart k [] zs below above = rw (eq-eqb k k refl) (without_greater k zs (All-from_get_or (λ m. k < m) zs 0 (λ i l. above i l)))
without_apart k (x ∷ xs) zs below above = let a = below 0 (omega arith) in rw (ne_eqb x k (λ e. omega arith)) (ap (λ (ys : List ℕ). x ∷ ys) (without_apart k xs zs (λ i h. below (suc i) (omega arith)) above))

-- the values of nodes
pub tops_at : (xs : List ℕ) (i : ℕ) → i < length xs → slice_index (tops xs) i ≡ value_of (slice_index xs i)
tops_at [] i below = absurd (omega arith)
tops_at (x ∷ xs) zero below = refl
tops_at (x ∷ xs) (suc i) below = tops_at xs i (omega arith)

pub below_tops : (k : ℕ) (xs : List ℕ) → ((n : ℕ) → n < length xs → value_of (slice_index xs n) < k) → (i : ℕ) → i < length (tops xs) → slice_index (tops xs) i < k
below_tops k xs below i there = let l = length-tops xs in let t = tops_at xs i (omega arith) in let b = below i (omega arith) in omega arith

rises_later : (xs zs : List ℕ) → Rises (xs ++ zs) → Rises zs
rises_later [] zs h = h
rises_later (x ∷ xs) zs h = rises_later xs zs (rises_tail x (xs ++ zs) h)

pub above_later : (k : ℕ) (xs : List ℕ) (z : ℕ) (zs : List ℕ) → Rises (xs ++ z ∷ zs) → k < z → (i : ℕ) → i < length (z ∷ zs) → k < slice_index (z ∷ zs) i
above_later k xs z zs up above zero there = above
above_later k xs z zs up above (suc i) there = let h = rises_head z zs (rises_later xs (z ∷ zs) up) i 0 (omega arith) in omega arith

list_rises : (kind : Kind) (cap : ℕ) (state : List ℕ) → kind ≡ Ordered → IsStateBy kind cap state → Rises state
list_rises Cell cap state e h = cc
list_rises Queue cap state e h = cc
list_rises Ordered cap state e h = h.rising
list_rises Registers cap state e h = cc

-- a queue
module _ (home : Home) (few : home.first + home.count ≤ no_place) (head : ℕ) (nodes : List ℕ) where
  pub full_kept : (v : ℕ) → spare_of head ≡ no_place → IsKept home (Put v) head nodes Full
  full_kept v none ws ss held begins =
      let l = no_spare home few head nodes ws ss held begins none in let t = length-tops ws in
      rw (eq-eqb (length (tops ws)) home.part.cap (omega arith)) refl

  pub empty_kept : first_of head ≡ no_place → IsKept home Take head nodes Empty
  empty_kept none ws ss held begins = let e = chain_none home few (first_of head) ws held.nodes none in rw e refl

  take_all : (xs : List ℕ) → take (length xs) xs ≡ xs
  take_all [] = refl
  take_all (x ∷ xs) = ap (λ (ys : List ℕ). x ∷ ys) (take_all xs)

  pub put_added : (v : ℕ) → leads (first_of head) nodes ≡ no_place → spare_of head ≢ no_place → length nodes < home.part.cap → IsAddition home (Put v) head nodes (length nodes) no_place
  put_added v end spare room = record {
    room = room;
    among = omega arith;
    leads_to = ap (leads (first_of head)) (take_all nodes) ∙ end;
    small = omega arith;
    passed = record { each = λ n there. refl };
    loud = refl;
    does = λ later ss held begins.
        let xs_are = take_all nodes in
        let held_is : IsHeld home head (nodes ++ later) ss = subst (λ (ys : List ℕ). IsHeld home head (ys ++ later) ss) xs_are held in
        let none : later ≡ [] = chain_none home few (leads (first_of head) nodes) later (chain_rest home (first_of head) nodes later held_is.nodes) end in
        let some = some_spare home few head nodes (nodes ++ later) ss held_is (begins_whole nodes later) spare in
        let t = length-tops (nodes ++ later) in
        let l = length-append nodes later in
        let full : (length (tops (nodes ++ later)) == home.part.cap) ≡ false = ne_eqb (length (tops (nodes ++ later))) home.part.cap (λ e. omega arith) in
        rw (xs_are, full, none) (λ j. answers (tops (no_more nodes j) ++ v ∷ []) (Done (length-tops (no_more nodes j) j + 1)));
  }
    where
      no_more : (ys : List ℕ) → ys ++ [] ≡ ys
      no_more [] = refl
      no_more (y ∷ ys) = ap (λ (zs : List ℕ). y ∷ zs) (no_more ys)

  -- the first node is taken out
  pub took : (word : ℕ) → nodes ≡ word ∷ [] → 1 ≤ home.part.cap → IsRemoval home Take head nodes
  took word is least = rw is (record {
    some = omega arith;
    few = least;
    passed = record { each = λ n there. absurd (omega arith) };
    loud = refl;
    does = λ later ss held. refl;
  })

-- an ordered list, of whose nodes so many are below a number
module _ (home : Home) (kind : home.part.kind ≡ Ordered) (few : home.first + home.count ≤ no_place) (head : ℕ) (k : ℕ) where
  state_rises : (ws ss : List ℕ) → IsHeld home head ws ss → Rises (tops ws)
  state_rises ws ss held = list_rises home.part.kind home.part.cap (tops ws) kind held.state

  -- all nodes are below the number
  module _ (nodes : List ℕ) (below : (n : ℕ) → n < length nodes → value_of (slice_index nodes n) < k) (end : leads (first_of head) nodes ≡ no_place) where
    absent : (ws ss : List ℕ) → IsHeld home head ws ss → Begins nodes ws → has_number k (tops ws) ≡ false
    absent ws ss held begins =
        let e = all_read home few head nodes ws ss held begins end in
        subst (λ (ys : List ℕ). has_number k (tops ys) ≡ false) (sym e)
        (subst (λ (ys : List ℕ). has_number k ys ≡ false) (no_more (tops nodes)) (has_none_apart k (tops nodes) [] (below_tops k nodes below) (λ i h. absurd (omega arith))))
      where
        no_more : (ys : List ℕ) → ys ++ [] ≡ ys
        no_more [] = refl
        no_more (y ∷ ys) = ap (λ (zs : List ℕ). y ∷ zs) (no_more ys)

    pub end_absent : IsKept home (Remove k) head nodes Absent
    end_absent ws ss held begins = rw (absent ws ss held begins) refl

    pub end_no : IsKept home (Has k) head nodes No
    end_no ws ss held begins = rw (absent ws ss held begins) refl

    pub end_full : spare_of head ≡ no_place → IsKept home (Insert k) head nodes Full
    end_full none ws ss held begins =
        let l = no_spare home few head nodes ws ss held begins none in let t = length-tops ws in
        rw (absent ws ss held begins, eq-eqb (length (tops ws)) home.part.cap (omega arith)) refl

  -- the last node has the number
  module _ (xs : List ℕ) (w : ℕ) (below : (n : ℕ) → n < length xs → value_of (slice_index xs n) < k) (is : value_of w ≡ k) where
    state_of : (ws ss : List ℕ) → IsHeld home head ws ss → Begins (xs ++ w ∷ []) ws → tops ws ≡ tops xs ++ k ∷ tops (drop (length (xs ++ w ∷ [])) ws)
    state_of ws ss held begins =
        ap tops (begins_split (xs ++ w ∷ []) ws begins) ∙ tops-append (xs ++ w ∷ []) (drop (length (xs ++ w ∷ [])) ws)
        ∙ ap (λ (ys : List ℕ). ys ++ tops (drop (length (xs ++ w ∷ [])) ws)) (tops-append xs (w ∷ []))
        ∙ seam (tops xs) (tops (drop (length (xs ++ w ∷ [])) ws)) (value_of w) ∙ ap (λ (v : ℕ). tops xs ++ v ∷ tops (drop (length (xs ++ w ∷ [])) ws)) is
      where
        seam : (ys zs : List ℕ) (y : ℕ) → (ys ++ y ∷ []) ++ zs ≡ ys ++ y ∷ zs
        seam [] zs y = refl
        seam (x ∷ ys) zs y = ap (λ (us : List ℕ). x ∷ us) (seam ys zs y)

    there : (ws ss : List ℕ) → IsHeld home head ws ss → Begins (xs ++ w ∷ []) ws → has_number k (tops ws) ≡ true
    there ws ss held begins = subst (λ (ys : List ℕ). has_number k ys ≡ true) (sym (state_of ws ss held begins)) (has_here k (tops xs) (tops (drop (length (xs ++ w ∷ [])) ws)))

    pub found_present : IsKept home (Insert k) head (xs ++ w ∷ []) Present
    found_present ws ss held begins = rw (there ws ss held begins) refl

    pub found_yes : IsKept home (Has k) head (xs ++ w ∷ []) Yes
    found_yes ws ss held begins = rw (there ws ss held begins) refl

    pub found_removed : length xs + 1 ≤ home.part.cap → IsRemoval home (Remove k) head (xs ++ w ∷ [])
    found_removed room =
        let l = length-append xs (w ∷ []) in
        record {
          some = omega arith;
          few = omega arith;
          passed = record { each = subst (λ (ys : List ℕ). (n : ℕ) → n < length ys → IsBelow (Remove k) (value_of (slice_index ys n))) (sym (front_is xs)) (λ n there. lt-ltb (value_of (slice_index xs n)) k (below n there)) };
          loud = refl;
          does = λ later ss held.
              let begins = begins_whole (xs ++ w ∷ []) later in
              let same = drop_all (xs ++ w ∷ []) later in
              let state : tops ((xs ++ w ∷ []) ++ later) ≡ tops xs ++ k ∷ tops later = state_of ((xs ++ w ∷ []) ++ later) ss held begins ∙ ap (λ (ys : List ℕ). tops xs ++ k ∷ tops ys) same in
              let up : Rises (tops xs ++ k ∷ tops later) = subst Rises state (state_rises ((xs ++ w ∷ []) ++ later) ss held) in
              let front : take (length (xs ++ w ∷ []) - 1) (xs ++ w ∷ []) ≡ xs = ap (λ (n : ℕ). take n (xs ++ w ∷ [])) (let e : length (xs ++ w ∷ []) - 1 ≡ length xs = omega arith in e) ∙ take_front xs in
              rw (there ((xs ++ w ∷ []) ++ later) ss held begins, front)
              (ap (λ (ys : List ℕ). answers ys Removed) (ap (without_number k) state ∙ without_apart k (tops xs) (tops later) (below_tops k xs below) (λ i h. let a = rises_head k (tops later) (rises_later (tops xs) (k ∷ tops later) up) i 0 h in omega arith)));
        }
      where
        drop_all : (ys zs : List ℕ) → drop (length ys) (ys ++ zs) ≡ zs
        drop_all [] zs = refl
        drop_all (y ∷ ys) zs = drop_all ys zs

        take_front : (ys : List ℕ) → take (length ys) (ys ++ w ∷ []) ≡ ys
        take_front [] = refl
        take_front (y ∷ ys) = ap (λ (zs : List ℕ). y ∷ zs) (take_front ys)

        front_is : (ys : List ℕ) → take (length (ys ++ w ∷ []) - 1) (ys ++ w ∷ []) ≡ ys
        front_is ys = let l = length-append ys (w ∷ []) in ap (λ (n : ℕ). take n (ys ++ w ∷ [])) (let e : length (ys ++ w ∷ []) - 1 ≡ length ys = omega arith in e) ∙ take_front ys

  -- the last node is above the number
  module _ (xs : List ℕ) (w : ℕ) (below : (n : ℕ) → n < length xs → value_of (slice_index xs n) < k) (above : k < value_of w) where
    state_is : (ws ss : List ℕ) → IsHeld home head ws ss → Begins (xs ++ w ∷ []) ws → tops ws ≡ tops xs ++ value_of w ∷ tops (drop (length (xs ++ w ∷ [])) ws)
    state_is ws ss held begins =
        ap tops (begins_split (xs ++ w ∷ []) ws begins) ∙ tops-append (xs ++ w ∷ []) (drop (length (xs ++ w ∷ [])) ws)
        ∙ ap (λ (ys : List ℕ). ys ++ tops (drop (length (xs ++ w ∷ [])) ws)) (tops-append xs (w ∷ []))
        ∙ seam (tops xs) (tops (drop (length (xs ++ w ∷ [])) ws)) (value_of w)
      where
        seam : (ys zs : List ℕ) (y : ℕ) → (ys ++ y ∷ []) ++ zs ≡ ys ++ y ∷ zs
        seam [] zs y = refl
        seam (x ∷ ys) zs y = ap (λ (us : List ℕ). x ∷ us) (seam ys zs y)

    others_above : (ws ss : List ℕ) (held : IsHeld home head ws ss) (begins : Begins (xs ++ w ∷ []) ws) → (i : ℕ) → i < length (value_of w ∷ tops (drop (length (xs ++ w ∷ [])) ws)) → k < slice_index (value_of w ∷ tops (drop (length (xs ++ w ∷ [])) ws)) i
    others_above ws ss held begins = above_later k (tops xs) (value_of w) (tops (drop (length (xs ++ w ∷ [])) ws)) (subst Rises (state_is ws ss held begins) (state_rises ws ss held)) above

    missing : (ws ss : List ℕ) → IsHeld home head ws ss → Begins (xs ++ w ∷ []) ws → has_number k (tops ws) ≡ false
    missing ws ss held begins = subst (λ (ys : List ℕ). has_number k ys ≡ false) (sym (state_is ws ss held begins)) (has_none_apart k (tops xs) (value_of w ∷ tops (drop (length (xs ++ w ∷ [])) ws)) (below_tops k xs below) (others_above ws ss held begins))

    pub missed_absent : IsKept home (Remove k) head (xs ++ w ∷ []) Absent
    missed_absent ws ss held begins = rw (missing ws ss held begins) refl

    pub missed_no : IsKept home (Has k) head (xs ++ w ∷ []) No
    missed_no ws ss held begins = rw (missing ws ss held begins) refl

    pub missed_full : spare_of head ≡ no_place → IsKept home (Insert k) head (xs ++ w ∷ []) Full
    missed_full none ws ss held begins =
        let l = no_spare home few head (xs ++ w ∷ []) ws ss held begins none in let t = length-tops ws in
        rw (missing ws ss held begins, eq-eqb (length (tops ws)) home.part.cap (omega arith)) refl

  -- a number is added after nodes that are below it, where all later ones are above it
  pub insert_added : (nodes : List ℕ) (before kept : ℕ) → before ≤ length nodes → before < home.part.cap → leads (first_of head) (take before nodes) ≡ kept → kept < 16777216 → spare_of head ≢ no_place
      → ((n : ℕ) → n < length (take before nodes) → value_of (slice_index (take before nodes) n) < k)
      → ((later ss : List ℕ) → IsHeld home head (take before nodes ++ later) ss → Begins nodes (take before nodes ++ later) → (i : ℕ) → i < length (tops later) → k < slice_index (tops later) i)
      → IsAddition home (Insert k) head nodes before kept
  insert_added nodes before kept among room leads_to small spare below above = record {
    room = room;
    among = among;
    leads_to = leads_to;
    small = small;
    passed = record { each = λ n there. lt-ltb (value_of (slice_index (take before nodes) n)) k (below n there) };
    loud = refl;
    does = λ later ss held begins.
        let xs : List ℕ = take before nodes in
        let some = some_spare home few head xs (xs ++ later) ss held (begins_whole xs later) spare in
        let t = length-tops (xs ++ later) in
        let apart = tops-append xs later in
        let none : has_number k (tops (xs ++ later)) ≡ false = subst (λ (ys : List ℕ). has_number k ys ≡ false) (sym apart) (has_none_apart k (tops xs) (tops later) (below_tops k xs below) (above later ss held begins)) in
        let full : (length (tops (xs ++ later)) == home.part.cap) ≡ false = ne_eqb (length (tops (xs ++ later))) home.part.cap (λ e. omega arith) in
        rw (none, full) (ap (λ (ys : List ℕ). answers ys Added) (ap (with_number k) apart ∙ with_apart k (tops xs) (tops later) (below_tops k xs below) (above later ss held begins)));
  }

  -- at the end
  pub end_added : (nodes : List ℕ) → ((n : ℕ) → n < length nodes → value_of (slice_index nodes n) < k) → leads (first_of head) nodes ≡ no_place → spare_of head ≢ no_place → length nodes < home.part.cap → IsAddition home (Insert k) head nodes (length nodes) no_place
  end_added nodes below end spare room =
      let all = take_all nodes in
      insert_added nodes (length nodes) no_place (omega arith) room (ap (leads (first_of head)) all ∙ end) (omega arith) spare (subst (λ (ys : List ℕ). (n : ℕ) → n < length ys → value_of (slice_index ys n) < k) (sym all) below)
      (λ later ss held begins i there.
      let held_is : IsHeld home head (nodes ++ later) ss = subst (λ (ys : List ℕ). IsHeld home head (ys ++ later) ss) all held in
      let none : later ≡ [] = chain_none home few (leads (first_of head) nodes) later (chain_rest home (first_of head) nodes later held_is.nodes) end in
      let z = ap (λ (ys : List ℕ). length (tops ys)) none in absurd (omega arith))
    where
      take_all : (xs : List ℕ) → take (length xs) xs ≡ xs
      take_all [] = refl
      take_all (x ∷ xs) = ap (λ (ys : List ℕ). x ∷ ys) (take_all xs)

  -- before a node that is above the number
  pub missed_added : (xs : List ℕ) (w : ℕ) → ((n : ℕ) → n < length xs → value_of (slice_index xs n) < k) → k < value_of w → spare_of head ≢ no_place → length xs < home.part.cap → leads (first_of head) xs < 16777216
      → IsAddition home (Insert k) head (xs ++ w ∷ []) (length xs) (leads (first_of head) xs)
  missed_added xs w below above spare room small =
      let front = take_front xs in
      let l = length-append xs (w ∷ []) in
      insert_added (xs ++ w ∷ []) (length xs) (leads (first_of head) xs) (omega arith) room (ap (leads (first_of head)) front) small spare (subst (λ (ys : List ℕ). (n : ℕ) → n < length ys → value_of (slice_index ys n) < k) (sym front) below)
      (λ later ss held begins i there.
      let held_is : IsHeld home head (xs ++ later) ss = subst (λ (ys : List ℕ). IsHeld home head (ys ++ later) ss) front held in
      let begins_is : Begins (xs ++ w ∷ []) (xs ++ later) = subst (λ (ys : List ℕ). Begins (xs ++ w ∷ []) (ys ++ later)) front begins in
      later_above later (after xs later begins_is) (subst Rises (tops-append xs later) (state_rises (xs ++ later) ss held_is)) i there)
    where
      take_front : (ys : List ℕ) → take (length ys) (ys ++ w ∷ []) ≡ ys
      take_front [] = refl
      take_front (y ∷ ys) = ap (λ (zs : List ℕ). y ∷ zs) (take_front ys)

      after : (ys later : List ℕ) → Begins (ys ++ w ∷ []) (ys ++ later) → Begins (w ∷ []) later
      after [] later b = b
      after (y ∷ ys) later b = after ys later b.1

      later_above : (later : List ℕ) → Begins (w ∷ []) later → Rises (tops xs ++ tops later) → (i : ℕ) → i < length (tops later) → k < slice_index (tops later) i
      later_above [] b up i there = absurd b
      later_above (z ∷ zs) b up i there = above_later k (tops xs) (value_of z) (tops zs) up (subst (λ (x : ℕ). k < value_of x) b.0 above) i there
