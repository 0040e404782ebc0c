-- Steps of a walk along nodes.
use Rattle.std.proofs.Common.{◌≡◌, ℕ, zero, suc, ◌<◌, ◌≤◌, true, List, [], ◌∷◌, ◌++◌, length, refl, ap, ◌∙◌, subst, arith}
use Rattle.std.specs.Prelude.{slice_index}
use Rattle.std.proofs.lemmas.List.{length-append}
use mathlib.Core.Logic.{dite}
use native.Mathlib.Decide.{ℕ_discrete}
use Rattle.rx_seq.specs.declared.kinds.Kind.{Kind}
use Rattle.rx_seq.specs.declared.kinds.Kind.TheVariants.{Cell, Queue, Registers, List as Ordered}
use Rattle.rx_seq.specs.declared.calls.Call.{Call}
use Rattle.rx_seq.specs.declared.calls.Call.TheVariants.{Insert, Remove, Has}
use Rattle.rx_seq.specs.Table.{IsCap, fits_by}
use Rattle.rx_shape.specs.declared.homes.Home.{Home}
use Rattle.rx_shape.specs.declared.plans.Taken.{Taken}
use Rattle.rx_shape.specs.Words.{low_of}
use Rattle.rx_shape.specs.Places.{times}
use Rattle.rx_shape.specs.Nodes.{first_of, value_of, next_of}
use Rattle.rx_shape.specs.Forms.{node, form_of, InRange}
use Rattle.rx_shape.proofs.Times.{times_there, times-append}
use Rattle.rx_nodes.specs.Copies.{stations, leads}
use Rattle.rx_nodes.specs.Chains.{IsBelow, IsLined, IsGoing, IsPassed, IsBounded, IsStep, IsTold, read_along, read_nodes}
use Rattle.rx_nodes.specs.declared.steps.Step.{Step}
use Rattle.rx_nodes.specs.declared.steps.Step.TheVariants.{First, Along, Spare, Broken, Kept, Adding, Removing}

-- a call of a list is one of an ordered list
pub insert_kind : (kind : Kind) (cap k : ℕ) → fits_by kind cap (Insert k) ≡ true → kind ≡ Ordered
insert_kind Cell cap k h = cc
insert_kind Queue cap k h = cc
insert_kind Ordered cap k h = refl
insert_kind Registers cap k h = cc

pub remove_kind : (kind : Kind) (cap k : ℕ) → fits_by kind cap (Remove k) ≡ true → kind ≡ Ordered
remove_kind Cell cap k h = cc
remove_kind Queue cap k h = cc
remove_kind Ordered cap k h = refl
remove_kind Registers cap k h = cc

pub has_kind : (kind : Kind) (cap k : ℕ) → fits_by kind cap (Has k) ≡ true → kind ≡ Ordered
has_kind Cell cap k h = cc
has_kind Queue cap k h = cc
has_kind Ordered cap k h = refl
has_kind Registers cap k h = cc

pub node_bounds : (kind : Kind) (cap : ℕ) → form_of kind ≡ node → IsCap kind cap → IsBounded cap
node_bounds Cell cap form h = cc
node_bounds Queue cap form h = record { least = h.0; most = h.1 }
node_bounds Ordered cap form h = record { least = h.0; most = h.1 }
node_bounds Registers cap form h = cc

pub no_cell : (kind : Kind) → form_of kind ≡ node → kind ≡ Cell → ⊥
no_cell Cell form is = cc
no_cell Queue form is = cc
no_cell Ordered form is = cc
no_cell Registers form is = cc

-- one more node
pub stations_more : (p : ℕ) (xs : List ℕ) (w : ℕ) → stations p (xs ++ w ∷ []) ≡ stations p xs ++ leads p xs ∷ []
stations_more p [] w = refl
stations_more p (x ∷ xs) w = ap (λ (ps : List ℕ). p ∷ ps) (stations_more (next_of x) xs w)

pub leads_more : (p : ℕ) (xs : List ℕ) (w : ℕ) → leads p (xs ++ w ∷ []) ≡ next_of w
leads_more p [] w = refl
leads_more p (x ∷ xs) w = leads_more (next_of x) xs w

pub read_more : (p : ℕ) (xs : List ℕ) (w : ℕ) → read_along p (xs ++ w ∷ []) ≡ read_along p xs ++ record { place = leads p xs; word = w } ∷ []
read_more p [] w = refl
read_more p (x ∷ xs) w = ap (λ (ts : List Taken). record { place = p; word = x } ∷ ts) (read_more (next_of x) xs w)

pub nodes_more : (root head : ℕ) (xs : List ℕ) (w : ℕ) → read_nodes root head (xs ++ w ∷ []) ≡ read_nodes root head xs ++ record { place = leads (first_of head) xs; word = w } ∷ []
nodes_more root head xs w = ap (λ (ts : List Taken). record { place = low_of root; word = head } ∷ ts) (read_more (first_of head) xs w)

at_more : (P : ℕ → Type 0) (xs : List ℕ) (w : ℕ) → ((n : ℕ) → n < length xs → P (slice_index xs n)) → P w → (n : ℕ) → n < length (xs ++ w ∷ []) → P (slice_index (xs ++ w ∷ []) n)
at_more P [] w all last zero below = last
at_more P [] w all last (suc n) below = absurd (omega arith)
at_more P (x ∷ xs) w all last zero below = all 0 (omega arith)
at_more P (x ∷ xs) w all last (suc n) below = at_more P xs w (λ i b. all (suc i) (omega arith)) last n (omega arith)

-- a walk that goes on at a node, whose word was read
module _ (home : Home) (call : Call) (head : ℕ) (xs : List ℕ) (place w : ℕ) (h : IsGoing home call head xs place) where
  pub inside_more : (p : ℕ) → 0 < times p (stations (first_of head) (xs ++ w ∷ [])) → InRange home p
  inside_more p at =
      let e = ap (times p) (stations_more (first_of head) xs w) in
      let a = times-append p (stations (first_of head) xs) (leads (first_of head) xs ∷ []) in
      dite (ℕ_discrete (leads (first_of head) xs) p)
      (λ same. subst (InRange home) (h.next ∙ same) h.here)
      (λ other. let t = times_there p (leads (first_of head) xs) [] other in h.lined.inside p (omega arith))

  pub lined_more : w < 72057594037927936 → IsLined home call head (xs ++ w ∷ [])
  lined_more small = record {
    header = h.lined.header;
    inside = inside_more;
    small = at_more (λ x. x < 72057594037927936) xs w h.lined.small small;
    few = let l = length-append xs (w ∷ []) in let r = h.room in omega arith;
  }

  pub passed_more : w < 72057594037927936 → IsBelow call (value_of w) → IsPassed home call head (xs ++ w ∷ [])
  passed_more small below = record {
    lined = lined_more small;
    below = at_more (λ x. IsBelow call (value_of x)) xs w h.below below;
    room = λ spare. let l = length-append xs (w ∷ []) in let r = h.spare spare in omega arith;
  }

-- no node was read
pub lined_none : (home : Home) (call : Call) (head : ℕ) → head < 72057594037927936 → IsLined home call head []
lined_none home call head small = record { header = small; inside = λ p at. absurd (omega arith); small = λ n b. absurd (omega arith); few = omega arith }

pub passed_none : (home : Home) (call : Call) (head : ℕ) → head < 72057594037927936 → 1 ≤ home.part.cap → IsPassed home call head []
passed_none home call head small least = record { lined = lined_none home call head small; below = λ n b. absurd (omega arith); room = λ _. omega arith }

-- a step tells what it means
pub told_by : (home : Home) (call : Call) (head : ℕ) (nodes : List ℕ) (step : Step) → IsStep home call head nodes step → IsTold home call head nodes step
told_by home call head nodes First h = record { first = λ e. h; along = λ p e. cc; spare = λ b k e. cc; broken = λ e. cc; kept = λ r e. cc; adding = λ b k w e. cc; removing = λ e. cc }
told_by home call head nodes (Along place) h = record { first = λ e. cc; along = λ p e. subst (λ (s : Step). IsStep home call head nodes s) e h; spare = λ b k e. cc; broken = λ e. cc; kept = λ r e. cc; adding = λ b k w e. cc; removing = λ e. cc }
told_by home call head nodes (Spare before kept) h = record { first = λ e. cc; along = λ p e. cc; spare = λ b k e. subst (λ (s : Step). IsStep home call head nodes s) e h; broken = λ e. cc; kept = λ r e. cc; adding = λ b k w e. cc; removing = λ e. cc }
told_by home call head nodes Broken h = record { first = λ e. cc; along = λ p e. cc; spare = λ b k e. cc; broken = λ e. h; kept = λ r e. cc; adding = λ b k w e. cc; removing = λ e. cc }
told_by home call head nodes (Kept reply) h = record { first = λ e. cc; along = λ p e. cc; spare = λ b k e. cc; broken = λ e. cc; kept = λ r e. subst (λ (s : Step). IsStep home call head nodes s) e h; adding = λ b k w e. cc; removing = λ e. cc }
told_by home call head nodes (Adding before kept word) h = record { first = λ e. cc; along = λ p e. cc; spare = λ b k e. cc; broken = λ e. cc; kept = λ r e. cc; adding = λ b k w e. subst (λ (s : Step). IsStep home call head nodes s) e h; removing = λ e. cc }
told_by home call head nodes Removing h = record { first = λ e. cc; along = λ p e. cc; spare = λ b k e. cc; broken = λ e. cc; kept = λ r e. cc; adding = λ b k w e. cc; removing = λ e. h }
