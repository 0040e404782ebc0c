-- Places that all seats own and hold.
use Rattle.std.proofs.Common.{◌≡◌, ◌≢◌, ℕ, ◌+◌, ◌-◌, ◌≤◌, List, [], length, set, ap, arith}
use Rattle.std.specs.Prelude.{slice_index_or}
use Rattle.std.proofs.lemmas.List.{length-set}
use mathlib.Core.Option.{some}
use lib.ListN.{get_elem?}
use Rattle.rx_shape.specs.Places.{times, total}
use Rattle.rx_shape.specs.Layout.{Layout, home}
use Rattle.rx_shape.proofs.Times.{sum_at, sum_two, sum_set}
use Rattle.rx_port.specs.declared.views.View.{View}
use Rattle.rx_port.specs.Core.{own_of}
use Rattle.rx_port.specs.Lawful.{left_of, holds_of, unmade, placed}

module _ (l : Layout) (o p : ℕ) (views : List View) where
  pub placed_at : (i : ℕ) (v : View) → get_elem? views i ≡ some v → times p (own_of v o) ≤ placed l o p views
  placed_at i v at = let s : holds_of o p v ≤ total (holds_of o p) views = sum_at (holds_of o p) views i v at in omega arith

  pub placed_two : (i j : ℕ) (v u : View) → i ≢ j → get_elem? views i ≡ some v → get_elem? views j ≡ some u → times p (own_of v o) + times p (own_of u o) ≤ placed l o p views
  placed_two i j v u ne at there = let s : holds_of o p v + holds_of o p u ≤ total (holds_of o p) views = sum_two (holds_of o p) views i j v u ne at there in omega arith

  pub placed_set : (i : ℕ) (v w : View) → get_elem? views i ≡ some v → w.joined ≡ v.joined → placed l o p (set views i w) + times p (own_of v o) ≡ placed l o p views + times p (own_of w o)
  placed_set i v w at joined =
      let s : total (holds_of o p) (set views i w) + holds_of o p v ≡ total (holds_of o p) views + holds_of o p w = sum_set (holds_of o p) views i v w at in
      let j : total (left_of o p) w.joined ≡ total (left_of o p) v.joined = ap (total (left_of o p)) joined in
      let n : unmade (home l o) p (l.seats - length (set views i w)) (length (set views i w)) ≡ unmade (home l o) p (l.seats - length views) (length views) = ap (λ (n : ℕ). unmade (home l o) p (l.seats - n) n) (length-set views i w) in omega arith

  pub placed_same : (i : ℕ) (v w : View) → get_elem? views i ≡ some v → w.joined ≡ v.joined → w.own ≡ v.own → placed l o p (set views i w) ≡ placed l o p views
  placed_same i v w at joined own =
      let s = placed_set i v w at joined in
      let f : times p (own_of w o) ≡ times p (own_of v o) = ap (λ (x : List (List ℕ)). times p (slice_index_or x o [])) own in omega arith
