-- Worked rows of what is counted: two callers on two cells. The second adds to one cell and then looks at the other, which
-- the first sets.
use Rattle.std.specs.Prelude.{ℕ, ◌≡◌, refl, [], ◌∷◌, map}
use Rattle.rx_merge.specs.MergeState.{count_waiting, louds_in, start_at}
use Rattle.rx_merge.specs.Rows.{looked_lists, one_adds, one_looks}

-- each cell has one loud entry, and so a count for each of the tags 0 and 1
pub louds_of_each : map (louds_in looked_lists) (0 ∷ 1 ∷ []) ≡ 1 ∷ 1 ∷ []
louds_of_each = refl

pub starts_of_each : map (start_at looked_lists) (0 ∷ 1 ∷ 2 ∷ []) ≡ 0 ∷ 2 ∷ 4 ∷ []
starts_of_each = refl

-- the look at tag 0 of the first cell is left, also before it is next, and no longer once it is taken
pub look_waits : count_waiting looked_lists [] 0 0 ≡ 1
look_waits = refl

pub look_waits_next : count_waiting looked_lists (one_adds ∷ []) 0 0 ≡ 1
look_waits_next = refl

pub look_taken : count_waiting looked_lists (one_looks ∷ one_adds ∷ []) 0 0 ≡ 0
look_taken = refl

-- what changes a cell is not waited for
pub none_at_next_tag : count_waiting looked_lists [] 0 1 ≡ 0
none_at_next_tag = refl

pub none_on_second : count_waiting looked_lists [] 1 1 ≡ 0
none_on_second = refl
