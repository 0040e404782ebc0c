-- Calls that a seat makes one after the other.
use Rattle.std.proofs.Common.{◌≡◌, ℕ, ◌+◌, ◌≤◌, List, [], ◌∷◌, ◌++◌, refl, sym, ap, ◌∙◌, arith}
use Rattle.std.proofs.lemmas.Option.{same_Some}
use Rattle.std.proofs.lemmas.List.Elements.{All-same, All-nil, All-push}
use Rattle.rx_seq.specs.declared.calls.Call.{Call}
use Rattle.rx_seq.specs.declared.entries.Entry.{Entry}
use Rattle.rx_seq.specs.declared.replies.Reply.{Reply}
use Rattle.rx_shape.specs.Layout.{Layout}
use Rattle.rx_port.specs.declared.views.Known.{Known}
use Rattle.rx_port.specs.declared.views.View.{View}
use Rattle.rx_port.specs.Core.{entry_for}
use Rattle.rx_table.specs.Tables.{SharedTable, IsSeatOf}
use Rattle.rx_table.specs.Seats.{Keeps}
use Rattle.rx_object.specs.Calls.{IsDone, IsSpent}
use Rattle.rx_bench.specs.declared.lanes.Lane.{Lane}
use Rattle.rx_bench.specs.Lanes.{AreLanes, HasMade}

-- no call was made yet
pub none_made : (v : View) → Keeps v → HasMade v v 0 0
none_made v h = record {
  known = h.known;
  is = h.is;
  after = h.known;
  after_is = h.is;
  entries = [];
  mine = refl;
  many = refl;
  exchanges = omega arith;
}

module _ (l : Layout) (before middle now : View) (object : ℕ) (call : Call) (made retries : ℕ) (w : HasMade before middle made retries) where
  -- one more was made
  pub one_more : (reply : Reply) (tag lost sum : ℕ) → IsDone l middle now object call reply tag lost → sum ≤ retries + lost → HasMade before now (made + 1) sum
  one_more reply tag lost sum h few =
      let k : h.more.known ≡ w.after = same_Some h.more.known w.after (sym h.more.is ∙ w.after_is) in
      let entry : Entry = entry_for l h.more.history middle.number object call in
      let many = w.many in
      let a = h.exchanges in
      let b = w.exchanges in
      let same : h.more.known.exchanges ≡ w.after.exchanges = ap (λ (x : Known). x.exchanges) k in
      record {
        known = w.known;
        is = w.is;
        after = h.more.after;
        after_is = h.more.after_is;
        entries = entry ∷ w.entries;
        mine = h.mine ∙ ap (λ (x : Known). entry ∷ x.mine) k ∙ ap (λ (xs : List Entry). entry ∷ xs) w.mine;
        many = omega arith;
        exchanges = omega arith;
      }

  -- none was made, since the tags are spent
  pub none_more : (tag lost : ℕ) → IsSpent l middle now object call tag lost → HasMade before now made retries
  none_more tag lost h =
      let k : h.more.known ≡ w.after = same_Some h.more.known w.after (sym h.more.is ∙ w.after_is) in
      let a = h.exchanges in
      let b = w.exchanges in
      let same : h.more.known.exchanges ≡ w.after.exchanges = ap (λ (x : Known). x.exchanges) k in
      record {
        known = w.known;
        is = w.is;
        after = h.more.after;
        after_is = h.more.after_is;
        entries = w.entries;
        mine = h.mine ∙ ap (λ (x : Known). x.mine) k ∙ w.mine;
        many = w.many;
        exchanges = omega arith;
      }

-- lanes that are put together
pub no_lanes : (shared : SharedTable) (lanes : List Lane) → lanes ≡ [] → AreLanes shared lanes
no_lanes shared lanes is = let P : Lane → Type 0 = λ lane. IsSeatOf shared lane.seat in All-same P lanes [] is (All-nil P)

pub one_lane_more : (shared : SharedTable) (lanes more : List Lane) (lane : Lane) → more ≡ lanes ++ lane ∷ [] → AreLanes shared lanes → IsSeatOf shared lane.seat → AreLanes shared more
one_lane_more shared lanes more lane is h ours =
    let P : Lane → Type 0 = λ x. IsSeatOf shared x.seat in All-same P more (lanes ++ lane ∷ []) is (All-push P lanes lane h ours)
