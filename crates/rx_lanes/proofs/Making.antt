-- What a lane has made, call by call.
use Rattle.std.proofs.Common.{ℕ, true, false, take, get_or, ◌≡◌, ◌+◌, ◌-◌, ◌<◌, ◌≤◌, List, [], ◌∷◌, ◌++◌, length, map, reverse, Some, refl, sym, ap, ap₂, ◌∙◌, subst, inl, inr, arith, append_assoc, append-nil, length-append, vec_capacity}
use Rattle.std.proofs.lemmas.List.{reverse-append, map_push}
use Rattle.rx_seq.specs.declared.calls.Call.{Call}
use Rattle.rx_seq.specs.declared.entries.Entry.{Entry}
use Rattle.rx_seq.specs.declared.replies.Reply.{Reply}
use Rattle.rx_seq.specs.History.{tag_of}
use Rattle.rx_seq.specs.declared.kinds.Part.{Part}
use Rattle.rx_set.specs.declared.items.Item.{Item}
use Rattle.rx_set.specs.declared.items.Item.TheVariants.{Op}
use Rattle.rx_set.specs.System.{System}
use Rattle.std.proofs.lemmas.Option.{same_Some, slice_get-get_or}
use Rattle.rx_shape.specs.Layout.{Layout}
use Rattle.rx_port.specs.declared.views.Known.{Known}
use Rattle.rx_port.specs.Core.{entry_for}
use Rattle.rx_table.specs.Tables.{SharedTable, IsSeatOf}
use Rattle.rx_object.specs.Calls.{IsDone, IsSpent}
use Rattle.rx_set.specs.Operations.{Asked, asked, asked_of, operation_of, operations_of, repeated, script_of}
use Rattle.rx_lanes.specs.declared.answers.Answer.{Answer}
use Rattle.rx_lanes.specs.declared.lanes.Lane.{Lane}
use Rattle.rx_lanes.specs.Scripts.{is_of, calls_to, lane_script}
use Rattle.rx_lanes.proofs.Parts.{operations_more, count_more, count_up, repeated_more, repeated_up, over_yes, over_no, calls_within}
use Rattle.rx_lanes.specs.Lists.{answer_of}
use Rattle.rx_lanes.specs.Lanes.{CanMake, CanMakeAll, HasRoom, HasSpent, HasMade, Adds}

-- the entries oldest first, with one more
pub last_more : {X : Type 0} (f : Entry → X) (entry : Entry) (entries : List Entry) → map f (reverse (entry ∷ entries)) ≡ map f (reverse entries) ++ f entry ∷ []
last_more f entry entries = ap (map f) (reverse-append (entry ∷ []) entries) ∙ map_push f (reverse entries) entry

tag_older : (object : ℕ) (newer older : List Entry) → tag_of object older ≤ tag_of object (newer ++ older)
tag_older object [] older = omega arith
tag_older object (e ∷ newer) older = omega (arith, tag_older object newer older)

-- what is spent stays so
pub spent_stays : (layout : Layout) (newer older : List Entry) → HasSpent layout older → HasSpent layout (newer ++ older)
spent_stays layout newer older h = (h.0, omega (arith, h.1, tag_older h.0 newer older))

-- nothing more
pub adds_none : (shared : SharedTable) (lane : Lane) → IsSeatOf shared lane.seat → Adds shared [] lane lane
adds_none shared lane ours = record {
  ours = ours;
  number = refl;
  made = omega arith;
  short = omega arith;
  room = refl;
  makes = λ script h. subst (λ (xs : List Asked). HasMade shared xs lane) (sym (append-nil script)) h;
}

-- one part after the other
pub adds_both : (shared : SharedTable) (xs ys : List Asked) (a b c : Lane) → Adds shared xs a b → Adds shared ys b c → Adds shared (xs ++ ys) a c
adds_both shared xs ys a b c f g =
    let both = length-append xs ys in
    let made_f = f.made in
    let made_g = g.made in
    let short_f = f.short in
    let short_g = g.short in
    record {
      ours = g.ours;
      number = g.number ∙ f.number;
      made = omega (arith, both, made_f, made_g);
      short = omega (arith, both, short_f, short_g);
      room = g.room ∙ f.room;
      makes = λ script h. subst (λ (zs : List Asked). HasMade shared zs c) (append_assoc script xs ys) (g.makes (script ++ xs) (f.makes script h));
    }

-- the room that is left
pub room_after : (shared : SharedTable) (xs : List Asked) (count : ℕ) (a b : Lane) → HasRoom (length xs + count) a → Adds shared xs a b → HasRoom count b
room_after shared xs count a b h f =
    let made = f.made in
    let short = f.short in
    let before = h.short in
    let room = h.room in
    let few = h.few in
    record { short = omega (arith, made, short, before); room = omega (arith, made, room, f.room); few = omega (arith, made, few) }

pub less_room : (count less : ℕ) (lane : Lane) → less ≤ count → HasRoom count lane → HasRoom less lane
less_room count less lane few h = let room = h.room in let bound = h.few in record { short = h.short; room = omega (arith, room, few); few = omega (arith, bound, few) }

-- one call
module _ (shared : SharedTable) (before now : Lane) (object : ℕ) (call : Call) (ours : IsSeatOf shared now.seat) (number : now.number ≡ before.number) (made : now.made ≡ before.made + 1) (room : vec_capacity now.answers ≡ vec_capacity before.answers) where
  made_one : (reply : Reply) (tag lost : ℕ) → now.answers.items ≡ before.answers.items ++ record { reply = reply; tag = tag } ∷ [] → IsDone shared.layout before.seat.view now.seat.view object call reply tag lost
      → (script : List Asked) → HasMade shared script before → HasMade shared (script ++ asked object call ∷ []) now
  made_one reply tag lost told d script h =
      let k : d.more.known ≡ h.known = same_Some d.more.known h.known (sym d.more.is ∙ h.is) in
      let entry : Entry = entry_for shared.layout d.more.history before.seat.view.number object call in
      let mine : d.more.after.mine ≡ entry ∷ h.known.mine = d.mine ∙ ap (λ (x : Known). entry ∷ x.mine) k in
      let answer : answer_of entry ≡ record { reply = reply; tag = tag } = ap₂ (λ (r : Reply) (t : ℕ). record { reply = r; tag = t }) (sym d.reply_is) (sym d.tag_is) in
      let few = h.few in
      let one : length d.more.after.mine ≡ length h.known.mine + 1 = ap length mine ∙ omega arith in
      record {
        number = d.more.number ∙ h.number ∙ sym number;
        known = d.more.after;
        is = d.more.after_is;
        answers = ap (λ (xs : List Entry). map answer_of (reverse xs)) mine ∙ last_more answer_of entry h.known.mine ∙ ap₂ (λ (xs : List Answer) (x : Answer). xs ++ x ∷ []) h.answers answer ∙ sym told;
        few = omega (arith, one, few, length-append script (asked object call ∷ []));
        all = elim h.all [
          | inl same ↦ inl (ap (λ (xs : List Entry). map asked_of (reverse xs)) mine ∙ last_more asked_of entry h.known.mine ∙ ap (λ (xs : List Asked). xs ++ asked object call ∷ []) same)
          | inr spent ↦
              let seen : HasSpent shared.layout d.more.known.seen = subst (λ (x : Known). HasSpent shared.layout x.seen) (sym k) spent in
              inr (subst (HasSpent shared.layout) (sym (d.seen ∙ ap (λ (xs : List Entry). entry ∷ xs) d.more.history_is)) (spent_stays shared.layout (entry ∷ d.more.between) d.more.known.seen seen))
        ];
      }

  pub adds_one : (reply : Reply) (tag lost : ℕ) → now.answers.items ≡ before.answers.items ++ record { reply = reply; tag = tag } ∷ [] → IsDone shared.layout before.seat.view now.seat.view object call reply tag lost → Adds shared (asked object call ∷ []) before now
  adds_one reply tag lost told d = record {
    ours = ours;
    number = number;
    made = made;
    short = omega (arith, ap length told, length-append before.answers.items (record { reply = reply; tag = tag } ∷ []));
    room = room;
    makes = made_one reply tag lost told d;
  }

  made_none : (tag lost : ℕ) → now.answers.items ≡ before.answers.items → IsSpent shared.layout before.seat.view now.seat.view object call tag lost
      → (script : List Asked) → HasMade shared script before → HasMade shared (script ++ asked object call ∷ []) now
  made_none tag lost told d script h =
      let k : d.more.known ≡ h.known = same_Some d.more.known h.known (sym d.more.is ∙ h.is) in
      let mine : d.more.after.mine ≡ h.known.mine = d.mine ∙ ap (λ (x : Known). x.mine) k in
      let few = h.few in
      let last = d.last in
      let tag_is = d.tag_is in
      record {
        number = d.more.number ∙ h.number ∙ sym number;
        known = d.more.after;
        is = d.more.after_is;
        answers = ap (λ (xs : List Entry). map answer_of (reverse xs)) mine ∙ h.answers ∙ sym told;
        few = omega (arith, ap length mine, few, length-append script (asked object call ∷ []));
        all = inr (object, omega (arith, last, tag_is));
      }

  pub adds_spent : (tag lost : ℕ) → now.answers.items ≡ before.answers.items → IsSpent shared.layout before.seat.view now.seat.view object call tag lost → Adds shared (asked object call ∷ []) before now
  adds_spent tag lost told d = record {
    ours = ours;
    number = number;
    made = made;
    short = omega (arith, ap length told);
    room = room;
    makes = made_none tag lost told d;
  }

-- the items of a job
module _ (items : List Item) (i : ℕ) (d : Item) (inside : i < length items) where
  pub item_fits : (parts : List Part) (item : Item) → get_or items i d ≡ item → CanMakeAll parts items → CanMake parts item
  item_fits parts item is h = h i item (slice_get-get_or items i d inside ∙ ap (λ (x : Item). Some x) is)

  pub room_one : (shared : SharedTable) (a b : Lane) (object : ℕ) (call : Call) → get_or items i d ≡ Op object call → HasRoom (length (operations_of items)) a → Adds shared (operations_of (take i items)) a b → HasRoom 1 b
  room_one shared a b object call is room adds =
      room_after shared (operations_of (take i items)) 1 a b
      (less_room (length (operations_of items)) (length (operations_of (take i items)) + 1) a (omega (arith, count_more items i d (Op object call) inside is, count_up items (i + 1))) room)
      adds

  pub adds_item : (shared : SharedTable) (item : Item) (a b c : Lane) → get_or items i d ≡ item → Adds shared (operations_of (take i items)) a b → Adds shared (operation_of item) b c → Adds shared (operations_of (take (i + 1) items)) a c
  adds_item shared item a b c is f g =
      subst (λ (xs : List Asked). Adds shared xs a c) (sym (operations_more items i d item inside is)) (adds_both shared (operations_of (take i items)) (operation_of item) a b c f g)

-- the jobs of a task
pub room_job : (shared : SharedTable) (xs : List Asked) (n jobs : ℕ) (a b : Lane) → n < jobs → HasRoom (length (repeated jobs xs)) a → Adds shared (repeated n xs) a b → HasRoom (length xs) b
room_job shared xs n jobs a b h room adds =
    let rest : (n + 1) + (jobs - (n + 1)) ≡ jobs = omega arith in
    let up : length (repeated (n + 1) xs) ≤ length (repeated jobs xs) = rw rest at (repeated_up (n + 1) (jobs - (n + 1)) xs) in
    room_after shared (repeated n xs) (length xs) a b
    (less_room (length (repeated jobs xs)) (length (repeated n xs) + length xs) a (omega (arith, up, ap length (repeated_more n xs), length-append (repeated n xs) xs)) room)
    adds

pub adds_job : (shared : SharedTable) (xs : List Asked) (n : ℕ) (a b c : Lane) → Adds shared (repeated n xs) a b → Adds shared xs b c → Adds shared (repeated (n + 1) xs) a c
adds_job shared xs n a b c f g = subst (λ (ys : List Asked). Adds shared ys a c) (sym (repeated_more n xs)) (adds_both shared (repeated n xs) xs a b c f g)

-- the tasks of a lane
module _ (shared : SharedTable) (system : System) (jobs workers lane n : ℕ) (a b : Lane) (adds : Adds shared (calls_to system jobs workers lane n) a b) where
  pub room_task : n < length system.tasks → is_of workers lane n ≡ true → HasRoom (length (lane_script system jobs workers lane)) a → HasRoom (length (script_of system jobs n)) b
  room_task h mine room =
      room_after shared (calls_to system jobs workers lane n) (length (script_of system jobs n)) a b
      (less_room (length (lane_script system jobs workers lane)) (length (calls_to system jobs workers lane n) + length (script_of system jobs n)) a (calls_within system jobs workers lane n (length system.tasks) h mine) room)
      adds

  pub adds_task : (c : Lane) → is_of workers lane n ≡ true → Adds shared (script_of system jobs n) b c → Adds shared (calls_to system jobs workers lane (n + 1)) a c
  adds_task c mine g =
      subst (λ (xs : List Asked). Adds shared xs a c) (sym (over_yes (script_of system jobs) workers lane n mine)) (adds_both shared (calls_to system jobs workers lane n) (script_of system jobs n) a b c adds g)

  pub adds_skip : is_of workers lane n ≡ false → Adds shared (calls_to system jobs workers lane (n + 1)) a b
  adds_skip other = subst (λ (xs : List Asked). Adds shared xs a b) (sym (over_no (script_of system jobs) workers lane n other)) adds
