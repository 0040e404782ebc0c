-- Worked rows of two seats that add 1 to one cell, where the exchange of one loses to the other's: a win, a loss and
-- a win after it, a look, what a winner and a loser own and know, and an attempt on a queue.
use Rattle.std.specs.Prelude.{ℕ, ◌≡◌, ◌==◌, if◌then◌else◌, refl, true, false, List, [], ◌∷◌, Some, None}
use Rattle.rx_seq.specs.declared.kinds.Kind.TheVariants.{Cell, Queue}
use Rattle.rx_seq.specs.declared.calls.Call.{Call}
use Rattle.rx_seq.specs.declared.calls.Call.TheVariants.{Get, Add, Put}
use Rattle.rx_seq.specs.declared.replies.Reply.TheVariants.{Done}
use Rattle.rx_seq.specs.declared.entries.Entry.{Entry}
use Rattle.rx_shape.specs.declared.plans.Pair.{Pair}
use Rattle.rx_shape.specs.Places.{total}
use Rattle.rx_shape.specs.Layout.{Layout, root_of}
use Rattle.rx_shape.specs.Start.{start_word}
use Rattle.rx_port.specs.declared.views.Attempt.{Attempt}
use Rattle.rx_port.specs.declared.views.Known.{Known}
use Rattle.rx_port.specs.declared.views.View.{View}
use Rattle.rx_port.specs.declared.views.Core.{Core}
use Rattle.rx_port.specs.Core.{tag_after, own_of, loaded, stored, exchanged, new_attempt, begun_view, with_read, read_view, written_view, entry_for, history_after, decided_known, exchange_of, traded_own, decided_view}
use Rattle.rx_port.specs.Lawful.{joined_in}
use Rattle.rx_port.specs.Seats.{newcomer, seated, no_counts}
use Rattle.rx_port.specs.Plain.{view_at}

-- one cell and two seats
abbrev pub small : Layout
small = record { parts = record { kind = Cell; cap = 1 } ∷ []; seats = 2; first = 0 }

abbrev pub add_one : Call
add_one = Add 1

-- a seat begins to add 1
abbrev begins : List Entry → Core → ℕ → Core
begins history core seat = loaded core seat (begun_view history (view_at core seat) 0 add_one (root_of core.words 0))

-- the entry of its call after these
abbrev entry_of : List Entry → ℕ → Entry
entry_of history seat = entry_for small history seat 0 add_one

-- it decides, having begun at the expected root, for a new one
abbrev decides : List Entry → Core → ℕ → ℕ → ℕ → Core
decides history core seat expected new =
    let found = root_of core.words 0 in
    let won = found == expected in
    exchanged core 0 (if won then new else found) seat (decided_view won history (entry_of history seat) (view_at core seat) (new_attempt 0 add_one expected) found [])

-- the start
abbrev at_start : Core
at_start = record { words = start_word small 0 ∷ start_word small 1 ∷ []; views = seated small 2; counts = Some no_counts }

pub words_at_start : at_start.words ≡ 0 ∷ 0 ∷ []
words_at_start = refl

pub seat_at_start : view_at at_start 1 ≡ record { number = 1; next = None; live = true; attempt = None; own = [] ∷ []; joined = []; known = None }
seat_at_start = refl

-- seat 0 begins, then seat 1 does
abbrev both_begun : Core
both_begun = begins [] (begins [] at_start 0) 1

pub begun_words : both_begun.words ≡ 0 ∷ 0 ∷ []
begun_words = refl

pub begun_open : (view_at both_begun 0).attempt ≡ Some (record { object = 0; call = Add 1; expected = 0; reads = []; writes = [] })
begun_open = refl

-- seat 1 decides for the tag 1 and the value 1, and finds the root that it expects
abbrev one_won : Core
one_won = decides [] both_begun 1 0 16777217

abbrev after_one : List Entry
after_one = history_after (root_of both_begun.words 0 == 0) (entry_of [] 1) []

pub won_words : one_won.words ≡ 0 ∷ 16777217 ∷ []
won_words = refl

pub won_closed : (view_at one_won 1).attempt ≡ None
won_closed = refl

pub won_other : view_at one_won 0 ≡ view_at both_begun 0
won_other = refl

pub won_history : after_one ≡ record { caller = 1; index = 1; object = 0; call = Add 1; reply = Done 1; tag = 1 } ∷ []
won_history = refl

pub won_tag : tag_after small after_one 0 ≡ 1
won_tag = refl

-- seat 0 decides for the same root, and finds 16777217 and not 0
abbrev one_lost : Core
one_lost = decides after_one one_won 0 0 16777217

pub lost_words : one_lost.words ≡ 0 ∷ 16777217 ∷ []
lost_words = refl

pub lost_closed : (view_at one_lost 0).attempt ≡ None
lost_closed = refl

pub lost_history : history_after (root_of one_won.words 0 == 0) (entry_of after_one 0) after_one ≡ after_one
lost_history = refl

-- seat 0 begins again, and decides for the tag 2 and the value 2
abbrev again : Core
again = begins after_one one_lost 0

abbrev two_won : Core
two_won = decides after_one again 0 16777217 33554434

abbrev after_two : List Entry
after_two = history_after (root_of again.words 0 == 16777217) (entry_of after_one 0) after_one

pub again_words : two_won.words ≡ 0 ∷ 33554434 ∷ []
again_words = refl

pub again_history : after_two
    ≡ record { caller = 0; index = 1; object = 0; call = Add 1; reply = Done 2; tag = 2 } ∷ record { caller = 1; index = 1; object = 0; call = Add 1; reply = Done 1; tag = 1 } ∷ []
again_history = refl

pub again_counts : two_won.counts ≡ Some (record { loads = 3; stores = 0; exchanges = 3 })
again_counts = refl

-- a look at the cell has the tag that is there, and raises none
abbrev look : Entry
look = entry_for small after_two 1 0 Get

pub look_entry : look ≡ record { caller = 1; index = 2; object = 0; call = Get; reply = Done 2; tag = 2 }
look_entry = refl

pub look_tag : tag_after small (look ∷ after_two) 0 ≡ 2
look_tag = refl

-- a seat that keeps histories sees the others' entries, and has its own
abbrev knows_nothing : Known
knows_nothing = record { seen = []; mine = []; begins = 1; exchanges = 0; latest = None }

pub loser_knows : decided_known false after_one (entry_of after_one 0) (exchange_of (new_attempt 0 add_one 0) 16777217) knows_nothing
    ≡ record { seen = after_one; mine = []; begins = 1; exchanges = 1; latest = Some (record { object = 0; expected = 0; found = 16777217 }) }
loser_knows = refl

pub winner_knows : decided_known true [] (entry_of [] 1) (exchange_of (new_attempt 0 add_one 0) 0) knows_nothing
    ≡ record { seen = after_one; mine = after_one; begins = 1; exchanges = 1; latest = Some (record { object = 0; expected = 0; found = 0 }) }
winner_knows = refl

-- a winner owns the places that were live, a loser those that it had
abbrev both_places : List Pair
both_places = record { own = 0; place = 4 } ∷ record { own = 1; place = 5 } ∷ []

pub winner_owns : traded_own true ((6 ∷ 7 ∷ []) ∷ []) 0 both_places ≡ (4 ∷ 5 ∷ []) ∷ []
winner_owns = refl

pub loser_owns : traded_own false ((6 ∷ 7 ∷ []) ∷ []) 0 both_places ≡ (6 ∷ 7 ∷ []) ∷ []
loser_owns = refl

-- seat 1 was joined into seat 0, which keeps it
abbrev joined_away : View
joined_away = record { number = 1; next = None; live = false; attempt = None; own = []; joined = []; known = None }

abbrev keeper : View
keeper = record (newcomer small None 0 None) { joined = record { number = 1; seen = []; mine = []; own = [] ∷ [] } ∷ [] }

pub kept_once : total (joined_in 1) (keeper ∷ joined_away ∷ []) ≡ 1
kept_once = refl

-- A seat puts 42 into an empty queue of one number: it loads the root, reads the header and the spare node, writes a header
-- and a node of its own and exchanges the root
abbrev one_queue : Layout
one_queue = record { parts = record { kind = Queue; cap = 1 } ∷ []; seats = 1; first = 0 }

abbrev putting : Attempt
putting = new_attempt 0 (Put 42) 2

abbrev queue_at_start : Core
queue_at_start = record { words = 0 ∷ 2 ∷ 281474959933443 ∷ 16777215 ∷ 0 ∷ 0 ∷ []; views = seated one_queue 1; counts = Some no_counts }

pub queue_words_at_start : start_word one_queue 1 ∷ start_word one_queue 2 ∷ start_word one_queue 3 ∷ start_word one_queue 4 ∷ [] ≡ 2 ∷ 281474959933443 ∷ 16777215 ∷ 0 ∷ []
queue_words_at_start = refl

pub owned_at_start : own_of (view_at queue_at_start 0) 0 ≡ 4 ∷ 5 ∷ []
owned_at_start = refl

-- the header leads to no node, and to the spare one at place 3
abbrev header_read : View
header_read = read_view (begun_view [] (view_at queue_at_start 0) 0 (Put 42) 2) putting (record { place = 2; word = 281474959933443 })

pub read_so_far : header_read.attempt ≡ Some (record { object = 0; call = Put 42; expected = 2; reads = record { place = 2; word = 281474959933443 } ∷ []; writes = [] })
read_so_far = refl

-- which leads to none
abbrev one_read : Attempt
one_read = with_read (record { place = 2; word = 281474959933443 }) putting

abbrev both_read : View
both_read = read_view header_read one_read (record { place = 3; word = 16777215 })

-- the own header leads to the own node, and that to none
abbrev after_write : Core
after_write =
    let one : Core = stored queue_at_start 4 100663295 0 (view_at queue_at_start 0) in
    stored one 5 721420287 0 (view_at one 0)

pub written_words : after_write.words ≡ 0 ∷ 2 ∷ 281474959933443 ∷ 16777215 ∷ 100663295 ∷ 721420287 ∷ []
written_words = refl

pub written_counts : after_write.counts ≡ Some (record { loads = 0; stores = 2; exchanges = 0 })
written_counts = refl

pub written_so_far : (written_view both_read (with_read (record { place = 3; word = 16777215 }) one_read) (record { own = 0; value = 100663295 })).attempt
    ≡ Some (record { object = 0; call = Put 42; expected = 2; reads = record { place = 2; word = 281474959933443 } ∷ record { place = 3; word = 16777215 } ∷ []; writes = record { own = 0; value = 100663295 } ∷ [] })
written_so_far = refl

-- the new root has the tag 1 and names the header at place 4, and the seat owns the header and the spare node that were there
abbrev put_done : Core
put_done = exchanged after_write 0 (if root_of after_write.words 0 == 2 then 16777220 else 2) 0 (decided_view true [] (entry_for one_queue [] 0 0 (Put 42)) (view_at after_write 0) putting 2 (record { own = 0; place = 2 } ∷ record { own = 1; place = 3 } ∷ []))

pub put_words : put_done.words ≡ 0 ∷ 16777220 ∷ 281474959933443 ∷ 16777215 ∷ 100663295 ∷ 721420287 ∷ []
put_words = refl

pub put_owned : own_of (view_at put_done 0) 0 ≡ 2 ∷ 3 ∷ []
put_owned = refl

pub put_entry : entry_for one_queue [] 0 0 (Put 42) ≡ record { caller = 0; index = 1; object = 0; call = Put 42; reply = Done 1; tag = 1 }
put_entry = refl
