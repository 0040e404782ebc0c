use Rattle.std.proofs.Common.{◌∙◌}
use Rattle.rx_slots.specs.Schedule.{slots}
use Rattle.rx_slots.proofs.Entries.{wins_tags, wins_before, reply_is, tag_is, number_is}
use Rattle.rx_slots.proofs.laws.tags_count_entries.Goals as goal

pub returns-clause-tags : goal.returns-clause-tags
returns-clause-tags c = λ system object n. wins_tags object (slots system n)

pub returns-clause-before : goal.returns-clause-before
returns-clause-before c = λ system object m n h. wins_before system object m n h ∙ wins_tags object (slots system m)

pub returns-clause-replies : goal.returns-clause-replies
returns-clause-replies c = λ system n later earlier entry is. reply_is system n later earlier entry is

pub returns-clause-numbers : goal.returns-clause-numbers
returns-clause-numbers c = λ system n later earlier entry is. (tag_is system n later earlier entry is, number_is system n later earlier entry is)
