-- What an answer unfolds to compute the set of a file that is written out.
use Rattle.std.specs.Prelude.{⊤}
use Rattle.std.specs.Str.{is_utf8, chars}
use Rattle.toml.proofs.OnLiterals.{toml_on_literals}
use Rattle.rx_file.specs.Fields.{value_at, text_at, name_at, is_new, number_in, number_at, number_or, no_key, only_keys}
use Rattle.rx_file.specs.Arrays.{array_at, array_or_empty, up_to}
use Rattle.rx_file.specs.Objects.{kind_at, cap_at, part_of_table, object_of_table, object_of_value}
use Rattle.rx_file.specs.Items.{item_of}
use Rattle.rx_file.specs.Demands.{task_at, work_at, unnamed, demand_of_table, demand_of_value}
use Rattle.rx_file.specs.SetOf.{body_at, task_of_table, task_of_value, policy_in, policy_at, object_rows, some_rows, task_rows, demand_rows, set_of_file, file_of, set_of}

-- all definitions that are to be unfolded; nothing is said by it
unfoldable pub file_on_literals : ⊤
unfolding toml_on_literals is_utf8 chars value_at text_at name_at is_new number_in number_at number_or no_key only_keys array_at array_or_empty up_to kind_at cap_at part_of_table object_of_table object_of_value item_of task_at work_at unnamed demand_of_table demand_of_value body_at task_of_table task_of_value policy_in policy_at object_rows some_rows task_rows demand_rows set_of_file file_of set_of
file_on_literals = tt
