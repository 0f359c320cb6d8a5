use Rattle.std.proofs.Common.{◌≡◌, ◌++◌}
use Rattle.std.specs.List.{flat_map}
use Rattle.std.specs.Option.{option_copied}
use Rattle.fl_meta.specs.Separators.{other_entries}
use Rattle.fl_meta.specs.Entries.{entry_mentions, list_mentions}
use Rattle.fl_meta.proofs.Whole.{left_length}
use Rattle.fl_meta.proofs.entries.push_list.Given as goal

-- what was added, and what is left, are what the list mentions
abbrev pub invariant-loop-left : goal.invariant-loop-left
invariant-loop-left l = l.out ++ flat_map (entry_mentions l.list) (other_entries (option_copied l.left)) ≡ l.initial.out ++ list_mentions l.list l.value

abbrev pub decreases-loop-left : goal.decreases-loop-left
decreases-loop-left l = left_length (option_copied l.left)
