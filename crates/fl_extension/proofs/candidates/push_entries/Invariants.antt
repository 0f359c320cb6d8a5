use Rattle.std.proofs.Common.{◌≡◌, ◌++◌}
use Rattle.std.specs.List.{flat_map}
use Rattle.std.specs.Option.{option_copied}
use Rattle.fl_meta.specs.Separators.{entries_of, other_entries}
use Rattle.fl_meta.proofs.Whole.{left_length}
use Rattle.fl_extension.specs.Points.{candidate_of, each_new, each_once}
use Rattle.fl_extension.specs.Seen.{has_seen}
use Rattle.fl_extension.proofs.candidates.push_entries.Given as goal

-- what was added, and what is left and new, are the candidates
abbrev pub invariant-loop-left : goal.invariant-loop-left
invariant-loop-left l =
    l.out.items ++ flat_map (candidate_of l.name l.arch) (each_new (has_seen l.seen) (other_entries (option_copied l.left)))
    ≡ l.initial.out.items ++ flat_map (candidate_of l.name l.arch) (each_once (entries_of l.versions))

abbrev pub decreases-loop-left : goal.decreases-loop-left
decreases-loop-left l = left_length (option_copied l.left)
