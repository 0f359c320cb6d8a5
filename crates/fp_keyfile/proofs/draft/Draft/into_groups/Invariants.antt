use Rattle.std.proofs.Common.{◌≡◌, map}
use Rattle.fp_keyfile.specs.Draft.{group_of}
use Rattle.fp_keyfile.proofs.draft.Draft.into_groups.Given as goal

abbrev pub invariant-loop-table : goal.invariant-loop-table
invariant-loop-table l = l.groups.items ≡ map group_of l.yielded
