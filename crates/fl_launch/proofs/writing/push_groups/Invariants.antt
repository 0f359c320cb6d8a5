use Rattle.std.proofs.Common.{◌≡◌, ◌++◌, string_bytes, take}
use Rattle.std.specs.List.{flat_map}
use Rattle.fp_keyfile.specs.KeyFile.{group_text}
use Rattle.fl_launch.proofs.writing.push_groups.Given as goal

abbrev pub invariant-loop-group : goal.invariant-loop-group
invariant-loop-group l = string_bytes l.out ≡ string_bytes l.initial.out ++ flat_map group_text (take l.group-index l.groups)
