use Rattle.std.proofs.Common.{◌≡◌, map, take}
use Rattle.fl_export.specs.Rewritten.{rewritten_group}
use Rattle.fl_export.proofs.rewriting.rewritten_file.Given as goal

abbrev pub invariant-loop-group : goal.invariant-loop-group
invariant-loop-group l = l.groups.items ≡ map (rewritten_group l.name) (take l.group-index l.file)
