use Rattle.std.proofs.Common.{◌≡◌, take}
use Rattle.fp_keyfile.proofs.key_file.KeyFile.copy.Given as goal

abbrev pub invariant-loop-group : goal.invariant-loop-group
invariant-loop-group l = l.groups.items ≡ take l.group-index l.group-items
