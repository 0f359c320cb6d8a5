use Rattle.std.proofs.Common.{◌≡◌, ◌∷◌, map, take}
use Rattle.fp_small.specs.Config.{layout_group, remote_group}
use Rattle.fp_small.proofs.config_writing.config_groups.Given as goal

abbrev pub invariant-loop-row : goal.invariant-loop-row
invariant-loop-row l = l.groups.items ≡ layout_group ∷ map remote_group (take l.row-index l.remotes)
