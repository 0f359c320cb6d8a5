use Rattle.std.proofs.Common.{◌≡◌, take}
use Rattle.std.specs.List.{filter}
use Rattle.ost_prune.specs.Prune.{is_commit}
use Rattle.ost_prune.specs.Removing.{is_other}
use Rattle.ost_prune.proofs.parting.part.Given as goal

abbrev pub invariant-loop-object : goal.invariant-loop-object
invariant-loop-object l = record {
  commits : l.commits.items ≡ filter is_commit (take l.object-index l.objects);
  others : l.others.items ≡ filter is_other (take l.object-index l.objects);
}
