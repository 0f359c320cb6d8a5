use Rattle.std.proofs.Common.{◌≡◌, ◌++◌}
use Rattle.ost_fsck.specs.Batches.{findings_by, objects_by}
use Rattle.ost_fsck.proofs.batch.judge_all.Given as goal

abbrev pub invariant-loop-row : goal.invariant-loop-row
invariant-loop-row l = record {
  count : l.objects ≡ objects_by l.digests l.yielded;
  found : l.findings.items ≡ l.fn.findings.items ++ findings_by l.digests l.yielded;
}
