use Rattle.std.proofs.Common.{◌≡◌, ◌++◌, take, string_bytes}
use Rattle.std.specs.Prelude.{flat_map}
use Rattle.fl_top.specs.Fsck.{finding_text}
use Rattle.fl_top.proofs.checking.push_findings.Given as goal

abbrev pub invariant-loop-finding : goal.invariant-loop-finding
invariant-loop-finding l = string_bytes l.text ≡ string_bytes l.fn.text ++ flat_map finding_text (take l.finding-index l.findings)
