use Rattle.std.proofs.Common.{◌≡◌, drop}
use Rattle.fp_memhost.specs.Soundness.{are_good_names}
use Rattle.fp_memhost.proofs.image.Image.are_good_names.Given as goal

abbrev pub invariant-loop-path : goal.invariant-loop-path
invariant-loop-path l = are_good_names l.self (drop l.path-index l.path-items) ≡ are_good_names l.self l.path-items
