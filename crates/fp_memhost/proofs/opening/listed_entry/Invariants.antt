use Rattle.std.proofs.Common.{◌≡◌, drop}
use Rattle.fp_host.specs.Paths.{elements_of}
use Rattle.fp_memhost.specs.Images.{listed_slot}
use Rattle.fp_memhost.proofs.opening.listed_entry.Given as goal

abbrev pub invariant-loop-path : goal.invariant-loop-path
invariant-loop-path l = listed_slot (drop l.path-index l.names) (elements_of l.text) ≡ listed_slot l.names (elements_of l.text)
