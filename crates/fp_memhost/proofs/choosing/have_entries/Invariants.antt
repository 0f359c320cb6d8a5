use Rattle.std.proofs.Common.{◌≡◌, drop}
use Rattle.std.specs.List.{list_all}
use Rattle.fp_memhost.specs.Scenes.{seen}
use Rattle.fp_memhost.specs.Images.{has_entry}
use Rattle.fp_memhost.proofs.choosing.have_entries.Given as goal

abbrev pub invariant-loop-path : goal.invariant-loop-path
invariant-loop-path l = list_all (has_entry (seen l.scene)) (drop l.path-index l.numbers) ≡ list_all (has_entry (seen l.scene)) l.numbers
