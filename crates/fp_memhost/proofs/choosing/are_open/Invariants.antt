use Rattle.std.proofs.Common.{◌≡◌, drop}
use Rattle.std.specs.List.{list_all}
use Rattle.fp_memhost.specs.Scenes.{seen}
use Rattle.fp_memhost.specs.Images.{is_open_file}
use Rattle.fp_memhost.proofs.choosing.are_open.Given as goal

abbrev pub invariant-loop-id : goal.invariant-loop-id
invariant-loop-id l = list_all (is_open_file (seen l.scene)) (drop l.id-index l.bytes) ≡ list_all (is_open_file (seen l.scene)) l.bytes
