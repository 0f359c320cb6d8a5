use Rattle.std.proofs.Common.{◌≡◌, ◌++◌, drop, true}
use Rattle.std.specs.List.{list_all}
use Rattle.fp_host.specs.Paths.{is_element}
use Rattle.fp_memhost.specs.Folders.{children_of}
use Rattle.fp_memhost.proofs.folders.children.Given as goal

abbrev pub invariant-loop-name : goal.invariant-loop-name
invariant-loop-name l = (l.found.items ++ children_of (drop l.name-index l.names) l.folder ≡ children_of l.names l.folder) × (list_all is_element l.found.items ≡ true)
