use Rattle.std.proofs.Common.{◌≡◌, drop, true}
use denote.Text.{Utf8}
use denote.Shadow.{shadow}
use Rattle.std.specs.List.{list_all}
use Rattle.fp_host.specs.Paths.{is_element, elements_of}
use Rattle.fp_host.proofs.path.Path.folder.Given as goal

abbrev pub invariant-loop-i : goal.invariant-loop-i
invariant-loop-i l = shadow (Utf8 l.text) × (elements_of l.text ≡ drop l._i l.fn.self) × (list_all is_element (elements_of l.text) ≡ true)
