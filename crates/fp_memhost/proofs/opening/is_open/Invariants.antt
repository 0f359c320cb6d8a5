use Rattle.std.proofs.Common.{◌≡◌, length, true}
use denote.Text.{Utf8}
use denote.Shadow.{shadow}
use Rattle.std.specs.List.{list_all}
use Rattle.fp_host.specs.Paths.{is_element, elements_of}
use Rattle.fp_memhost.specs.Opening.{is_open}
use Rattle.fp_memhost.proofs.opening.is_open.Given as goal

abbrev pub invariant-loop-up : goal.invariant-loop-up
invariant-loop-up l = shadow (Utf8 l.text) × (list_all is_element (elements_of l.text) ≡ true) × (is_open l.names (elements_of l.text) ≡ is_open l.names l.path)

abbrev pub decreases-loop-up : goal.decreases-loop-up
decreases-loop-up l = length l.text
