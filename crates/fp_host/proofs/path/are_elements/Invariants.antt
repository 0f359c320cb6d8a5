use Rattle.std.proofs.Common.{◌≡◌, length}
use denote.Text.{Utf8}
use denote.Shadow.{shadow}
use Rattle.std.specs.List.{list_all}
use Rattle.fp_host.specs.Paths.{is_element, cut}
use Rattle.fp_host.proofs.path.are_elements.Given as goal

abbrev pub invariant-loop-front : goal.invariant-loop-front
invariant-loop-front l = shadow (Utf8 l.left) × (list_all is_element (cut l.left) ≡ list_all is_element (cut l.fn.text))

abbrev pub decreases-loop-front : goal.decreases-loop-front
decreases-loop-front l = length l.left
