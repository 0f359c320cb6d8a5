use Rattle.std.proofs.Common.{◌≡◌, true, length}
use Rattle.std.specs.Prelude.{◌↔◌}
use denote.Text.{Utf8}
use denote.Shadow.{shadow}
use Rattle.std.specs.List.{list_all}
use Rattle.fp_host.specs.Paths.{is_element, elements_of, IsAbove}
use Rattle.fp_host.proofs.path.Path.is_above.Given as goal

abbrev pub invariant-loop-up : goal.invariant-loop-up
invariant-loop-up l = shadow (Utf8 l.up) × (list_all is_element (elements_of l.up) ≡ true) × (IsAbove l.fn.self l.fn.other ↔ IsAbove l.fn.self (elements_of l.up))

abbrev pub decreases-loop-up : goal.decreases-loop-up
decreases-loop-up l = length (elements_of l.up)
