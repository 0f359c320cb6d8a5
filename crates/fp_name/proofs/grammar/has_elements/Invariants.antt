use Rattle.std.proofs.Common.{◌≡◌, ◌+◌, ◌≤◌, length}
use denote.Text.{Utf8}
use denote.Shadow.{shadow}
use Rattle.std.specs.List.{slice_split}
use Rattle.fp_name.specs.Bytes.{is_dot}
use Rattle.fp_name.specs.Grammar.{are_elements}
use Rattle.fp_name.proofs.grammar.has_elements.Given as goal

-- what is left has the elements after the dots so far
abbrev pub invariant-loop-element : goal.invariant-loop-element
invariant-loop-element l = record {
  is_text : shadow (Utf8 l.rest);
  count : l.dots + length (slice_split is_dot l.rest) ≡ length (slice_split is_dot l.text);
  elements : are_elements (slice_split is_dot l.rest) ≡ are_elements (slice_split is_dot l.text);
  bound : l.dots + length l.rest ≤ length l.text;
}

abbrev pub decreases-loop-element : goal.decreases-loop-element
decreases-loop-element l = length l.rest
