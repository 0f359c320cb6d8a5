use Rattle.std.proofs.Common.{◌≡◌, ℕ, ◌+◌, ◌≤◌, length}
use Rattle.gv_value.specs.declared.limits.TheConstants.{MOST_OPEN}
use Rattle.gv_value.specs.Texts.{after_type, are_types}
use Rattle.gv_value.proofs.signatures.is_signature.Given as goal

abbrev pub invariant-types : goal.invariant-types
invariant-types l = record {
  fuel : ℕ;
  enough : length l.left ≤ fuel;
  so_far : are_types (after_type (MOST_OPEN + MOST_OPEN) MOST_OPEN MOST_OPEN) (length l.text) l.text ≡ are_types (after_type (MOST_OPEN + MOST_OPEN) MOST_OPEN MOST_OPEN) fuel l.left;
}

abbrev pub decreases-types : goal.decreases-types
decreases-types l = length l.left
