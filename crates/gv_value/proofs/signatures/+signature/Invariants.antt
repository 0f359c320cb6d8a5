use Rattle.std.proofs.Common.{◌≡◌, ℕ, ◌+◌, ◌*◌, ◌≤◌, length}
use Rattle.gv_value.specs.Texts.{after_type, after_members}
use Rattle.gv_value.proofs.signatures.+signature.Given as goal

abbrev pub decreases-after_type : goal.decreases-after_type
decreases-after_type l = 4 * (l.arrays + l.structs)

abbrev pub decreases-after_element : goal.decreases-after_element
decreases-after_element l = 4 * (l.arrays + l.structs) + 2

abbrev pub decreases-after_entry : goal.decreases-after_entry
decreases-after_entry l = 4 * (l.arrays + l.structs) + 1

abbrev pub decreases-after_members : goal.decreases-after_members
decreases-after_members l = 4 * (l.arrays + l.structs) + 1

abbrev pub invariant-after_members-members : goal.invariant-after_members-members
invariant-after_members-members l = record {
  fuel : ℕ;
  enough : length l.left ≤ fuel;
  so_far : after_members (after_type (l.arrays + l.structs) l.arrays l.structs) (length l.text) l.text
      ≡ after_members (after_type (l.arrays + l.structs) l.arrays l.structs) fuel l.left;
}

abbrev pub decreases-after_members-members : goal.decreases-after_members-members
decreases-after_members-members l = length l.left
