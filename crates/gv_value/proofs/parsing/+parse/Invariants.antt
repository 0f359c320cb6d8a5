use Rattle.std.proofs.Common.{◌≡◌, ℕ, ◌+◌, ◌*◌, ◌≤◌, length}
use Rattle.gv_value.specs.TypeText.{type_map, members_at, type_at}
use Rattle.gv_value.proofs.Members.{shapes_before}
use Rattle.gv_value.proofs.parsing.+parse.Given as goal

abbrev pub decreases-read_type : goal.decreases-read_type
decreases-read_type l = 3 * l.room

abbrev pub decreases-read_from : goal.decreases-read_from
decreases-read_from l = 3 * l.room + 2

abbrev pub decreases-read_members : goal.decreases-read_members
decreases-read_members l = 3 * l.room + 1

abbrev pub decreases-read_entry : goal.decreases-read_entry
decreases-read_entry l = 3 * l.room + 1

abbrev pub invariant-read_members-members : goal.invariant-read_members-members
invariant-read_members-members l = record {
  fuel : ℕ;
  enough : length l.left ≤ fuel;
  so_far : members_at (type_at l.room) (length l.text) l.text ≡ type_map (shapes_before l.members.items) (members_at (type_at l.room) fuel l.left);
}

abbrev pub decreases-read_members-members : goal.decreases-read_members-members
decreases-read_members-members l = length l.left
