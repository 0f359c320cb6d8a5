use Rattle.std.proofs.Common.{◌≡◌, ◌≤◌, ◌+◌, take, drop, length}
use Rattle.ost_commit.specs.declared.limits.TheConstants.{MOST_NAMES}
use Rattle.ost_commit.specs.Rows.{says}
use Rattle.ost_commit.specs.Refusals.{refused_remainder, first_refused}
use Rattle.ost_commit.specs.Folders.{names_in, Gathers}
use Rattle.ost_commit.proofs.tree.Tree.of_rows.Given as goal

abbrev pub invariant-loop-at : goal.invariant-loop-at
invariant-loop-at l = record {
  gathers : Gathers l.rows (says (take l.at l.rows)) l.tree.folders.items;
  refused : refused_remainder (take l.at l.rows) l.tree.names (drop l.at l.rows) ≡ first_refused l.rows;
  few : l.tree.names ≤ MOST_NAMES;
  counted : names_in l.tree.folders.items ≤ l.tree.names;
  folders : length l.tree.folders.items ≤ l.tree.names + 1;
}
