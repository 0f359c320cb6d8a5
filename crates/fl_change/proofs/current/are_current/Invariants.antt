use Rattle.std.proofs.Common.{◌≡◌, ◌≤◌, drop, Some}
use Rattle.std.specs.List.{list_all}
use Rattle.fp_host.specs.Remote.{Holdings}
use Rattle.fl_change.specs.Current.{is_as_offered}
use Rattle.fl_change.proofs.current.are_current.Given as goal

abbrev pub invariant-loop-row : goal.invariant-loop-row
invariant-loop-row g l = record {
  same : g.R.Remotes.holds l.remotes ≡ g.R.Remotes.holds l.fn.remotes;
  later : g.R.Remotes.faults l.fn.remotes ≤ g.R.Remotes.faults l.remotes;
  rest : (held : Holdings) → g.R.Remotes.holds l.fn.remotes ≡ Some held
      → list_all (is_as_offered held l.known) l.rows ≡ list_all (is_as_offered held l.known) (drop l.row-index l.rows);
}
