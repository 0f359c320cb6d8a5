use Rattle.std.proofs.Common.{◌≡◌, ◌≤◌, drop, Some}
use Rattle.fp_host.specs.Remote.{Holdings}
use Rattle.fl_plan.specs.Offers.{first_of, offer_if}
use Rattle.fl_plan.proofs.asking.ask_each.Given as goal

abbrev pub invariant-loop-row : goal.invariant-loop-row
invariant-loop-row g l = record {
  same : g.R.Remotes.holds l.remotes ≡ g.R.Remotes.holds l.fn.remotes;
  later : g.R.Remotes.faults l.fn.remotes ≤ g.R.Remotes.faults l.remotes;
  rest : (held : Holdings) → g.R.Remotes.holds l.fn.remotes ≡ Some held
      → first_of (offer_if held l.own l.others l.name) l.rows ≡ first_of (offer_if held l.own l.others l.name) (drop l.row-index l.rows);
}
