use Rattle.std.proofs.Common.{◌≡◌, ◌≤◌, drop, Some}
use Rattle.fp_host.specs.Remote.{Holdings}
use Rattle.fl_plan.specs.Offers.{first_of, offer_of}
use Rattle.fl_plan.proofs.asking.first_candidate.Given as goal

abbrev pub invariant-loop-name : goal.invariant-loop-name
invariant-loop-name g l = record {
  same : g.R.Remotes.holds l.remotes ≡ g.R.Remotes.holds l.fn.remotes;
  later : g.R.Remotes.faults l.fn.remotes ≤ g.R.Remotes.faults l.remotes;
  rest : (held : Holdings) → g.R.Remotes.holds l.fn.remotes ≡ Some held
      → first_of (offer_of held l.remote) l.candidates ≡ first_of (offer_of held l.remote) (drop l.name-index l.candidates);
}
