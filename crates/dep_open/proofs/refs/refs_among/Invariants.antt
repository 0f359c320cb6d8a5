use Rattle.std.proofs.Common.{◌≤◌, take}
use Rattle.fp_host.specs.Frame.{AtEnd, Unchanged}
use Rattle.fp_host.specs.Outcome.{shows}
use Rattle.dep_open.specs.Parts.{HoldsGoodRows, FindsRefs}
use Rattle.dep_open.proofs.refs.refs_among.Given as goal

abbrev pub invariant-loop-path : goal.invariant-loop-path
invariant-loop-path g l = record {
  still : Unchanged (g.H.Host.moments l.fn.host) (g.H.Host.moments l.host);
  good : HoldsGoodRows l.rows.entries;
  tells : AtEnd (λ u w. FindsRefs (shows u) (take l.path-index l.paths) l.rows.entries l.damaged) (g.H.Host.moments l.fn.host) (g.H.Host.moments l.host);
  later : g.H.Host.faults l.fn.host ≤ g.H.Host.faults l.host;
}
