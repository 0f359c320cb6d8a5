use Rattle.std.proofs.Common.{◌≤◌, take}
use Rattle.fp_host.specs.Frame.{AtEnd, Unchanged}
use Rattle.fp_host.specs.Outcome.{shows}
use Rattle.dep_open.specs.Parts.{HoldsGoodLayers, FindsOverrides}
use Rattle.dep_open.proofs.overrides.overrides_among.Given as goal

abbrev pub invariant-loop-name : goal.invariant-loop-name
invariant-loop-name g l = record {
  still : Unchanged (g.H.Host.moments l.fn.host) (g.H.Host.moments l.host);
  good : HoldsGoodLayers l.rows.entries;
  tells : AtEnd (λ u w. FindsOverrides (shows u) (take l.name-index l.names) l.rows.entries l.damaged) (g.H.Host.moments l.fn.host) (g.H.Host.moments l.host);
  later : g.H.Host.faults l.fn.host ≤ g.H.Host.faults l.host;
}
