use Rattle.std.proofs.Common.{◌≤◌, take}
use Rattle.std.specs.HashSet.{contains_text}
use Rattle.fp_host.specs.Frame.{Unchanged}
use Rattle.ost_model.specs.Objects.{Have}
use Rattle.ost_model.specs.Remotes.{Stores}
use Rattle.ost_prune.specs.Texts.{AreGathered}
use Rattle.ost_prune.proofs.texts.gather.Given as goal

abbrev pub invariant-loop-commit : goal.invariant-loop-commit
invariant-loop-commit g l = record {
  still : Unchanged (g.H.Host.moments l.fn.host) (g.H.Host.moments l.host);
  later : g.H.Host.faults l.fn.host ≤ g.H.Host.faults l.host;
  gathered : (have : Have) → Stores l.places.root (g.H.Host.moments l.fn.host) have → AreGathered l.places.root have (take l.commit-index l.keep) (contains_text l.texts);
}
