use Rattle.std.proofs.Common.{◌≡◌, ◌≤◌, drop}
use Rattle.fp_host.specs.Frame.{Unchanged}
use Rattle.fp_small.specs.Places.{repo}
use Rattle.ost_model.specs.Objects.{Have}
use Rattle.ost_model.specs.Remotes.{Stores}
use Rattle.fl_installed.specs.Users.{first_user}
use Rattle.fl_installed.proofs.users.first_among.Given as goal

abbrev pub invariant-loop-row : goal.invariant-loop-row
invariant-loop-row g l = record {
  still : Unchanged (g.H.Host.moments l.fn.host) (g.H.Host.moments l.host);
  later : g.H.Host.faults l.fn.host ≤ g.H.Host.faults l.host;
  rest : (have : Have) → Stores repo (g.H.Host.moments l.fn.host) have → first_user have l.runtime l.rows ≡ first_user have l.runtime (drop l.row-index l.rows);
}
