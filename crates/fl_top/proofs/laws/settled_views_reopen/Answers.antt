use Rattle.std.proofs.Common.{refl}
use Rattle.fp_host.specs.Outcome.{shows}
use Rattle.fp_host.proofs.Shown.{now_left}
use Rattle.fl_top.proofs.laws.settled_views_reopen.Goals as goal

pub returns : goal.returns
returns c v tree settled =
    record {
      disk = shows v;
      left = now_left v;
      tree = tree;
      settled = settled;
      same = λ q. refl;
    }
