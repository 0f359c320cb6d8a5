use Rattle.std.proofs.Common.{Ok, Err, sym, subst}
use Rattle.fp_host.specs.Moments.{Goes}
use Rattle.fl_filter.specs.Filtered.{filtered}
use Rattle.fl_change.specs.declared.end.RunEnd.{RunEnd}
use Rattle.fl_top.specs.Answer.{forwarding}
use Rattle.fl_top.specs.Return.{EndsAnyway}
use Rattle.fl_top.specs.Telling.{Tells}
use Rattle.fl_top.proofs.Forwarding.{goes_forwarded}
use Rattle.fl_top.proofs.filtering.forward.Goals as goal

pub returns-in-Ok-clause-any_moment : goal.returns-in-Ok-clause-any_moment
returns-in-Ok-clause-any_moment g c = goes_forwarded (filtered c.args.policy c.args.recording.now) (Ok tt) (g.met.H.Host.is_tree c.args.host.now) c.in-Ok.ensures.any_moment

pub returns-in-Err-clause-any_moment : goal.returns-in-Err-clause-any_moment
returns-in-Err-clause-any_moment g c =
    let f = filtered c.args.policy c.args.recording.now in
    let m = g.H.Host.moments c.args.host.now in
    let n = g.H.Host.moments c.filter_recording.new.host in
    subst (λ (e : RunEnd). Goes m n (Tells (forwarding f)) (EndsAnyway (forwarding f) (Err e))) (sym c.end_of_filter.ensures)
    (goes_forwarded f (Err c.in-Err.end) (g.met.H.Host.is_tree c.args.host.now) c.in-Err.ensures.any_moment)
