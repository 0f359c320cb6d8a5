use Rattle.std.proofs.Common.{Ok, subst}
use Rattle.fp_base.specs.declared.object.ObjKind.TheVariants as kinds
use Rattle.fp_host.specs.Moments.{Makes}
use Rattle.fp_host.specs.Reads.{StatOf}
use Rattle.fp_host.specs.declared.host.Stat.{Stat}
use Rattle.fp_host.proofs.Ending.{ends_call}
use Rattle.ost_head.specs.Brings.{CanBring}
use Rattle.ost_store.specs.ObjectNames.{AreOpen}
use Rattle.ost_walk.proofs.Ended.{host_end}
use Rattle.ost_pull.proofs.Contents.{works_bring, kept_good, can_bring}
use Rattle.ost_pull.proofs.Kept.{works_start, works_looks, keeps_new, keeps_already}
use Rattle.ost_pull.proofs.Taken.{passed, ok_two}
use Rattle.ost_pull.proofs.keeping.keep_content.Goals as goal

pub returns-in_err-path-clause-any_moment : goal.returns-in_err-path-clause-any_moment
returns-in_err-path-clause-any_moment g c = works_start (g.met.H.Host.is_tree c.args.host.now)

pub returns-in_err-stat_of-clause-any_moment : goal.returns-in_err-stat_of-clause-any_moment
returns-in_err-stat_of-clause-any_moment g c = works_looks (g.met.H.Host.is_tree c.args.host.now) c.stat_of.ensures.unchanged

pub returns-in_err-stat_of-clause-fault_has_cause : goal.returns-in_err-stat_of-clause-fault_has_cause
returns-in_err-stat_of-clause-fault_has_cause g c =
    let cause = c.stat_of.ensures.fault_has_cause in
    record { later = cause.later; fault = λ is m at can. cause.fault (host_end _ _ _ c.in_err-stat_of.was c.from_residual-in_err-stat_of.ensures.1 is) m at tt }

pub returns-in-Absent-clause-any_moment : goal.returns-in-Absent-clause-any_moment
returns-in-Absent-clause-any_moment g c =
    let t = g.met.H.Host.is_tree in
    works_bring c.args.work.now c.in_ok-path.path c.args.digest.now c.as_bytes-bytes.ensures.good c.in_ok-path.ensures (t c.stat_of.new.host) c.keep_new.ensures.any_moment (works_looks (t c.args.host.now) c.stat_of.ensures.unchanged)

pub returns-in-Absent-clause-on_success : goal.returns-in-Absent-clause-on_success
returns-in-Absent-clause-on_success g c =
    let t = g.met.H.Host.is_tree in
    let call = subst (λ (s : Stat). Makes (StatOf c.in_ok-path.path (Ok s)) (g.H.Host.moments c.args.host.now) (g.H.Host.moments c.stat_of.new.host)) c.in-Absent.is c.in_ok-stat_of.ensures.tells in
    ok_two c.keep_new.result
    (λ brought more. keeps_new (c.args.digest.now, kinds.File) brought.object c.args.kept.now.items c.keep_new.new.kept.items (t c.args.host.now) (t c.stat_of.new.host) c.as_bytes-bytes.ensures.good brought.named c.in_ok-path.ensures
    call brought.stages brought.staged more c.args.url.now (g.R.Remotes.holds c.args.remotes.now) brought.there)
    c.keep_new.ensures.on_success c.keep_new.ensures.adds

pub returns-in-Absent-clause-fault_has_cause : goal.returns-in-Absent-clause-fault_has_cause
returns-in-Absent-clause-fault_has_cause g c =
    let t = g.met.H.Host.is_tree in
    let call = subst (λ (s : Stat). Makes (StatOf c.in_ok-path.path (Ok s)) (g.H.Host.moments c.args.host.now) (g.H.Host.moments c.stat_of.new.host)) c.in-Absent.is c.in_ok-stat_of.ensures.tells in
    passed (AreOpen c.args.work.now) (CanBring c.in_ok-path.path) (t c.args.host.now) c.stat_of.ensures.fault_has_cause.later (ends_call (t c.args.host.now) call) c.keep_new.ensures.fault_has_cause (λ is. is)
    (λ u v tree stat can. can_bring c.args.digest.now c.as_bytes-bytes.ensures.good c.in_ok-path.ensures stat can)

pub returns-clause-any_moment : goal.returns-clause-any_moment
returns-clause-any_moment g c = works_looks (g.met.H.Host.is_tree c.args.host.now) c.stat_of.ensures.unchanged

pub returns-clause-on_success : goal.returns-clause-on_success
returns-clause-on_success g c =
    keeps_already (c.args.digest.now, kinds.File) c.args.kept.now.items c.in_ok-stat_of.field-0 (g.met.H.Host.is_tree c.args.host.now) c.as_bytes-bytes.ensures.good c.in_ok-path.ensures c.in_ok-stat_of.ensures.tells c.in_default.not-Absent c.args.url.now (g.R.Remotes.holds c.args.remotes.now)

pub returns-clause-tells : goal.returns-clause-tells
returns-clause-tells g c m held at is are =
    let end = keeps_already (c.args.digest.now, kinds.File) c.args.kept.now.items c.in_ok-stat_of.field-0 (g.met.H.Host.is_tree c.args.host.now) c.as_bytes-bytes.ensures.good c.in_ok-path.ensures c.in_ok-stat_of.ensures.tells c.in_default.not-Absent c.args.url.now (g.R.Remotes.holds c.args.remotes.now) in
    let now = (end.goes.told m at).3.on are in
    kept_good c.args.digest.now held is now.0 now.1
