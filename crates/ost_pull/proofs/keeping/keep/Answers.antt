use Rattle.std.proofs.Common.{Ok, inl, refl, arith, subst}
use Rattle.fp_host.specs.Moments.{Makes}
use Rattle.fp_host.proofs.Cause.{same_fault}
use Rattle.fp_host.proofs.Ending.{ends_start, ends_call, call_caused, fault_caused}
use Rattle.fp_host.specs.Reads.{StatOf}
use Rattle.fp_host.specs.declared.host.Stat.{Stat}
use Rattle.ost_store.specs.Stage.{CanStage}
use Rattle.ost_pull.specs.Work.{CanKeep}
use Rattle.ost_pull.proofs.Kept.{can_stage, stat_clash, works_start, works_stat, works_stage, keeps_new, keeps_already}
use Rattle.ost_pull.proofs.keeping.keep.Goals as goal

pub returns-in_err-stat-clause-any_moment : goal.returns-in_err-stat-clause-any_moment
returns-in_err-stat-clause-any_moment g c = let t = g.met.H.Host.is_tree in works_stat (t c.args.host.now) c.stat.ensures.step (works_start (t c.args.host.now))

pub returns-in_err-stage-in-Absent-clause-any_moment :
    goal.returns-in_err-stage-in-Absent-clause-any_moment
returns-in_err-stage-in-Absent-clause-any_moment g c =
    let t = g.met.H.Host.is_tree in
    works_stage c.args.work.now c.in_ok-path.path c.args.digest.now c.args.kind c.args.object.now c.as_bytes-bytes.ensures.good c.in_ok-path.ensures (t c.stat.new.self) c.stage.ensures.any_moment (works_stat (t c.args.host.now) c.stat.ensures.step (works_start (t c.args.host.now)))

pub returns-in-Ok-clause-any_moment : goal.returns-in-Ok-clause-any_moment
returns-in-Ok-clause-any_moment g c =
    let t = g.met.H.Host.is_tree in
    works_stage c.args.work.now c.in_ok-path.path c.args.digest.now c.args.kind c.args.object.now c.as_bytes-bytes.ensures.good c.in_ok-path.ensures (t c.stat.new.self) c.stage.ensures.any_moment (works_stat (t c.args.host.now) c.stat.ensures.step (works_start (t c.args.host.now)))

pub returns-in-Ok-clause-on_success : goal.returns-in-Ok-clause-on_success
returns-in-Ok-clause-on_success g c =
    let t = g.met.H.Host.is_tree in
    keeps_new (c.args.digest.now, c.args.kind) c.args.object.now c.args.kept.now.items c.push.new.self.items (t c.args.host.now) (t c.stat.new.self) c.as_bytes-bytes.ensures.good c.requires c.in_ok-path.ensures
    (subst (λ (s : Stat). Makes (StatOf c.in_ok-path.path (Ok s)) (g.H.Host.moments c.args.host.now) (g.H.Host.moments c.stat.new.self)) c.in-Absent.is c.in_ok-stat.ensures.step) c.stage.ensures.any_moment c.in_ok-stage-in-Absent.ensures.on_success c.in-Ok.ensures.items

pub returns-in-Absent-clause-any_moment : goal.returns-in-Absent-clause-any_moment
returns-in-Absent-clause-any_moment g c =
    let t = g.met.H.Host.is_tree in
    works_stage c.args.work.now c.in_ok-path.path c.args.digest.now c.args.kind c.args.object.now c.as_bytes-bytes.ensures.good c.in_ok-path.ensures (t c.stat.new.self) c.stage.ensures.any_moment (works_stat (t c.args.host.now) c.stat.ensures.step (works_start (t c.args.host.now)))

pub returns : goal.returns
returns g c =
    let t = g.met.H.Host.is_tree in
    record {
      any_moment = works_stat (t c.args.host.now) c.stat.ensures.step (works_start (t c.args.host.now));
      on_success = λ url holds there. keeps_already (c.args.digest.now, c.args.kind) c.args.kept.now.items c.in_ok-stat.field-0 (t c.args.host.now) c.as_bytes-bytes.ensures.good c.in_ok-path.ensures c.in_ok-stat.ensures.step c.in_default.not-Absent url holds;
      adds = inl refl;
      fault_has_cause = record { later = c.stat.ensures.fault_has_cause.later; fault = λ is. absurd (cc is) };
    }

pub returns-in_err-stat-clause-fault_has_cause : goal.returns-in_err-stat-clause-fault_has_cause
returns-in_err-stat-clause-fault_has_cause g c =
    let t = g.met.H.Host.is_tree in
    call_caused (CanKeep c.args.work.now c.args.digest.now c.args.kind c.args.object.now) (λ v. Unit {0}) _ _ _ _ _ (t c.args.host.now) (omega arith) (ends_start (t c.args.host.now)) c.in_err-stat.ensures.step c.in_err-stat.ensures.fault_has_cause
    c.from_residual-in_err-stat.ensures.1 (λ v w s is ok. stat_clash c.in_ok-path.path c.in_err-stat.field-0.0 v w s is) (λ u v tree q can. tt)

pub returns-in_err-stage-in-Absent-clause-fault_has_cause :
    goal.returns-in_err-stage-in-Absent-clause-fault_has_cause
returns-in_err-stage-in-Absent-clause-fault_has_cause g c =
    let t = g.met.H.Host.is_tree in
    fault_caused (CanKeep c.args.work.now c.args.digest.now c.args.kind c.args.object.now) (CanStage c.in_ok-path.path c.args.object.now) _ _ _ _ _ (t c.args.host.now) c.stat.ensures.fault_has_cause.later
    (ends_call (t c.args.host.now) (subst (λ (s : Stat). Makes (StatOf c.in_ok-path.path (Ok s)) (g.H.Host.moments c.args.host.now) (g.H.Host.moments c.stat.new.self)) c.in-Absent.is c.in_ok-stat.ensures.step))
    c.stage.ensures.fault_has_cause (same_fault _ _ _ c.in_err-stage-in-Absent.was c.from_residual-in_err-stage-in-Absent.ensures.1) (λ u v tree stat can. can_stage c.args.digest.now c.args.kind c.args.object.now c.in_ok-path.ensures stat can)
