use Rattle.std.proofs.Common.{Bool, ap, ◌∙◌, refl, subst}
use Rattle.std.proofs.lemmas.Result.{on_ok_weaker}
use Rattle.fp_host.specs.View.{View}
use Rattle.fp_host.proofs.Ending.{ends_goes, ends_looks, ends_both, ends_on, ends_to, fault_caused}
use Rattle.ost_model.specs.Objects.{object_path}
use Rattle.ost_store.specs.Stage.{CanStage}
use Rattle.ost_export.specs.Staging.{IsLacking, CanStageOne, name_of}
use Rattle.ost_export.proofs.Staged.{stages_none, stages_new, can_stage}
use Rattle.ost_export.proofs.Works.{works_looks, works_stage}
use Rattle.ost_export.proofs.staging.stage_lacking.Goals as goal

pub returns-in_err-lacks-clause-any_moment : goal.returns-in_err-lacks-clause-any_moment
returns-in_err-lacks-clause-any_moment g c = works_looks (g.met.H.Host.is_tree c.args.host.now) c.is_lacking.ensures.unchanged

pub returns-then-lacks-clause-any_moment : goal.returns-then-lacks-clause-any_moment
returns-then-lacks-clause-any_moment g c =
    let t = g.met.H.Host.is_tree in
    let o = c.args.object.now in
    works_stage c.args.work.now (object_path c.args.work.now o.digest o.kind) o.digest o.kind o.object c.as_bytes-bytes.ensures.good refl (t c.is_lacking.new.host) c.stage_object.ensures.any_moment (works_looks (t c.args.host.now) c.is_lacking.ensures.unchanged)

pub returns-then-lacks-clause-on_success : goal.returns-then-lacks-clause-on_success
returns-then-lacks-clause-on_success g c =
    let t = g.met.H.Host.is_tree in
    let o = c.args.object.now in
    let looked = ends_both (ends_looks (t c.args.host.now) c.is_lacking.ensures.unchanged) c.in_ok-lacks.ensures.tells in
    on_ok_weaker c.stage_object.result
    (λ done have in_it. ends_on (ends_both (ends_goes (t c.is_lacking.new.host) c.stage_object.ensures.any_moment) done.1) looked (t c.is_lacking.new.host)
    (λ u v w tree q s. stages_new o c.args.staged.now.items c.stage_object.new.staged.items c.as_bytes-bytes.ensures.good in_it q.0.0 (subst (λ (b : Bool). IsLacking c.args.root.now c.args.work.now (name_of o) u b) c.if-lacks.true q.1) s.0 s.1 done.0))
    c.stage_object.ensures.on_success

pub returns-then-lacks-clause-fault_has_cause : goal.returns-then-lacks-clause-fault_has_cause
returns-then-lacks-clause-fault_has_cause g c =
    let t = g.met.H.Host.is_tree in
    let o = c.args.object.now in
    let looked = ends_both (ends_looks (t c.args.host.now) c.is_lacking.ensures.unchanged) c.in_ok-lacks.ensures.tells in
    fault_caused (CanStageOne c.args.work.now o.object) (CanStage (object_path c.args.work.now o.digest o.kind) o.object) _ _ _ c.stage_object.result c.stage_object.result (t c.args.host.now) c.is_lacking.ensures.fault_has_cause.later looked c.stage_object.ensures.fault_has_cause (λ e. e)
    (λ u v tree q can. can_stage o c.as_bytes-bytes.ensures.good q.0.0 (ap (λ (x : View). x.names (object_path c.args.work.now o.digest o.kind)) q.0.0 ∙ (subst (λ (b : Bool). IsLacking c.args.root.now c.args.work.now (name_of o) u b) c.if-lacks.true q.1).1) can)

pub returns-else-lacks-clause-any_moment : goal.returns-else-lacks-clause-any_moment
returns-else-lacks-clause-any_moment g c = works_looks (g.met.H.Host.is_tree c.args.host.now) c.is_lacking.ensures.unchanged

pub returns-else-lacks-clause-on_success : goal.returns-else-lacks-clause-on_success
returns-else-lacks-clause-on_success g c =
    let t = g.met.H.Host.is_tree in
    let o = c.args.object.now in
    let looked = ends_both (ends_looks (t c.args.host.now) c.is_lacking.ensures.unchanged) c.in_ok-lacks.ensures.tells in
    λ have in_it. ends_to looked (λ u w q. stages_none (name_of o) c.args.staged.now.items c.as_bytes-bytes.ensures.good q.0.0 (subst (λ (b : Bool). IsLacking c.args.root.now c.args.work.now (name_of o) u b) c.if-lacks.false q.1))

pub returns-else-lacks-clause-fault_has_cause : goal.returns-else-lacks-clause-fault_has_cause
returns-else-lacks-clause-fault_has_cause g c = record { later = c.is_lacking.ensures.fault_has_cause.later; fault = λ is. absurd (cc is) }
