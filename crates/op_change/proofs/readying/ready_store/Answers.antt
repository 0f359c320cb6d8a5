use Rattle.std.proofs.Common.{arith, sym, subst}
use Rattle.std.proofs.lemmas.Result.{on_ok_weaker}
use Rattle.fp_host.specs.Paths.{Elements}
use Rattle.fp_host.specs.Frame.{Frame, AtEnd, NoPath}
use Rattle.fp_host.proofs.Cause.{same_fault}
use Rattle.fp_host.proofs.Ending.{ends_frame, ends_start, fault_caused}
use Rattle.fp_small.specs.Folders.{ancestors, FoldersAt, DirsAt, AreFree, AreDirs}
use Rattle.fp_small.specs.Replace.{CanReplace}
use Rattle.op_change.specs.Readying.{store_config, heads_folders, CanReady}
use Rattle.op_change.proofs.Readied.{goes_folders, goes_both, ends_ready, can_write}
use Rattle.op_change.proofs.readying.ready_store.Goals as goal

pub returns-in_err-make_above-clause-any_moment : goal.returns-in_err-make_above-clause-any_moment
returns-in_err-make_above-clause-any_moment g c =
    let frame = subst (λ (p : Elements). Frame (FoldersAt (ancestors p)) (DirsAt (ancestors p)) NoPath (g.H.Host.moments c.args.host.now) (g.H.Host.moments c.make_above.new.host)) c.in_ok-config.ensures.1 c.make_above.ensures.frame in
    goes_folders (g.met.H.Host.is_tree c.args.host.now) frame

pub returns-in_err-make_above-clause-fault_has_cause : goal.returns-in_err-make_above-clause-fault_has_cause
returns-in_err-make_above-clause-fault_has_cause g c =
    let t = g.met.H.Host.is_tree c.args.host.now in
    fault_caused CanReady (AreFree (ancestors c.in_ok-config.head)) _ _ _ _ _ t (omega arith) (ends_start t) c.make_above.ensures.fault_has_cause (same_fault _ _ _ c.in_err-make_above.was c.from_residual-in_err-make_above.ensures.1)
    (λ u v tree same can. subst (λ (p : Elements). AreFree (ancestors p) v) (sym c.in_ok-config.ensures.1) (subst (AreFree heads_folders) (sym same) can.folders))

pub returns-clause-any_moment : goal.returns-clause-any_moment
returns-clause-any_moment g c =
    let t = g.met.H.Host.is_tree in
    let frame = subst (λ (p : Elements). Frame (FoldersAt (ancestors p)) (DirsAt (ancestors p)) NoPath (g.H.Host.moments c.args.host.now) (g.H.Host.moments c.make_above.new.host)) c.in_ok-config.ensures.1 c.make_above.ensures.frame in
    goes_both (t c.args.host.now) (t c.make_above.new.host) frame c.write_config.ensures.any_moment

pub returns-clause-on_success : goal.returns-clause-on_success
returns-clause-on_success g c =
    let t = g.met.H.Host.is_tree in
    let frame = subst (λ (p : Elements). Frame (FoldersAt (ancestors p)) (DirsAt (ancestors p)) NoPath (g.H.Host.moments c.args.host.now) (g.H.Host.moments c.make_above.new.host)) c.in_ok-config.ensures.1 c.make_above.ensures.frame in
    let dirs = subst (λ (p : Elements). AtEnd (λ u w. AreFree (ancestors p) u → AreDirs (ancestors p) w) (g.H.Host.moments c.args.host.now) (g.H.Host.moments c.make_above.new.host)) c.in_ok-config.ensures.1 c.in_ok-make_above.ensures.on_success in
    on_ok_weaker c.write_config.result (λ done. ends_ready (t c.args.host.now) (t c.make_above.new.host) frame dirs c.write_config.ensures.any_moment done) c.write_config.ensures.on_success

pub returns-clause-fault_has_cause : goal.returns-clause-fault_has_cause
returns-clause-fault_has_cause g c =
    let t = g.met.H.Host.is_tree c.args.host.now in
    let frame = subst (λ (p : Elements). Frame (FoldersAt (ancestors p)) (DirsAt (ancestors p)) NoPath (g.H.Host.moments c.args.host.now) (g.H.Host.moments c.make_above.new.host)) c.in_ok-config.ensures.1 c.make_above.ensures.frame in
    fault_caused CanReady (CanReplace store_config) _ _ _ c.write_config.result c.write_config.result t c.make_above.ensures.fault_has_cause.later (ends_frame t frame) c.write_config.ensures.fault_has_cause (λ fault. fault)
    (λ u v tree folders can. can_write folders can)
