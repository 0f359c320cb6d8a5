use Rattle.std.proofs.Common.{◌≡◌, List, ℕ, subst}
use Rattle.std.proofs.lemmas.Result.{on_ok_weaker}
use Rattle.fp_host.specs.Paths.{Elements}
use Rattle.fp_host.specs.Moments.{Goes}
use Rattle.fp_host.specs.View.{View}
use Rattle.fp_host.proofs.Ending.{ends_call, ends_on, ends_to}
use Rattle.fp_small.specs.Replace.{Replaces, WasReplaced}
use Rattle.op_change.specs.Readying.{store_config, HasConfigured}
use Rattle.op_change.proofs.Readied.{stat_only, stat_writes, made_config, config_there}
use Rattle.op_change.proofs.readying.write_config.Goals as goal

pub returns-in_err-stat-clause-any_moment : goal.returns-in_err-stat-clause-any_moment
returns-in_err-stat-clause-any_moment g c = stat_only (g.met.H.Host.is_tree c.args.host.now) c.stat.ensures.step

pub returns-in-Absent-clause-any_moment : goal.returns-in-Absent-clause-any_moment
returns-in-Absent-clause-any_moment g c =
    let t = g.met.H.Host.is_tree in
    let at_config = subst (λ (p : Elements). Goes (g.H.Host.moments c.stat.new.self) (g.H.Host.moments c.replace.new.host) (Replaces p c.as_bytes.result.now) (Replaces p c.as_bytes.result.now)) c.requires c.replace.ensures.any_moment in
    stat_writes c.requires c.in-Absent.is (t c.args.host.now) (t c.stat.new.self) c.in_ok-stat.ensures.step (subst (λ (b : List ℕ). Goes (g.H.Host.moments c.stat.new.self) (g.H.Host.moments c.replace.new.host) (Replaces store_config b) (Replaces store_config b)) c.as_bytes.ensures.value at_config)

pub returns-in-Absent-clause-on_success : goal.returns-in-Absent-clause-on_success
returns-in-Absent-clause-on_success g c =
    let t = g.met.H.Host.is_tree in
    on_ok_weaker c.replace.result (λ done. ends_on {Q = λ u v. v ≡ u} done (ends_to (ends_call (t c.args.host.now) c.in_ok-stat.ensures.step) (λ u w s. s.same)) (t c.stat.new.self)
    (λ u v w tree s put. subst (λ (x : View). HasConfigured x w) s (made_config (subst (λ (b : List ℕ). WasReplaced store_config b v w) c.as_bytes.ensures.value (subst (λ (p : Elements). WasReplaced p c.as_bytes.result.now v w) c.requires put))))) c.replace.ensures.on_success

pub returns-in_default : goal.returns-in_default
returns-in_default g c = record {
  any_moment = stat_only (g.met.H.Host.is_tree c.args.host.now) c.stat.ensures.step;
  on_success = ends_to (ends_call (g.met.H.Host.is_tree c.args.host.now) c.in_ok-stat.ensures.step) (λ u w s. config_there c.requires s c.in_default.not-Absent);
  fault_has_cause = record { later = c.stat.ensures.fault_has_cause.later; fault = λ is. absurd (cc is) };
}
