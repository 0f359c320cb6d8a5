use Rattle.std.proofs.Common.{ℕ, List, subst}
use Rattle.std.proofs.lemmas.Result.{on_ok_weaker}
use Rattle.fp_host.specs.View.{View}
use Rattle.fp_host.proofs.Cause.{same_fault}
use Rattle.fp_host.proofs.Goes.{begins, goes_on}
use Rattle.fp_host.proofs.Ending.{ends_on, ends_both, ends_frame, ends_goes, fault_caused}
use Rattle.fp_small.specs.Replace.{Replaces, WasReplaced, CanReplace}
use Rattle.fl_export.specs.declared.rows.ExportWhat.TheVariants as what
use Rattle.fl_export.specs.Steps.{PutsAt, CanPut}
use Rattle.fl_export.proofs.Alter.{alters_on}
use Rattle.fl_export.proofs.Putting.{put_gone, put_text, was_text, can_replace}
use Rattle.fl_export.proofs.placing.put_text.Goals as goal

pub returns-in_err-make_way-clause-any_moment : goal.returns-in_err-make_way-clause-any_moment
returns-in_err-make_way-clause-any_moment g c = begins (g.met.H.Host.is_tree c.args.host.now) c.make_way.ensures.frame.goes (λ u w t r. put_gone r) (λ u w t r q. put_gone q)

pub returns-in_err-make_way-clause-fault_has_cause : goal.returns-in_err-make_way-clause-fault_has_cause
returns-in_err-make_way-clause-fault_has_cause g c = record {
  later = c.make_way.ensures.fault_has_cause.later;
  fault = λ is m told can. c.make_way.ensures.fault_has_cause.fault (same_fault _ _ _ c.in_err-make_way.was c.from_residual.ensures.1 is) m told can.clear;
}

pub returns : goal.returns
returns g c =
    let t = g.met.H.Host.is_tree in
    let p = c.args.place.now in
    let b = c.args.bytes.now in
    let made = begins {R' = PutsAt p (what.Text b)} {Q' = PutsAt p (what.Text b)} (t c.args.host.now) c.make_way.ensures.frame.goes (λ u w t r. put_gone r) (λ u w t r q. put_gone q) in
    let replaced = λ (v w : View) (x : Replaces p c.as_slice.result.now v w). subst (λ (l : List ℕ). Replaces p l v w) c.as_slice.ensures x in
    record {
      any_moment = goes_on (t c.make_way.new.host) made c.replace.ensures.any_moment (λ u v w tree r q x. alters_on r (put_text (replaced v w x))) (λ u v w tree r q x e. alters_on r (put_text (replaced v w e)));
      on_success = on_ok_weaker c.replace.result (λ done. ends_on (ends_both (ends_goes (t c.make_way.new.host) c.replace.ensures.any_moment) done) (ends_frame (t c.args.host.now) c.make_way.ensures.frame) (t c.make_way.new.host)
          (λ u v w tree keeps x. was_text keeps (replaced v w x.0) (subst (λ (l : List ℕ). WasReplaced p l v w) c.as_slice.ensures x.1))) c.replace.ensures.on_success;
      fault_has_cause = fault_caused (CanPut p (what.Text b)) (CanReplace p) _ _ _ _ _ (t c.args.host.now) c.make_way.ensures.fault_has_cause.later (ends_both (ends_frame (t c.args.host.now) c.make_way.ensures.frame) c.in_ok-make_way.ensures.on_success) c.replace.ensures.fault_has_cause (λ e. e)
          (λ u v tree q can. can_replace p can.within q.0 can.clear can.folders q.1);
    }
