use Rattle.std.proofs.Common.{List, arith, sym, ◌∙◌, ap, subst, Contains}
use Rattle.fp_host.specs.View.{IsTree}
use Rattle.fp_host.proofs.Cause.{same_fault}
use Rattle.fp_host.proofs.Goes.{begins}
use Rattle.fp_host.proofs.Ending.{ends_goes, ends_in_tree, fault_caused}
use Rattle.fp_small.specs.Places.{repo}
use Rattle.fp_small.specs.Clear.{Reaches}
use Rattle.fp_host.specs.Outcome.{shows}
use Rattle.ost_model.specs.Objects.{store}
use Rattle.dep_states.specs.Sound.{Opens}
use Rattle.fl_export.specs.declared.rows.ExportRow.{ExportRow}
use Rattle.fl_export.specs.Placed.{exports, places_of}
use Rattle.fl_export.specs.Steps.{CanPutRows}
use Rattle.fl_export.proofs.LinkTexts.{texts_good}
use Rattle.fl_export.proofs.Refreshed.{refreshes_same, told_rows, sweep_only, sweep_on, put_only, put_on, sync_on, synced_end, Swept, opens_swept, are_of, reaches, can_put_rows}
use Rattle.fl_export.proofs.refreshing.refresh.Goals as goal

pub returns-in_err-rows-clause-any_moment : goal.returns-in_err-rows-clause-any_moment
returns-in_err-rows-clause-any_moment g c = begins (g.met.H.Host.is_tree c.args.host.now) c.wanted.ensures.unchanged.goes (λ u w t same. refreshes_same same) (λ u w t same q. refreshes_same same)

pub returns-in_err-places-clause-any_moment : goal.returns-in_err-places-clause-any_moment
returns-in_err-places-clause-any_moment g c = begins (g.met.H.Host.is_tree c.args.host.now) c.wanted.ensures.unchanged.goes (λ u w t same. refreshes_same same) (λ u w t same q. refreshes_same same)

pub returns-in_err-sweep-clause-any_moment : goal.returns-in_err-sweep-clause-any_moment
returns-in_err-sweep-clause-any_moment g c =
    let t = g.met.H.Host.is_tree in
    let at = c.deref.ensures.value ∙ c.in_ok-places.ensures ∙ ap places_of c.as_slice.ensures in
    sweep_only at (t c.wanted.new.host) (told_rows (t c.args.host.now) c.wanted.ensures.unchanged c.in_ok-rows.ensures.tells) c.sweep.ensures.any_moment

pub returns-in_err-sweep-clause-fault_has_cause : goal.returns-in_err-sweep-clause-fault_has_cause
returns-in_err-sweep-clause-fault_has_cause g c =
    let t = g.met.H.Host.is_tree in
    fault_caused (Opens c.args.state.now) (Reaches exports 127) _ _ _ _ _ (t c.args.host.now) c.wanted.ensures.fault_has_cause.later (ends_goes (t c.args.host.now) (told_rows (t c.args.host.now) c.wanted.ensures.unchanged c.in_ok-rows.ensures.tells)) c.sweep.ensures.fault_has_cause
    (same_fault _ _ _ c.in_err-sweep.was c.from_residual-in_err-sweep.ensures.1) (λ u v tree q opens. subst (Reaches exports 127) (sym q.same) (reaches tree opens))

pub returns-in_err-put_rows-clause-any_moment : goal.returns-in_err-put_rows-clause-any_moment
returns-in_err-put_rows-clause-any_moment g c =
    let t = g.met.H.Host.is_tree in
    let at = c.deref.ensures.value ∙ c.in_ok-places.ensures ∙ ap places_of c.as_slice.ensures in
    let swept = sweep_on at (t c.wanted.new.host) (told_rows (t c.args.host.now) c.wanted.ensures.unchanged c.in_ok-rows.ensures.tells) c.sweep.ensures.any_moment c.in_ok-sweep.ensures.on_success in
    put_only c.as_slice-2.ensures (t c.sweep.new.host) swept c.put_rows.ensures.any_moment

pub returns-in_err-put_rows-clause-fault_has_cause : goal.returns-in_err-put_rows-clause-fault_has_cause
returns-in_err-put_rows-clause-fault_has_cause g c =
    let t = g.met.H.Host.is_tree in
    let s = c.args.state.now in
    let rows = c.in_ok-rows.rows in
    let at = c.deref.ensures.value ∙ c.in_ok-places.ensures ∙ ap places_of c.as_slice.ensures in
    let swept = sweep_on at (t c.wanted.new.host) (told_rows (t c.args.host.now) c.wanted.ensures.unchanged c.in_ok-rows.ensures.tells) c.sweep.ensures.any_moment c.in_ok-sweep.ensures.on_success in
    let known = ends_in_tree {Q' = λ u v. IsTree v × Swept rows s u v} (t c.sweep.new.host) (ends_goes (t c.args.host.now) swept) (λ u w tree q. (tree, q)) in
    fault_caused (Opens s) (CanPutRows c.as_slice-2.result.now) _ _ _ _ _ (t c.args.host.now) (omega (arith, c.wanted.ensures.fault_has_cause.later, c.sweep.ensures.fault_has_cause.later)) known c.put_rows.ensures.fault_has_cause
    (same_fault _ _ _ c.in_err-put_rows.was c.from_residual-in_err-put_rows.ensures.1)
    (λ u v tree q opens. subst (λ (l : List ExportRow). CanPutRows l v) (sym c.as_slice-2.ensures)
    (can_put_rows q.0 (opens_swept q.1 opens) (are_of s u q.1.rows_are) (λ r has. texts_good (store repo (shows u)) s opens r (subst (λ (l : List ExportRow). Contains l r) q.1.rows_are has)) q.1.stale))

pub returns-in_err-sync-clause-any_moment : goal.returns-in_err-sync-clause-any_moment
returns-in_err-sync-clause-any_moment g c =
    let t = g.met.H.Host.is_tree in
    let at = c.deref.ensures.value ∙ c.in_ok-places.ensures ∙ ap places_of c.as_slice.ensures in
    let swept = sweep_on at (t c.wanted.new.host) (told_rows (t c.args.host.now) c.wanted.ensures.unchanged c.in_ok-rows.ensures.tells) c.sweep.ensures.any_moment c.in_ok-sweep.ensures.on_success in
    let put = put_on c.as_slice-2.ensures (t c.sweep.new.host) swept c.put_rows.ensures.any_moment c.in_ok-put_rows.ensures.on_success in
    sync_on (t c.put_rows.new.host) put c.sync.ensures.step

pub returns-clause-any_moment : goal.returns-clause-any_moment
returns-clause-any_moment g c =
    let t = g.met.H.Host.is_tree in
    let at = c.deref.ensures.value ∙ c.in_ok-places.ensures ∙ ap places_of c.as_slice.ensures in
    let swept = sweep_on at (t c.wanted.new.host) (told_rows (t c.args.host.now) c.wanted.ensures.unchanged c.in_ok-rows.ensures.tells) c.sweep.ensures.any_moment c.in_ok-sweep.ensures.on_success in
    let put = put_on c.as_slice-2.ensures (t c.sweep.new.host) swept c.put_rows.ensures.any_moment c.in_ok-put_rows.ensures.on_success in
    sync_on (t c.put_rows.new.host) put c.sync.ensures.step

pub returns-clause-on_success : goal.returns-clause-on_success
returns-clause-on_success g c =
    let t = g.met.H.Host.is_tree in
    let at = c.deref.ensures.value ∙ c.in_ok-places.ensures ∙ ap places_of c.as_slice.ensures in
    let swept = sweep_on at (t c.wanted.new.host) (told_rows (t c.args.host.now) c.wanted.ensures.unchanged c.in_ok-rows.ensures.tells) c.sweep.ensures.any_moment c.in_ok-sweep.ensures.on_success in
    let put = put_on c.as_slice-2.ensures (t c.sweep.new.host) swept c.put_rows.ensures.any_moment c.in_ok-put_rows.ensures.on_success in
    synced_end (t c.args.host.now) (t c.put_rows.new.host) (t c.sync.new.self) put c.in_ok-sync.ensures.step
