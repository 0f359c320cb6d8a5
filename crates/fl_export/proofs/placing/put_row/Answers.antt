use Rattle.std.proofs.Common.{◌≡◌, [], ◌∷◌, sym, ◌∙◌, subst}
use Rattle.std.proofs.lemmas.Bool.{false≢true}
use Rattle.std.proofs.lemmas.Result.{on_ok_weaker}
use Rattle.fp_host.specs.Paths.{Elements}
use Rattle.fp_host.specs.Outcome.{shows}
use Rattle.fp_host.specs.View.{View}
use Rattle.fp_host.proofs.Goes.{begins, goes_on, stays}
use Rattle.fp_host.proofs.Ending.{ends_on, ends_both, ends_looks, ends_to, fault_caused, goes_known}
use Rattle.fl_export.specs.Placed.{place_of, is_exported, IsExported}
use Rattle.fl_export.specs.Steps.{PutsRows, PutsAt, WasPut, CanPut, CanPutRows}
use Rattle.fl_export.proofs.Tested.{there_is, there_back}
use Rattle.fl_export.proofs.PutRows.{puts_none, puts_same, stands_already, puts_row, were_put, can_put}
use Rattle.fl_export.proofs.placing.put_row.Goals as goal

pub returns-in_err-place-clause-any_moment : goal.returns-in_err-place-clause-any_moment
returns-in_err-place-clause-any_moment g c = stays (g.met.H.Host.is_tree c.args.host.now) (λ u. puts_none) (λ u t. puts_none)

pub returns-in_err-is_there-clause-any_moment : goal.returns-in_err-is_there-clause-any_moment
returns-in_err-is_there-clause-any_moment g c = begins (g.met.H.Host.is_tree c.args.host.now) c.is_there.ensures.unchanged.goes (λ u w t same. puts_same same) (λ u w t same q. puts_same same)

pub returns-then-branch-clause-any_moment : goal.returns-then-branch-clause-any_moment
returns-then-branch-clause-any_moment g c = begins (g.met.H.Host.is_tree c.args.host.now) c.is_there.ensures.unchanged.goes (λ u w t same. puts_same same) (λ u w t same q. puts_same same)

pub returns-then-branch-clause-on_success : goal.returns-then-branch-clause-on_success
returns-then-branch-clause-on_success g c =
    let t = g.met.H.Host.is_tree in
    let row = c.args.row.now in
    ends_to (ends_both (ends_looks (t c.args.host.now) c.is_there.ensures.unchanged) c.in_ok-is_there.ensures.tells) (λ u w q.
    stands_already row q.0.0 (subst (λ (p : Elements). IsExported row.what (shows u p)) c.in_ok-place.ensures (there_is row.what (shows u c.in_ok-place.place) (sym q.1 ∙ c.if-branch.true))))

pub returns : goal.returns
returns g c =
    let t = g.met.H.Host.is_tree in
    let row = c.args.row.now in
    let at = c.in_ok-place.ensures in
    let off = λ (u : View) (told : c.in_ok-is_there.field-0 ≡ is_exported row.what (shows u c.in_ok-place.place)) (there : IsExported row.what (shows u (place_of row))).
    false≢true (sym c.if-branch.false ∙ told ∙ there_back row.what (shows u c.in_ok-place.place) (subst (λ (p : Elements). IsExported row.what (shows u p)) (sym at) there)) in
    let looked = goes_known (begins {R' = PutsRows (row ∷ [])} {Q' = λ u w. w ≡ u} (t c.args.host.now) c.is_there.ensures.unchanged.goes (λ u w t same. puts_same same) (λ u w t same q. q.0)) c.in_ok-is_there.ensures.tells in
    record {
      any_moment = goes_on (t c.is_there.new.host) looked c.put.ensures.any_moment
          (λ u v w tree r q x. puts_row row at (off u q.1) (subst (λ (y : View). PutsAt c.in_ok-place.place row.what y w) q.0 x)) (λ u v w tree r q x e. puts_row row at (off u q.1) (subst (λ (y : View). PutsAt c.in_ok-place.place row.what y w) q.0 e));
      on_success = on_ok_weaker c.put.result (λ done. ends_on done (ends_looks (t c.args.host.now) c.is_there.ensures.unchanged) (t c.is_there.new.host) (λ u v w tree same q. were_put row at (subst (λ (y : View). WasPut c.in_ok-place.place row.what y w) same.0 q))) c.put.ensures.on_success;
      fault_has_cause = fault_caused (CanPutRows (row ∷ [])) (CanPut c.in_ok-place.place row.what) _ _ _ _ _ (t c.args.host.now) c.is_there.ensures.fault_has_cause.later (ends_looks (t c.args.host.now) c.is_there.ensures.unchanged) c.put.ensures.fault_has_cause (λ e. e)
          (λ u v tree same can. subst (CanPut c.in_ok-place.place row.what) (sym same.0) (can_put row at tree can));
    }
