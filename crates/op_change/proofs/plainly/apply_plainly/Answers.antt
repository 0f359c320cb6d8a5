use Rattle.std.proofs.Common.{inl, inr, refl, sym, subst}
use Rattle.std.proofs.lemmas.Bool.{false≢true}
use Rattle.std.proofs.lemmas.Result.{on_ok_weaker}
use Rattle.fp_small.specs.declared.op.Op.TheVariants.{Uninstall, SetOverride, DropOverride, Rollback}
use Rattle.dep_states.specs.After.{state_after, plain, IsOnConfig}
use Rattle.op_change.proofs.Grown.{good_set, good_drop, good_uninstall, good_rollback}
use Rattle.op_change.proofs.Joined.{on_config, goes_applies, ends_settings, goes_as, done_as, good_if, allowed}
use Rattle.op_change.proofs.plainly.apply_plainly.Goals as goal

-- ---- refs

pub returns-in-Uninstall-clause-good : goal.returns-in-Uninstall-clause-good
returns-in-Uninstall-clause-good g c =
    good_if c.uninstall.result (state_after c.args.opened (plain (Uninstall c.in-Uninstall.name))) (good_uninstall c.args.opened c.in-Uninstall.name c.requires.good) c.uninstall.ensures.state

pub returns-in-Uninstall-clause-any_moment : goal.returns-in-Uninstall-clause-any_moment
returns-in-Uninstall-clause-any_moment g c =
    goes_as c.args.opened c.args.op.now (Uninstall c.in-Uninstall.name) c.in-Uninstall.is (g.met.H.Host.is_tree c.args.host.now) (λ u q e put. put) c.uninstall.ensures.any_moment

pub returns-in-Uninstall-clause-on_success : goal.returns-in-Uninstall-clause-on_success
returns-in-Uninstall-clause-on_success g c =
    on_ok_weaker c.uninstall.result (λ done. done_as c.args.opened c.args.op.now (Uninstall c.in-Uninstall.name) c.in-Uninstall.is (λ on. false≢true on) done) c.uninstall.ensures.on_success

pub returns-in-Rollback-clause-good : goal.returns-in-Rollback-clause-good
returns-in-Rollback-clause-good g c =
    let op = Rollback c.in-Rollback.name c.in-Rollback.commit in
    good_if c.roll_back.result (state_after c.args.opened (plain op)) (good_rollback c.args.opened c.in-Rollback.name c.in-Rollback.commit (allowed c.args.opened c.args.op.now op c.in-Rollback.is c.requires.may) c.requires.good) c.roll_back.ensures.state

pub returns-in-Rollback-clause-any_moment : goal.returns-in-Rollback-clause-any_moment
returns-in-Rollback-clause-any_moment g c =
    goes_as c.args.opened c.args.op.now (Rollback c.in-Rollback.name c.in-Rollback.commit) c.in-Rollback.is (g.met.H.Host.is_tree c.args.host.now) (λ u q e put. put) c.roll_back.ensures.any_moment

pub returns-in-Rollback-clause-on_success : goal.returns-in-Rollback-clause-on_success
returns-in-Rollback-clause-on_success g c =
    on_ok_weaker c.roll_back.result (λ done. done_as c.args.opened c.args.op.now (Rollback c.in-Rollback.name c.in-Rollback.commit) c.in-Rollback.is (λ on. false≢true on) done) c.roll_back.ensures.on_success

-- ---- overrides

pub returns-in-SetOverride-clause-good : goal.returns-in-SetOverride-clause-good
returns-in-SetOverride-clause-good g c =
    let op = SetOverride c.in-SetOverride.row in
    let allows = allowed c.args.opened c.args.op.now op c.in-SetOverride.is c.requires.may in
    good_if c.set_override.result (state_after c.args.opened (plain op)) (good_set c.args.opened c.in-SetOverride.row allows.0 allows.1 c.requires.good) c.set_override.ensures.state

pub returns-in-SetOverride-clause-any_moment : goal.returns-in-SetOverride-clause-any_moment
returns-in-SetOverride-clause-any_moment g c =
    goes_as c.args.opened c.args.op.now (SetOverride c.in-SetOverride.row) c.in-SetOverride.is (g.met.H.Host.is_tree c.args.host.now) (λ u q e put. put) c.set_override.ensures.any_moment

pub returns-in-SetOverride-clause-on_success : goal.returns-in-SetOverride-clause-on_success
returns-in-SetOverride-clause-on_success g c =
    on_ok_weaker c.set_override.result (λ done. done_as c.args.opened c.args.op.now (SetOverride c.in-SetOverride.row) c.in-SetOverride.is (λ on. false≢true on) done) c.set_override.ensures.on_success

pub returns-in-DropOverride-clause-good : goal.returns-in-DropOverride-clause-good
returns-in-DropOverride-clause-good g c =
    good_if c.drop_override.result (state_after c.args.opened (plain (DropOverride c.in-DropOverride.name))) (good_drop c.args.opened c.in-DropOverride.name c.requires.good) c.drop_override.ensures.state

pub returns-in-DropOverride-clause-any_moment : goal.returns-in-DropOverride-clause-any_moment
returns-in-DropOverride-clause-any_moment g c =
    goes_as c.args.opened c.args.op.now (DropOverride c.in-DropOverride.name) c.in-DropOverride.is (g.met.H.Host.is_tree c.args.host.now) (λ u q e put. put) c.drop_override.ensures.any_moment

pub returns-in-DropOverride-clause-on_success : goal.returns-in-DropOverride-clause-on_success
returns-in-DropOverride-clause-on_success g c =
    on_ok_weaker c.drop_override.result (λ done. done_as c.args.opened c.args.op.now (DropOverride c.in-DropOverride.name) c.in-DropOverride.is (λ on. false≢true on) done) c.drop_override.ensures.on_success

-- ---- settings

pub returns-in-AddPin-clause-any_moment : goal.returns-in-AddPin-clause-any_moment
returns-in-AddPin-clause-any_moment g c =
    let on : IsOnConfig c.args.op.now = elim c.in-AddPin.is [
      | inl x ↦ subst IsOnConfig (sym x.1) refl
      | inr o ↦ elim o [
        | inl x ↦ subst IsOnConfig (sym x.1) refl
        | inr o ↦ elim o [
          | inl x ↦ subst IsOnConfig (sym x.1) refl
          | inr o ↦ elim o [
            | inl x ↦ subst IsOnConfig (sym x.1) refl
            | inr o ↦ elim o [ inl x ↦ subst IsOnConfig (sym x.1) refl | inr e ↦ subst IsOnConfig (sym e) refl ]
          ]
        ]
      ]
    ] in
    goes_applies c.args.opened c.args.op.now (g.met.H.Host.is_tree c.args.host.now) (on_config c.args.opened c.args.op.now on) c.change_settings.ensures.any_moment

pub returns-in-AddPin-clause-on_success : goal.returns-in-AddPin-clause-on_success
returns-in-AddPin-clause-on_success g c =
    on_ok_weaker c.change_settings.result (λ done. ends_settings c.args.opened c.args.op.now done) c.change_settings.ensures.on_success
