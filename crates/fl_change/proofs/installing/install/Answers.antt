use Rattle.std.proofs.Common.{◌≡◌, None, Ok, Err, subst}
use Rattle.fp_small.specs.Config.{name_of}
use Rattle.fp_small.specs.declared.state.State.{State}
use Rattle.fp_small.specs.declared.refusal.Refusal.TheVariants.{NoSuchRemote}
use Rattle.dep_states.specs.Shown.{at_name}
use Rattle.dep_states.specs.After.{row_at}
use Rattle.fl_change.specs.Ends.{IsSaid, IsTried, or_refuse}
use Rattle.fl_change.specs.Refs.{install_over, from_remote, installed_refusal}
use Rattle.fl_change.specs.World.{world_at}
use Rattle.fl_change.proofs.Acting.{acts_err, acts_same}
use Rattle.fl_change.proofs.Asking.{acts_said, acts_tried}
use Rattle.fl_change.proofs.Commands.{install_no_remote, install_again, install_new, has_said}
use Rattle.fl_change.proofs.installing.install.Goals as goal

pub returns-in_err-row-clause-acts : goal.returns-in_err-row-clause-acts
returns-in_err-row-clause-acts g c =
    let r = c.args.remote.now in
    acts_err c.from_residual.result c.in_err-row.field-0.0 c.from_residual.ensures.1
    (acts_said (install_over r c.args.name.now) (g.met.H.Host.is_tree c.args.host.now) (or_refuse (NoSuchRemote r) (at_name name_of c.args.opened.remotes r)) c.in_err-row.field-0.0 (subst (λ (s : State). IsSaid (or_refuse (NoSuchRemote r) (at_name name_of s.remotes r)) (Err c.in_err-row.field-0.0)) c.state.ensures c.in_err-row.ensures) (λ q is x first held known rests. install_no_remote held (world_at c.args.opened x) r c.args.name.now q is))

pub returns-in_err-try_new-clause-acts : goal.returns-in_err-try_new-clause-acts
returns-in_err-try_new-clause-acts g c =
    let r = c.args.remote.now in
    let n = c.args.name.now in
    let row = subst (λ (s : State). or_refuse (NoSuchRemote r) (at_name name_of s.remotes r) ≡ Ok c.in_ok-row.row) c.state.ensures c.in_ok-row.ensures in
    acts_err c.from_residual-in_err-try_new.result c.in_err-try_new.field-0.0 c.from_residual-in_err-try_new.ensures.1
    (acts_tried (install_over r n) (g.met.H.Host.is_tree c.args.host.now) (installed_refusal n (row_at c.args.opened n)) c.in_err-try_new.field-0.0 (subst (λ (s : State). IsTried (installed_refusal n (row_at s n)) (Err c.in_err-try_new.field-0.0)) c.state-2.ensures c.in_err-try_new.ensures) (λ q is x first held known rests. install_again held (world_at c.args.opened x) r n c.in_ok-row.row q row is))

pub bring_target-requires-clause-remote : goal.bring_target-requires-clause-remote
bring_target-requires-clause-remote g c _ _ =
    let r = c.args.remote.now in
    has_said c.args.opened.remotes r c.in_ok-row.row (subst (λ (s : State). or_refuse (NoSuchRemote r) (at_name name_of s.remotes r) ≡ Ok c.in_ok-row.row) c.state.ensures c.in_ok-row.ensures)

pub returns-clause-acts : goal.returns-clause-acts
returns-clause-acts g c =
    let r = c.args.remote.now in
    let n = c.args.name.now in
    let row = subst (λ (s : State). or_refuse (NoSuchRemote r) (at_name name_of s.remotes r) ≡ Ok c.in_ok-row.row) c.state.ensures c.in_ok-row.ensures in
    let new = subst (λ (s : State). installed_refusal n (row_at s n) ≡ None) c.state-2.ensures c.in_ok-try_new.ensures in
    acts_same (install_over r n) (from_remote c.in_ok-row.row n) (λ x first held known rests. install_new held (world_at c.args.opened x) r n c.in_ok-row.row row new) c.bring_target.ensures.acts
