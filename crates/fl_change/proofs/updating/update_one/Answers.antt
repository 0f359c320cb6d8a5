use Rattle.std.proofs.Common.{◌≡◌, Ok, Err, option_map, subst}
use Rattle.fp_small.specs.Config.{name_of}
use Rattle.fp_small.specs.declared.state.State.{State}
use Rattle.fp_small.specs.declared.refusal.Refusal.TheVariants.{NoSuchRemote, NotInstalled}
use Rattle.dep_states.specs.Shown.{at_name}
use Rattle.dep_states.specs.After.{row_at}
use Rattle.fl_change.specs.Ends.{IsSaid, or_refuse}
use Rattle.fl_change.specs.Refs.{update_over, from_remote}
use Rattle.fl_change.specs.World.{world_at}
use Rattle.fl_change.proofs.Acting.{acts_err, acts_same}
use Rattle.fl_change.proofs.Asking.{acts_said}
use Rattle.fl_change.proofs.Commands.{update_not_there, update_no_remote, update_there, has_said}
use Rattle.fl_change.proofs.updating.update_one.Goals as goal

pub returns-in_err-origin-clause-acts : goal.returns-in_err-origin-clause-acts
returns-in_err-origin-clause-acts g c =
    let n = c.args.name.now in
    acts_err c.from_residual.result c.in_err-origin.field-0.0 c.from_residual.ensures.1
    (acts_said (update_over n) (g.met.H.Host.is_tree c.args.host.now) (or_refuse (NotInstalled n) (option_map (λ row. row.origin) (row_at c.args.opened n))) c.in_err-origin.field-0.0 (subst (λ (s : State). IsSaid (or_refuse (NotInstalled n) (option_map (λ row. row.origin) (row_at s n))) (Err c.in_err-origin.field-0.0)) c.state.ensures c.in_err-origin.ensures) (λ q is x first held known rests. update_not_there held (world_at c.args.opened x) n q is))

pub returns-in_err-remote-clause-acts : goal.returns-in_err-remote-clause-acts
returns-in_err-remote-clause-acts g c =
    let n = c.args.name.now in
    let origin = subst (λ (s : State). (or_refuse (NotInstalled n) (option_map (λ row. row.origin) (row_at s n))) ≡ Ok c.in_ok-origin.origin) c.state.ensures c.in_ok-origin.ensures in
    acts_err c.from_residual-in_err-remote.result c.in_err-remote.field-0.0 c.from_residual-in_err-remote.ensures.1
    (acts_said (update_over n) (g.met.H.Host.is_tree c.args.host.now) (or_refuse (NoSuchRemote c.in_ok-origin.origin) (at_name name_of c.args.opened.remotes c.in_ok-origin.origin)) c.in_err-remote.field-0.0 (subst (λ (s : State). IsSaid (or_refuse (NoSuchRemote c.in_ok-origin.origin) (at_name name_of s.remotes c.in_ok-origin.origin)) (Err c.in_err-remote.field-0.0)) c.state-2.ensures c.in_err-remote.ensures) (λ q is x first held known rests. update_no_remote held (world_at c.args.opened x) n c.in_ok-origin.origin q origin is))

pub bring_target-requires-clause-remote : goal.bring_target-requires-clause-remote
bring_target-requires-clause-remote g c _ _ = has_said c.args.opened.remotes c.in_ok-origin.origin c.in_ok-remote.remote (subst (λ (s : State). (or_refuse (NoSuchRemote c.in_ok-origin.origin) (at_name name_of s.remotes c.in_ok-origin.origin)) ≡ Ok c.in_ok-remote.remote) c.state-2.ensures c.in_ok-remote.ensures)

pub returns-clause-acts : goal.returns-clause-acts
returns-clause-acts g c =
    let n = c.args.name.now in
    let origin = subst (λ (s : State). (or_refuse (NotInstalled n) (option_map (λ row. row.origin) (row_at s n))) ≡ Ok c.in_ok-origin.origin) c.state.ensures c.in_ok-origin.ensures in
    let remote = subst (λ (s : State). (or_refuse (NoSuchRemote c.in_ok-origin.origin) (at_name name_of s.remotes c.in_ok-origin.origin)) ≡ Ok c.in_ok-remote.remote) c.state-2.ensures c.in_ok-remote.ensures in
    acts_same (update_over n) (from_remote c.in_ok-remote.remote n) (λ x first held known rests. update_there held (world_at c.args.opened x) n c.in_ok-origin.origin c.in_ok-remote.remote origin remote) c.bring_target.ensures.acts
