use Rattle.std.proofs.Common.{ap}
use Rattle.std.specs.Option.{option_copied}
use Rattle.fl_change.specs.Refs.{target_over, updated_from, skipped}
use Rattle.fl_change.specs.World.{world_at}
use Rattle.fl_change.specs.declared.end.RunEnd.TheVariants.{NoMemory}
use Rattle.fl_change.proofs.Acting.{acts_err, acts_halted, acts_same, acts_nothing}
use Rattle.fl_change.proofs.Commands.{row_found, remote_at, has_found, target_none, target_from, target_passed}
use Rattle.fl_change.proofs.updating.update_target.Goals as goal

pub returns-in_err-origin-in-Some-clause-acts : goal.returns-in_err-origin-in-Some-clause-acts
returns-in_err-origin-in-Some-clause-acts g c = acts_err c.from_residual.result NoMemory c.from_residual.ensures.1 (acts_halted (target_over c.args.name.now) (g.met.H.Host.is_tree c.args.host.now))

pub returns-in-None-clause-acts : goal.returns-in-None-clause-acts
returns-in-None-clause-acts g c =
    let n = c.args.name.now in
    let row = row_found c.state.result.now c.args.opened c.args.name.now _ _ _ c.state.ensures c.as_slice.ensures c.find_ref.ensures.row (ap option_copied c.in-None.is) in
    acts_nothing (target_over n) (g.met.H.Host.is_tree c.args.host.now) (λ x first held known rests. target_none held (world_at c.args.opened x) n row)

pub returns-in_err-remote-clause-acts : goal.returns-in_err-remote-clause-acts
returns-in_err-remote-clause-acts g c = acts_err c.from_residual-in_err-remote.result NoMemory c.from_residual-in_err-remote.ensures.1 (acts_halted (target_over c.args.name.now) (g.met.H.Host.is_tree c.args.host.now))

pub update_from-requires-clause-remote : goal.update_from-requires-clause-remote
update_from-requires-clause-remote g c _ _ = has_found c.args.opened.remotes _ c.in-Some-2.remote (remote_at c.state-2.result.now c.args.opened _ _ _ c.state-2.ensures c.in_ok-remote.ensures c.in-Some-2.is)

pub returns-in-Some-2-clause-acts : goal.returns-in-Some-2-clause-acts
returns-in-Some-2-clause-acts g c =
    let n = c.args.name.now in
    let row = row_found c.state.result.now c.args.opened c.args.name.now _ _ _ c.state.ensures c.as_slice.ensures c.find_ref.ensures.row (ap option_copied c.in-Some.is) in
    let remote = remote_at c.state-2.result.now c.args.opened _ _ _ c.state-2.ensures c.in_ok-remote.ensures c.in-Some-2.is in
    acts_same (target_over n) (updated_from c.in-Some-2.remote n) (λ x first held known rests. target_from held (world_at c.args.opened x) n _ _ c.in-Some-2.remote row c.in_ok-origin-in-Some.ensures remote) c.update_from.ensures.acts

pub returns-clause-acts : goal.returns-clause-acts
returns-clause-acts g c =
    let n = c.args.name.now in
    let row = row_found c.state.result.now c.args.opened c.args.name.now _ _ _ c.state.ensures c.as_slice.ensures c.find_ref.ensures.row (ap option_copied c.in-Some.is) in
    let remote = remote_at c.state-2.result.now c.args.opened _ _ _ c.state-2.ensures c.in_ok-remote.ensures c.in-None-2.is in
    acts_same (target_over n) (λ held x. skipped n) (λ x first held known rests. target_passed held (world_at c.args.opened x) n _ _ row c.in_ok-origin-in-Some.ensures remote) (c.skip.ensures.acts c.args.acted.now)
