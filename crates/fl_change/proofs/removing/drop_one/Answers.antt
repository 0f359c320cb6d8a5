use Rattle.std.proofs.Common.{ap}
use Rattle.std.specs.Option.{option_copied}
use Rattle.fp_small.specs.declared.op.Op.TheVariants as ops
use Rattle.fl_change.specs.Refs.{op_over, drop_over}
use Rattle.fl_change.specs.World.{world_at}
use Rattle.fl_change.proofs.Acting.{acts_same, acts_nothing}
use Rattle.fl_change.proofs.Commands.{row_found, drop_there, drop_none}
use Rattle.fl_change.proofs.Working.{works_to}
use Rattle.fl_change.proofs.removing.drop_one.Goals as goal

pub returns-in-Some-clause-acts : goal.returns-in-Some-clause-acts
returns-in-Some-clause-acts g c =
    let n = c.args.name.now in
    let row = row_found c.state.result.now c.args.opened c.args.name.now _ _ _ c.state.ensures c.as_slice.ensures c.find_ref.ensures.row (ap option_copied c.in-Some.is) in
    acts_same (drop_over n) (op_over (ops.Uninstall n)) (λ x first held known rests. drop_there held (world_at c.args.opened x) n _ row) (works_to (λ op may. (n, may)) c.take_away.ensures.acts)

pub returns-in-None-clause-acts : goal.returns-in-None-clause-acts
returns-in-None-clause-acts g c =
    let n = c.args.name.now in
    let row = row_found c.state.result.now c.args.opened c.args.name.now _ _ _ c.state.ensures c.as_slice.ensures c.find_ref.ensures.row (ap option_copied c.in-None.is) in
    acts_nothing (drop_over n) (g.met.H.Host.is_tree c.args.host.now) (λ x first held known rests. drop_none held (world_at c.args.opened x) n row)
