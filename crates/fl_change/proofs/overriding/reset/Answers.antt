use Rattle.std.proofs.Common.{List, ℕ, ap, sym, subst}
use Rattle.std.specs.Option.{option_copied}
use Rattle.dep_states.specs.After.{May}
use Rattle.fp_small.specs.declared.op.Op.TheVariants.{DropOverride}
use Rattle.ost_walk.specs.Ends.{outside}
use Rattle.fl_change.specs.Performs.{Acts, Rests, Just}
use Rattle.fl_change.specs.Refs.{op_over, reset_over}
use Rattle.fl_change.specs.World.{world_at}
use Rattle.fl_change.specs.declared.end.RunEnd.TheVariants.{NoMemory}
use Rattle.fl_change.proofs.Acting.{acts_err, acts_halted, acts_same, acts_nothing}
use Rattle.fl_change.proofs.Commands.{override_found, is_layer, reset_there, reset_none}
use Rattle.fl_change.proofs.overriding.reset.Goals as goal

pub returns-in_err-copy-in-Some-clause-acts : goal.returns-in_err-copy-in-Some-clause-acts
returns-in_err-copy-in-Some-clause-acts g c = acts_err c.from_residual.result NoMemory c.from_residual.ensures.1 (acts_halted (reset_over c.args.name.now) (g.met.H.Host.is_tree c.args.host.now))

pub do_op-requires-clause-may : goal.do_op-requires-clause-may
do_op-requires-clause-may g c _ _ =
    let row = override_found c.state.result.now c.args.opened c.args.name.now _ _ _ c.state.ensures c.as_slice.ensures c.find_override.ensures (ap option_copied c.in-Some.is) in
    subst (λ (x : List ℕ). May c.args.opened (DropOverride x)) (sym c.in_ok-copy-in-Some.ensures) (record { layout = c.requires.layout; allows = is_layer c.args.opened.overrides c.args.name.now _ c.requires.good.layers row })

pub returns-in_ok-copy-in-Some-clause-acts : goal.returns-in_ok-copy-in-Some-clause-acts
returns-in_ok-copy-in-Some-clause-acts g c =
    let s = c.args.opened in
    let n = c.args.name.now in
    let row = override_found c.state.result.now c.args.opened c.args.name.now _ _ _ c.state.ensures c.as_slice.ensures c.find_override.ensures (ap option_copied c.in-Some.is) in
    acts_same (reset_over n) (op_over (DropOverride n)) (λ x first held known rests. reset_there held (world_at s x) n _ row)
    (subst (λ (x : List ℕ). Acts (Rests s) (Just (DropOverride x)) (op_over (DropOverride x)) s c.args.acted.now c.do_op.new.acted c.do_op.result (outside (g.H.Host.moments c.args.host.now) (g.H.Host.faults c.args.host.now) (g.R.Remotes.holds c.args.remotes.now) (g.R.Remotes.faults c.args.remotes.now)) (outside (g.H.Host.moments c.do_op.new.host) (g.H.Host.faults c.do_op.new.host) (g.R.Remotes.holds c.do_op.new.remotes) (g.R.Remotes.faults c.do_op.new.remotes))) c.in_ok-copy-in-Some.ensures c.do_op.ensures.acts)

pub returns-in-None-clause-acts : goal.returns-in-None-clause-acts
returns-in-None-clause-acts g c =
    let n = c.args.name.now in
    let row = override_found c.state.result.now c.args.opened c.args.name.now _ _ _ c.state.ensures c.as_slice.ensures c.find_override.ensures (ap option_copied c.in-None.is) in
    acts_nothing (reset_over n) (g.met.H.Host.is_tree c.args.host.now) (λ x first held known rests. reset_none held (world_at c.args.opened x) n row)
