use Rattle.std.proofs.Common.{arith, sym, subst}
use Rattle.fp_host.proofs.Cause.{same_fault}
use Rattle.fp_host.proofs.Ending.{ends_start, fault_caused}
use Rattle.fp_small.specs.Replace.{CanReplace}
use Rattle.dep_states.specs.Names.{override_path}
use Rattle.dep_states.specs.Sound.{Opens}
use Rattle.op_change.proofs.Layers.{set_goes, set_end, can_set}
use Rattle.op_change.proofs.overriding.set_override.Goals as goal

pub returns-in_err-write_layer-clause-any_moment : goal.returns-in_err-write_layer-clause-any_moment
returns-in_err-write_layer-clause-any_moment g c = set_goes c.args.opened c.args.row.now c.requires.name c.requires.file c.requires.short (g.met.H.Host.is_tree c.args.host.now) c.write_layer.ensures.any_moment

pub returns-in_err-write_layer-clause-fault_has_cause : goal.returns-in_err-write_layer-clause-fault_has_cause
returns-in_err-write_layer-clause-fault_has_cause g c =
    let t = g.met.H.Host.is_tree c.args.host.now in
    let path = override_path c.args.row.now.name in
    fault_caused (Opens c.args.opened) (CanReplace path) _ _ _ _ _ t (omega arith) (ends_start t) c.write_layer.ensures.fault_has_cause (same_fault _ _ _ c.in_err-write_layer.was c.from_residual-in_err-write_layer.ensures.1)
    (λ u v tree same opens. subst (CanReplace path) (sym same) (can_set c.args.row.now.name c.requires.name tree opens))

pub returns-clause-any_moment : goal.returns-clause-any_moment
returns-clause-any_moment g c = set_goes c.args.opened c.args.row.now c.requires.name c.requires.file c.requires.short (g.met.H.Host.is_tree c.args.host.now) c.write_layer.ensures.any_moment

pub returns-clause-on_success : goal.returns-clause-on_success
returns-clause-on_success g c =
    let t = g.met.H.Host.is_tree in
    set_end c.args.opened c.args.row.now c.requires.name c.requires.file c.requires.short (t c.args.host.now) (t c.write_layer.new.host) c.write_layer.ensures.any_moment c.in_ok-write_layer.ensures.on_success
