use Rattle.std.proofs.Common.{sym, ◌∙◌}
use Rattle.fp_name.specs.Refs.{ref_with}
use Rattle.fp_name.proofs.Refs.{kept_new}
use Rattle.fp_name.proofs.ref_name.RefName.new.Goals as goal

pub invariant_of-result : goal.invariant_of-result
invariant_of-result c =
    (kept_new _ (ref_with c.args.kind c.args.id.now c.args.arch.now c.args.branch.now) c.in_ok-join.ensures (sym c.are_ref.ensures ∙ c.if-not-are_ref.false)).0

pub returns-clause-ok : goal.returns-clause-ok
returns-clause-ok c =
    (kept_new _ (ref_with c.args.kind c.args.id.now c.args.arch.now c.args.branch.now) c.in_ok-join.ensures (sym c.are_ref.ensures ∙ c.if-not-are_ref.false)).1
