use Rattle.std.proofs.Common.{subst, Bool, ◌-◌, ◌+◌, arith}
use Rattle.std.specs.Prelude.{Some}
use Rattle.fp_memhost.specs.Names.{slot_of}
use Rattle.fp_memhost.specs.Opening.{AddsName}
use Rattle.fp_memhost.proofs.Opened.{BuiltFrom, built_more}
use Rattle.fp_memhost.proofs.opening.add_names.Goals as goal

pub loop-left-preserved : goal.loop-left-preserved
loop-left-preserved c =
    let x = c.index-names-left.result in
    let so : BuiltFrom (c.loop-left.left - 1 + 1) c.args.names.now c.args.opened.now.items c.loop-left.opened.items = subst (λ n. BuiltFrom n c.args.names.now c.args.opened.now.items c.loop-left.opened.items) (omega arith) c.loop-left.invariant.1 in (
      c.add_name.ensures.ascending,
      built_more (c.loop-left.left - 1) c.args.names.now c.args.opened.now.items c.loop-left.opened.items c.add_name.new.opened.items x so c.index-names-left.is
          (subst (λ (b : Bool). AddsName b x.0 (slot_of (Some x.1)) c.loop-left.opened.items c.add_name.new.opened.items) c.may_stand-counts.ensures c.in_ok-add_name.ensures.adds),
    )
