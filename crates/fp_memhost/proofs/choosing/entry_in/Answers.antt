use Rattle.std.proofs.Common.{◌-◌, ◌<◌, ◌∙◌, sym, ap, arith, length, map}
use Rattle.std.specs.Prelude.{None}
use Rattle.std.proofs.lemmas.List.{get_or_default}
use Rattle.fp_memhost.specs.Names.{slot_of}
use Rattle.fp_memhost.proofs.Chosen.{numbered_some, slot_got}
use Rattle.fp_memhost.proofs.choosing.entry_in.Goals as goal

pub returns : goal.returns
returns c =
    let l = c.args.name.now.earlier.items in
    let low : c.args.number - 1 < length l = omega (arith, c.args.name.now.earlier.ok.0) in
    ap slot_of (c.as_ref-2.ensures.value ∙ c.index.ensures ∙ get_or_default l (c.args.number - 1) c.index.result.now None low)
    ∙ sym (slot_got l (c.args.number - 1)) ∙ sym (numbered_some (slot_of c.args.name.now.entry) (map slot_of l) c.args.number c.if-number-eq0.false)
