use Rattle.std.proofs.Common.{option_map, sym, ◌∙◌, ap, arith}
use Rattle.ost_refs.specs.declared.place.RefPlace.TheVariants.{Head}
use Rattle.ost_refs.proofs.Named.{deeper, names_head}
use Rattle.ost_refs.proofs.naming.place_named.Goals as goal

pub last-requires : goal.last-requires
last-requires c = deeper c.args.path.now _ 3 c.in_ok-kind.ensures (omega (arith, c.len.ensures, c.if-len-lt-FEWEST_ELEMENTS.false))

pub last-requires-2 : goal.last-requires-2
last-requires-2 c = deeper c.args.path.now _ 2 c.in_ok-id.ensures (omega (arith, c.len.ensures, c.if-len-lt-FEWEST_ELEMENTS.false))

pub last-requires-3 : goal.last-requires-3
last-requires-3 c = deeper c.args.path.now _ 1 c.in_ok-arch.ensures (omega (arith, c.len.ensures, c.if-len-lt-FEWEST_ELEMENTS.false))

pub last-requires-5 : goal.last-requires-5
last-requires-5 c = deeper c.args.path.now _ 5 c.in_ok-folder.ensures (omega (arith, c.len.ensures, c.if-len-lt-FEWEST_ELEMENTS.false))

pub returns-in-Some-clause-named : goal.returns-in-Some-clause-named
returns-in-Some-clause-named c =
    let h = names_head c.last-4.result.now c.last-3.result.now c.last-2.result.now c.last.result.now c.last-5.result.now c.args.path.now _ _ _ _ c.in_ok-arch.ensures c.in_ok-id.ensures c.in_ok-kind.ensures c.in_ok-folder.ensures c.last-4.ensures c.last-3.ensures c.last-2.ensures c.last.ensures c.last-5.ensures c.in_ok-name.name c.in_ok-name.ensures.named (sym c.eq.ensures ∙ c.if-eq.false) in
    ap (option_map Head) (sym c.in-Some.is) ∙ sym h

pub returns-clause-named : goal.returns-clause-named
returns-clause-named c =
    let h = names_head c.last-4.result.now c.last-3.result.now c.last-2.result.now c.last.result.now c.last-5.result.now c.args.path.now _ _ _ _ c.in_ok-arch.ensures c.in_ok-id.ensures c.in_ok-kind.ensures c.in_ok-folder.ensures c.last-4.ensures c.last-3.ensures c.last-2.ensures c.last.ensures c.last-5.ensures c.in_ok-name.name c.in_ok-name.ensures.named (sym c.eq.ensures ∙ c.if-eq.false) in
    ap (option_map Head) (sym c.in-None.is) ∙ sym h
