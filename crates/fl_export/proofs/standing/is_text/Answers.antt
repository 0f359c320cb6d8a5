use Rattle.fp_host.proofs.Looking.{looks_within}
use Rattle.fp_host.proofs.Ending.{ends_both, ends_looks, ends_on}
use Rattle.fl_export.proofs.Looked.{if_ok_told}
use Rattle.fl_export.proofs.Tested.{text_told}
use Rattle.fl_export.proofs.standing.is_text.Goals as goal

pub returns-then-branch-clause-unchanged : goal.returns-then-branch-clause-unchanged
returns-then-branch-clause-unchanged g c = looks_within c.has_bytes.ensures.unchanged c.has_bits.ensures.unchanged (g.met.H.Host.is_tree c.has_bits.new.host)

pub returns-then-branch-clause-tells : goal.returns-then-branch-clause-tells
returns-then-branch-clause-tells g c =
    let t = g.met.H.Host.is_tree in
    if_ok_told c.has_bytes.result
    (λ is told. ends_on told (ends_both (ends_looks (t c.args.host.now) c.has_bits.ensures.unchanged) c.in_ok-has_bits.ensures.tells) (t c.has_bits.new.host)
    (λ u v w tree q s. text_told c.args.place.now c.args.bytes.now u v c.in_ok-has_bits.field-0 is c.if-branch.true q.1 q.0.0 s))
    c.has_bytes.ensures.tells
