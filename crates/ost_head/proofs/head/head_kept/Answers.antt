use Rattle.std.proofs.Common.{Err, sym, ◌∙◌, ap}
use Rattle.fp_small.specs.declared.refusal.Refusal.{Refusal}
use Rattle.ost_head.proofs.Kept.{bytes_answer, longer_answer, nothing_answer}
use Rattle.ost_head.proofs.head.head_kept.Goals as goal

pub returns-in-Bytes-clause-tells : goal.returns-in-Bytes-clause-tells
returns-in-Bytes-clause-tells g content is = bytes_answer g.args.name.now g.args.commit.now g.args.timestamp content g.in-Bytes.bytes g.head_with.result (sym g.in-Bytes.is ∙ is) g.head_with.ensures.tells

pub returns-in-Longer-clause-tells : goal.returns-in-Longer-clause-tells
returns-in-Longer-clause-tells g content is = longer_answer g.args.name.now g.args.commit.now g.args.timestamp content g.in-Longer.size (sym g.in-Longer.is ∙ is) ∙ ap (λ (r : Refusal). Err r) (sym g.refuse_longer.ensures)

pub returns-in_ok-refuse_absent-in-Nothing-clause-tells : goal.returns-in_ok-refuse_absent-in-Nothing-clause-tells
returns-in_ok-refuse_absent-in-Nothing-clause-tells g content is = nothing_answer g.args.name.now g.args.commit.now g.args.timestamp content (sym g.in-Nothing.is ∙ is) ∙ ap (λ (r : Refusal). Err r) (sym g.in_ok-refuse_absent-in-Nothing.ensures)
