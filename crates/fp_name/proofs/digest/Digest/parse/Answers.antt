use Rattle.std.proofs.Common.{Ok, refl, sym, ap, ◌∙◌}
use Rattle.std.specs.Result.{result_ok}
use Rattle.fp_name.proofs.HexTexts.{digest_read}
use Rattle.fp_name.proofs.digest.Digest.parse.Goals as goal

pub returns-in-Ok : goal.returns-in-Ok
returns-in-Ok c =
    let read = ap result_ok c.in-Ok.ensures ∙ digest_read c.args.text.now (sym c.has_uppercase.ensures ∙ c.if-has_uppercase.false) in
    ap Ok c.from_bytes.ensures ∙ rw (← read) refl

pub returns-in-Err : goal.returns-in-Err
returns-in-Err c =
    let read = ap result_ok c.in-Err.ensures ∙ digest_read c.args.text.now (sym c.has_uppercase.ensures ∙ c.if-has_uppercase.false) in
    rw (← read) refl
