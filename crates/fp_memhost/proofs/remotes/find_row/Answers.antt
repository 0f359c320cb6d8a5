use Rattle.std.proofs.Common.{◌∙◌, ap, sym}
use Rattle.std.proofs.lemmas.List.{get_or_default}
use Rattle.fp_memhost.specs.RemoteRows.{is_row}
use Rattle.fp_memhost.proofs.Finding.{find_more}
use Rattle.fp_memhost.proofs.remotes.find_row.Goals as goal

pub returns-then-is_row : goal.returns-then-is_row
returns-then-is_row c =
    let rows = c.args.rows.now in
    let test = is_row c.args.url.now c.args.path.now in
    record {
      low = c.loop-i-test.true;
      before = c.loop-i.invariant;
      here = λ d. ap test (get_or_default rows c.loop-i.i d c.index-rows-i.result c.loop-i-test.true ∙ sym c.index-rows-i.is) ∙ sym c.if-is_row.ensures;
    }

pub loop-i-preserved : goal.loop-i-preserved
loop-i-preserved c =
    let test = is_row c.args.url.now c.args.path.now in
    find_more test c.args.rows.now c.loop-i.i c.index-rows-i.result c.loop-i-test.true c.loop-i.invariant (ap test (sym c.index-rows-i.is) ∙ sym c.if-is_row.ensures)
