use Rattle.gv_decode.proofs.Tables.{end-told}
use Rattle.gv_decode.proofs.framing.member_end.Goals as goal

pub returns-else-left-eq0-clause-found : goal.returns-else-left-eq0-clause-found
returns-else-left-eq0-clause-found c =
    let f = c.args.frame in
    end-told c.args.extent.size c.args.last _ c.args.at c.args.extent.align f.width c.args.left c.offset_at.result f.table.now c.in-None.is c.if-left-eq0.false.0 c.if-left-eq0.false.1 c.offset_at.ensures
