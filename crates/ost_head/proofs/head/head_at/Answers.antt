use Rattle.ost_model.specs.Look.{file_at}
use Rattle.ost_head.specs.Heads.{metadata_at}
use Rattle.ost_head.proofs.Looking.{looks_to, looks_err}
use Rattle.ost_head.proofs.Headed.{metadata_off, metadata_on, passed}
use Rattle.ost_head.proofs.head.head_at.Goals as goal

pub returns-in-Ok-clause-looks : goal.returns-in-Ok-clause-looks
returns-in-Ok-clause-looks g c = looks_to c.head_kept.result c.in-Ok.ensures.looks c.head_kept.ensures.faults

pub returns-in-Ok-clause-tells : goal.returns-in-Ok-clause-tells
returns-in-Ok-clause-tells g c have s =
    metadata_on have c.args.name.now c.args.commit.now c.args.timestamp c.args.digest.now c.in-Ok.kept c.head_kept.result (c.in-Ok.ensures.tells have s) c.head_kept.ensures.tells

pub returns-in-Err-clause-looks : goal.returns-in-Err-clause-looks
returns-in-Err-clause-looks g c = looks_err c.in-Err.end c.from.result c.from.ensures c.in-Err.ensures.looks

pub returns-in-Err-clause-tells : goal.returns-in-Err-clause-tells
returns-in-Err-clause-tells g c have s =
    passed (metadata_at have c.args.name.now c.args.commit.now c.args.timestamp (file_at c.args.digest.now)) c.in-Err.end c.from.result c.from.ensures
    (metadata_off have c.args.name.now c.args.commit.now c.args.timestamp c.args.digest.now c.in-Err.end (c.in-Err.ensures.tells have s))
