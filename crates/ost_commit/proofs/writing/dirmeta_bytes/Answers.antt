use Rattle.std.proofs.lemmas.Result.{IfErr-weaker}
use Rattle.ost_model.specs.Readers.{meta_read, meta_breaks}
use Rattle.ost_commit.specs.Shows.{plain_meta}
use Rattle.ost_commit.specs.Writing.{IsRefused}
use Rattle.ost_commit.proofs.Holding.{want_for, refused_reads}
use Rattle.ost_commit.proofs.Sizes.{plain_bytes, plain_reads}
use Rattle.ost_commit.proofs.writing.dirmeta_bytes.Goals as goal

pub returns-clause-error : goal.returns-clause-error
returns-clause-error c =
    IfErr-weaker c.object_bytes.result _ _ (λ e h. want_for (IsRefused c.write_dirmeta.result) ⊥ e
    (λ refused. refused_reads meta_read meta_breaks c.write_dirmeta.result plain_meta c.write_dirmeta.ensures refused plain_bytes plain_reads) h) c.object_bytes.ensures.error
