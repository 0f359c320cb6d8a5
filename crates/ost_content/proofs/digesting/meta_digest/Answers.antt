use Rattle.ost_model.specs.Contents.{meta_digest}
use Rattle.ost_content.proofs.digesting.meta_digest.Goals as goal

pub returns : goal.returns
unfolding meta_digest
returns c = c.sha256.ensures
