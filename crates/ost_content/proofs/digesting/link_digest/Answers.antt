use Rattle.std.proofs.Common.{◌∙◌, ap}
use Rattle.sha2.specs.Sha256.{sha256}
use Rattle.ost_model.specs.Contents.{link_digest}
use Rattle.ost_content.proofs.digesting.link_digest.Goals as goal

pub returns : goal.returns
unfolding link_digest
returns c = c.sha256.ensures ∙ ap sha256 (c.as_slice.ensures ∙ c.in_ok-header.ensures)
