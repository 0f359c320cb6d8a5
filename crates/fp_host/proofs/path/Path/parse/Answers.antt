use Rattle.std.proofs.Common.{◌∙◌}
use Rattle.fp_host.proofs.PathTexts.{text_back}
use Rattle.fp_host.proofs.path.Path.parse.Goals as goal

pub returns-clause-text : goal.returns-clause-text
returns-clause-text c = text_back _ ∙ c.in_ok-to_string.ensures.ok
