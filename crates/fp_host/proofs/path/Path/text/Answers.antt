use Rattle.std.proofs.Common.{◌∙◌, ap, sym, string_bytes}
use Rattle.fp_host.specs.Paths.{path_text}
use Rattle.fp_host.proofs.PathTexts.{text_back}
use Rattle.fp_host.proofs.path.Path.text.Goals as goal

pub returns-clause-text : goal.returns-clause-text
returns-clause-text c = c.deref.ensures ∙ sym (text_back (string_bytes c.self.inside.text)) ∙ ap path_text c.self.view_is
