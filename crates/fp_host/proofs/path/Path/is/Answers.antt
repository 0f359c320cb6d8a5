use Rattle.std.proofs.Common.{◌∙◌, ap, List, ℕ, string_bytes}
use Rattle.fp_host.specs.Paths.{path_eq, elements_of}
use Rattle.fp_host.proofs.PathTexts.{same_paths}
use Rattle.fp_host.proofs.path.Path.is.Goals as goal

pub returns : goal.returns
returns c =
    c.eq.ensures ∙ same_paths (string_bytes c.self.inside.text) (string_bytes c.other.inside.text)
    ∙ ap (λ (p : List (List ℕ)). path_eq p (elements_of (string_bytes c.other.inside.text))) c.self.view_is ∙ ap (path_eq c.args.self.now) c.other.view_is
