use Rattle.std.proofs.Common.{ℕ, List, ◌++◌, ap, ◌∙◌}
use Rattle.std.specs.Prelude.{codes}
use Rattle.fp_name.specs.Refs.{ref_text}
use Rattle.fl_export.proofs.texts.icon_text.Goals as goal

pub returns : goal.returns
returns c =
    c.from_string.ensures ∙ c.in_ok-text.ensures.ok
    ∙ ap (λ (t : List ℕ). codes "../../../../../../" ++ (t ++ (codes "/active/export/" ++ c.text-file.result.now))) c.as_str-app.ensures.text
    ∙ ap (λ (t : List ℕ). codes "../../../../../../" ++ (ref_text c.args.name.now ++ (codes "/active/export/" ++ t))) c.text-file.ensures.text
