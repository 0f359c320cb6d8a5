use Rattle.std.proofs.Common.{List, ℕ, ◌++◌, map, string_bytes, ap, ◌∙◌}
use Rattle.fl_words.specs.declared.forms.Form.{Form}
use Rattle.fl_words.specs.Reasons.{said}
use Rattle.fl_words.proofs.reasons.reason.Goals as goal

pub returns : goal.returns
returns c =
    let words = map string_bytes c.args.words.now in
    c.from_string.ensures ∙ c.in_ok-push_said.ensures
    ∙ ap (λ (t : List ℕ). t ++ said c.all.result.now words) c.new-text.ensures.bytes
    ∙ ap (λ (fs : List Form). said fs words) c.all.ensures
