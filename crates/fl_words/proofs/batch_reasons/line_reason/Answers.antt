use Rattle.std.proofs.Common.{◌≡◌, List, ℕ, ◌++◌, append_assoc, map, string_bytes, ap, ◌∙◌}
use Rattle.std.specs.Prelude.{codes, decimal, []}
use Rattle.fl_words.specs.declared.forms.Form.{Form}
use Rattle.fl_words.specs.Reasons.{why, words_shown, change_forms}
use Rattle.fl_words.proofs.batch_reasons.line_reason.Goals as goal

pub returns : goal.returns
returns c =
    let shown : map string_bytes c.deref.result.now ≡ words_shown c.args.line.now = ap (map string_bytes) c.deref.ensures.value ∙ c.in_ok-words.ensures in
    let said = why [] c.changes.result.now (map string_bytes c.deref.result.now) in
    c.from_string.ensures ∙ c.in_ok-push_reason.ensures
    ∙ ap (λ (t : List ℕ). t ++ said) c.in_ok-text.ensures.ok
    ∙ append_assoc (codes "fpk: line ") (decimal c.args.number ++ codes ": ") said
    ∙ ap (λ (t : List ℕ). codes "fpk: line " ++ t) (append_assoc (decimal c.args.number) (codes ": ") said)
    ∙ ap (λ (fs : List Form). codes "fpk: line " ++ (decimal c.args.number ++ (codes ": " ++ why [] fs (map string_bytes c.deref.result.now)))) c.changes.ensures
    ∙ ap (λ (ws : List (List ℕ)). codes "fpk: line " ++ (decimal c.args.number ++ (codes ": " ++ why [] change_forms ws))) shown
