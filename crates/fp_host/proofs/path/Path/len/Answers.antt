use Rattle.std.proofs.Common.{◌∙◌, ◌+◌, sym, ap, List, ℕ, length, string_bytes}
use Rattle.std.specs.Prelude.{count_by, ◌==◌}
use Rattle.fp_host.proofs.PathTexts.{is_slash, elements_some, length-cut}
use Rattle.fp_host.proofs.path.Path.len.Goals as goal

pub returns : goal.returns
returns c =
    let text = string_bytes c.self.inside.text in
    let is = c.as_str-text.ensures.value in
    ap (λ n. n + 1) (c.count_slashes.ensures.count ∙ ap (λ (t : List ℕ). count_by is_slash t) is) ∙ sym (length-cut text)
    ∙ sym (ap (λ (p : List (List ℕ)). length p) (elements_some text (c.if-is_empty.ensures ∙ ap (λ (t : List ℕ). length t == 0) is))) ∙ ap (λ (p : List (List ℕ)). length p) c.self.view_is
