use Rattle.std.proofs.Common.{◌≤◌, ◌∙◌, ◌==◌, List, ℕ, ap, subst, not}
use Rattle.std.specs.List.{list_all}
use Rattle.std.proofs.lemmas.Str.{is_utf8-from_IsUtf8}
use Rattle.fp_host.proofs.LinkTexts.{link_text_is, not_short}
use Rattle.fp_host.proofs.text.is_link_text.Goals as goal

pub returns : goal.returns
returns c =
    let text = c.args.text.now in
    let same = c.as_bytes-bytes.ensures.value in
    let long = c.as_bytes-bytes.ensures.len in
    link_text_is text c.has_no_zero.result (subst (λ (n : ℕ). 1 ≤ n) long (not_short _ c.if-is_empty.ensures))
    (subst (λ (n : ℕ). n ≤ 4095) long c.if-bytes-gt-MOST_LINK_BYTES.false) (is_utf8-from_IsUtf8 text c.utf8.text)
    (c.has_no_zero.ensures ∙ ap (λ (t : List ℕ). list_all (λ b. not (b == 0)) t) same)
