use Rattle.std.proofs.Common.{◌∙◌, ap, subst, List, ℕ, ◌≤◌}
use Rattle.std.specs.Prelude.{◌==◌}
use Rattle.std.specs.List.{list_all}
use Rattle.fp_host.specs.Paths.{is_name_byte}
use Rattle.fp_host.proofs.PathTexts.{element_of}
use Rattle.fp_host.proofs.path.is_element.Goals as goal

pub returns : goal.returns
returns c =
    let is = c.as_bytes-bytes.ensures.value in
    let n = c.as_bytes-bytes.ensures.len in
    element_of c.args.text.now (c.if-is_empty.ensures ∙ ap (λ k. k == 0) n) (subst (λ k. k ≤ 255) n c.if-bytes-gt-MOST_ELEMENT_BYTES.false) (c.if-not-are_name_bytes.ensures ∙ ap (λ (t : List ℕ). list_all is_name_byte t) is) c.if-eq.ensures c.if-eq-2.ensures
