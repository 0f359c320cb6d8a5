use Rattle.std.proofs.Common.{◌∙◌, ◌∷◌, ◌++◌, [], List, ℕ, ap, sym, subst, length, string_bytes, refl}
use Rattle.std.specs.Prelude.{◌==◌}
use Rattle.fp_host.specs.Paths.{elements_of}
use Rattle.fp_host.proofs.PathTexts.{elements_root, not_empty, child_root, child_below, good_child, IsGood}
use Rattle.fp_host.proofs.path.Path.child.Goals as goal

pub returns-then-is_empty : goal.returns-then-is_empty
returns-then-is_empty c =
    let text = string_bytes c.self.inside.text in
    let x = c.args.element.now in
    let none = elements_root text (c.if-is_empty.ensures ∙ ap (λ (t : List ℕ). length t == 0) c.as_str-above.ensures.value) in
    ap elements_of c.in_ok-to_string.ensures.ok ∙ child_root x c.requires ∙ ap (λ (p : List (List ℕ)). x ∷ p) (sym none ∙ c.self.view_is)

pub invariant_of-result : goal.invariant_of-result
invariant_of-result c =
    let text = string_bytes c.self.inside.text in
    let x = c.args.element.now in
    subst IsGood (sym (ap elements_of c.in_ok-to_string.ensures.ok ∙ child_root x c.requires)) (good_child x [] c.requires refl)

pub returns : goal.returns
returns c =
    let text = string_bytes c.self.inside.text in
    let x = c.args.element.now in
    let some = not_empty text (c.if-is_empty.ensures ∙ ap (λ (t : List ℕ). length t == 0) c.as_str-above.ensures.value) in
    let bytes = c.in_ok-joined.ensures ∙ ap (λ (t : List ℕ). t ++ 47 ∷ x) c.as_str-above.ensures.value in
    ap elements_of bytes ∙ child_below text x some c.requires ∙ ap (λ (p : List (List ℕ)). x ∷ p) c.self.view_is

pub invariant_of-result-2 : goal.invariant_of-result-2
invariant_of-result-2 c =
    let text = string_bytes c.self.inside.text in
    let x = c.args.element.now in
    let some = not_empty text (c.if-is_empty.ensures ∙ ap (λ (t : List ℕ). length t == 0) c.as_str-above.ensures.value) in
    let bytes = c.in_ok-joined.ensures ∙ ap (λ (t : List ℕ). t ++ 47 ∷ x) c.as_str-above.ensures.value in
    subst IsGood (sym (ap elements_of bytes ∙ child_below text x some c.requires)) (good_child x (elements_of text) c.requires c.self.invariant)
