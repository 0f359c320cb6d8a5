use Rattle.std.proofs.Common.{◌≡◌, ◌∷◌, ◌++◌, ◌∙◌, [], List, ℕ, ap, sym, string_bytes, drop, append_assoc}
use Rattle.hex.specs.Hex.{encode_lower}
use Rattle.fp_host.specs.Paths.{is_element}
use Rattle.fp_name.specs.Hex.{hex}
use Rattle.fp_base.specs.Objects.{kind_text}
use Rattle.ost_store.proofs.Elements.{rest_is, name_element}
use Rattle.ost_store.proofs.naming.file_name.Goals as goal

pub returns-clause-text : goal.returns-clause-text
returns-clause-text c =
    let digits : string_bytes c.in_ok-name.name ≡ drop 2 (hex c.args.digest.now) = c.in_ok-name.ensures ∙ ap encode_lower c.split_at.ensures.back ∙ ap (λ (l : List ℕ). encode_lower (drop 1 l)) c.as_bytes.ensures.bytes ∙ sym (rest_is c.args.digest.now) in
    c.in_ok-push_str-2.ensures.bytes ∙ (λ i. c.in_ok-push_str.ensures.bytes i ++ c.word.ensures i) ∙ (λ i. (digits i ++ 46 ∷ []) ++ kind_text c.args.kind) ∙ append_assoc (drop 2 (hex c.args.digest.now)) (46 ∷ []) (kind_text c.args.kind)

pub returns-clause-element : goal.returns-clause-element
returns-clause-element c =
    let digits : string_bytes c.in_ok-name.name ≡ encode_lower (drop 1 c.args.digest.now) = c.in_ok-name.ensures ∙ ap encode_lower c.split_at.ensures.back ∙ ap (λ (l : List ℕ). encode_lower (drop 1 l)) c.as_bytes.ensures.bytes in
    ap is_element (c.in_ok-push_str-2.ensures.bytes ∙ (λ i. c.in_ok-push_str.ensures.bytes i ++ c.word.ensures i) ∙ (λ i. (digits i ++ 46 ∷ []) ++ kind_text c.args.kind) ∙ append_assoc (encode_lower (drop 1 c.args.digest.now)) (46 ∷ []) (kind_text c.args.kind))
    ∙ name_element c.args.digest.now c.args.kind c.as_bytes.ensures.good
