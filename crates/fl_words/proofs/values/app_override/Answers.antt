use Rattle.std.proofs.Common.{◌≡◌, ℕ, List, take, drop, map, string_bytes, ap, sym, ◌∙◌, arith}
use Rattle.std.proofs.lemmas.List.{take-map, length-map}
use Rattle.fl_words.specs.declared.command.Change.TheVariants.{OverrideChange}
use Rattle.fl_words.specs.Forms.{word_at, last_place}
use Rattle.fl_words.proofs.values.app_override.Goals as goal

pub returns-clause-ok : goal.returns-clause-ok
returns-clause-ok c =
    let words = map string_bytes c.args.words.now in
    let last = c.saturating_sub-last.result in
    let long = length-map c.args.words.now string_bytes in
    let at : last ≡ last_place words = omega (arith, c.saturating_sub-last.ensures, long) in
    ap (λ (name : List ℕ). OverrideChange name c.in_ok-options.options) (c.in_ok-name.ensures.ok ∙ ap (λ (n : ℕ). word_at n words) at)
    ∙ ap (OverrideChange (word_at (last_place words) words)) (c.in_ok-options.ensures ∙ ap (drop 1) (sym (take-map string_bytes last c.args.words.now) ∙ ap (λ (n : ℕ). take n words) at))
