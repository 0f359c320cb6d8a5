use Rattle.std.proofs.Common.{◌∙◌, ◌∷◌, List, ℕ, ap, sym, take, drop, lit<, Some, None}
use Rattle.std.proofs.lemmas.Str.Pattern.{rfind_char}
use Rattle.fp_host.specs.Paths.{cut}
use Rattle.fp_host.proofs.PathTexts.{cut_last, cut_none, no_slash, from_start, add_one}
use Rattle.fp_host.proofs.path.around_last.Goals as goal

pub returns-in_err-at-clause-none : goal.returns-in_err-at-clause-none
returns-in_err-at-clause-none c = λ is. cut_none c.args.text.now (no_slash c.args.text.now (rfind_char 47 c.args.text.now None c.in_err-at.ensures.cases (lit< tt)))

pub returns-clause-around : goal.returns-clause-around
returns-clause-around c =
    let text = c.args.text.now in
    let at = c.in_ok-at.at in
    let f = rfind_char 47 text (Some at) c.in_ok-at.ensures.cases (lit< tt) in
    let front = c.range.ensures.value ∙ ap (λ n. take n text) (from_start at) in
    let last = c.range_from.ensures.value ∙ ap (λ n. drop n text) (add_one at) in
    cut_last text at f.0 f.1 f.2 ∙ ap (λ (x : List ℕ). x ∷ cut (take at text)) (sym last) ∙ ap (λ (t : List ℕ). c.range_from.result.now ∷ cut t) (sym front)
