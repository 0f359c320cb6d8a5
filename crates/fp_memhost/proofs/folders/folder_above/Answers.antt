use Rattle.std.proofs.Common.{◌≡◌, ◌∙◌, List, ℕ, ap, sym, subst, take, lit<, Some, None, true}
use Rattle.std.specs.List.{list_all}
use Rattle.std.proofs.lemmas.Str.Pattern.{rfind_char}
use Rattle.fp_host.specs.Paths.{elements_of, is_element}
use Rattle.fp_host.proofs.PathTexts.{from_start, front_is, front_good, none_above}
use Rattle.fp_memhost.proofs.folders.folder_above.Goals as goal

pub returns-in-Some-clause-folder : goal.returns-in-Some-clause-folder
returns-in-Some-clause-folder c =
    let text = c.args.text.now in
    let at = c.in-Some.at in
    let f = rfind_char 47 text (Some at) c.in-Some.ensures.cases (lit< tt) in
    ap elements_of (c.range.ensures.value ∙ ap (λ n. take n text) (from_start at)) ∙ front_is text at f.0 f.1 f.2 c.requires

pub returns-in-Some-clause-good : goal.returns-in-Some-clause-good
returns-in-Some-clause-good c =
    let text = c.args.text.now in
    let at = c.in-Some.at in
    let f = rfind_char 47 text (Some at) c.in-Some.ensures.cases (lit< tt) in
    let is = c.range.ensures.value ∙ ap (λ n. take n text) (from_start at) in
    subst (λ (t : List ℕ). list_all is_element (elements_of t) ≡ true) (sym is) (front_good text at f.0 f.1 f.2 c.requires)

pub returns-in-None-clause-folder : goal.returns-in-None-clause-folder
returns-in-None-clause-folder c = none_above c.args.text.now (rfind_char 47 c.args.text.now None c.in-None.ensures.cases (lit< tt))
