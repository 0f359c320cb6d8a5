use Rattle.std.proofs.Common.{◌≡◌, ◌≢◌, ◌∙◌, ◌||◌, ◌∷◌, [], List, ℕ, true, false, sym, ap, drop, refl, rules}
use Rattle.std.specs.Str.{bytes_eq}
use Rattle.std.proofs.lemmas.Bool.{false≢true, or_left}
use Rattle.fp_host.specs.Paths.{Elements, path_eq, elements_of}
use Rattle.fp_host.proofs.PathTexts.{same_paths}
use Rattle.fp_memhost.specs.Folders.{is_above}
use Rattle.fp_memhost.proofs.folders.is_below.Goals as goal

above_some : (f p up : Elements) → p ≢ [] → up ≡ drop 1 p → is_above f p ≡ (path_eq up f || is_above f up)
above_some f [] up some is = absurd (some refl)
above_some f (x ∷ rest) up some is = λ i. path_eq (sym is i) f || is_above f (sym is i)

-- one step up
up_one : (text up folder : List ℕ) → (elements_of text ≡ [] → true ≡ false) → elements_of up ≡ drop 1 (elements_of text) → is_above (elements_of folder) (elements_of text) ≡ (bytes_eq up folder || is_above (elements_of folder) (elements_of up))
up_one text up folder some is =
    above_some (elements_of folder) (elements_of text) (elements_of up) (λ none. false≢true (sym (some none))) is
    ∙ ap (λ b. b || is_above (elements_of folder) (elements_of up)) (sym (same_paths up folder))

pub returns-then-eq : goal.returns-then-eq
returns-then-eq c =
    let up = c.in-Some.up.now in
    let folder = c.args.folder.now in
    let step = up_one c.loop-up.text.now up folder c.in-Some.ensures.none.1 c.in-Some.ensures.folder in
    sym (or_left (bytes_eq up folder) (is_above (elements_of folder) (elements_of up)) (sym c.if-eq.ensures)) ∙ sym step ∙ c.loop-up.invariant.2

pub loop-up-preserved : goal.loop-up-preserved
loop-up-preserved c =
    let up = c.in-Some.up.now in
    let folder = c.args.folder.now in
    let step = up_one c.loop-up.text.now up folder c.in-Some.ensures.none.1 c.in-Some.ensures.folder in
    (search rules, c.in-Some.ensures.good, ap (λ b. b || is_above (elements_of folder) (elements_of up)) c.if-eq.ensures ∙ sym step ∙ c.loop-up.invariant.2)
