use Rattle.std.proofs.Common.{◌≡◌, ◌∙◌, ◌∷◌, [], sym, ap, drop, refl}
use Rattle.std.proofs.lemmas.Bool.{false≢true}
use Rattle.fp_host.specs.Paths.{Elements, path_eq, elements_of}
use Rattle.fp_host.proofs.PathTexts.{same_paths}
use Rattle.fp_memhost.specs.Folders.{child_in}
use Rattle.fp_memhost.proofs.folders.is_in.Goals as goal

child_some : (folder p : Elements) → (p ≡ [] → ⊥) → child_in folder p ≡ path_eq (drop 1 p) folder
child_some folder [] some = absurd (some refl)
child_some folder (x ∷ up) some = refl

pub returns-in-Some : goal.returns-in-Some
returns-in-Some c =
    let up = c.in-Some.ensures.folder ∙ ap (λ (p : Elements). drop 1 p) c.text.ensures.back in
    c.eq.ensures ∙ same_paths c.in-Some.up.now c.args.folder.now ∙ ap (λ (p : Elements). path_eq p (elements_of c.args.folder.now)) up
    ∙ sym (child_some (elements_of c.args.folder.now) c.args.path.now (λ none. false≢true (sym (c.in-Some.ensures.none.1 (c.text.ensures.back ∙ none)))))
