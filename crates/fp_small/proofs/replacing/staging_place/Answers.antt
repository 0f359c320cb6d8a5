use Rattle.std.proofs.Common.{◌∷◌, ◌∙◌, List, ℕ, ap, sym, subst, string_bytes}
use Rattle.fp_host.proofs.Ending.{ends_to}
use Rattle.fp_small.specs.Places.{tmp}
use Rattle.fp_small.specs.Replace.{IsStaging}
use Rattle.fp_small.specs.Naming.{IsFirstFree, ListsIn}
use Rattle.fp_small.proofs.Replacement.{staging_of}
use Rattle.fp_small.proofs.replacing.staging_place.Goals as goal

pub returns-clause-tells : goal.returns-clause-tells
returns-clause-tells g c =
    let name = string_bytes c.in_ok-name.name in
    let place = c.in_ok-child.ensures ∙ ap (λ (x : List ℕ). x ∷ c.in_ok-folder.folder) c.deref.ensures ∙ ap (λ (q : List (List ℕ)). name ∷ q) c.in_ok-folder.ensures in
    let first = subst (λ (l : List (List ℕ)). IsFirstFree l name) c.as_slice.ensures c.in_ok-name.ensures.first in
    ends_to c.in_ok-names.ensures.tells (λ u w lists. subst (IsStaging u) (sym place) (staging_of (subst (λ (q : List (List ℕ)). ListsIn q u c.in_ok-names.names) c.in_ok-folder.ensures lists) first))

pub returns-clause-name : goal.returns-clause-name
returns-clause-name g c =
    let name = string_bytes c.in_ok-name.name in
    let place = c.in_ok-child.ensures ∙ ap (λ (x : List ℕ). x ∷ c.in_ok-folder.folder) c.deref.ensures ∙ ap (λ (q : List (List ℕ)). name ∷ q) c.in_ok-folder.ensures in
    let first = subst (λ (l : List (List ℕ)). IsFirstFree l name) c.as_slice.ensures c.in_ok-name.ensures.first in
    record { number = first.number; is = place ∙ ap (λ (x : List ℕ). x ∷ tmp) first.is }
