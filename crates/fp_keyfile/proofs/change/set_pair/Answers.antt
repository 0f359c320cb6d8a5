use Rattle.std.proofs.Common.{◌≡◌, ℕ, List, [], ◌∷◌, ◌++◌, Some, None, get_or, set, sym, ap, ◌∙◌}
use Rattle.std.specs.List.{position}
use Rattle.std.specs.Str.{bytes_eq}
use Rattle.std.proofs.lemmas.Result.{on_ok_weaker}
use Rattle.fp_keyfile.specs.declared.group.Group.{Group}
use Rattle.fp_keyfile.specs.KeyFile.{names_of}
use Rattle.fp_keyfile.proofs.Changes.{with_pair_new}
use Rattle.fp_keyfile.proofs.FirstPlace.{position-map, place_of, absent_from, with_pair_found}
use Rattle.fp_keyfile.proofs.change.set_pair.Goals as goal

pub returns-in-Some-clause-ok : goal.returns-in-Some-clause-ok
returns-in-Some-clause-ok c =
    let groups = c.args.groups.now in
    let name = c.args.name.now in
    let at = c.in-Some.at in
    let g = c.at_mut-group.result.now in
    let found = ap (position (λ (f : Group). bytes_eq f.name name)) (sym c.as_slice.ensures) ∙ sym c.in-Some.ensures in
    let place : place_of (names_of groups) name ≡ Some at = sym (position-map (λ (n : List ℕ). bytes_eq n name) (λ (f : Group). f.name) groups) ∙ found in
    let is : g ≡ get_or groups at g = c.at_mut-group.ensures.value in
    on_ok_weaker c.put.result (λ e. ap (set groups at) e ∙ sym (with_pair_found groups name c.args.key.now c.args.value.now at g place is)) c.put.ensures.ok

pub returns-in_ok-group-in-None-clause-ok : goal.returns-in_ok-group-in-None-clause-ok
returns-in_ok-group-in-None-clause-ok c =
    let groups = c.args.groups.now in
    let name = c.args.name.now in
    let missed = ap (position (λ (f : Group). bytes_eq f.name name)) (sym c.as_slice.ensures) ∙ sym c.in-None.ensures in
    let place : place_of (names_of groups) name ≡ None = sym (position-map (λ (n : List ℕ). bytes_eq n name) (λ (f : Group). f.name) groups) ∙ missed in
    on_ok_weaker c.push.result (λ e. e ∙ ap (λ (g : Group). groups ++ (g ∷ [])) c.in_ok-group-in-None.ensures ∙ sym (with_pair_new groups name c.args.key.now c.args.value.now (absent_from (names_of groups) name place))) c.push.ensures.ok
