-- The texts of paths, and of branch directories.
use Rattle.std.proofs.Common.{◌≡◌, ℕ, List, [], ◌∷◌, ◌++◌, true, ◌&&◌, refl, sym, ◌∙◌, ap}
use Rattle.std.specs.List.{list_all, join_with_byte}
use Rattle.std.proofs.lemmas.Bool.{and_parts, and_from}
use Rattle.fp_host.specs.Paths.{Elements, is_element, turned_onto, path_text, elements_of}
use Rattle.fp_host.proofs.PathTexts.{child_root, child_below}
use Rattle.fp_name.specs.Grammar.{is_id, is_arch, is_branch}
use Rattle.fp_name.specs.Refs.{Ref, is_ref}
use Rattle.fp_name.specs.Kinds.{kind_word}
use Rattle.fp_small.proofs.Elements.{element_id, element_arch, element_branch, element_kind}
use Rattle.dep_states.specs.Names.{branch_dir}

turned_more : (p done : Elements) → turned_onto p done ≡ turned_onto p [] ++ done
turned_more [] done = refl
turned_more (x ∷ p) done = turned_more p (x ∷ done) ∙ on (turned_onto p []) ∙ ap (λ (l : Elements). l ++ done) (sym (turned_more p (x ∷ [])))
  where
    on : (l : Elements) → l ++ (x ∷ done) ≡ (l ++ (x ∷ [])) ++ done
    on [] = refl
    on (y ∷ l) = ap (λ (m : Elements). y ∷ m) (on l)

-- the texts joined, with one more at the end
joined_more : (y : List ℕ) (l : Elements) (x : List ℕ) → join_with_byte 47 ((y ∷ l) ++ (x ∷ [])) ≡ join_with_byte 47 (y ∷ l) ++ (47 ∷ x)
joined_more y [] x = refl
joined_more y (z ∷ l) x = ap (λ (t : List ℕ). y ++ (47 ∷ t)) (joined_more z l x) ∙ on y (47 ∷ join_with_byte 47 (z ∷ l)) (47 ∷ x)
  where
    on : (a b c : List ℕ) → a ++ (b ++ c) ≡ (a ++ b) ++ c
    on [] b c = refl
    on (h ∷ a) b c = ap (λ (t : List ℕ). h ∷ t) (on a b c)

some_turned : (x : List ℕ) (p : Elements) → (y : List ℕ) × (l : Elements) × (turned_onto (x ∷ p) [] ≡ y ∷ l)
some_turned x p = go p (x ∷ []) x [] refl
  where
    go : (q done : Elements) (y : List ℕ) (l : Elements) → done ≡ y ∷ l → (z : List ℕ) × (m : Elements) × (turned_onto q done ≡ z ∷ m)
    go [] done y l is = (y, l, is)
    go (z ∷ q) done y l is = go q (z ∷ done) z done refl

text_more : (x y : List ℕ) (up : Elements) → path_text (x ∷ (y ∷ up)) ≡ path_text (y ∷ up) ++ (47 ∷ x)
text_more x y up =
    let some = some_turned y up in
    ap (join_with_byte 47) (turned_more (y ∷ up) (x ∷ []) ∙ ap (λ (l : Elements). l ++ (x ∷ [])) some.2) ∙ joined_more some.0 some.1 x
    ∙ ap (λ (l : Elements). join_with_byte 47 l ++ (47 ∷ x)) (sym some.2)

not_nil : (a : List ℕ) (b : ℕ) (c : List ℕ) → a ++ (b ∷ c) ≡ [] → ⊥
not_nil [] b c e = cc e
not_nil (x ∷ a) b c e = cc e

element_some : (x : List ℕ) → is_element x ≡ true → x ≡ [] → ⊥
element_some [] good e = absurd (cc good)
element_some (b ∷ x) good e = cc e

text_some : (x : List ℕ) (up : Elements) → is_element x ≡ true → path_text (x ∷ up) ≡ [] → ⊥
text_some x [] good e = element_some x good e
text_some x (y ∷ up) good e = not_nil (path_text (y ∷ up)) 47 x (sym (text_more x y up) ∙ e)

-- the text of a path reads back
pub text_back : (q : Elements) → list_all is_element q ≡ true → elements_of (path_text q) ≡ q
text_back [] good = refl
text_back (x ∷ []) good = child_root x (and_parts (is_element x) true good).0
text_back (x ∷ (y ∷ up)) good =
    let first = and_parts (is_element x) (list_all is_element (y ∷ up)) good in
    let second = and_parts (is_element y) (list_all is_element up) first.1 in
    ap elements_of (text_more x y up) ∙ child_below (path_text (y ∷ up)) x (text_some y up second.0) first.0 ∙ ap (λ (l : Elements). x ∷ l) (text_back (y ∷ up) first.1)

pub branch_back : (name : Ref) → is_ref name ≡ true → elements_of (path_text (branch_dir name)) ≡ branch_dir name
branch_back name good = text_back (branch_dir name) (branch_elements name good)
  where
    branch_elements : (n : Ref) → is_ref n ≡ true → list_all is_element (branch_dir n) ≡ true
    branch_elements n h =
        let a = and_parts (is_id n.id) (is_arch n.arch && is_branch n.branch) h in
        let b = and_parts (is_arch n.arch) (is_branch n.branch) a.1 in
        and_from (is_element n.branch) _ (element_branch n.branch b.1) (and_from (is_element n.arch) _ (element_arch n.arch b.0) (and_from (is_element n.id) _ (element_id n.id a.0) (and_from (is_element (kind_word n.kind)) true (element_kind n.kind) refl)))
