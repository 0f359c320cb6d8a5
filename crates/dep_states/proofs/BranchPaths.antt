-- The branch directories that are looked at.
use Rattle.std.proofs.Common.{◌≡◌, ◌≢◌, ◌⊎◌, inl, inr, List, [], ◌∷◌, ◌++◌, ℕ, true, Some, refl, sym, ◌∙◌, ap, subst, codes}
use Rattle.std.proofs.lemmas.List.Elements.{Contains-append_left, Contains-append_right, Contains-append_cases}
use Rattle.fp_host.specs.Paths.{Elements, absent, path_text, elements_of}
use Rattle.fp_host.specs.View.{View, IsTree}
use Rattle.fp_host.proofs.Shown.{some_above}
use Rattle.fp_name.specs.declared.kind.RefKind.{RefKind}
use Rattle.fp_name.specs.declared.kind.RefKind.TheVariants.{App, Runtime}
use Rattle.fp_name.specs.Kinds.{kind_word}
use Rattle.fp_name.specs.Refs.{Ref, is_ref, ref_of}
use Rattle.fp_name.proofs.Refs.{ref_of-some}
use Rattle.fp_small.specs.Walks.{IsLevel}
use Rattle.ost_refs.specs.Walks.{AreLevel}
use Rattle.dep_states.specs.Branches.{AreBranches}
use Rattle.dep_states.specs.Names.{branch_dir}
use Rattle.dep_states.proofs.Texts.{branch_back}
use Rattle.dep_states.proofs.Worked.{active_same}

-- ---- the ref at a path

pub ref_there : (p : Elements) (name : Ref) → elements_of (path_text p) ≡ p → ref_of (path_text p) ≡ Some name → (p ≡ branch_dir name) × (is_ref name ≡ true)
ref_there p name back is =
    let text = ref_of-some (path_text p) name is in
    (sym back ∙ ap elements_of text.0 ∙ branch_back name text.1, text.1)

pub branch_same : (a b : Ref) → branch_dir a ≡ branch_dir b → a ≡ b
branch_same a b e = active_same a b (ap (λ p. codes "active" ∷ p) e)

-- ---- what is looked at

-- where something stands in a branch directory, it is among those that are looked at
pub branch_level : {v : View} → IsTree v → (x : List ℕ) (name : Ref) → v.names (x ∷ branch_dir name) ≢ absent → IsLevel 3 (codes "app" ∷ []) v (branch_dir name) ⊎ IsLevel 3 (codes "runtime" ∷ []) v (branch_dir name)
branch_level {v = v} tree x name some = go name.kind refl
  where
    branch : v.names (branch_dir name) ≢ absent
    branch = some_above tree x (branch_dir name) some

    arch : v.names (name.arch ∷ (name.id ∷ (kind_word name.kind ∷ []))) ≢ absent
    arch = some_above tree name.branch (name.arch ∷ (name.id ∷ (kind_word name.kind ∷ []))) branch

    id : v.names (name.id ∷ (kind_word name.kind ∷ [])) ≢ absent
    id = some_above tree name.arch (name.id ∷ (kind_word name.kind ∷ [])) arch

    go : (k : RefKind) → name.kind ≡ k → IsLevel 3 (codes "app" ∷ []) v (branch_dir name) ⊎ IsLevel 3 (codes "runtime" ∷ []) v (branch_dir name)
    go App is = inl (((ap (λ k. kind_word k ∷ []) is, id), arch), branch)
    go Runtime is = inr (((ap (λ k. kind_word k ∷ []) is, id), arch), branch)

-- the paths below both folders
pub both_branches : {v : View} (apps runtimes : Elements) (ps qs all : List Elements) → apps ≡ codes "app" ∷ [] → runtimes ≡ codes "runtime" ∷ [] → all ≡ ps ++ qs → AreLevel 3 apps v ps → AreLevel 3 runtimes v qs → AreBranches v all
both_branches {v = v} apps runtimes ps qs all a r whole first second = subst (AreBranches v) (sym whole) (record {
  each = λ q. (
    λ has. elim (Contains-append_cases ps qs q has) [
      | inl one ↦ inl (subst (λ (l : Elements). IsLevel 3 l v q) a ((first.each q).0 one))
      | inr two ↦ inr (subst (λ (l : Elements). IsLevel 3 l v q) r ((second.each q).0 two))
    ],
    λ either. elim either [
      | inl level ↦ Contains-append_left ps qs q ((first.each q).1 (subst (λ (l : Elements). IsLevel 3 l v q) (sym a) level))
      | inr level ↦ Contains-append_right ps qs q ((second.each q).1 (subst (λ (l : Elements). IsLevel 3 l v q) (sym r) level))
    ],
  );
})
