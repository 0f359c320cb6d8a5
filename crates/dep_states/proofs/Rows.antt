-- Images that are listed row by row.
use Rattle.std.proofs.Common.{◌≡◌, ◌≢◌, inl, inr, ℕ, List, [], ◌∷◌, Bool, true, refl, sym, subst}
use Rattle.std.specs.List.{AllByRecursion, list_all}
use Rattle.std.proofs.lemmas.Bool.{cases_Bool, and_parts}
use Rattle.fp_host.specs.Paths.{Elements, path_eq}
use Rattle.fp_host.specs.Outcome.{Spot, gone}
use Rattle.fp_host.proofs.Separate.{path_decides}
use Rattle.dep_states.specs.Samples.{rows_at}

-- what no row has is gone
pub none_at : (p : Elements) (test : Elements → Bool) (rs : List (Elements × Spot)) → ((q : Elements) → test q ≡ true → p ≢ q) → list_all (λ row. test row.0) rs ≡ true → rows_at rs p ≡ gone
none_at p test [] apart all = refl
none_at p test (row ∷ rs) apart all =
    let a = and_parts (test row.0) (list_all (λ r. test r.0) rs) all in
    elim (cases_Bool (path_eq p row.0)) [
      | inl t ↦ absurd (apart row.0 a.0 ((path_decides p row.0).0 t))
      | inr f ↦ rw f (none_at p test rs apart a.1)
    ]

-- what holds of each row, and of what is gone, holds of each path
pub each_at : (P : Elements → Spot → Type 0) → ((p : Elements) → P p gone) → (rs : List (Elements × Spot)) → AllByRecursion (λ row. P row.0 row.1) rs → (p : Elements) → P p (rows_at rs p)
each_at P at_gone [] all p = at_gone p
each_at P at_gone (row ∷ rs) all p = elim (cases_Bool (path_eq p row.0)) [
  | inl t ↦ rw t (subst (λ q. P q row.1) (sym ((path_decides p row.0).0 t)) all.0)
  | inr f ↦ rw f (each_at P at_gone rs all.1 p)
]

abbrev pub head_of : Elements → List ℕ
head_of [] = []
head_of (x ∷ up) = x

abbrev pub tail_of : Elements → Elements
tail_of [] = []
tail_of (x ∷ up) = up
