-- What stands at a path of an image of rows passes each test that all rows pass.
use Rattle.std.proofs.Common.{◌≡◌, ◌≢◌, inl, inr, List, [], ◌∷◌, Bool, true, false, refl, sym, subst}
use Rattle.std.specs.List.{AllByRecursion, list_all, list_any}
use Rattle.std.proofs.lemmas.Bool.{cases_Bool, both_ways, and_parts, or_cases}
use Rattle.fp_host.specs.Paths.{Elements, path_eq}
use Rattle.fp_host.specs.Outcome.{Spot, gone}
use Rattle.fp_host.proofs.Separate.{path_decides}
use Rattle.fp_host.proofs.Shown.{gone_cases}
use Rattle.ost_model.specs.Order.{In}
use Rattle.dep_states.specs.Samples.{rows_at}

pub by_row : (P : Elements → Type 0) (rs : List (Elements × Spot)) → AllByRecursion (λ row. P row.0) rs → (p : Elements) → rows_at rs p ≢ gone → P p
by_row P [] all p there = absurd (there refl)
by_row P (row ∷ rs) all p there = elim (cases_Bool (path_eq p row.0)) [
  | inl t ↦ subst P (sym ((path_decides p row.0).0 t)) all.0
  | inr f ↦ by_row P rs all.1 p (λ g. there (rw f g))
]

pub all_pass : {A : Type 0} (test : A → Bool) (P : A → Type 0) → ((a : A) → test a ≡ true → P a) → (xs : List A) → list_all test xs ≡ true → AllByRecursion P xs
all_pass test P says [] all = tt
all_pass test P says (x ∷ xs) all = let a = and_parts (test x) (list_all test xs) all in (says x a.0, all_pass test P says xs a.1)

-- a path at which something stands passes the test
pub tested : (test : Elements → Bool) (rs : List (Elements × Spot)) → list_all (λ row. test row.0) rs ≡ true → (p : Elements) → rows_at rs p ≢ gone → test p ≡ true
tested test rs all p there = by_row (λ q. test q ≡ true) rs (all_pass (λ row. test row.0) (λ row. test row.0 ≡ true) (λ row t. t) rs all) p there

-- where one doesn't, nothing stands
pub untested : (test : Elements → Bool) (rs : List (Elements × Spot)) → list_all (λ row. test row.0) rs ≡ true → (p : Elements) → test p ≡ false → rows_at rs p ≡ gone
untested test rs all p fails = elim (gone_cases (rows_at rs p)) [
  | inl none ↦ none
  | inr there ↦ absurd (both_ways (test p) fails (tested test rs all p there))
]

-- one of these passes
pub some_passes : {A : Type 0} (test : A → Bool) (xs : List A) → list_any test xs ≡ true → (x : A) × In xs x × (test x ≡ true)
some_passes test [] any = absurd cc
some_passes test (x ∷ xs) any = elim (or_cases (test x) (list_any test xs) any) [
  | inl t ↦ (x, inl refl, t)
  | inr more ↦ let rest = some_passes test xs more in (rest.0, inr rest.1, rest.2)
]

pub of_all : {A : Type 0} (P : A → Type 0) (xs : List A) → AllByRecursion P xs → (x : A) → In xs x → P x
of_all P [] all x here = absurd here
of_all P (y ∷ ys) all x here = elim here [
  | inl same ↦ subst P same all.0
  | inr more ↦ of_all P ys all.1 x more
]
