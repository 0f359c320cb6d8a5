-- Rows of a state, and what they keep.
use Rattle.std.proofs.Common.{◌≡◌, ◌⊎◌, inl, inr, ℕ, ◌+◌, ◌<◌, ◌≤◌, List, [], ◌∷◌, ◌++◌, length, take, get_or, Bool, true, false, Option, Some, None, refl, sym, ◌∙◌, ap, subst, Contains, append_assoc}
use Rattle.std.specs.Prelude.{◌↔◌, map}
use Rattle.std.specs.Str.{bytes_eq}
use Rattle.std.proofs.lemmas.Bool.{cases_Bool, and_parts}
use Rattle.std.proofs.lemmas.List.{take_more, take_all}
use Rattle.std.proofs.lemmas.List.Elements.{Contains-append_left, Contains-append_right, Contains-append_cases}
use Rattle.std.proofs.lemmas.Slice.Eq.{bytes_eq-Decides}
use Rattle.fp_base.proofs.Options.{some_none, none_some}
use Rattle.fp_base.proofs.Lists.{in_none, in_first, in_rest, in_cases}
use Rattle.fp_base.proofs.Texts.{bytes_eq-true}
use Rattle.fp_host.specs.Reads.{comes_first, is_ascending}
use Rattle.fp_name.specs.Refs.{Ref}
use Rattle.fp_small.specs.declared.state.State.{State}
use Rattle.fp_small.specs.declared.state.RefRow.{RefRow}
use Rattle.fp_small.specs.declared.state.Previous.{Previous}
use Rattle.ost_store.proofs.Lists.{in_one}
use Rattle.dep_states.specs.Shown.{at_name, ref_key}
use Rattle.dep_states.specs.After.{row_at}
use Rattle.dep_states.specs.Frames.{KeptIn}
use Rattle.dep_states.specs.Sound.{IsPrevious, IsKeptBy}
use Rattle.dep_states.proofs.Single.{some_is, none_before, at_head}
use Rattle.dep_tidy.specs.Kept.{previous_commits, kept_by, kept_of}
use Rattle.dep_tidy.specs.Tidy.{IsFrom}

-- ---- what rows keep

module _ (commit : List ℕ) where
  from_before : (o : Option Previous) → Contains (previous_commits o) commit → IsPrevious o commit
  from_before None has = absurd (in_none commit has)
  from_before (Some p) has = (p, refl, sym (in_one p.commit commit has))

  to_before : (o : Option Previous) → IsPrevious o commit → Contains (previous_commits o) commit
  to_before o (p, is, same) = subst (λ x. Contains (previous_commits x) commit) (sym is) (subst (Contains (p.commit ∷ [])) same (in_first p.commit []))

  from_row : (row : RefRow) → Contains (kept_by row) commit → IsKeptBy row commit
  from_row row has = elim (in_cases row.commit (previous_commits row.previous) commit has) [ inl is ↦ inl (sym is) | inr b ↦ inr (from_before row.previous b) ]

  to_row : (row : RefRow) → IsKeptBy row commit → Contains (kept_by row) commit
  to_row row (inl is) = subst (Contains (kept_by row)) is (in_first row.commit (previous_commits row.previous))
  to_row row (inr p) = in_rest row.commit (previous_commits row.previous) commit (to_before row.previous p)

  pub from_kept : (rows : List RefRow) → Contains (kept_of rows) commit → (row : RefRow) × Contains rows row × IsKeptBy row commit
  from_kept [] has = absurd (in_none commit has)
  from_kept (row ∷ rows) has = elim (Contains-append_cases (kept_by row) (kept_of rows) commit has) [
    | inl here ↦ (row, in_first row rows, from_row row here)
    | inr later ↦ let more = from_kept rows later in (more.0, in_rest row rows more.0 more.1, more.2)
  ]

  pub to_kept : (rows : List RefRow) (row : RefRow) → Contains rows row → IsKeptBy row commit → Contains (kept_of rows) commit
  to_kept [] row has by = absurd (in_none row has)
  to_kept (r ∷ rows) row has by = elim (in_cases r rows row has) [
    | inl is ↦ Contains-append_left (kept_by r) (kept_of rows) commit (to_row r (subst (λ x. IsKeptBy x commit) is by))
    | inr later ↦ Contains-append_right (kept_by r) (kept_of rows) commit (to_kept rows row later by)
  ]

pub kept_both : (rows : List RefRow) (commit : List ℕ) → Contains (kept_of rows) commit ↔ ((row : RefRow) × Contains rows row × IsKeptBy row commit)
kept_both rows commit = (from_kept commit rows, λ h. to_kept commit rows h.0 h.1 h.2)

-- one row more
each_push : (xs : List RefRow) (x : RefRow) → kept_of (xs ++ x ∷ []) ≡ kept_of xs ++ kept_by x
each_push [] x = append_nil (kept_by x)
  where
    append_nil : (l : List (List ℕ)) → l ++ [] ≡ l
    append_nil [] = refl
    append_nil (y ∷ l) = ap (λ (m : List (List ℕ)). y ∷ m) (append_nil l)
each_push (y ∷ xs) x = ap (λ (l : List (List ℕ)). kept_by y ++ l) (each_push xs x) ∙ sym (append_assoc (kept_by y) (kept_of xs) (kept_by x))

pub kept_next : (rows : List RefRow) (i : ℕ) (row : RefRow) (kept more : List (List ℕ)) → i < length rows → row ≡ get_or rows i row → kept ≡ kept_of (take i rows) → more ≡ kept ++ kept_by row → more ≡ kept_of (take (i + 1) rows)
kept_next rows i row kept more low is so_far added =
    let took : take (i + 1) rows ≡ take i rows ++ (row ∷ []) = take_more rows i row low ∙ ap (λ (r : RefRow). take i rows ++ (r ∷ [])) (sym is) in
    added ∙ ap (λ (l : List (List ℕ)). l ++ kept_by row) so_far ∙ sym (each_push (take i rows) row) ∙ ap kept_of (sym took)

pub kept_end : (rows : List RefRow) (i : ℕ) (kept : List (List ℕ)) → length rows ≤ i → kept ≡ kept_of (take i rows) → kept ≡ kept_of rows
kept_end rows i kept high so_far = so_far ∙ ap kept_of (take_all i rows high)

-- ---- the row of a ref

-- one of the list
pub at_in : (rows : List RefRow) (text : List ℕ) (row : RefRow) → at_name ref_key rows text ≡ Some row → Contains rows row × (ref_key row ≡ text)
at_in [] text row is = absurd (none_some is)
at_in (r ∷ rows) text row is = elim (cases_Bool (bytes_eq (ref_key r) text)) [
  | inl t ↦ let one : r ≡ row = some_is (rw t at is) in (subst (Contains (r ∷ rows)) one (in_first r rows), ap ref_key (sym one) ∙ bytes_eq-true (ref_key r) text t)
  | inr f ↦ let more = at_in rows text row (rw f at is) in (in_rest r rows row more.0, more.1)
]

-- and in a list that ascends each row is at its name
pub in_at : (rows : List RefRow) (row : RefRow) → is_ascending (map ref_key rows) ≡ true → Contains rows row → at_name ref_key rows (ref_key row) ≡ Some row
in_at [] row up has = absurd (in_none row has)
in_at (r ∷ rows) row up has =
    let u = and_parts (comes_first (ref_key r) (map ref_key rows)) (is_ascending (map ref_key rows)) up in
    elim (in_cases r rows row has) [
      | inl is ↦ subst (λ (x : RefRow). at_name ref_key (r ∷ rows) (ref_key x) ≡ Some x) (sym is) (at_head ref_key r rows)
      | inr later ↦ let rest = in_at rows row u.1 later in elim (cases_Bool (bytes_eq (ref_key r) (ref_key row))) [
        | inl t ↦ absurd (some_none (sym rest ∙ ap (at_name ref_key rows) (sym (bytes_eq-true (ref_key r) (ref_key row) t)) ∙ none_before ref_key (ref_key r) rows u.0 u.1))
        | inr f ↦ rw f rest
      ]
    ]

-- ---- questions that have an answer

previous_cases : (o : Option Previous) (commit : List ℕ) → IsPrevious o commit ⊎ (IsPrevious o commit → ⊥)
previous_cases None commit = inr (λ h. none_some h.1)
previous_cases (Some p) commit = elim (cases_Bool (bytes_eq p.commit commit)) [
  | inl t ↦ inl (p, refl, bytes_eq-true p.commit commit t)
  | inr f ↦ inr (λ h. off f (ap (λ (q : Previous). q.commit) (some_is h.1) ∙ h.2))
]
  where
    off : bytes_eq p.commit commit ≡ false → p.commit ≡ commit → ⊥
    off f e = cc (f, (bytes_eq-Decides p.commit commit).1 e)

kept_by_cases : (row : RefRow) (commit : List ℕ) → IsKeptBy row commit ⊎ (IsKeptBy row commit → ⊥)
kept_by_cases row commit = elim (cases_Bool (bytes_eq row.commit commit)) [
  | inl t ↦ inl (inl (bytes_eq-true row.commit commit t))
  | inr f ↦ elim (previous_cases row.previous commit) [
    | inl p ↦ inl (inr p)
    | inr off ↦ inr (λ by. elim by [ inl is ↦ differs f is | inr p ↦ off p ])
  ]
]
  where
    differs : bytes_eq row.commit commit ≡ false → row.commit ≡ commit → ⊥
    differs f e = cc (f, (bytes_eq-Decides row.commit commit).1 e)

pub kept_cases : (s : State) (name : Ref) (commit : List ℕ) → KeptIn s name commit ⊎ (KeptIn s name commit → ⊥)
kept_cases s name commit = go (row_at s name) refl
  where
    go : (o : Option RefRow) → row_at s name ≡ o → KeptIn s name commit ⊎ (KeptIn s name commit → ⊥)
    go None is = inr (λ k. some_none (sym k.has ∙ is))
    go (Some row) is = elim (kept_by_cases row commit) [
      | inl by ↦ inl (record { row = row; has = is; of_row = by })
      | inr off ↦ inr (λ k. off (subst (λ r. IsKeptBy r commit) (some_is (sym k.has ∙ is)) k.of_row))
    ]

pub from_cases : (s : State) (origin : List ℕ) (name : Ref) → IsFrom s origin name ⊎ (IsFrom s origin name → ⊥)
from_cases s origin name = go (row_at s name) refl
  where
    go : (o : Option RefRow) → row_at s name ≡ o → IsFrom s origin name ⊎ (IsFrom s origin name → ⊥)
    go None is = inr (λ k. some_none (sym k.has ∙ is))
    go (Some row) is = elim (cases_Bool (bytes_eq row.origin origin)) [
      | inl t ↦ inl (record { row = row; has = is; is = bytes_eq-true row.origin origin t })
      | inr f ↦ inr (λ k. off f (ap (λ (r : RefRow). r.origin) (some_is (sym is ∙ k.has)) ∙ k.is))
    ]
      where
        off : bytes_eq row.origin origin ≡ false → row.origin ≡ origin → ⊥
        off f e = cc (f, (bytes_eq-Decides row.origin origin).1 e)

-- ---- what the code asks

pub kept_some : (s : State) (name : Ref) (commit : List ℕ) (row : RefRow) (b : Bool) → row_at s name ≡ Some row → (b ≡ true) ↔ IsKeptBy row commit → (b ≡ true) ↔ KeptIn s name commit
kept_some s name commit row b is by = (
  λ t. record { row = row; has = is; of_row = by.0 t },
  λ k. by.1 (subst (λ r. IsKeptBy r commit) (some_is (sym k.has ∙ is)) k.of_row),
)

pub kept_none : (s : State) (name : Ref) (commit : List ℕ) → row_at s name ≡ None → KeptIn s name commit → ⊥
kept_none s name commit is k = some_none (sym k.has ∙ is)

pub from_some : (s : State) (origin : List ℕ) (name : Ref) (row : RefRow) (b : Bool) → row_at s name ≡ Some row → b ≡ bytes_eq row.origin origin → (b ≡ true) ↔ IsFrom s origin name
from_some s origin name row b is same = (
  λ t. record { row = row; has = is; is = bytes_eq-true row.origin origin (sym same ∙ t) },
  λ k. same ∙ (bytes_eq-Decides row.origin origin).1 (ap (λ (r : RefRow). r.origin) (some_is (sym is ∙ k.has)) ∙ k.is),
)

pub from_none : (s : State) (origin : List ℕ) (name : Ref) → row_at s name ≡ None → IsFrom s origin name → ⊥
from_none s origin name is k = some_none (sym k.has ∙ is)
