-- Versions that are taken once.
use Rattle.std.proofs.Common.{◌≡◌, ◌==◌, ◌≢◌, ℕ, Bool, true, false, not, cond, ◌||◌, ◌&&◌, arith, List, [], ◌∷◌, ◌++◌, length, map, Option, Some, None, refl, sym, ap, ap₂, subst, ◌∙◌, inl, inr, append_assoc}
use denote.Ref.{Bor}
use Rattle.std.specs.List.{list_all, list_any, flat_map}
use Rattle.std.specs.Str.{bytes_eq}
use Rattle.std.specs.BTreeSet.{BTreeSet, insert_key}
use Rattle.std.specs.BTreeMap.{is_at}
use Rattle.std.specs.declared.cmp.Ordering.{Ordering}
use Rattle.std.specs.declared.cmp.Ordering.TheVariants as orders
use Rattle.std.specs.Cmp.Lexicographic.{slice_cmp, texts_ties}
use Rattle.std.specs.Ordering.{is_eq, nat_cmp, match_ordering}
use Rattle.std.proofs.lemmas.Bool.{cases_Bool, false≢true, not-true, or_parts, and_parts, and_from, ne_eqb}
use Rattle.std.proofs.lemmas.List.Folds.{list_all-append}
use Rattle.fp_base.proofs.Booleans.{or-swap, or-same}
use Rattle.fp_base.proofs.Texts.{bytes_eq-true, bytes_eq-same}
use Rattle.fp_host.specs.Paths.{is_element, cut}
use Rattle.fp_keyfile.specs.declared.group.Group.{Group}
use Rattle.fp_keyfile.specs.Grammar.{is_key, is_key_byte, is_blank, ends_so}
use Rattle.fp_keyfile.specs.KeyFile.{are_distinct}
use Rattle.fp_keyfile.proofs.Texts.{ends_so-append}
use Rattle.fp_name.specs.Grammar.{is_branch}
use Rattle.fp_name.specs.Refs.{Ref}
use Rattle.fl_extension.specs.Points.{is_directory, branch_of, candidate_of, candidates_of, versions_of, each_new, each_once}
use Rattle.fl_extension.specs.Seen.{has_seen, new_candidates}

abbrev Texts : Type 0
Texts = List (Bor (List ℕ))

abbrev text_cmp : Bor (List ℕ) → Bor (List ℕ) → Ordering
text_cmp x y = slice_cmp nat_cmp x.now y.now

abbrev has : Texts → List ℕ → Bool
has keys text = list_any (λ key. bytes_eq text key.now) keys

-- ---- the set

same_text : (x y : List ℕ) → slice_cmp nat_cmp x y ≡ orders.Equal → x ≡ y
same_text x y e = bytes_eq-true x y (texts_ties x y ∙ ap is_eq e)

pub has_inserted : (keys : Texts) (x : Bor (List ℕ)) (text : List ℕ) → has (insert_key text_cmp keys x) text ≡ (bytes_eq text x.now || has keys text)
has_inserted [] x text = refl
has_inserted (y ∷ ys) x text = by (text_cmp x y) refl (has_inserted ys x text)
  where
    by : (o : Ordering) → text_cmp x y ≡ o → has (insert_key text_cmp ys x) text ≡ (bytes_eq text x.now || has ys text) → has (match_ordering o (x ∷ y ∷ ys) (y ∷ ys) (y ∷ insert_key text_cmp ys x)) text ≡ (bytes_eq text x.now || (bytes_eq text y.now || has ys text))
    by orders.Less e rest = refl
    by orders.Equal e rest = or-same (bytes_eq text y.now) (has ys text) ∙ ap (λ (z : List ℕ). bytes_eq text z || (bytes_eq text y.now || has ys text)) (sym (same_text x.now y.now e))
    by orders.Greater e rest = ap (λ (b : Bool). bytes_eq text y.now || b) rest ∙ or-swap (bytes_eq text x.now) (bytes_eq text y.now) (has ys text)

pub contains_is : (keys : Texts) (x : Bor (List ℕ)) → list_any (is_at (text_cmp x)) keys ≡ has keys x.now
contains_is [] x = refl
contains_is (y ∷ ys) x = ap₂ ◌||◌ (sym (texts_ties x.now y.now)) (contains_is ys x)

-- ---- the list

or_seen : (seen : List ℕ → Bool) (text : List ℕ) → seen text ≡ true → (other : List ℕ) → (bytes_eq other text || seen other) ≡ seen other
or_seen seen text e other =
    elim (cases_Bool (bytes_eq other text)) [
      | inl f ↦ rw f (sym (ap seen (bytes_eq-true other text f) ∙ e))
      | inr f ↦ rw f refl
    ]

-- the first of a list is new or was seen, and the others are new beside it
pub each_new-first : (seen after : List ℕ → Bool) (text : List ℕ) (texts : List (List ℕ)) → ((other : List ℕ) → after other ≡ (bytes_eq other text || seen other)) → each_new seen (text ∷ texts) ≡ cond (seen text) [] (text ∷ []) ++ each_new after texts
each_new-first seen after text texts h =
    let same : after ≡ (λ other. bytes_eq other text || seen other) = λ i other. h other i in
    elim (cases_Bool (seen text)) [
      | inl e ↦
          let still : after ≡ seen = λ i other. (h other ∙ or_seen seen text e other) i in
          rw e (ap (λ s. each_new s texts) (sym still))
      | inr e ↦ rw e (ap (λ s. text ∷ each_new s texts) (sym same))
    ]

abbrev taken : List ℕ → List ℕ → List (List ℕ) → List Ref
taken name arch texts = flat_map (candidate_of name arch) texts

taken_first : (name arch : List ℕ) (b : Bool) (text : List ℕ) (texts : List (List ℕ)) → taken name arch (cond b [] (text ∷ []) ++ texts) ≡ cond b [] (candidate_of name arch text) ++ taken name arch texts
taken_first name arch true text texts = refl
taken_first name arch false text texts = refl

pub new_first : (name arch : List ℕ) (seen after : BTreeSet (Bor (List ℕ))) (text : List ℕ) (texts : List (List ℕ)) → ((other : List ℕ) → has_seen after other ≡ (bytes_eq other text || has_seen seen other))
    → taken name arch (each_new (has_seen seen) (text ∷ texts)) ≡ new_candidates name arch seen text ++ taken name arch (each_new (has_seen after) texts)
new_first name arch seen after text texts h =
    ap (taken name arch) (each_new-first (has_seen seen) (has_seen after) text texts h) ∙ taken_first name arch (has_seen seen text) text (each_new (has_seen after) texts)

-- ---- each once

abbrev with_seen : (List ℕ → Bool) → List ℕ → List ℕ → Bool
with_seen seen text other = bytes_eq other text || seen other

abbrev among : List (List ℕ) → List ℕ → Bool
among texts text = list_any (bytes_eq text) texts

seen_again : (seen : List ℕ → Bool) (text other : List ℕ) → seen other ≡ true → with_seen seen text other ≡ true
seen_again seen text other e = elim (cases_Bool (bytes_eq other text)) [
  | inl f ↦ rw f refl
  | inr f ↦ rw f e
]

-- what was seen isn't taken
avoids : (seen : List ℕ → Bool) (texts : List (List ℕ)) (t : List ℕ) → seen t ≡ true → among (each_new seen texts) t ≡ false
avoids seen [] t h = refl
avoids seen (x ∷ xs) t h = elim (cases_Bool (seen x)) [
  | inl e ↦ rw e (avoids seen xs t h)
  | inr e ↦ elim (cases_Bool (bytes_eq t x)) [
    | inl f ↦ absurd (false≢true (sym e ∙ ap seen (sym (bytes_eq-true t x f)) ∙ h))
    | inr f ↦ rw (e, f) (avoids (with_seen seen x) xs t (seen_again seen x t h))
  ]
]

distinct_new : (seen : List ℕ → Bool) (texts : List (List ℕ)) → are_distinct (each_new seen texts) ≡ true
distinct_new seen [] = refl
distinct_new seen (x ∷ xs) = elim (cases_Bool (seen x)) [
  | inl e ↦ rw e (distinct_new seen xs)
  | inr e ↦ rw e (rw (avoids (with_seen seen x) xs x (rw (bytes_eq-same x) refl)) (distinct_new (with_seen seen x) xs))
]

among_new : (seen : List ℕ → Bool) (texts : List (List ℕ)) (t : List ℕ) → seen t ≡ false → among (each_new seen texts) t ≡ among texts t
among_new seen [] t h = refl
among_new seen (x ∷ xs) t h = elim (cases_Bool (bytes_eq t x)) [
  | inl f ↦ elim (cases_Bool (seen x)) [
    | inl e ↦ absurd (false≢true (sym h ∙ ap seen (bytes_eq-true t x f) ∙ e))
    | inr e ↦ rw (e, f) refl
  ]
  | inr f ↦ elim (cases_Bool (seen x)) [
    | inl e ↦ rw (e, f) (among_new seen xs t h)
    | inr e ↦ rw (e, f) (among_new (with_seen seen x) xs t (rw (f, h) refl))
  ]
]

pub once_distinct : (texts : List (List ℕ)) → are_distinct (each_once texts) ≡ true
once_distinct texts = distinct_new (λ text. false) texts

pub once_among : (texts : List (List ℕ)) (text : List ℕ) → among (each_once texts) text ≡ among texts text
once_among texts text = among_new (λ text. false) texts text refl

-- ---- the branches of candidates

abbrev branches : List ℕ → List ℕ → List (List ℕ) → List (List ℕ)
branches name arch texts = map branch_of (taken name arch texts)

branches_away : (name arch : List ℕ) (texts : List (List ℕ)) (t : List ℕ) → among texts t ≡ false → among (branches name arch texts) t ≡ false
branches_away name arch [] t h = refl
branches_away name arch (x ∷ xs) t h =
    let a = or_parts (bytes_eq t x) (among xs t) h in
    elim (cases_Bool (is_branch x)) [
      | inl e ↦ rw e (rw a.0 (branches_away name arch xs t a.1))
      | inr e ↦ rw e (branches_away name arch xs t a.1)
    ]

branches_distinct : (name arch : List ℕ) (texts : List (List ℕ)) → are_distinct texts ≡ true → are_distinct (branches name arch texts) ≡ true
branches_distinct name arch [] h = refl
branches_distinct name arch (x ∷ xs) h =
    let a = and_parts (not (among xs x)) (are_distinct xs) h in
    elim (cases_Bool (is_branch x)) [
      | inl e ↦ rw e (rw (branches_away name arch xs x (not-true _ a.0)) (branches_distinct name arch xs a.1))
      | inr e ↦ rw e (branches_distinct name arch xs a.1)
    ]

pub candidates_distinct : (g : Group) (r : Ref) (name : List ℕ) → are_distinct (map branch_of (candidates_of g r name)) ≡ true
unfolding candidates_of
candidates_distinct g r name = branches_distinct name r.arch (each_once (versions_of g r)) (once_distinct (versions_of g r))

-- ---- directories

-- before a text that isn't empty it plays no part what stands
ends_after : (p : ℕ → Bool) (front text : List ℕ) → length text ≢ 0 → ends_so p (front ++ text) ≡ ends_so p text
ends_after p front [] h = absurd (h refl)
ends_after p front (c ∷ text) h = ends_so-append p front c text

no_empty : is_directory [] ≡ true → ⊥
no_empty h = false≢true h

some_directory : (directory : List ℕ) → is_directory directory ≡ true → length directory ≢ 0
some_directory [] h = λ e. no_empty h
some_directory (c ∷ text) h = λ e. omega (arith, e)

not_empty : (b : ℕ) (bs : List ℕ) → not (length (b ∷ bs) == 0) ≡ true
not_empty b bs = ap not (ne_eqb (length (b ∷ bs)) 0 (λ e. absurd (omega (arith, e))))

pub directory_key : (front directory : List ℕ) → list_all is_key_byte front ≡ true → is_directory directory ≡ true → is_key (47 ∷ (front ++ directory)) ≡ true
directory_key front directory h d =
    let a = and_parts (list_all is_element (cut directory)) (list_all is_key_byte directory && not (ends_so is_blank directory)) d in
    let b = and_parts (list_all is_key_byte directory) (not (ends_so is_blank directory)) a.1 in
    let bytes : list_all is_key_byte (47 ∷ (front ++ directory)) ≡ true = list_all-append is_key_byte front directory ∙ and_from (list_all is_key_byte front) (list_all is_key_byte directory) h b.0 in
    let ends : not (ends_so is_blank (47 ∷ (front ++ directory))) ≡ true = ap not (ends_after is_blank (47 ∷ front) directory (some_directory directory d)) ∙ b.1 in
    let key = 47 ∷ (front ++ directory) in
    let some = not (length key == 0) in
    and_from ((some && true) && list_all is_key_byte key) (not (ends_so is_blank key))
    (and_from (some && true) (list_all is_key_byte key) (and_from some true (not_empty 47 (front ++ directory)) refl) bytes) ends
