-- Paths in the order of their texts.
use Rattle.std.proofs.Common.{◌≡◌, ◌⊎◌, inl, inr, true, List, [], ◌∷◌, ◌++◌, map, refl, sym, ◌∙◌, ap, subst, Contains}
use Rattle.std.specs.Prelude.{String, string_bytes, ◌↔◌}
use Rattle.std.specs.declared.cmp.Ordering.{Ordering}
use Rattle.std.specs.declared.cmp.Ordering.TheVariants.{Less, Equal, Greater}
use Rattle.std.specs.Ordering.{is_lt, nat_cmp, match_ordering}
use Rattle.std.specs.Cmp.Lexicographic.{slice_cmp}
use Rattle.std.specs.List.{AllByRecursion}
use Rattle.std.specs.List.Sorted.{IsStrictlySortedBy}
use Rattle.std.specs.String.{string_cmp}
use Rattle.std.specs.BTreeMap.{insert_entry}
use Rattle.std.specs.Map.{keys_of, values_of}
use Rattle.std.proofs.lemmas.Bool.{and_from}
use Rattle.std.proofs.lemmas.List.Elements.{Contains-append_left, Contains-push, Contains-push_cases}
use Rattle.fp_base.proofs.Lists.{in_none, in_cases, in_first, in_rest}
use Rattle.fp_base.proofs.Texts.{equal_texts}
use Rattle.fp_host.specs.Paths.{Elements, path_text, elements_of}
use Rattle.fp_host.specs.View.{View}
use Rattle.fp_host.specs.Reads.{comes_first, is_ascending}
use Rattle.ost_model.specs.Stores.{objects_folder}
use Rattle.ost_store.specs.Names.{ListsNames}
use Rattle.fp_small.specs.Walks.{IsTextOf}
use Rattle.ost_store.specs.Walks.{AreKeyed, AreLeavesBelow, IsInOrder}

-- the text is that of the path
abbrev pub Keyed : {Z : Type 0} → String Z × Elements → Type 0
Keyed e = IsTextOf (string_bytes e.0) e.1

-- equal texts are those of one path
one_path : {Z : Type 0} (a b : String Z) (x y : Elements) → IsTextOf (string_bytes a) x → IsTextOf (string_bytes b) y → string_cmp a b ≡ Equal → x ≡ y
one_path a b x y kx ky h = sym kx.back ∙ ap elements_of (equal_texts a b h) ∙ ky.back

module _ {Z : Type 0} (key : String Z) (path : Elements) (known : IsTextOf (string_bytes key) path) where
  keyed_by : (e : String Z × Elements) (es : List (String Z × Elements)) (o : Ordering) → string_cmp key e.0 ≡ o → Keyed e → AllByRecursion Keyed es → AllByRecursion Keyed (insert_entry string_cmp es key path)
      → AllByRecursion Keyed (match_ordering o ((key, path) ∷ e ∷ es) ((e.0, path) ∷ es) (e ∷ insert_entry string_cmp es key path))
  keyed_by e es Less h one rest more = (known, (one, rest))
  keyed_by e es Equal h one rest more = (subst (IsTextOf (string_bytes e.0)) (sym (one_path key e.0 path e.1 known one h)) one, rest)
  keyed_by e es Greater h one rest more = (one, more)

  keyed_inserted : (es : List (String Z × Elements)) → AllByRecursion Keyed es → AllByRecursion Keyed (insert_entry string_cmp es key path)
  keyed_inserted [] all = (known, tt)
  keyed_inserted (e ∷ es) all = keyed_by e es (string_cmp key e.0) refl all.0 all.1 (keyed_inserted es all.1)

  -- the values are those of before and the new one
  abbrev HasBoth : List (String Z × Elements) → List (String Z × Elements) → Type 0
  HasBoth es fs = (p : Elements) → Contains (values_of fs) p ↔ ((p ≡ path) ⊎ Contains (values_of es) p)

  values_by : (e : String Z × Elements) (es : List (String Z × Elements)) (o : Ordering) → string_cmp key e.0 ≡ o → Keyed e → HasBoth es (insert_entry string_cmp es key path)
      → HasBoth (e ∷ es) (match_ordering o ((key, path) ∷ e ∷ es) ((e.0, path) ∷ es) (e ∷ insert_entry string_cmp es key path))
  values_by e es Less h one more p = (λ has. in_cases path (e.1 ∷ values_of es) p has, λ either. elim either [ inl is ↦ subst (λ (x : Elements). Contains (x ∷ e.1 ∷ values_of es) p) is (in_first p (e.1 ∷ values_of es)) | inr had ↦ in_rest path (e.1 ∷ values_of es) p had ])
  values_by e es Equal h one more p =
      let same : path ≡ e.1 = one_path key e.0 path e.1 known one h in (
        λ has. elim (in_cases path (values_of es) p has) [ inl is ↦ inl is | inr had ↦ inr (in_rest e.1 (values_of es) p had) ],
        λ either. elim either [
          | inl is ↦ subst (λ (x : Elements). Contains (x ∷ values_of es) p) is (in_first p (values_of es))
          | inr had ↦ subst (λ (x : Elements). Contains (x ∷ values_of es) p) (sym same) had
        ],
      )
  values_by e es Greater h one more p = (
    λ has. elim (in_cases e.1 (values_of (insert_entry string_cmp es key path)) p has) [
      | inl is ↦ inr (subst (λ (x : Elements). Contains (x ∷ values_of es) p) is (in_first p (values_of es)))
      | inr later ↦ elim ((more p).0 later) [ inl is ↦ inl is | inr had ↦ inr (in_rest e.1 (values_of es) p had) ]
    ],
    λ either. elim either [
      | inl is ↦ in_rest e.1 (values_of (insert_entry string_cmp es key path)) p ((more p).1 (inl is))
      | inr had ↦ elim (in_cases e.1 (values_of es) p had) [
        | inl is ↦ subst (λ (x : Elements). Contains (x ∷ values_of (insert_entry string_cmp es key path)) p) is (in_first p (values_of (insert_entry string_cmp es key path)))
        | inr later ↦ in_rest e.1 (values_of (insert_entry string_cmp es key path)) p ((more p).1 (inr later))
      ]
    ],
  )

  values_inserted : (es : List (String Z × Elements)) → AllByRecursion Keyed es → HasBoth es (insert_entry string_cmp es key path)
  values_inserted [] all p = (λ has. elim (in_cases path [] p has) [ inl is ↦ inl is | inr none ↦ inr none ], λ either. elim either [ inl is ↦ subst (λ (x : Elements). Contains (x ∷ []) p) is (in_first p []) | inr none ↦ absurd (in_none p none) ])
  values_inserted (e ∷ es) all p = values_by e es (string_cmp key e.0) refl all.0 (values_inserted es all.1) p

-- ---- the paths by their texts

pub none_keyed : {Z : Type 0} (es : List (String Z × Elements)) → es ≡ [] → AreKeyed [] es
none_keyed es none = subst (AreKeyed []) (sym none) (record { keyed = tt; each = λ q. (λ has. has, λ has. has) })

pub next_keyed : {Z : Type 0} (paths : List Elements) (q : Elements) (es fs : List (String Z × Elements)) (key : String Z) → AreKeyed paths es → IsTextOf (string_bytes key) q → fs ≡ insert_entry string_cmp es key q → AreKeyed (paths ++ q ∷ []) fs
next_keyed paths q es fs key so_far text put =
    let values = values_inserted key q text es so_far.keyed in
    subst (AreKeyed (paths ++ q ∷ [])) (sym put) (record {
      keyed = keyed_inserted key q text es so_far.keyed;
      each = λ p. (
        λ has. elim ((values p).0 has) [
          | inl is ↦ subst (Contains (paths ++ q ∷ [])) (sym is) (Contains-push paths q)
          | inr had ↦ Contains-append_left paths (q ∷ []) p ((so_far.each p).0 had)
        ],
        λ has. (values p).1 (elim (Contains-push_cases paths q p has) [ inl earlier ↦ inr ((so_far.each p).1 earlier) | inr same ↦ inl (sym same) ]),
      );
    })

-- ---- in the order of the texts

first_text : {Z : Type 0} (e : String Z × Elements) (es : List (String Z × Elements)) → Keyed e → AllByRecursion Keyed es → AllByRecursion (λ y. string_cmp e.0 y ≡ Less) (keys_of es) → comes_first (path_text e.1) (map path_text (values_of es)) ≡ true
first_text e [] one all low = refl
first_text e (f ∷ es) one all low = (λ i. is_lt (slice_cmp nat_cmp (sym one.is i) (sym (all.0.is) i))) ∙ ap is_lt low.0

ascending : {Z : Type 0} (es : List (String Z × Elements)) → AllByRecursion Keyed es → IsStrictlySortedBy string_cmp (keys_of es) → is_ascending (map path_text (values_of es)) ≡ true
unfolding IsStrictlySortedBy
ascending [] all sorted = refl
ascending (e ∷ es) all sorted =
    and_from (comes_first (path_text e.1) (map path_text (values_of es))) (is_ascending (map path_text (values_of es))) (first_text e es all.0 all.1 sorted.0) (ascending es all.1 sorted.1)

pub keyed_in_order : {Z : Type 0} (found : List Elements) (es : List (String Z × Elements)) (paths : List Elements) → AreKeyed found es → paths ≡ values_of es → IsStrictlySortedBy string_cmp (keys_of es) → IsInOrder found paths
keyed_in_order found es paths keyed same sorted = subst (IsInOrder found) (sym same) (record { each = keyed.each; ascending = ascending es keyed.keyed sorted })

-- paths that ascend as they are
pub found_in_order : (found paths : List Elements) → paths ≡ found → true ≡ is_ascending (map path_text found) → IsInOrder found paths
found_in_order found paths same so = subst (IsInOrder found) (sym same) (record { each = λ q. (λ has. has, λ has. has); ascending = sym so })

pub lists_names : {v : View} (root : Elements) (found paths : List Elements) → AreLeavesBelow (objects_folder root) v found → IsInOrder found paths → ListsNames root v paths
lists_names root found paths leaves order = record {
  leaves = record { each = λ q. (λ has. (leaves.each q).0 ((order.each q).0 has), λ is. (order.each q).1 ((leaves.each q).1 is)) };
  ascending = order.ascending;
}
