-- Places in the order of the texts of their paths.
use Rattle.std.proofs.Common.{◌≡◌, ◌⊎◌, inl, inr, ℕ, ◌+◌, ◌<◌, true, List, [], ◌∷◌, ◌++◌, length, take, get_or, Option, Some, None, refl, sym, ◌∙◌, ap, subst, Contains}
use Rattle.std.specs.Prelude.{String, string_bytes, ◌↔◌}
use Rattle.std.specs.declared.cmp.Ordering.{Ordering}
use Rattle.std.specs.declared.cmp.Ordering.TheVariants.{Less, Equal, Greater}
use Rattle.std.specs.Ordering.{is_lt, nat_cmp, match_ordering}
use Rattle.std.specs.Cmp.Lexicographic.{slice_cmp}
use Rattle.std.specs.List.{AllByRecursion}
use Rattle.std.specs.List.Sorted.{IsStrictlySortedBy}
use Rattle.std.specs.String.{string_cmp}
use Rattle.std.specs.BTreeMap.{insert_entry}
use Rattle.std.specs.Map.{keys_of, values_of}
use Rattle.std.proofs.lemmas.Bool.{and_from}
use Rattle.std.proofs.lemmas.List.{take_more}
use Rattle.std.proofs.lemmas.List.Elements.{Contains-append_left, Contains-append_right, Contains-append_cases, Contains-push, Contains-push_cases, Contains-get_or}
use Rattle.fp_base.proofs.Lists.{in_none, in_first, in_rest, in_cases}
use Rattle.fp_base.proofs.Texts.{equal_texts}
use Rattle.fp_host.specs.Paths.{Elements, path_text, elements_of}
use Rattle.fp_host.specs.View.{View, IsTree}
use Rattle.fp_host.specs.Calls.{IsFile}
use Rattle.fp_host.specs.Reads.{comes_first, is_ascending}
use Rattle.ost_refs.specs.Places.{heads, remotes, place_path, is_place}
use Rattle.fp_small.specs.Walks.{IsLevel, IsTextOf}
use Rattle.ost_refs.specs.Walks.{AreLevel}
use Rattle.ost_refs.specs.Found.{place_named, ArePaths, Puts, Adds, AreFound, Finds}
use Rattle.ost_refs.specs.Lists.{texts_of, ListsRefs}
use Rattle.ost_refs.specs.declared.place.RefPlace.{RefPlace}
use Rattle.ost_refs.proofs.Places.{place_same}
use Rattle.ost_refs.proofs.Named.{named_path, place_back, file_level}

-- the text is that of the place's path
abbrev pub Keyed : {Z : Type 0} → Elements → String Z × RefPlace → Type 0
Keyed root e = IsTextOf (string_bytes e.0) (place_path root e.1)

-- equal texts are those of one place
one_place : {Z : Type 0} (root : Elements) (a b : String Z) (x y : RefPlace) → Keyed root (a, x) → Keyed root (b, y) → string_cmp a b ≡ Equal → x ≡ y
one_place root a b x y kx ky h = place_same root x y (sym kx.back ∙ ap elements_of (equal_texts a b h) ∙ ky.back)

module _ {Z : Type 0} (root : Elements) (key : String Z) (place : RefPlace) (known : Keyed root (key, place)) where
  keyed_by : (e : String Z × RefPlace) (es : List (String Z × RefPlace)) (o : Ordering) → string_cmp key e.0 ≡ o → Keyed root e → AllByRecursion (Keyed root) es → AllByRecursion (Keyed root) (insert_entry string_cmp es key place)
      → AllByRecursion (Keyed root) (match_ordering o ((key, place) ∷ e ∷ es) ((e.0, place) ∷ es) (e ∷ insert_entry string_cmp es key place))
  keyed_by e es Less h one rest more = (known, (one, rest))
  keyed_by e es Equal h one rest more = (subst (λ p. IsTextOf (string_bytes e.0) (place_path root p)) (sym (one_place root key e.0 place e.1 known one h)) one, rest)
  keyed_by e es Greater h one rest more = (one, more)

  keyed_inserted : (es : List (String Z × RefPlace)) → AllByRecursion (Keyed root) es → AllByRecursion (Keyed root) (insert_entry string_cmp es key place)
  keyed_inserted [] all = (known, tt)
  keyed_inserted (e ∷ es) all = keyed_by e es (string_cmp key e.0) refl all.0 all.1 (keyed_inserted es all.1)

  -- the values are those of before and the new one
  abbrev HasBoth : List (String Z × RefPlace) → List (String Z × RefPlace) → Type 0
  HasBoth es fs = (p : RefPlace) → Contains (values_of fs) p ↔ ((p ≡ place) ⊎ Contains (values_of es) p)

  values_by : (e : String Z × RefPlace) (es : List (String Z × RefPlace)) (o : Ordering) → string_cmp key e.0 ≡ o → Keyed root e → HasBoth es (insert_entry string_cmp es key place)
      → HasBoth (e ∷ es) (match_ordering o ((key, place) ∷ e ∷ es) ((e.0, place) ∷ es) (e ∷ insert_entry string_cmp es key place))
  values_by e es Less h one more p = (λ has. in_cases place (e.1 ∷ values_of es) p has, λ either. elim either [ inl is ↦ subst (λ x. Contains (x ∷ e.1 ∷ values_of es) p) is (in_first p (e.1 ∷ values_of es)) | inr had ↦ in_rest place (e.1 ∷ values_of es) p had ])
  values_by e es Equal h one more p =
      let same : place ≡ e.1 = one_place root key e.0 place e.1 known one h in (
        λ has. elim (in_cases place (values_of es) p has) [ inl is ↦ inl is | inr had ↦ inr (in_rest e.1 (values_of es) p had) ],
        λ either. elim either [
          | inl is ↦ subst (λ x. Contains (x ∷ values_of es) p) is (in_first p (values_of es))
          | inr had ↦ subst (λ x. Contains (x ∷ values_of es) p) (sym same) had
        ],
      )
  values_by e es Greater h one more p = (
    λ has. elim (in_cases e.1 (values_of (insert_entry string_cmp es key place)) p has) [
      | inl is ↦ inr (subst (λ x. Contains (x ∷ values_of es) p) is (in_first p (values_of es)))
      | inr later ↦ elim ((more p).0 later) [ inl is ↦ inl is | inr had ↦ inr (in_rest e.1 (values_of es) p had) ]
    ],
    λ either. elim either [
      | inl is ↦ in_rest e.1 (values_of (insert_entry string_cmp es key place)) p ((more p).1 (inl is))
      | inr had ↦ elim (in_cases e.1 (values_of es) p had) [
        | inl is ↦ subst (λ x. Contains (x ∷ values_of (insert_entry string_cmp es key place)) p) is (in_first p (values_of (insert_entry string_cmp es key place)))
        | inr later ↦ in_rest e.1 (values_of (insert_entry string_cmp es key place)) p ((more p).1 (inr later))
      ]
    ],
  )

  values_inserted : (es : List (String Z × RefPlace)) → AllByRecursion (Keyed root) es → HasBoth es (insert_entry string_cmp es key place)
  values_inserted [] all p = (λ has. elim (in_cases place [] p has) [ inl is ↦ inl is | inr none ↦ inr none ], λ either. elim either [ inl is ↦ subst (λ x. Contains (x ∷ []) p) is (in_first p []) | inr none ↦ absurd (in_none p none) ])
  values_inserted (e ∷ es) all p = values_by e es (string_cmp key e.0) refl all.0 (values_inserted es all.1) p

-- ---- one path more

module _ {Z : Type 0} {v : View} (root : Elements) (ps : List Elements) (q : Elements) (es fs : List (String Z × RefPlace)) (level : IsLevel 4 (heads root) v q ⊎ IsLevel 5 (remotes root) v q) (so_far : AreFound root v ps es) where
  -- no place more
  same_found : ((place : RefPlace) → is_place place ≡ true → place_path root place ≡ q → IsFile (v.names q) → ⊥) → fs ≡ es → AreFound root v (ps ++ q ∷ []) fs
  same_found none same = subst (AreFound root v (ps ++ q ∷ [])) (sym same) (record {
    keyed = so_far.keyed;
    each = λ p. (
      λ has. let is = (so_far.each p).0 has in (is.0, is.1, Contains-append_left ps (q ∷ []) (place_path root p) is.2),
      λ is. elim (Contains-push_cases ps q (place_path root p) is.2) [
        | inl earlier ↦ (so_far.each p).1 (is.0, is.1, earlier)
        | inr here ↦ absurd (none p is.0 (sym here) (subst (λ (l : Elements). IsFile (v.names l)) (sym here) is.1))
      ],
    );
  })

  -- this place more
  put_found : IsFile (v.names q) → (place : RefPlace) → place_named q ≡ Some place → (key : String Z) → IsTextOf (string_bytes key) q → fs ≡ insert_entry string_cmp es key place → AreFound root v (ps ++ q ∷ []) fs
  put_found here place named key text put =
      let path = named_path root v q place level named in
      let known : Keyed root (key, place) = subst (IsTextOf (string_bytes key)) (sym path.1) text in
      let values = values_inserted root key place known es so_far.keyed in
      subst (AreFound root v (ps ++ q ∷ [])) (sym put) (record {
        keyed = keyed_inserted root key place known es so_far.keyed;
        each = λ p. (
          λ has. elim ((values p).0 has) [
            | inl is ↦ subst (λ x. (is_place x ≡ true) × IsFile (v.names (place_path root x)) × Contains (ps ++ q ∷ []) (place_path root x)) (sym is) (
              path.0,
              subst (λ (l : Elements). IsFile (v.names l)) (sym path.1) here,
              subst (Contains (ps ++ q ∷ [])) (sym path.1) (Contains-push ps q),
            )
            | inr had ↦ let is = (so_far.each p).0 had in (is.0, is.1, Contains-append_left ps (q ∷ []) (place_path root p) is.2)
          ],
          λ is. (values p).1 (elim (Contains-push_cases ps q (place_path root p) is.2) [
            | inl earlier ↦ inr ((so_far.each p).1 (is.0, is.1, earlier))
            | inr same ↦ inl (place_same root p place (sym same ∙ sym path.1))
          ]),
        );
      })

  puts_found : IsFile (v.names q) → (o : Option RefPlace) → place_named q ≡ o → Puts q o es fs → AreFound root v (ps ++ q ∷ []) fs
  puts_found here None named put = same_found (λ p good same file. absurd (cc (sym named ∙ ap place_named (sym same) ∙ place_back root p good))) put
  puts_found here (Some place) named put = put_found here place named put.0 put.1 put.2

  adds_found : Adds q v es fs → AreFound root v (ps ++ q ∷ []) fs
  adds_found (inl puts) = puts_found puts.0 (place_named q) refl puts.1
  adds_found (inr none) = same_found (λ p good same file. none.0 file) none.1

-- what is found of the first of the paths
pub record FindsFirst {Z : Type 0} (paths : List Elements) (count : ℕ) (v : View) (es : List (String Z × RefPlace)) : Type 0 where
  pub found : (root : Elements) → ArePaths root v paths → AreFound root v (take count paths) es

pub finds_none : {Z : Type 0} (v : View) (paths : List Elements) (es : List (String Z × RefPlace)) → es ≡ [] → FindsFirst paths 0 v es
finds_none v paths es none = record {
  found = λ root are. subst (AreFound root v []) (sym none) (record { keyed = tt; each = λ p. (λ has. absurd (in_none p has), λ is. absurd (in_none (place_path root p) is.2)) });
}

pub finds_next : {Z : Type 0} {v : View} (paths : List Elements) (i : ℕ) (q : Elements) (es fs : List (String Z × RefPlace)) → i < length paths → q ≡ get_or paths i q → FindsFirst paths i v es → Adds q v es fs → FindsFirst paths (i + 1) v fs
finds_next {v = v} paths i q es fs low is so_far adds = record {
  found = λ root are.
      let took : take (i + 1) paths ≡ take i paths ++ q ∷ [] = take_more paths i q low ∙ ap (λ (f : Elements). take i paths ++ f ∷ []) (sym is) in
      let level = (are.each q).0 (subst (Contains paths) (sym is) (Contains-get_or paths i q low)) in
      subst (λ (l : List Elements). AreFound root v l fs) (sym took) (adds_found root (take i paths) q es fs level (so_far.found root are) adds);
}

pub finds_all : {Z : Type 0} {v : View} (paths : List Elements) (i : ℕ) (es : List (String Z × RefPlace)) → take i paths ≡ paths → FindsFirst paths i v es → Finds paths v es
finds_all {v = v} paths i es whole first = record { found = λ root are. subst (λ (l : List Elements). AreFound root v l es) whole (first.found root are) }

-- ---- in the order of the texts

module _ {Z : Type 0} (root : Elements) where
  first_text : (e : String Z × RefPlace) (es : List (String Z × RefPlace)) → Keyed root e → AllByRecursion (Keyed root) es → AllByRecursion (λ y. string_cmp e.0 y ≡ Less) (keys_of es) → comes_first (path_text (place_path root e.1)) (texts_of root (values_of es)) ≡ true
  first_text e [] one all low = refl
  first_text e (f ∷ es) one all low =
      (λ i. is_lt (slice_cmp nat_cmp (sym one.is i) (sym (all.0.is) i))) ∙ ap is_lt low.0

  pub ascending : (es : List (String Z × RefPlace)) → AllByRecursion (Keyed root) es → IsStrictlySortedBy string_cmp (keys_of es) → is_ascending (texts_of root (values_of es)) ≡ true
  unfolding IsStrictlySortedBy
  ascending [] all sorted = refl
  ascending (e ∷ es) all sorted =
      and_from (comes_first (path_text (place_path root e.1)) (texts_of root (values_of es))) (is_ascending (texts_of root (values_of es))) (first_text e es all.0 all.1 sorted.0) (ascending es all.1 sorted.1)

pub lists : {Z : Type 0} {v : View} (root : Elements) (paths : List Elements) (es : List (String Z × RefPlace)) (places : List RefPlace)
    → IsTree v → ArePaths root v paths → Finds paths v es → places ≡ values_of es → IsStrictlySortedBy string_cmp (keys_of es) → ListsRefs root v places
lists {v = v} root paths es places tree are finds same sorted =
    let found = finds.found root are in
    subst (ListsRefs root v) (sym same) (record {
      each = λ p. (λ has. let is = (found.each p).0 has in (is.0, is.1), λ is. (found.each p).1 (is.0, is.1, (are.each (place_path root p)).1 (file_level tree root p is.1)));
      ascending = ascending root es found.keyed sorted;
    })

-- the paths below both folders
pub both_paths : {v : View} (root heads_at remotes_at : Elements) (ps qs all : List Elements) → heads_at ≡ heads root → remotes_at ≡ remotes root → all ≡ ps ++ qs → AreLevel 4 heads_at v ps → AreLevel 5 remotes_at v qs → ArePaths root v all
both_paths {v = v} root heads_at remotes_at ps qs all h r whole four five = subst (ArePaths root v) (sym whole) (record {
  each = λ q. (
    λ has. elim (Contains-append_cases ps qs q has) [
      | inl first ↦ inl (subst (λ (l : Elements). IsLevel 4 l v q) h ((four.each q).0 first))
      | inr second ↦ inr (subst (λ (l : Elements). IsLevel 5 l v q) r ((five.each q).0 second))
    ],
    λ either. elim either [
      | inl level ↦ Contains-append_left ps qs q ((four.each q).1 (subst (λ (l : Elements). IsLevel 4 l v q) (sym h) level))
      | inr level ↦ Contains-append_right ps qs q ((five.each q).1 (subst (λ (l : Elements). IsLevel 5 l v q) (sym r) level))
    ],
  );
})
