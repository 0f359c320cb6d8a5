-- Objects by the texts of their paths.
use Rattle.std.proofs.Common.{◌≡◌, ◌⊎◌, inl, inr, ◌<◌, ◌+◌, ℕ, suc, true, List, [], ◌∷◌, ◌++◌, map, take, drop, get_or, length, Option, Some, None, refl, sym, ◌∙◌, ap, subst, Contains, arith}
use Rattle.std.specs.Option.{option_or}
use Rattle.std.specs.Prelude.{String, string_bytes, ◌↔◌}
use Rattle.std.specs.declared.cmp.Ordering.{Ordering}
use Rattle.std.specs.declared.cmp.Ordering.TheVariants.{Less, Equal, Greater}
use Rattle.std.specs.Ordering.{is_lt, nat_cmp, match_ordering}
use Rattle.std.specs.Cmp.Lexicographic.{slice_cmp}
use Rattle.std.specs.List.{AllByRecursion}
use Rattle.std.specs.List.Sorted.{IsStrictlySortedBy}
use Rattle.std.specs.String.{string_cmp}
use Rattle.std.specs.BTreeMap.{insert_entry}
use Rattle.std.specs.Map.{keys_of, values_of}
use Rattle.std.proofs.Math.Seq.{take-suc, take-length, drop-cons}
use Rattle.std.proofs.lemmas.Bool.{and_from}
use Rattle.std.proofs.lemmas.List.{take-append-drop}
use Rattle.std.proofs.lemmas.List.Elements.{Contains-append_left, Contains-push, Contains-push_cases}
use Rattle.fp_host.specs.Paths.{elements_of}
use Rattle.fp_host.specs.Reads.{comes_first, is_ascending}
use Rattle.fp_base.specs.declared.object.ObjKind.{ObjKind}
use Rattle.fp_base.proofs.Lists.{in_none, in_first, in_rest, in_cases}
use Rattle.fp_base.proofs.Texts.{equal_texts}
use Rattle.ost_model.specs.Objects.{Have}
use Rattle.ost_model.specs.Order.{Place, In, order, first_walk_fault}
use Rattle.ost_model.specs.Used.{object_text, used_fault}
use Rattle.ost_model.proofs.Stores.{one_name}
use Rattle.ost_walk.specs.declared.ends.WalkEnd.{WalkEnd}
use Rattle.ost_walk.specs.declared.ends.WalkEnd.TheVariants as ends
use Rattle.ost_walk.specs.Ends.{RefusesBy, IsFirst}
use Rattle.ost_walk.specs.Steps.{place_name}
use Rattle.ost_walk.specs.UsedList.{IsKeyOf, AreKeyed, Puts, PutsAll, PutsOrder, AreUsed, IsUsedList}

abbrev Object : Type 0
Object = List ℕ × ObjKind

abbrev pub Keyed : {Z : Type 0} → String Z × Object → Type 0
Keyed e = IsKeyOf (string_bytes e.0) e.1

-- equal texts are those of one object
one_object : {Z : Type 0} (a b : String Z) (x y : Object) → IsKeyOf (string_bytes a) x → IsKeyOf (string_bytes b) y → string_cmp a b ≡ Equal → x ≡ y
one_object a b x y kx ky h =
    let same = one_name [] x.0 y.0 x.1 y.1 kx.good ky.good (sym kx.back ∙ ap elements_of (equal_texts a b h) ∙ ky.back) in
    (λ i. (same.0 i, same.1 i))

module _ {Z : Type 0} (key : String Z) (object : Object) (known : IsKeyOf (string_bytes key) object) where
  keyed_by : (e : String Z × Object) (es : List (String Z × Object)) (o : Ordering) → string_cmp key e.0 ≡ o → Keyed e → AreKeyed es → AreKeyed (insert_entry string_cmp es key object)
      → AreKeyed (match_ordering o ((key, object) ∷ e ∷ es) ((e.0, object) ∷ es) (e ∷ insert_entry string_cmp es key object))
  keyed_by e es Less h one rest more = (known, (one, rest))
  keyed_by e es Equal h one rest more = (subst (IsKeyOf (string_bytes e.0)) (sym (one_object key e.0 object e.1 known one h)) one, rest)
  keyed_by e es Greater h one rest more = (one, more)

  keyed_inserted : (es : List (String Z × Object)) → AreKeyed es → AreKeyed (insert_entry string_cmp es key object)
  keyed_inserted [] all = (known, tt)
  keyed_inserted (e ∷ es) all = keyed_by e es (string_cmp key e.0) refl all.0 all.1 (keyed_inserted es all.1)

  -- the values are those of before and the new one
  abbrev HasBoth : List (String Z × Object) → List (String Z × Object) → Type 0
  HasBoth es fs = (p : Object) → Contains (values_of fs) p ↔ ((p ≡ object) ⊎ Contains (values_of es) p)

  values_by : (e : String Z × Object) (es : List (String Z × Object)) (o : Ordering) → string_cmp key e.0 ≡ o → Keyed e → HasBoth es (insert_entry string_cmp es key object)
      → HasBoth (e ∷ es) (match_ordering o ((key, object) ∷ e ∷ es) ((e.0, object) ∷ es) (e ∷ insert_entry string_cmp es key object))
  values_by e es Less h one more p = (λ has. in_cases object (e.1 ∷ values_of es) p has, λ either. elim either [ inl is ↦ subst (λ (x : Object). Contains (x ∷ e.1 ∷ values_of es) p) is (in_first p (e.1 ∷ values_of es)) | inr had ↦ in_rest object (e.1 ∷ values_of es) p had ])
  values_by e es Equal h one more p =
      let same : object ≡ e.1 = one_object key e.0 object e.1 known one h in (
        λ has. elim (in_cases object (values_of es) p has) [ inl is ↦ inl is | inr had ↦ inr (in_rest e.1 (values_of es) p had) ],
        λ either. elim either [
          | inl is ↦ subst (λ (x : Object). Contains (x ∷ values_of es) p) is (in_first p (values_of es))
          | inr had ↦ subst (λ (x : Object). Contains (x ∷ values_of es) p) (sym same) had
        ],
      )
  values_by e es Greater h one more p = (
    λ has. elim (in_cases e.1 (values_of (insert_entry string_cmp es key object)) p has) [
      | inl is ↦ inr (subst (λ (x : Object). Contains (x ∷ values_of es) p) is (in_first p (values_of es)))
      | inr later ↦ elim ((more p).0 later) [ inl is ↦ inl is | inr had ↦ inr (in_rest e.1 (values_of es) p had) ]
    ],
    λ either. elim either [
      | inl is ↦ in_rest e.1 (values_of (insert_entry string_cmp es key object)) p ((more p).1 (inl is))
      | inr had ↦ elim (in_cases e.1 (values_of es) p had) [
        | inl is ↦ subst (λ (x : Object). Contains (x ∷ values_of (insert_entry string_cmp es key object)) p) is (in_first p (values_of (insert_entry string_cmp es key object)))
        | inr later ↦ in_rest e.1 (values_of (insert_entry string_cmp es key object)) p ((more p).1 (inr later))
      ]
    ],
  )

  values_inserted : (es : List (String Z × Object)) → AreKeyed es → HasBoth es (insert_entry string_cmp es key object)
  values_inserted [] all p = (λ has. elim (in_cases object [] p has) [ inl is ↦ inl is | inr none ↦ inr none ], λ either. elim either [ inl is ↦ subst (λ (x : Object). Contains (x ∷ []) p) is (in_first p []) | inr none ↦ absurd (in_none p none) ])
  values_inserted (e ∷ es) all p = values_by e es (string_cmp key e.0) refl all.0 (values_inserted es all.1) p

-- ---- objects put one by one

pub one_put : {Z : Type 0} (objects : List Object) (o : Object) (es fs gs : List (String Z × Object)) → PutsAll objects es fs → Puts o fs gs → PutsAll (objects ++ o ∷ []) es gs
one_put objects o es fs gs all one = record {
  keyed = λ k. subst AreKeyed (sym one.put) (keyed_inserted one.key o one.text fs (all.keyed k));
  each = λ k q.
      let values = values_inserted one.key o one.text fs (all.keyed k) q in
      let before = all.each k q in (
        λ has. elim (values.0 (subst (λ (l : List (String _ × Object)). Contains (values_of l) q) one.put has)) [
          | inl is ↦ inl (subst (Contains (objects ++ o ∷ [])) (sym is) (Contains-push objects o))
          | inr had ↦ elim (before.0 had) [ inl here ↦ inl (Contains-append_left objects (o ∷ []) q here) | inr earlier ↦ inr earlier ]
        ],
        λ either. subst (λ (l : List (String _ × Object)). Contains (values_of l) q) (sym one.put) (values.1 (elim either [
          | inl new ↦ elim (Contains-push_cases objects o q new) [ inl here ↦ inr (before.1 (inl here)) | inr same ↦ inl (sym same) ]
          | inr earlier ↦ inr (before.1 (inr earlier))
        ])),
      );
}

pub none_put : {Z : Type 0} (es : List (String Z × Object)) → PutsAll [] es es
none_put es = record { keyed = λ k. k; each = λ k q. (λ has. inr has, λ either. elim either [ inl none ↦ absurd (in_none q none) | inr had ↦ had ]) }

-- ---- commit after commit

pub in_places : (ps : List Place) (o : Object) → Contains (map place_name ps) o → (p : Place) × In ps p × (o ≡ place_name p)
in_places [] o has = absurd (in_none o has)
in_places (p ∷ ps) o has = elim (in_cases (place_name p) (map place_name ps) o has) [
  | inl is ↦ (p, inl refl, is)
  | inr later ↦ let q = in_places ps o later in (q.0, inr q.1, q.2)
]

pub from_places : (ps : List Place) (p : Place) → In ps p → Contains (map place_name ps) (place_name p)
from_places [] p is = absurd is
from_places (q ∷ ps) p (inl same) = subst (λ (r : Place). Contains (place_name q ∷ map place_name ps) (place_name r)) same (in_first (place_name q) (map place_name ps))
from_places (q ∷ ps) p (inr later) = in_rest (place_name q) (map place_name ps) (place_name p) (from_places ps p later)

or_twice : {A : Type 0} (f g h : Option A) → option_or f (option_or g h) ≡ option_or (option_or f g) h
or_twice None g h = refl
or_twice (Some a) g h = refl

pub used_append : (have : Have) (xs ys : List (List ℕ)) → used_fault have (xs ++ ys) ≡ option_or (used_fault have xs) (used_fault have ys)
used_append have [] ys = refl
used_append have (x ∷ xs) ys = ap (option_or (first_walk_fault have x)) (used_append have xs ys) ∙ or_twice (first_walk_fault have x) (used_fault have xs) (used_fault have ys)

pub none_used : {Z : Type 0} (have : Have) (es : List (String Z × Object)) → es ≡ [] → AreUsed have [] es
none_used have es none = subst (AreUsed have []) (sym none) (record { keyed = tt; each = λ o. (λ has. absurd (in_none o has), λ is. absurd (in_none is.commit is.kept)); clean = refl })

pub one_used : {Z : Type 0} (have : Have) (commits : List (List ℕ)) (commit : List ℕ) (es fs : List (String Z × Object)) → AreUsed have commits es → PutsOrder have commit es fs → AreUsed have (commits ++ commit ∷ []) fs
one_used have commits commit es fs so_far puts = record {
  keyed = puts.all.keyed so_far.keyed;
  each = λ o.
      let now = puts.all.each so_far.keyed o in (
        λ has. elim (now.0 has) [
          | inl new ↦
              let p = in_places (order have commit) o (subst (λ (l : List Object). Contains l o) puts.order.names new) in
              record { commit = commit; place = p.0; kept = Contains-push commits commit; within = p.1; is = p.2 }
          | inr had ↦
              let u = (so_far.each o).0 had in
              record { commit = u.commit; place = u.place; kept = Contains-append_left commits (commit ∷ []) u.commit u.kept; within = u.within; is = u.is }
        ],
        λ u. now.1 (elim (Contains-push_cases commits commit u.commit u.kept) [
          | inl earlier ↦ inr ((so_far.each o).1 (record { commit = u.commit; place = u.place; kept = earlier; within = u.within; is = u.is }))
          | inr same ↦ inl (subst (λ (l : List Object). Contains l o) (sym puts.order.names) (subst (Contains (map place_name (order have commit))) (sym u.is)
              (from_places (order have commit) u.place (subst (λ (c : List ℕ). In (order have c) u.place) (sym same) u.within))))
        ]),
      );
  clean = used_append have commits (commit ∷ []) ∙ ap (λ f. option_or f (used_fault have (commit ∷ []))) so_far.clean ∙ ap (λ f. option_or f None) puts.order.good;
}

-- the first fault of a commit after others that have none
pub used_refused : {Z : Type 0} (have : Have) (before more : List (List ℕ)) (commit : List ℕ) (es : List (String Z × Object)) (end : WalkEnd) → AreUsed have before es → RefusesBy (IsFirst (first_walk_fault have commit)) end
    → RefusesBy (IsFirst (used_fault have (before ++ commit ∷ more))) end
used_refused have before more commit es (ends.Refused w) so_far is = record {
  depth = is.depth;
  is = used_append have before (commit ∷ more) ∙ ap (λ f. option_or f (used_fault have (commit ∷ more))) so_far.clean ∙ ap (λ f. option_or f (used_fault have more)) is.is;
}
used_refused have before more commit es ends.HostFault so_far is = tt
used_refused have before more commit es ends.RemoteFault so_far is = tt
used_refused have before more commit es ends.NoMemory so_far is = tt

-- ---- in the order of the texts

first_text : {Z : Type 0} (e : String Z × Object) (es : List (String Z × Object)) → Keyed e → AreKeyed es → AllByRecursion (λ y. string_cmp e.0 y ≡ Less) (keys_of es) → comes_first (object_text e.1) (map object_text (values_of es)) ≡ true
first_text e [] one all low = refl
first_text e (f ∷ es) one all low = (λ i. is_lt (slice_cmp nat_cmp (sym one.is i) (sym (all.0.is) i))) ∙ ap is_lt low.0

ascending : {Z : Type 0} (es : List (String Z × Object)) → AreKeyed es → IsStrictlySortedBy string_cmp (keys_of es) → is_ascending (map object_text (values_of es)) ≡ true
unfolding IsStrictlySortedBy
ascending [] all sorted = refl
ascending (e ∷ es) all sorted =
    and_from (comes_first (object_text e.1) (map object_text (values_of es))) (is_ascending (map object_text (values_of es))) (first_text e es all.0 all.1 sorted.0) (ascending es all.1 sorted.1)

pub used_list : {Z : Type 0} (have : Have) (commits : List (List ℕ)) (es : List (String Z × Object)) (objects : List Object) → AreUsed have commits es → objects ≡ values_of es → IsStrictlySortedBy string_cmp (keys_of es) → IsUsedList have commits objects
used_list have commits es objects used same sorted = subst (IsUsedList have commits) (sym same) (record {
  lists = record { each = used.each; ascending = ascending es used.keyed sorted };
  clean = used.clean;
})

-- ---- over a list of commits

pub split_at : (commits : List (List ℕ)) (i : ℕ) (commit : List ℕ) → i < length commits → commit ≡ get_or commits i commit → commits ≡ take i commits ++ commit ∷ drop (suc i) commits
split_at commits i commit low is = sym (take-append-drop i commits) ∙ ap (λ l. take i commits ++ l) (drop-cons commits i commit low ∙ ap (λ (c : List ℕ). c ∷ drop (suc i) commits) (sym is))

pub next_used : {Z : Type 0} (have : Have) (commits : List (List ℕ)) (i : ℕ) (commit : List ℕ) (es fs : List (String Z × Object)) → i < length commits → commit ≡ get_or commits i commit
    → AreUsed have (take i commits) es → PutsOrder have commit es fs → AreUsed have (take (i + 1) commits) fs
next_used have commits i commit es fs low is so_far puts =
    let more : i + 1 ≡ suc i = omega arith in
    subst (λ (l : List (List ℕ)). AreUsed have l fs) (sym (ap (λ (k : ℕ). take k commits) more ∙ take-suc commits i commit low ∙ ap (λ (c : List ℕ). take i commits ++ c ∷ []) (sym is))) (one_used have (take i commits) commit es fs so_far puts)

pub next_refused : {Z : Type 0} (have : Have) (commits : List (List ℕ)) (i : ℕ) (commit : List ℕ) (es : List (String Z × Object)) (end : WalkEnd) → i < length commits → commit ≡ get_or commits i commit
    → AreUsed have (take i commits) es → RefusesBy (IsFirst (first_walk_fault have commit)) end → RefusesBy (IsFirst (used_fault have commits)) end
next_refused have commits i commit es end low is so_far refused =
    subst (λ (l : List (List ℕ)). RefusesBy (IsFirst (used_fault have l)) end) (sym (split_at commits i commit low is)) (used_refused have (take i commits) (drop (suc i) commits) commit es end so_far refused)

pub all_used : {Z : Type 0} (have : Have) (commits : List (List ℕ)) (i : ℕ) (es : List (String Z × Object)) → length commits ≡ i → AreUsed have (take i commits) es → AreUsed have commits es
all_used have commits i es is so_far = subst (λ (l : List (List ℕ)). AreUsed have l es) (ap (λ (k : ℕ). take k commits) (sym is) ∙ take-length commits) so_far

pub next_put : {Z : Type 0} (objects : List Object) (i : ℕ) (o : Object) (es fs gs : List (String Z × Object)) → i < length objects → o ≡ get_or objects i o
    → PutsAll (take i objects) es fs → Puts o fs gs → PutsAll (take (i + 1) objects) es gs
next_put objects i o es fs gs low is so_far puts =
    let more : i + 1 ≡ suc i = omega arith in
    subst (λ (l : List Object). PutsAll l es gs) (sym (ap (λ (k : ℕ). take k objects) more ∙ take-suc objects i o low ∙ ap (λ (x : Object). take i objects ++ x ∷ []) (sym is))) (one_put (take i objects) o es fs gs so_far puts)
