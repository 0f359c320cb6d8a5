-- Objects that are found unused.
use Rattle.std.proofs.Common.{◌≡◌, ◌⊎◌, inl, inr, ◌<◌, ◌+◌, ℕ, Bool, true, false, List, [], ◌∷◌, ◌++◌, map, take, drop, get_or, length, Option, Some, None, refl, sym, ◌∙◌, ap, subst, Contains, arith, append_assoc, append-nil}
use Rattle.std.specs.Prelude.{◌↔◌, is_some}
use Rattle.std.proofs.Math.Seq.{take-length}
use Rattle.std.proofs.lemmas.Bool.{both_ways}
use Rattle.std.proofs.lemmas.List.{map-append, drop_all, get_or-map, length-map}
use Rattle.std.proofs.lemmas.List.Elements.{Contains-append_left, Contains-push, Contains-push_cases}
use Rattle.fp_host.specs.Paths.{Elements, Slot, absent, dir, file, link, elements_of, path_text}
use Rattle.fp_host.specs.View.{View, IsTree}
use Rattle.fp_host.specs.Calls.{IsLeaf}
use Rattle.fp_host.specs.Outcome.{gone, folder, spot_of, shows}
use Rattle.fp_host.proofs.Settled.{at_tree}
use Rattle.fp_host.specs.Reads.{is_ascending}
use Rattle.fp_small.proofs.Ordered.{less_one}
use Rattle.fp_base.specs.declared.object.ObjKind.{ObjKind}
use Rattle.fp_base.specs.declared.object.ObjKind.TheVariants as kinds
use Rattle.fp_base.proofs.Lists.{in_none, take_read, drop_read}
use Rattle.ost_model.specs.Objects.{object_path, object_at, store}
use Rattle.ost_model.proofs.Stores.{one_name}
use Rattle.ost_store.specs.Names.{IsNamed, with_found, name_in, name_text}
use Rattle.ost_store.specs.Reads.{IsThere}
use Rattle.ost_prune.specs.Prune.{IsUnused}
use Rattle.ost_prune.specs.Texts.{AreUsedTexts, UnlessFaulty}
use Rattle.ost_prune.specs.Finding.{IsUnusedAt, PicksNames}

abbrev pub Object : Type 0
Object = List ℕ × ObjKind

-- ---- one name

module _ (root : Elements) (keep : List (List ℕ)) (path : Elements) (v : View) {has : List ℕ → Bool} (used : AreUsedTexts root keep v has) (back : elements_of (path_text path) ≡ path) where
  pub used_there : has (path_text path) ≡ true → IsUnusedAt root keep path v None
  used_there there o name is =
      let text : path_text path ≡ name_text root o = ap path_text name in
      is.unused (used.alone o is.digits (ap elements_of (sym text) ∙ back ∙ name) (ap has (sym text) ∙ there))

  pub none_named : IsNamed root path None → IsUnusedAt root keep path v None
  none_named none o name is = none o.0 o.1 is.digits name

  pub object_there : (o : Object) → IsNamed root path (Some o) → IsThere root o.0 o.1 v true → has (path_text path) ≡ false → IsUnusedAt root keep path v (Some o)
  object_there o named there off = (
    record {
      digits = named.0;
      there = sym there.is;
      unused = λ is. both_ways (has (path_text path)) off (ap has (ap path_text named.1) ∙ used.used o is);
    },
    named.1,
  )

  pub object_away : (o : Object) → IsNamed root path (Some o) → IsThere root o.0 o.1 v false → IsUnusedAt root keep path v None
  object_away o named away p name is =
      let same = one_name root p.0 o.0 p.1 o.1 is.digits named.0 (sym name ∙ named.1) in
      let object : p ≡ o = (λ i. (same.0 i, same.1 i)) in
      both_ways (is_some (store root (shows v) o.0 o.1)) (sym away.is) (sym (ap (λ (x : Object). is_some (store root (shows v) x.0 x.1)) object) ∙ is.there)

-- ---- name after name

-- what the list has after the first i names
pub record PicksSoFar (root : Elements) (keep : List (List ℕ)) (paths : List Elements) (i : ℕ) (v : View) (found found' : List Object) : Type 0 where
  pub each : (o : Object) → Contains found' o ↔ (Contains found o ⊎ (IsUnused root keep v o × Contains (take i paths) (name_in root o)))
  pub ascending : is_ascending (map (name_text root) found ++ map path_text paths) ≡ true → is_ascending (map (name_text root) found' ++ map path_text (drop i paths)) ≡ true

pub none_picked : (root : Elements) (keep : List (List ℕ)) (paths : List Elements) (v : View) (found : List Object) → PicksSoFar root keep paths 0 v found found
none_picked root keep paths v found = record {
  each = λ o. (λ has. inl has, λ either. elim either [ inl has ↦ has | inr both ↦ absurd (in_none (name_in root o) both.1) ]);
  ascending = λ h. h;
}

module _ (root : Elements) (keep : List (List ℕ)) (paths : List Elements) (i : ℕ) (path : Elements) (v : View) (found found' : List Object) (low : i < length paths) (is : path ≡ get_or paths i path) (before : PicksSoFar root keep paths i v found found') where
  taken : take (i + 1) paths ≡ take i paths ++ path ∷ []
  taken = take_read paths i path low is

  dropped : drop i paths ≡ path ∷ drop (i + 1) paths
  dropped = drop_read paths i path low is

  -- what was known of the names before
  more_known : (o : Object) → Contains found o ⊎ (IsUnused root keep v o × Contains (take i paths) (name_in root o)) → Contains found o ⊎ (IsUnused root keep v o × Contains (take (i + 1) paths) (name_in root o))
  more_known o (inl has) = inl has
  more_known o (inr both) = inr (both.0, subst (λ (l : List Elements). Contains l (name_in root o)) (sym taken) (Contains-append_left (take i paths) (path ∷ []) (name_in root o) both.1))

  -- and of this one
  less_known : (o : Object) → Contains found o ⊎ (IsUnused root keep v o × Contains (take (i + 1) paths) (name_in root o)) → Contains found' o ⊎ (IsUnused root keep v o × (path ≡ name_in root o))
  less_known o (inl has) = inl ((before.each o).1 (inl has))
  less_known o (inr both) = elim (Contains-push_cases (take i paths) path (name_in root o) (subst (λ (l : List Elements). Contains l (name_in root o)) taken both.1)) [
    | inl earlier ↦ inl ((before.each o).1 (inr (both.0, earlier)))
    | inr same ↦ inr (both.0, same)
  ]

  pub not_picked : IsUnusedAt root keep path v None → PicksSoFar root keep paths (i + 1) v found found'
  not_picked none = record {
    each = λ o. (
      λ has. more_known o ((before.each o).0 has),
      λ either. elim (less_known o either) [ inl has ↦ has | inr here ↦ absurd (none o here.1 here.0) ],
    );
    ascending = λ h. less_one (map (name_text root) found') (path_text path) (map path_text (drop (i + 1) paths)) (subst (λ (l : List Elements). is_ascending (map (name_text root) found' ++ map path_text l) ≡ true) dropped (before.ascending h));
  }

  module _ (o : Object) (unused : IsUnusedAt root keep path v (Some o)) {found'' : List Object} (pushed : found'' ≡ found' ++ o ∷ []) where
    picked_list : PicksSoFar root keep paths (i + 1) v found (found' ++ o ∷ [])
    picked_list = record {
      each = λ p. (
        λ has. elim (Contains-push_cases found' o p has) [
          | inl earlier ↦ more_known p ((before.each p).0 earlier)
          | inr same ↦ inr (subst (λ (x : Object). IsUnused root keep v x × Contains (take (i + 1) paths) (name_in root x)) same
              (unused.0, subst (λ (l : List Elements). Contains l (name_in root o)) (sym taken) (subst (Contains (take i paths ++ path ∷ [])) unused.1 (Contains-push (take i paths) path))))
        ],
        λ either. elim (less_known p either) [
          | inl earlier ↦ Contains-append_left found' (o ∷ []) p earlier
          | inr here ↦
              let one = one_name root o.0 p.0 o.1 p.1 unused.0.digits here.0.digits (sym unused.1 ∙ here.1) in
              let object : o ≡ p = (λ j. (one.0 j, one.1 j)) in
              subst (Contains (found' ++ o ∷ [])) object (Contains-push found' o)
        ],
      );
      ascending = λ h.
          let text : path_text path ≡ name_text root o = ap path_text unused.1 in
          let all : map (name_text root) found' ++ map path_text (drop i paths) ≡ map (name_text root) (found' ++ o ∷ []) ++ map path_text (drop (i + 1) paths) =
          ap (λ (l : List Elements). map (name_text root) found' ++ map path_text l) dropped
          ∙ ap (λ (t : List ℕ). map (name_text root) found' ++ (t ∷ map path_text (drop (i + 1) paths))) text
          ∙ sym (append_assoc (map (name_text root) found') (name_text root o ∷ []) (map path_text (drop (i + 1) paths)))
          ∙ ap (λ (l : List (List ℕ)). l ++ map path_text (drop (i + 1) paths)) (sym (map-append (name_text root) found' (o ∷ []))) in
          subst (λ (l : List (List ℕ)). is_ascending l ≡ true) all (before.ascending h);
    }

    pub picked_one : PicksSoFar root keep paths (i + 1) v found found''
    picked_one = subst (PicksSoFar root keep paths (i + 1) v found) (sym pushed) picked_list

next_picked : (root : Elements) (keep : List (List ℕ)) (paths : List Elements) (i : ℕ) (path : Elements) (v : View) (found found' : List Object) → i < length paths → path ≡ get_or paths i path → PicksSoFar root keep paths i v found found'
    → (o : Option Object) {found'' : List Object} → found'' ≡ with_found found' o → IsUnusedAt root keep path v o → PicksSoFar root keep paths (i + 1) v found found''
next_picked root keep paths i path v found found' low is before None pushed none = subst (PicksSoFar root keep paths (i + 1) v found) (sym pushed) (not_picked root keep paths i path v found found' low is before none)
next_picked root keep paths i path v found found' low is before (Some o) pushed unused = picked_one root keep paths i path v found found' low is before o unused pushed

-- one name more in a folder
pub next_name : (root : Elements) (keep : List (List ℕ)) (up : Elements) (names : List (List ℕ)) (i : ℕ) (x : List ℕ) (v : View) (found found' : List Object) → i < length names → x ≡ get_or names i x
    → PicksSoFar root keep (map (λ y. y ∷ up) names) i v found found' → (o : Option Object) {found'' : List Object} → found'' ≡ with_found found' o → IsUnusedAt root keep (x ∷ up) v o
    → PicksSoFar root keep (map (λ y. y ∷ up) names) (i + 1) v found found''
next_name root keep up names i x v found found' low is before o pushed unused =
    next_picked root keep (map (λ y. y ∷ up) names) i (x ∷ up) v found found' (omega (arith, low, length-map names (λ (y : List ℕ). y ∷ up)))
    (ap (λ (y : List ℕ). y ∷ up) is ∙ sym (get_or-map (λ (y : List ℕ). y ∷ up) names i x (x ∷ up) low)) before o pushed unused

pub all_picked : (root : Elements) (keep : List (List ℕ)) (up : Elements) (names : List (List ℕ)) (i : ℕ) (v : View) (found found' : List Object) → length names ≡ i
    → PicksSoFar root keep (map (λ y. y ∷ up) names) i v found found' → PicksNames root keep (map (λ y. y ∷ up) names) v found found'
all_picked root keep up names i v found found' is so_far =
    let paths = map (λ (y : List ℕ). y ∷ up) names in
    let long : length paths ≡ i = length-map names (λ (y : List ℕ). y ∷ up) ∙ is in
    record {
      each = λ o. subst (λ (l : List Elements). Contains found' o ↔ (Contains found o ⊎ (IsUnused root keep v o × Contains l (name_in root o)))) (ap (λ (k : ℕ). take k paths) (sym long) ∙ take-length paths) (so_far.each o);
      ascending = λ h. subst (λ (l : List (List ℕ)). is_ascending l ≡ true) (ap (λ (l : List Elements). map (name_text root) found' ++ map path_text l) (drop_all i paths (omega (arith, long))) ∙ append-nil (map (name_text root) found')) (so_far.ascending h);
    }

-- ---- what is there

pub none_gone : (kind : ObjKind) → is_some (object_at kind gone) ≡ false
none_gone kinds.Commit = refl
none_gone kinds.DirTree = refl
none_gone kinds.DirMeta = refl
none_gone kinds.File = refl

none_folder : (kind : ObjKind) → is_some (object_at kind folder) ≡ false
none_folder kinds.Commit = refl
none_folder kinds.DirTree = refl
none_folder kinds.DirMeta = refl
none_folder kinds.File = refl

leaf_of : (v : View) (kind : ObjKind) (e : Slot) → is_some (object_at kind (spot_of v.files e)) ≡ true → IsLeaf e
leaf_of v kind absent there = both_ways (is_some (object_at kind gone)) (none_gone kind) there
leaf_of v kind dir there = both_ways (is_some (object_at kind folder)) (none_folder kind) there
leaf_of v kind (file id) there = tt
leaf_of v kind (link text) there = tt

-- where an object is there, a file or link has its name
pub object_leaf : (root : Elements) (d : List ℕ) (kind : ObjKind) (v : View) → IsTree v → is_some (store root (shows v) d kind) ≡ true → IsLeaf (v.names (object_path root d kind))
object_leaf root d kind v tree there = leaf_of v kind (v.names (object_path root d kind)) (ap (λ (e : Slot). is_some (object_at kind (spot_of v.files e))) (sym (at_tree v tree (object_path root d kind))) ∙ there)

-- ---- over the moments

-- what was found, where something was
pub of_found : {A : Type 0} {found : Option A} {a : A} → found ≡ Some a → (root : Elements) (keep : List (List ℕ)) (v : View) (Is : A → Type 0) → UnlessFaulty root keep v Is found → Is a
of_found {A = A} same root keep v Is told = subst (λ (o : Option A). UnlessFaulty root keep v Is o) same told
