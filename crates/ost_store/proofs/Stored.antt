-- Stores whose names stay true.
use Rattle.std.proofs.Common.{◌≡◌, ◌⊎◌, inl, inr, ℕ, List, [], ◌∷◌, ◌++◌, length, true, Option, refl, sym, ◌∙◌, ap, subst, codes, take, drop, arith, length-append}
use Rattle.fp_name.specs.Hex.{is_digest, hex}
use Rattle.fp_host.specs.Paths.{Elements, Slot, absent, dir, file, link, at, IsAbove}
use Rattle.fp_host.specs.View.{View, Inode}
use Rattle.fp_host.specs.Calls.{IsLeaf, IsDirty}
use Rattle.fp_host.specs.Outcome.{Spot, Disk, Leaves, Nothing, gone, MayHold, Gives, spot_of, holding}
use Rattle.fp_host.specs.Frame.{Keeps, NoPath, Only, NoName}
use Rattle.fp_host.proofs.Separate.{at_cases}
use Rattle.fp_host.proofs.Above.{above_on, above_longer}
use Rattle.fp_small.proofs.Replacement.{ancestors_above}
use Rattle.fp_base.specs.declared.object.ObjKind.{ObjKind}
use Rattle.ost_model.specs.declared.object.Object.{Object}
use Rattle.ost_model.specs.Objects.{object_path, Named}
use Rattle.fp_base.specs.Objects.{kind_text}
use Rattle.ost_model.specs.Stores.{objects_folder, is_prefix, MayBePrefix, MayBeObject}
use Rattle.ost_model.proofs.Stores.{store_goes_on, store_same}
use Rattle.ost_model.proofs.Spots.{not_gone}
use Rattle.fp_small.specs.Clear.{GoneAt, AbsentAt}
use Rattle.ost_store.specs.Stage.{Stages}
use Rattle.ost_store.specs.Place.{PlacesAt, Places, IsReadyAs, LeavesObject, LeavesStore}
use Rattle.ost_store.proofs.Elements.{prefix_is_one}

module _ {u : View} (d : List ℕ) (kind : ObjKind) (t : Elements) (ready : IsReadyAs d kind t u) where
  stands : at u.names t ≡ u.names t
  stands = elim (at_cases u.names t) [ inl same ↦ same | inr none ↦ absurd (not_gone d kind (subst (λ (e : Slot). Named d kind (spot_of u.files e)) none ready.named)) ]

  by_slot : (e : Slot) (files : ℕ → Option Inode) → ((id : ℕ) → MayHold u id (files id)) → IsLeaf e → (IsDirty u e → ⊥) → Named d kind (spot_of u.files e) → Named d kind (spot_of files e)
  by_slot absent files rows leaf clean named = absurd leaf
  by_slot dir files rows leaf clean named = absurd leaf
  by_slot (link text) files rows leaf clean named = named
  by_slot (file id) files rows leaf clean named = elim (rows id) [
    | inl is ↦ subst (λ (o : Option Inode). Named d kind (holding id o)) (sym is) named
    | inr any ↦ absurd (clean any.0)
  ]

  -- what it may give is the object
  named_given : (p q : Elements) (spot : Spot) → Gives u p (u.names t) q spot → Named d kind spot
  named_given p q spot g = subst (Named d kind) (sym g.1.2) (by_slot (u.names t) g.1.0 g.1.1 ready.leaf ready.clean (subst (λ (e : Slot). Named d kind (spot_of u.files e)) stands ready.named))

-- ---- an object that is placed

pub placed_name : (root t : Elements) (d : List ℕ) (kind : ObjKind) (u w : View) → Places t (object_path root d kind) u w → IsReadyAs d kind t u → LeavesObject root d kind u → LeavesObject root d kind w
placed_name root t d kind u w places ready before = record {
  each = λ disk left.
      let b = places.keeps.follows.from disk left in
      let p = object_path root d kind in
      elim (b.2 p) [
        | inl same ↦ subst (λ (s : Spot). (s ≡ gone) ⊎ Named d kind s) (sym same) (before.each b.0 b.1)
        | inr given ↦ elim given [
          | inl g ↦ inr (named_given d kind t ready p p (disk p) g)
          | inr other ↦ elim other [
            | inl left ↦ inl left.1
            | inr made ↦ absurd (omega (arith, above_longer p p (ancestors_above p p made.0)))
          ]
        ]
      ];
}

-- the one name of two elements below a folder that is above the object's own
above_at : (x y : List ℕ) (xx : List ℕ) (up : Elements) → IsAbove (xx ∷ up) (x ∷ y ∷ up) → xx ≡ y
above_at x y xx up (inl is) = cc is
above_at x y xx up (inr (inl is)) = absurd (omega (arith, ap length is))
above_at x y xx up (inr (inr higher)) = absurd (omega (arith, above_longer (xx ∷ up) up higher))

module _ (root : Elements) (d : List ℕ) (kind : ObjKind) (good : is_digest d ≡ true) (t : Elements) (u : View) (ready : IsReadyAs d kind t u) where
  given_prefix : (xx : List ℕ) (spot : Spot) → PlacesAt t (object_path root d kind) u (xx ∷ objects_folder root) spot → MayBePrefix xx spot
  given_prefix xx spot (inl g) = absurd (omega (arith, ap length g.0))
  given_prefix xx spot (inr (inl left)) = inl left.1
  given_prefix xx spot (inr (inr made)) =
      let one : xx ≡ take 2 (hex d) = above_at (drop 2 (hex d) ++ (codes "." ++ kind_text kind)) (take 2 (hex d)) xx (objects_folder root) (ancestors_above (object_path root d kind) (xx ∷ objects_folder root) made.0) in
      inr (made.1, ap is_prefix one ∙ prefix_is_one d good)

  given_object : (rest : Elements) (name xx : List ℕ) (spot : Spot) → PlacesAt t (object_path root d kind) u (rest ++ (name ∷ (xx ∷ objects_folder root))) spot → MayBeObject root (rest ++ (name ∷ (xx ∷ objects_folder root))) spot
  given_object rest name xx spot (inl g) = inr (record { digest = d; kind = kind; digits = good; name = g.0; named = named_given d kind t ready (object_path root d kind) _ spot g })
  given_object rest name xx spot (inr (inl left)) = inl left.1
  given_object rest name xx spot (inr (inr made)) =
      let q = rest ++ (name ∷ (xx ∷ objects_folder root)) in
      absurd (omega (arith, above_longer q (object_path root d kind) (ancestors_above (object_path root d kind) q made.0), length-append rest (name ∷ (xx ∷ objects_folder root))))

pub placed_store : (root t : Elements) (d : List ℕ) (kind : ObjKind) (u w : View) → is_digest d ≡ true → Places t (object_path root d kind) u w → IsReadyAs d kind t u → LeavesStore root u → LeavesStore root w
placed_store root t d kind u w good places ready before = record {
  each = λ disk left.
      let b = places.keeps.follows.from disk left in
      store_goes_on root b.0 disk (record {
        prefixes = λ xx. elim (b.2 (xx ∷ objects_folder root)) [ inl same ↦ inl same | inr given ↦ inr (given_prefix root d kind good t u ready xx _ given) ];
        objects = λ rest name xx. elim (b.2 (rest ++ (name ∷ (xx ∷ objects_folder root)))) [ inl same ↦ inl same | inr given ↦ inr (given_object root d kind good t u ready rest name xx _ given) ];
      }) (before.each b.0 b.1);
}

-- ---- a name that is taken away

pub left_name : (root p : Elements) (d : List ℕ) (kind : ObjKind) (u w : View) → Keeps (GoneAt p) (AbsentAt p) NoPath u w → LeavesObject root d kind u → LeavesObject root d kind w
left_name root p d kind u w keeps before = record {
  each = λ disk left.
      let b = keeps.follows.from disk left in
      elim (b.2 (object_path root d kind)) [
        | inl same ↦ subst (λ (s : Spot). (s ≡ gone) ⊎ Named d kind s) (sym same) (before.each b.0 b.1)
        | inr gone_there ↦ inl gone_there.1
      ];
}

pub left_store : (root p : Elements) (u w : View) → Keeps (GoneAt p) (AbsentAt p) NoPath u w → LeavesStore root u → LeavesStore root w
left_store root p u w keeps before = record {
  each = λ disk left.
      let b = keeps.follows.from disk left in
      store_goes_on root b.0 disk (record {
        prefixes = λ xx. elim (b.2 (xx ∷ objects_folder root)) [ inl same ↦ inl same | inr given ↦ inr (inl given.1) ];
        objects = λ rest name xx. elim (b.2 (rest ++ (name ∷ (xx ∷ objects_folder root)))) [ inl same ↦ inl same | inr given ↦ inr (inl given.1) ];
      }) (before.each b.0 b.1);
}

-- ---- an object that is staged

ends_below : (rest : Elements) (xx : List ℕ) (up : Elements) → IsAbove up (rest ++ (xx ∷ up))
ends_below [] xx up = inl refl
ends_below (x ∷ rest) xx up = inr (ends_below rest xx up)

module _ (root t : Elements) (object : Object) {u w : View} (stages : Stages t object u w) (off : IsAbove (objects_folder root) t → ⊥) where
  same_below : (disk : Disk) (left : Leaves w disk) (q : Elements) → IsAbove (objects_folder root) q → disk q ≡ (stages.keeps.follows.from disk left).0 q
  same_below disk left q below = elim ((stages.keeps.follows.from disk left).2 q) [
    | inl same ↦ same
    | inr given ↦ elim given [
      | inl g ↦ absurd (off (subst (IsAbove (objects_folder root)) g.0 below))
      | inr made ↦ absurd (off (above_on (objects_folder root) q t below (ancestors_above t q made.0)))
    ]
  ]

  pub staged_name : (d : List ℕ) (kind : ObjKind) → LeavesObject root d kind u → LeavesObject root d kind w
  staged_name d kind before = record {
    each = λ disk left.
        let b = stages.keeps.follows.from disk left in
        subst (λ (s : Spot). (s ≡ gone) ⊎ Named d kind s) (sym (same_below disk left (object_path root d kind) (inr (inl refl)))) (before.each b.0 b.1);
  }

  pub staged_store : LeavesStore root u → LeavesStore root w
  staged_store before = record {
    each = λ disk left.
        let b = stages.keeps.follows.from disk left in
        store_same root b.0 disk (λ rest xx. same_below disk left (rest ++ (xx ∷ objects_folder root)) (ends_below rest xx (objects_folder root))) (before.each b.0 b.1);
  }

-- a piece changes no store
pub piece_store : (root t : Elements) {u w : View} → Keeps Nothing NoName (Only t) u w → LeavesStore root u → LeavesStore root w
piece_store root t keeps before = record {
  each = λ disk left.
      let b = keeps.follows.from disk left in
      store_same root b.0 disk (λ rest xx. elim (b.2 (rest ++ (xx ∷ objects_folder root))) [ inl same ↦ same | inr none ↦ absurd none ]) (before.each b.0 b.1);
}
