-- Stores, by their names alone.
use Rattle.std.proofs.Common.{◌≡◌, ℕ, cond, eqb, true, List, [], ◌∷◌, ◌++◌, take, drop, length, get_or, inl, inr, ⊎_elim, refl, sym, ◌∙◌, ap, subst, arith}
use Rattle.std.specs.Prelude.{codes}
use Rattle.std.specs.List.{list_all}
use Rattle.std.proofs.lemmas.Bool.{and_parts, eqb-true}
use Rattle.std.proofs.lemmas.List.{length-append, length-drop, drop_at, take-append-drop}
use Rattle.std.proofs.lemmas.Option.{same_Some}
use Rattle.std.proofs.Math.Seq.{take-append_seam}
use Rattle.fp_name.specs.Hex.{is_byte, is_digest, hex, unhex}
use Rattle.fp_name.proofs.HexTexts.{length-hex, unhex-hex}
use Rattle.fp_host.specs.Paths.{Elements}
use Rattle.fp_host.specs.Outcome.{Spot, gone}
use Rattle.fp_base.specs.declared.object.ObjKind.{ObjKind}
use Rattle.fp_base.specs.declared.object.ObjKind.TheVariants as kinds
use Rattle.ost_model.specs.Objects.{object_path, Named}
use Rattle.fp_base.specs.Objects.{kind_text}
use Rattle.ost_model.specs.Laws.{StoreIsLocal, StoreGoesOn, NothingIsAStore, ObjectsAreNamed, ObjectsAreNoFolders}
use Rattle.ost_model.specs.Stores.{objects_folder, IsObject, MayBePrefix, MayBeObject}

pub store_goes_on : StoreGoesOn
store_goes_on root i j k s = record {
  prefixes = λ xx. ⊎_elim (λ same. subst (λ t. MayBePrefix xx t) (sym same) (s.prefixes xx)) (λ may. may) (k.prefixes xx);
  objects = λ rest name xx. ⊎_elim
      (λ same. subst (λ t. MayBeObject root (rest ++ (name ∷ (xx ∷ objects_folder root))) t) (sym same) (s.objects rest name xx))
      (λ may. may)
      (k.objects rest name xx);
}

module _ (name xx : List ℕ) (up : Elements) where
  -- a path below a name, seen as one below that name's folder
  joined : (rest : Elements) → (rest ++ (name ∷ [])) ++ (xx ∷ up) ≡ rest ++ (name ∷ (xx ∷ up))
  joined [] = refl
  joined (x ∷ rest) = ap (λ p. x ∷ p) (joined rest)

pub store_same : StoreIsLocal
store_same root i j same s = store_goes_on root i j (record {
  prefixes = λ xx. inl (same [] xx);
  objects = λ rest name xx. inl (subst (λ p. j p ≡ i p) (joined name xx (objects_folder root) rest) (same (rest ++ (name ∷ [])) xx));
}) s

pub nothing_is_a_store : NothingIsAStore
nothing_is_a_store root disk none = record {
  prefixes = λ xx. inl (none [] xx);
  objects = λ rest name xx. inl (subst (λ p. disk p ≡ gone) (joined name xx (objects_folder root) rest) (none (rest ++ (name ∷ [])) xx));
}

-- the kind that an end of a name says
abbrev kind_back : List ℕ → ObjKind
kind_back end = cond (eqb (get_or end 1 0) 99) kinds.Commit (cond (eqb (get_or end 1 0) 102) kinds.File (cond (eqb (get_or end 4 0) 116) kinds.DirTree kinds.DirMeta))

kind_is_back : (kind : ObjKind) → kind_back (codes "." ++ kind_text kind) ≡ kind
kind_is_back kinds.Commit = refl
kind_is_back kinds.DirTree = refl
kind_is_back kinds.DirMeta = refl
kind_is_back kinds.File = refl

-- the digits after the first two
pub rest_long : (d : List ℕ) → is_digest d ≡ true → length (drop 2 (hex d)) ≡ 62
rest_long d good =
    let long : length d ≡ 32 = eqb-true (length d) 32 (and_parts (eqb (length d) 32) (list_all is_byte d) good).0 in
    length-drop 2 (hex d) ∙ omega (arith, length-hex d, long)

pub take_at : (p q : List ℕ) (n : ℕ) → length p ≡ n → take n (p ++ q) ≡ p
take_at p q n long = subst (λ m. take m (p ++ q) ≡ p) long (take-append_seam p q)

-- an object's name says its digest and its kind
pub one_name : (root : Elements) (d e : List ℕ) (k m : ObjKind) → is_digest d ≡ true → is_digest e ≡ true
    → object_path root d k ≡ object_path root e m → (d ≡ e) × (k ≡ m)
one_name root d e k m of_d of_e same =
    let names : drop 2 (hex d) ++ (codes "." ++ kind_text k) ≡ drop 2 (hex e) ++ (codes "." ++ kind_text m) = ap (λ p. get_or p 0 []) same in
    let first : take 2 (hex d) ≡ take 2 (hex e) = ap (λ p. get_or p 1 []) same in
    let after : drop 2 (hex d) ≡ drop 2 (hex e) =
    sym (take_at (drop 2 (hex d)) (codes "." ++ kind_text k) 62 (rest_long d of_d)) ∙ ap (take 62) names
    ∙ take_at (drop 2 (hex e)) (codes "." ++ kind_text m) 62 (rest_long e of_e) in
    let ends : codes "." ++ kind_text k ≡ codes "." ++ kind_text m =
    sym (drop_at (drop 2 (hex d)) (codes "." ++ kind_text k) 62 (rest_long d of_d)) ∙ ap (drop 62) names
    ∙ drop_at (drop 2 (hex e)) (codes "." ++ kind_text m) 62 (rest_long e of_e) in
    let texts : hex d ≡ hex e =
    sym (take-append-drop 2 (hex d)) ∙ ap (λ t. t ++ drop 2 (hex d)) first ∙ ap (λ t. take 2 (hex e) ++ t) after ∙ take-append-drop 2 (hex e) in
    (same_Some d e (sym (unhex-hex d of_d) ∙ ap unhex texts ∙ unhex-hex e of_e), sym (kind_is_back k) ∙ ap kind_back ends ∙ kind_is_back m)

named_same : (root : Elements) (d : List ℕ) (kind : ObjKind) (spot : Spot) → is_digest d ≡ true → IsObject root (object_path root d kind) spot
    → Named d kind spot
named_same root d kind spot good o =
    let same = one_name root d o.digest kind o.kind good o.digits o.name in
    subst (λ k. Named d k spot) (sym same.1) (subst (λ x. Named x o.kind spot) (sym same.0) o.named)

pub objects_are_named : ObjectsAreNamed
objects_are_named root disk s d kind good =
    ⊎_elim (λ none. inl none) (λ o. inr (named_same root d kind (disk (object_path root d kind)) good o))
    (s.objects [] (drop 2 (hex d) ++ (codes "." ++ kind_text kind)) (take 2 (hex d)))

pub objects_are_no_folders : ObjectsAreNoFolders
objects_are_no_folders root disk s x rest name xx =
    ⊎_elim (λ none. none)
    (λ o. absurd (omega (arith, ap length o.name, length-append rest (name ∷ (xx ∷ objects_folder root)))))
    (s.objects (x ∷ rest) name xx)
