-- The object that a path is that of.
use Rattle.std.proofs.Common.{◌≡◌, ◌≢◌, ◌<◌, ℕ, List, [], ◌∷◌, ◌++◌, length, take, drop, codes, get_or, true, false, Option, Some, None, refl, sym, ◌∙◌, ap, arith}
use Rattle.std.proofs.lemmas.List.{drop_at, take-append-drop, drop_all}
use Rattle.std.proofs.lemmas.Bool.{false≢true}
use Rattle.fp_name.specs.Hex.{is_digest, hex, unhex}
use Rattle.fp_name.proofs.HexTexts.{unhex-hex}
use Rattle.fp_host.specs.Paths.{Elements, path_eq}
use Rattle.fp_host.proofs.Separate.{path_decides}
use Rattle.fp_base.specs.declared.object.ObjKind.{ObjKind}
use Rattle.fp_base.specs.declared.object.ObjKind.TheVariants as kinds
use Rattle.ost_model.specs.Objects.{object_path}
use Rattle.fp_base.specs.Objects.{kind_text}
use Rattle.ost_model.proofs.Stores.{rest_long, take_at}
use Rattle.ost_store.specs.declared.naming.TheConstants.{REST_DIGITS}
use Rattle.ost_store.specs.Names.{kind_said, both_said, object_said}

pub both_known : (a : Option (List ℕ)) (b : Option ObjKind) (d : List ℕ) (kind : ObjKind) → a ≡ Some d → b ≡ Some kind → both_said a b ≡ Some (d, kind)
both_known a b d kind is_a is_b = (λ i. both_said (is_a i) (is_b i))

pub no_kind : (a : Option (List ℕ)) (b : Option ObjKind) → b ≡ None → both_said a b ≡ None
no_kind None b none = refl
no_kind (Some d) b none = ap (both_said (Some d)) none

-- a name that is too short says no kind
pub too_short : (folder name : List ℕ) → length name < REST_DIGITS → object_said folder name ≡ None
too_short folder name short = no_kind (unhex (folder ++ take REST_DIGITS name)) (kind_said (drop REST_DIGITS name)) (ap kind_said (drop_all REST_DIGITS name (omega (arith, short))))

kind_back : (kind : ObjKind) → kind_said (codes "." ++ kind_text kind) ≡ Some kind
kind_back kinds.Commit = refl
kind_back kinds.DirTree = refl
kind_back kinds.DirMeta = refl
kind_back kinds.File = refl

-- an object's names say it
said_back : (d : List ℕ) (kind : ObjKind) → is_digest d ≡ true → object_said (take 2 (hex d)) (drop 2 (hex d) ++ (codes "." ++ kind_text kind)) ≡ Some (d, kind)
said_back d kind good =
    let end = codes "." ++ kind_text kind in
    both_known _ _ d kind
    (ap (λ l. unhex (take 2 (hex d) ++ l)) (take_at (drop 2 (hex d)) end REST_DIGITS (rest_long d good)) ∙ ap unhex (take-append-drop 2 (hex d)) ∙ unhex-hex d good)
    (ap kind_said (drop_at (drop 2 (hex d)) end REST_DIGITS (rest_long d good)) ∙ kind_back kind)

pub none_of : {A : Type 0} (o : Option A) → ((a : A) → o ≡ Some a → ⊥) → o ≡ None
none_of None off = refl
none_of (Some a) off = absurd (off a refl)

module _ (root path : Elements) (name : List ℕ) (at_name : path ≡ name ∷ drop 1 path) where
  module _ (folder : List ℕ) (above : Elements) (is_above : above ≡ drop 1 path) (at_folder : above ≡ folder ∷ drop 1 above) where
    said : (d : List ℕ) (kind : ObjKind) → is_digest d ≡ true → path ≡ object_path root d kind → object_said folder name ≡ Some (d, kind)
    said d kind good is =
        let name_is : name ≡ drop 2 (hex d) ++ (codes "." ++ kind_text kind) = ap (λ (p : Elements). get_or p 0 []) (sym at_name ∙ is) in
        let folder_is : folder ≡ take 2 (hex d) = ap (λ (p : Elements). get_or p 0 []) (sym at_folder ∙ is_above ∙ ap (drop 1) is) in
        (λ i. object_said (folder_is i) (name_is i)) ∙ said_back d kind good

    pub none_said : object_said folder name ≡ None → (d : List ℕ) (kind : ObjKind) → is_digest d ≡ true → path ≢ object_path root d kind
    none_said none d kind good = λ is. cc (sym none ∙ said d kind good is)

    -- the path of the object that is said is another
    pub other_said : (e : List ℕ) (m : ObjKind) (p : Elements) → object_said folder name ≡ Some (e, m) → p ≡ object_path root e m → path_eq p path ≡ false
        → (d : List ℕ) (kind : ObjKind) → is_digest d ≡ true → path ≢ object_path root d kind
    other_said e m p told here off d kind good = λ is.
        let same : (e, m) ≡ (d, kind) = cc (sym told ∙ said d kind good is) in
        let path_is : p ≡ path = here ∙ ap (λ (o : List ℕ × ObjKind). object_path root o.0 o.1) same ∙ sym is in
        false≢true (sym off ∙ (path_decides p path).1 path_is)
