-- Lists of built objects.
use Rattle.std.proofs.Common.{◌≡◌, ◌<◌, inl, inr, ℕ, zero, suc, List, [], ◌∷◌, length, get_or, Bool, true, false, Some, None, refl, sym, ◌∙◌, ap, subst, arith, if◌then◌else◌}
use Rattle.std.specs.Prelude.{◌&&◌}
use Rattle.std.specs.List.{AllByRecursion}
use Rattle.std.specs.Str.{bytes_eq}
use Rattle.std.proofs.lemmas.Bool.{and_parts, cases_Bool}
use Rattle.std.proofs.lemmas.Slice.Eq.{bytes_eq-Decides}
use Rattle.fp_host.specs.Paths.{absent}
use Rattle.fp_host.specs.View.{View}
use Rattle.fp_host.specs.Paths.{Elements}
use Rattle.fp_name.specs.Hex.{is_digest}
use Rattle.fp_base.specs.declared.object.ObjKind.{ObjKind}
use Rattle.ost_model.specs.declared.object.Object.{Object}
use Rattle.ost_model.specs.Objects.{object_path}
use Rattle.ost_model.specs.Order.{In}
use Rattle.ost_model.proofs.Members.{all_here}
use Rattle.ost_commit.specs.declared.built.BuiltObject.{BuiltObject}
use Rattle.ost_commit.specs.Objects.{have_of, IsNamed, AreApart}
use Rattle.fp_base.specs.Objects.{is_kind}
use Rattle.fp_base.proofs.ObjectKinds.{kind_is, kind_same}
use Rattle.ost_export.specs.Staging.{Named, AreWhole, IsIn, IsCovered}

-- ---- all of a list

pub in_at : {A : Type 0} (xs : List A) (i : ℕ) (a : A) → i < length xs → a ≡ get_or xs i a → In xs a
in_at [] i a low at = absurd (omega (arith, low))
in_at (x ∷ xs) zero a low at = inl (sym at)
in_at (x ∷ xs) (suc i) a low at = inr (in_at xs i a (omega (arith, low)) at)

-- ---- a kind and itself

abbrev is_of : BuiltObject → List ℕ → ObjKind → Bool
is_of o d kind = bytes_eq o.digest d && is_kind o.kind kind

-- ---- each is the one of its digest and kind

first_have : (o : BuiltObject) (os : List BuiltObject) (d : List ℕ) (kind : ObjKind) → is_of o d kind ≡ true → have_of (o ∷ os) d kind ≡ Some o.object
first_have o os d kind is = ap (λ (b : Bool). if b then Some o.object else have_of os d kind) is

later_have : (o : BuiltObject) (os : List BuiltObject) (d : List ℕ) (kind : ObjKind) → is_of o d kind ≡ false → have_of (o ∷ os) d kind ≡ have_of os d kind
later_have o os d kind is = ap (λ (b : Bool). if b then Some o.object else have_of os d kind) is

own : (o : BuiltObject) → is_of o o.digest o.kind ≡ true
own o = ap (λ (b : Bool). b && is_kind o.kind o.kind) ((bytes_eq-Decides o.digest o.digest).1 refl) ∙ kind_same o.kind

apart_have : (os : List BuiltObject) (o : BuiltObject) → AreApart os → In os o → have_of os o.digest o.kind ≡ Some o.object
apart_have [] o apart has = absurd has
apart_have (x ∷ os) o apart (inl is) = subst (λ (y : BuiltObject). have_of (x ∷ os) y.digest y.kind ≡ Some y.object) is (first_have x os x.digest x.kind (own x))
apart_have (x ∷ os) o apart (inr has) =
    let later = apart_have os o apart.1 has in
    elim (cases_Bool (is_of x o.digest o.kind)) [
      | inl same ↦
          let parts = and_parts (bytes_eq x.digest o.digest) (is_kind x.kind o.kind) same in
          let d : x.digest ≡ o.digest = (bytes_eq-Decides x.digest o.digest).0 parts.0 in
          let k : x.kind ≡ o.kind = kind_is x.kind o.kind parts.1 in
          let none : have_of os o.digest o.kind ≡ None = (λ i. have_of os (sym d i) (sym k i)) ∙ apart.0 in
          absurd (cc (sym none ∙ later))
      | inr off ↦ later_have x os o.digest o.kind off ∙ later
    ]

pub whole_in : (os : List BuiltObject) (o : BuiltObject) → AreWhole os → In os o → IsIn (have_of os) o
whole_in os o whole has = record { is = apart_have os o whole.apart has; named = all_here IsNamed os o whole.named has }

-- what is there is one of the list
pub record Found (os : List BuiltObject) (d : List ℕ) (kind : ObjKind) (object : Object) : Type 0 where
  pub o : BuiltObject
  pub has : In os o
  pub of_digest : o.digest ≡ d
  pub of_kind : o.kind ≡ kind
  pub of_object : o.object ≡ object

pub found : (os : List BuiltObject) (d : List ℕ) (kind : ObjKind) (object : Object) → have_of os d kind ≡ Some object → Found os d kind object
found [] d kind object is = absurd (cc is)
found (x ∷ os) d kind object is = elim (cases_Bool (is_of x d kind)) [
  | inl same ↦
      let parts = and_parts (bytes_eq x.digest d) (is_kind x.kind kind) same in
      record { o = x; has = inl refl; of_digest = (bytes_eq-Decides x.digest d).0 parts.0; of_kind = kind_is x.kind kind parts.1; of_object = cc (sym (first_have x os d kind same) ∙ is) }
  | inr off ↦
      let f = found os d kind object (sym (later_have x os d kind off) ∙ is) in
      record { o = f.o; has = inr f.has; of_digest = f.of_digest; of_kind = f.of_kind; of_object = f.of_object }
]

-- and it is covered
pub covered_at : (root : Elements) (staged : List Named) (u : View) (os : List BuiltObject) (d : List ℕ) (kind : ObjKind) (object : Object) → AllByRecursion (IsCovered root staged u) os → have_of os d kind ≡ Some object
    → (is_digest d ≡ true) × (u.names (object_path root d kind) ≡ absent → In staged (d, kind))
covered_at root staged u os d kind object all is =
    let f = found os d kind object is in
    let c = all_here (IsCovered root staged u) os f.o all f.has in (
      subst (λ (x : List ℕ). is_digest x ≡ true) f.of_digest c.digits,
      λ none. subst (In staged) (λ i. (f.of_digest i, f.of_kind i)) (c.waits (ap u.names (λ i. object_path root (f.of_digest i) (f.of_kind i)) ∙ none)),
    )
