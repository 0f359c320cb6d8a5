-- Objects that are read and checked.
use Rattle.std.specs.Prelude.{◌≡◌, ⊤, ℕ, List, true, Option, Some, None, Result, Ok, Err}
use Rattle.std.specs.Option.{option_or}
use Rattle.fp_base.specs.declared.object.ObjKind.{ObjKind}
use Rattle.ost_model.specs.declared.object.Object.{Object}
use Rattle.ost_model.specs.declared.object.Object.TheVariants as objects
use Rattle.ost_model.specs.Objects.{Fault, is_of_kind, length_fault, rule_fault, dir_mode_fault, object_fault}
use Rattle.ost_store.specs.Stage.{IsKeepable}
use Rattle.ost_walk.specs.declared.ends.WalkFault.{WalkFault}
use Rattle.ost_walk.specs.declared.ends.WalkEnd.{WalkEnd}
use Rattle.ost_walk.specs.Ends.{EndsBy, IsFaultOf, RefusesBy}

-- The object is of the kind and within its limits, and its permission bits or its text are valid
pub record IsFit (kind : ObjKind) (object : Object) : Type 0 where
  pub kind_is : is_of_kind kind object ≡ true
  pub short : length_fault object ≡ None
  pub keepable : IsKeepable object

-- The source has this object, and it has no fault
pub record IsGood (d : List ℕ) (kind : ObjKind) (there : Option Object) (object : Object) : Type 0
  where
    pub is : there ≡ Some object
    pub good : object_fault d kind (Some object) ≡ None

-- The object as it is
abbrev pub as_is : Object → Object
as_is object = object

-- Holds if the result has the object and it has no fault, or it is the refusal with its fault
abbrev pub Judges : {A : Type 0} → (A → Object) → List ℕ → ObjKind → Option Object
    → Result A WalkEnd → Type 0
Judges of d kind there result =
    EndsBy (λ a. IsGood d kind there (of a)) (IsFaultOf d kind (object_fault d kind there)) result

-- Holds if the result is the object, or the refusal with its fault
abbrev pub Reads : List ℕ → ObjKind → Option Object → Result Object WalkEnd → Type 0
Reads d kind there result =
    EndsBy (λ object. there ≡ Some object) (IsFaultOf d kind (object_fault d kind there)) result

-- Holds if the object has no fault, or the result is the refusal with its fault
abbrev pub Checks : {A : Type 0} → List ℕ → ObjKind → Object → Result A WalkEnd → Type 0
Checks d kind object result = EndsBy (λ a. object_fault d kind (Some object) ≡ None)
    (IsFaultOf d kind (object_fault d kind (Some object))) result

-- There is an object, and the refusal names its fault
pub record IsFaultThere (d : List ℕ) (kind : ObjKind) (there : Option Object)
    (w : WalkFault) : Type 0 where
  pub object : Object
  pub is : there ≡ Some object
  pub fault : IsFaultOf d kind (object_fault d kind (Some object)) w

-- Holds if the result is `None` and there is no object, or it is the object and has no fault, or
-- the refusal with its fault
abbrev pub JudgesIfThere : List ℕ → ObjKind → Option Object
    → Result (Option Object) WalkEnd → Type 0
JudgesIfThere d kind there (Ok None) = there ≡ None
JudgesIfThere d kind there (Ok (Some object)) = IsGood d kind there object
JudgesIfThere d kind there (Err end) = RefusesBy (IsFaultThere d kind there) end

-- The first rule of its kind that an object breaks, or the fault of a directory's permission bits
abbrev pub rules_fault : ObjKind → Object → Option Fault
rules_fault kind object = option_or (rule_fault kind object) (dir_mode_fault kind (Some object))

-- Holds if the bytes follow the rules of the kind, or the result is the refusal with the rule that
-- they break
abbrev pub ChecksRules : {A : Type 0} → List ℕ → ObjKind → List ℕ → Result A WalkEnd → Type 0
ChecksRules d kind bytes result = EndsBy (λ a. rules_fault kind (objects.Meta bytes) ≡ None)
    (IsFaultOf d kind (rules_fault kind (objects.Meta bytes))) result

-- Holds if the result is the object that there is, or none, or the refusal with the object's fault
abbrev pub ReadsIfThere : List ℕ → ObjKind → Option Object → Result (Option Object) WalkEnd → Type 0
ReadsIfThere d kind there (Ok object) = there ≡ object
ReadsIfThere d kind there (Err end) = RefusesBy (IsFaultThere d kind there) end

-- Holds if the object, if there is one, is of the kind and within its limits
abbrev pub IsFitIfThere : ObjKind → Option Object → Type 0
IsFitIfThere kind None = ⊤
IsFitIfThere kind (Some object) = IsFit kind object

-- Holds if the object, if there is one, has no fault
abbrev pub IsGoodIfThere : List ℕ → ObjKind → Option Object → Type 0
IsGoodIfThere d kind None = ⊤
IsGoodIfThere d kind (Some object) = object_fault d kind (Some object) ≡ None
