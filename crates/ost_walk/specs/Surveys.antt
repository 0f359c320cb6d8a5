-- Surveys of commits.
use Rattle.std.specs.Prelude.{◌≡◌, ◌*◌, ℕ, List, [], ◌∷◌, ◌++◌, length, map, Option, Some, None, Result, Ok, Err, option_map}
use Rattle.std.specs.Option.{option_or}
use Rattle.fp_base.specs.declared.object.ObjKind.{ObjKind}
use Rattle.ost_model.specs.Objects.{Have, Fault, object_fault}
use Rattle.ost_model.specs.Order.{Place, order, first_of, place_fault, walk_fault, first_fault, first_walk_fault}
use Rattle.ost_model.specs.Walk.{open_places}
use Rattle.ost_walk.specs.declared.ends.WalkFault.{WalkFault}
use Rattle.ost_walk.specs.declared.ends.WalkEnd.{WalkEnd}
use Rattle.ost_walk.specs.declared.ends.WalkEnd.TheVariants as ends
use Rattle.ost_walk.specs.declared.dirs.Dir.{Dir}
use Rattle.ost_walk.specs.declared.surveys.Survey.{Survey}
use Rattle.ost_walk.specs.Ends.{EndsBy, IsFirst, fault_of}
use Rattle.ost_walk.specs.Steps.{IsWalked, open_of, place_name}

-- An object with its fault, without the depth of its place
abbrev pub named_fault : Place × Fault → (List ℕ × ObjKind) × Fault
named_fault f = (place_name f.0, f.1)

-- The first fault of a commit with its object, without the depth of the object's place
abbrev pub first_named : Have → List ℕ → Option ((List ℕ × ObjKind) × Fault)
first_named have commit = option_map named_fault (first_fault have commit)

-- An object with its fault, if it has one
abbrev pub found_in : List ℕ × ObjKind → Option Fault → Option ((List ℕ × ObjKind) × Fault)
found_in o None = None
found_in o (Some f) = Some (o, f)

-- The first of the objects that has a fault of its own
abbrev pub first_bad : Have → List (List ℕ × ObjKind) → Option ((List ℕ × ObjKind) × Fault)
first_bad have [] = None
first_bad have (o ∷ os) =
    option_or (found_in o (object_fault o.0 o.1 (have o.0 o.1))) (first_bad have os)

-- The object and the fault that a walk found
abbrev pub told_fault : WalkFault → (List ℕ × ObjKind) × Fault
told_fault w = ((w.digest, w.kind), fault_of w.fault)

-- The first fault in a survey: that of its objects, or else the survey's own
abbrev pub first_told : Have → Survey → Option ((List ℕ × ObjKind) × Fault)
first_told have s = option_or (first_bad have s.objects) (option_map told_fault s.fault)

-- Holds if no object of a survey has a fault, and the survey has none either
abbrev pub TellsNoFault : Have → Survey → Type 0
TellsNoFault have s = (first_bad have s.objects ≡ None) × (s.fault ≡ None)

-- Holds if the walk's fault is the first fault, or there is none
abbrev pub IsFirstIfAny : Option (Place × Fault) → Option WalkFault → Type 0
IsFirstIfAny found None = found ≡ None
IsFirstIfAny found (Some w) = IsFirst found w

-- The survey's objects are those of the order up to the first metadata object that has a fault or
-- the first object that exceeds a limit, and its fault is that one. The first fault of the commit
-- is then that of the first of these objects that has one, or else the survey's fault.
pub record IsSurvey (have : Have) (commit : List ℕ) (s : Survey) : Type 0 where
  pub walk : IsFirstIfAny (first_walk_fault have commit) s.fault
  pub rest : List (List ℕ × ObjKind)
  pub front : map place_name (order have commit) ≡ s.objects ++ rest
  pub whole : s.fault ≡ None → s.objects ≡ map place_name (order have commit)
  pub first : first_named have commit ≡ first_told have s

-- ---- where a walk ends

-- The walk of these places, which are preceded by `n` places, ends at their first fault. The
-- objects that were added to the order come before it; they may lack those after the last metadata
-- object that was checked.
pub record StopsAmong (have : Have) (n : ℕ) (places : List Place)
    (done done' : List (List ℕ × ObjKind)) (w : WalkFault) : Type 0 where
  pub is_first : IsFirst (first_of (walk_fault have) n places) w
  pub new : List (List ℕ × ObjKind)
  pub rest : List (List ℕ × ObjKind)
  pub names : done' ≡ done ++ new
  pub front : map place_name places ≡ new ++ rest
  pub named : option_map named_fault (first_of (place_fault have) n places)
      ≡ option_or (first_bad have new) (Some (told_fault w))

-- Holds if a directory was walked without a fault, or the walk ends at the first fault among its
-- places and those of the directories in it
abbrev pub WalksDir : {A : Type 0} → Have → Dir → (done done' : List (List ℕ × ObjKind))
    → (left left' : List Dir) → Result A WalkEnd → Type 0
WalksDir have dir done done' left left' result = EndsBy
    (λ _. IsWalked have dir done done' left left')
    (StopsAmong have (length done) (open_places have (open_of dir)) done done') result

-- The walk of the commit ends at its first fault, with the objects `done` in the order
pub record StopsIn (have : Have) (commit : List ℕ) (done : List (List ℕ × ObjKind))
    (w : WalkFault) : Type 0 where
  pub is_first : IsFirst (first_walk_fault have commit) w
  pub rest : List (List ℕ × ObjKind)
  pub front : map place_name (order have commit) ≡ done ++ rest
  pub named : first_named have commit ≡ option_or (first_bad have done) (Some (told_fault w))

-- The result of a survey whose walk ends with this error, with the objects `done` in the order
abbrev pub stopped_at : List (List ℕ × ObjKind) → WalkEnd → Result Survey WalkEnd
stopped_at done (ends.Refused w) = Ok (record { objects = done; fault = Some w })
stopped_at done ends.HostFault = Err ends.HostFault
stopped_at done ends.RemoteFault = Err ends.RemoteFault
stopped_at done ends.NoMemory = Err ends.NoMemory

-- The objects if there is no fault, and otherwise the refusal
abbrev pub unless_faulty : List (List ℕ × ObjKind) → Option WalkFault
    → Result (List (List ℕ × ObjKind)) WalkEnd
unless_faulty objects None = Ok objects
unless_faulty objects (Some w) = Err (ends.Refused w)
