-- The refusals of objects with faults.
use Rattle.std.specs.Prelude.{List, ℕ, ◌+◌, Option, option_map}
use Rattle.fp_base.specs.declared.object.ObjKind.{ObjKind}
use Rattle.fp_base.specs.declared.object.ObjKind.TheVariants as kinds
use Rattle.fp_base.specs.declared.what.What.{What}
use Rattle.fp_base.specs.declared.what.What.TheVariants as whats
use Rattle.fp_small.specs.declared.refusal.Refusal.{Refusal}
use Rattle.fp_small.specs.declared.refusal.Refusal.TheVariants as refusals
use Rattle.ost_model.specs.declared.limits.TheConstants.{MOST_OBJECTS, MOST_LEVELS}
use Rattle.ost_model.specs.Objects.{Have, Fault, too_many, too_deep, missing, too_long, refused_mode, corrupt, malformed, object_fault}

-- What is too long if an object of the kind is
abbrev pub long_what : ObjKind → What
long_what kinds.File = whats.Object
long_what kinds.Commit = whats.MetadataObject
long_what kinds.DirTree = whats.MetadataObject
long_what kinds.DirMeta = whats.MetadataObject

-- The refusal of an object with a fault. For a limit on a number, the number is the limit plus one.
abbrev pub refusal_of : List ℕ → ObjKind → Fault → Refusal
refusal_of d kind too_many = refusals.Limit whats.Objects (MOST_OBJECTS + 1)
refusal_of d kind too_deep = refusals.Limit whats.Depth (MOST_LEVELS + 1)
refusal_of d kind missing = refusals.MissingObject d kind
refusal_of d kind (too_long size) = refusals.Limit (long_what kind) size
refusal_of d kind (refused_mode mode) = refusals.ModeRefused d kind mode
refusal_of d kind (corrupt got) = refusals.CorruptObject d kind got
refusal_of d kind (malformed rule) = refusals.MalformedObject d kind rule

-- The refusal of an object, if it has a fault
abbrev pub object_refused : Have → List ℕ → ObjKind → Option Refusal
object_refused have d kind = option_map (refusal_of d kind) (object_fault d kind (have d kind))
