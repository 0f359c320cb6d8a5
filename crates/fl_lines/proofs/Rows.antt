-- Worked lines, closed by computing.
use Rattle.std.proofs.Common.{◌≡◌, [], ◌∷◌, Option, Some, None, refl}
use Rattle.std.specs.Prelude.{codes, replicate}
use Rattle.std.specs.Fmt.{digits}
use Rattle.fp_name.specs.Hex.{hex}
use Rattle.fp_name.specs.Refs.{Ref}
use Rattle.fp_name.specs.declared.kind.RefKind.TheVariants.{App}
use Rattle.fp_name.specs.declared.kind.RefKind.TheVariants.{Runtime}
use Rattle.fp_base.specs.declared.object.ObjKind.TheVariants.{DirTree, File}
use Rattle.fp_base.specs.declared.meta_rule.MetaRule.TheVariants.{Absent}
use Rattle.fp_base.specs.declared.meta_rule.MetadataRule.TheVariants.{Meta}
use Rattle.fp_small.specs.declared.state.Previous.{Previous}
use Rattle.fp_small.specs.declared.state.RefRow.{RefRow}
use Rattle.fp_small.specs.declared.refusal.Refusal.TheVariants.{BadWords, PinExists, NoSuchPin, Limit, BadRecord, Damaged, RemoteInUse, WrongMode, NoSuchRef, AlreadyInstalled, NotInstalled, RuntimeMissing, RuntimeInUse, MissingObject, CorruptObject, ModeRefused, BadMetadata, RefBinding, Older, NoPrevious}
use Rattle.fp_base.specs.declared.what.What.TheVariants.{Pins, Input}
use Rattle.fp_small.specs.declared.op.Op.TheVariants.{Install, Update, Uninstall, AddPin, DropPin, DropOverride, Migrate, Rollback}
use Rattle.fl_lines.specs.Lines.{refusal_text, op_text, refs_text, skipped_text, info_text, export_line, bad_text, stray_text, fsck_text, made_text, exercise_text}

pub words_line : refusal_text (BadWords 2) ≡ codes "error: words 2\n"
unfolding digits
words_line = refl

pub exists_line : refusal_text (PinExists (codes "app/*/*/*")) ≡ codes "error: pin exists app/*/*/*\n"
exists_line = refl

pub unknown_line : refusal_text (NoSuchPin (codes "app/*/*/*")) ≡ codes "error: no pin app/*/*/*\n"
unknown_line = refl

pub limit_line : refusal_text (Limit Pins 1025) ≡ codes "error: limit pins 1025\n"
unfolding digits
limit_line = refl

pub damaged_line : refusal_text (Damaged (codes "config" ∷ [])) ≡ codes "error: damaged config\n"
damaged_line = refl

-- a path with an inner newline and a backslash
pub escaped_line : refusal_text (Damaged ((98 ∷ 92 ∷ []) ∷ (97 ∷ 10 ∷ []) ∷ [])) ≡ codes "error: damaged a\\0a/b\\5c\n"
escaped_line = refl

abbrev name : Ref
name = record { kind = App; id = codes "org.x.App"; arch = codes "x86_64"; branch = codes "stable" }

pub pinned_line : op_text (AddPin (codes "app/*/*/*")) ≡ codes "pinned app/*/*/*\n"
pinned_line = refl

pub unpinned_line : op_text (DropPin (codes "app/*/*/*")) ≡ codes "unpinned app/*/*/*\n"
unpinned_line = refl

pub migrated_line : op_text Migrate ≡ codes "migrated layout 2\n"
migrated_line = refl

pub uninstalled_line : op_text (Uninstall name) ≡ codes "uninstalled app/org.x.App/x86_64/stable\n"
uninstalled_line = refl

pub rolled_back_line : op_text (Rollback name (replicate 32 17)) ≡ codes "rolled back app/org.x.App/x86_64/stable 1111111111111111111111111111111111111111111111111111111111111111\n"
unfolding hex
rolled_back_line = refl

pub installed_line : op_text (Install name (codes "hub") (replicate 32 17)) ≡ codes "installed app/org.x.App/x86_64/stable 1111111111111111111111111111111111111111111111111111111111111111\n"
unfolding hex
installed_line = refl

pub updated_line : op_text (Update name (codes "hub") (replicate 32 17)) ≡ codes "updated app/org.x.App/x86_64/stable 1111111111111111111111111111111111111111111111111111111111111111\n"
unfolding hex
updated_line = refl

pub reset_line : op_text (DropOverride (codes "global")) ≡ codes "override reset global\n"
reset_line = refl

pub record_line : refusal_text (BadRecord 2) ≡ codes "error: record 2\n"
unfolding digits
record_line = refl

pub input_line : refusal_text (Limit Input 67108865) ≡ codes "error: limit input 67108865\n"
unfolding digits
input_line = refl

-- ---- refs

abbrev runtime : Ref
runtime = record { kind = Runtime; id = codes "org.x.Platform"; arch = codes "x86_64"; branch = codes "1" }

pub remote_in_use_line : refusal_text (RemoteInUse (codes "hub") name) ≡ codes "error: remote in use hub app/org.x.App/x86_64/stable\n"
remote_in_use_line = refl

pub wrong_mode_line : refusal_text (WrongMode (codes "hub") (codes "archive-z2")) ≡ codes "error: remote mode hub archive-z2\n"
wrong_mode_line = refl

pub no_ref_line : refusal_text (NoSuchRef (codes "hub") name) ≡ codes "error: no ref hub app/org.x.App/x86_64/stable\n"
no_ref_line = refl

pub already_line : refusal_text (AlreadyInstalled name) ≡ codes "error: installed app/org.x.App/x86_64/stable\n"
already_line = refl

pub not_installed_line : refusal_text (NotInstalled name) ≡ codes "error: not installed app/org.x.App/x86_64/stable\n"
not_installed_line = refl

pub runtime_missing_line : refusal_text (RuntimeMissing runtime) ≡ codes "error: runtime missing runtime/org.x.Platform/x86_64/1\n"
runtime_missing_line = refl

pub runtime_in_use_line : refusal_text (RuntimeInUse runtime name) ≡ codes "error: runtime in use runtime/org.x.Platform/x86_64/1 app/org.x.App/x86_64/stable\n"
runtime_in_use_line = refl

pub missing_object_line : refusal_text (MissingObject (replicate 32 17) DirTree) ≡ codes "error: missing object 1111111111111111111111111111111111111111111111111111111111111111.dirtree\n"
unfolding hex
missing_object_line = refl

pub corrupt_object_line : refusal_text (CorruptObject (replicate 32 17) File (replicate 32 34)) ≡ codes "error: corrupt object 1111111111111111111111111111111111111111111111111111111111111111.file 2222222222222222222222222222222222222222222222222222222222222222\n"
unfolding hex
corrupt_object_line = refl

-- a file of mode 0104755
pub mode_refused_line : refusal_text (ModeRefused (replicate 32 17) File 35309) ≡ codes "error: mode refused 1111111111111111111111111111111111111111111111111111111111111111.file 4755\n"
unfolding hex digits
mode_refused_line = refl

pub metadata_line : refusal_text (BadMetadata name 0 (Meta Absent)) ≡ codes "error: metadata app/org.x.App/x86_64/stable 0 absent\n"
unfolding digits
metadata_line = refl

pub binding_line : refusal_text (RefBinding name) ≡ codes "error: ref binding app/org.x.App/x86_64/stable\n"
binding_line = refl

pub older_line : refusal_text (Older name 12 7) ≡ codes "error: older app/org.x.App/x86_64/stable 12 7\n"
unfolding digits
older_line = refl

pub no_previous_line : refusal_text (NoPrevious name) ≡ codes "error: no previous app/org.x.App/x86_64/stable\n"
no_previous_line = refl

pub skipped_line : skipped_text name ≡ codes "skipped app/org.x.App/x86_64/stable\n"
skipped_line = refl

abbrev deployed : Option Previous → RefRow
deployed previous = record { name = name; origin = codes "hub"; commit = replicate 32 17; timestamp = 12; previous = previous }

pub listed : refs_text (deployed None ∷ []) ≡ codes "app/org.x.App/x86_64/stable 1111111111111111111111111111111111111111111111111111111111111111 hub\n"
unfolding hex
listed = refl

pub info_alone : info_text (deployed None) None [] ≡ codes "ref app/org.x.App/x86_64/stable\ncommit 1111111111111111111111111111111111111111111111111111111111111111\norigin hub\ntimestamp 12\n"
unfolding hex digits
info_alone = refl

-- a name with a backslash
pub info_whole : info_text (deployed (Some (record { commit = replicate 32 34; timestamp = 7 }))) (Some runtime) (codes "a\\b" ∷ codes "org.x.App.Locale" ∷ [])
    ≡ codes "ref app/org.x.App/x86_64/stable\ncommit 1111111111111111111111111111111111111111111111111111111111111111\norigin hub\ntimestamp 12\nprevious 2222222222222222222222222222222222222222222222222222222222222222\nruntime runtime/org.x.Platform/x86_64/1\nextension a\\5cb\nextension org.x.App.Locale\n"
unfolding hex digits
info_whole = refl

-- ---- exported files

pub exported_line : export_line (codes "org.x.App.desktop" ∷ codes "applications" ∷ codes "share" ∷ []) (record { kind = App; id = codes "org.x.App"; arch = codes "x86_64"; branch = codes "stable" })
    ≡ codes "share/applications/org.x.App.desktop app/org.x.App/x86_64/stable\n"
exported_line = refl

-- ---- a store

pub bad_object_line : bad_text (replicate 32 17) File ≡ codes "bad 1111111111111111111111111111111111111111111111111111111111111111.file\n"
unfolding hex
bad_object_line = refl

-- a name with a newline
pub stray_line : stray_text ((120 ∷ 10 ∷ []) ∷ codes "objects" ∷ codes "repo" ∷ []) ≡ codes "stray repo/objects/x\\0a\n"
stray_line = refl

pub checked_line : fsck_text 5000 1 ≡ codes "fsck 5000 objects, 1 bad\n"
unfolding digits
checked_line = refl

pub made_commit_line : made_text (replicate 32 17) ≡ codes "commit 1111111111111111111111111111111111111111111111111111111111111111\n"
unfolding hex
made_commit_line = refl

-- ---- an exercise

pub exercised_line : exercise_text 64 32 2 ≡ codes "exercise 64: 32 applications, 2 runtimes\n"
unfolding digits
exercised_line = refl

-- the words are the same for one
pub exercised_once : exercise_text 1 1 1 ≡ codes "exercise 1: 1 applications, 1 runtimes\n"
unfolding digits
exercised_once = refl
