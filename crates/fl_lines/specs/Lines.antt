-- The lines that commands print. Each ends with a newline, the byte 10. Numbers are decimal.
use Rattle.std.specs.Prelude.{ℕ, ◌/◌, ◌%◌, ◌==◌, ◌||◌, List, [], ◌∷◌, ◌++◌, Bool, false, Option, Some, None, nat_lt, codes, decimal, flat_map, if◌then◌else◌}
use Rattle.std.specs.Fmt.{digit_glyph}
use Rattle.std.specs.List.{join_with_byte}
use Rattle.fp_base.specs.Parts.{is_control}
use Rattle.fp_base.specs.declared.object.ObjKind.{ObjKind}
use Rattle.fp_base.specs.declared.object.ObjKind.TheVariants.{Commit, DirTree, DirMeta, File}
use Rattle.fp_host.specs.Paths.{Elements, path_text}
use Rattle.fp_name.specs.Hex.{hex}
use Rattle.fp_name.specs.Refs.{Ref, ref_text}
use Rattle.fp_small.specs.declared.refusal.Refusal.{Refusal}
use Rattle.fp_small.specs.declared.refusal.Refusal.TheVariants as refusals
use Rattle.fp_small.specs.declared.op.Op.{Op}
use Rattle.fp_small.specs.declared.state.Previous.{Previous}
use Rattle.fp_small.specs.declared.state.RefRow.{RefRow}
use Rattle.fp_small.specs.declared.state.RemoteRow.{RemoteRow}
use Rattle.fp_small.specs.declared.op.Op.TheVariants.{Install, Update, Uninstall, AddPin, DropPin, AddRemote, ModifyRemote, DropRemote, SetOverride, DropOverride, Migrate, Rollback}
use Rattle.fp_base.specs.Objects.{kind_text}
use Rattle.fl_lines.specs.PrintedWords.{rule_word, what_word, side_word, metadata_rule_word, frame_rule_word}

-- ---- untrusted texts

-- Tests whether the byte is a control byte or a backslash
abbrev pub is_escaped : ℕ → Bool
is_escaped b = is_control b || b == 92

-- The byte as a backslash and its two lower-case hexadecimal digits if it is escaped, otherwise as
-- it is
abbrev pub escape_of : ℕ → List ℕ
escape_of b =
    if is_escaped b then 92 ∷ digit_glyph false (b / 16) ∷ digit_glyph false (b % 16) ∷ []
    else b ∷ []

-- The text with its control bytes and backslashes escaped
abbrev pub escaped : List ℕ → List ℕ
escaped text = flat_map escape_of text

-- ---- lines

-- The text and a newline
abbrev pub line : List ℕ → List ℕ
line text = text ++ 10 ∷ []

-- The line of the words, with a space between each two
abbrev pub line_of : List (List ℕ) → List ℕ
line_of words = line (join_with_byte 32 words)

-- The name of an object: DIGEST.KIND
abbrev pub object_text : List ℕ → ObjKind → List ℕ
object_text digest kind = hex digest ++ (codes "." ++ kind_text kind)

-- The four lowest octal digits of a mode, the highest first: its permission bits
abbrev pub bits_text : ℕ → List ℕ
bits_text mode = decimal (mode / 512 % 8) ++
    (decimal (mode / 64 % 8) ++ (decimal (mode / 8 % 8) ++ decimal (mode % 8)))

-- The six lowest octal digits of a mode, the highest first
unfoldable pub octal : ℕ → List ℕ
octal mode = decimal (mode / 32768 % 8) ++ (decimal (mode / 4096 % 8) ++ bits_text mode)

-- The mode of an object in octal: four digits, the permission bits, for a file, otherwise six
abbrev pub mode_text : ObjKind → ℕ → List ℕ
mode_text Commit mode = octal mode
mode_text DirTree mode = octal mode
mode_text DirMeta mode = octal mode
mode_text File mode = bits_text mode

-- The line of a refusal
abbrev pub refusal_text : Refusal → List ℕ
refusal_text (refusals.BadWords index) = line_of (codes "error: words" ∷ decimal index ∷ [])
refusal_text (refusals.NoSuchRemote remote) = line_of (codes "error: no remote" ∷ remote ∷ [])
refusal_text (refusals.RemoteExists remote) = line_of (codes "error: remote exists" ∷ remote ∷ [])
refusal_text (refusals.RemoteInUse remote name) =
    line_of (codes "error: remote in use" ∷ remote ∷ ref_text name ∷ [])
refusal_text (refusals.WrongMode remote mode) =
    line_of (codes "error: remote mode" ∷ remote ∷ escaped mode ∷ [])
refusal_text (refusals.NoSuchRef remote name) =
    line_of (codes "error: no ref" ∷ remote ∷ ref_text name ∷ [])
refusal_text (refusals.AlreadyInstalled name) =
    line_of (codes "error: installed" ∷ ref_text name ∷ [])
refusal_text (refusals.NotInstalled name) =
    line_of (codes "error: not installed" ∷ ref_text name ∷ [])
refusal_text (refusals.RuntimeMissing name) =
    line_of (codes "error: runtime missing" ∷ ref_text name ∷ [])
refusal_text (refusals.RuntimeInUse runtime app) =
    line_of (codes "error: runtime in use" ∷ ref_text runtime ∷ ref_text app ∷ [])
refusal_text (refusals.MissingObject digest kind) =
    line_of (codes "error: missing object" ∷ object_text digest kind ∷ [])
refusal_text (refusals.CorruptObject digest kind got) =
    line_of (codes "error: corrupt object" ∷ object_text digest kind ∷ hex got ∷ [])
refusal_text (refusals.MalformedObject digest kind rule) =
    line_of (codes "error: malformed object" ∷ object_text digest kind ∷ rule_word rule ∷ [])
refusal_text (refusals.MalformedValue digest) =
    line_of (codes "error: malformed object" ∷ (hex digest ++ codes ".value") ∷ codes "value" ∷ [])
refusal_text (refusals.ModeRefused digest kind mode) =
    line_of (codes "error: mode refused" ∷ object_text digest kind ∷ mode_text kind mode ∷ [])
refusal_text (refusals.ReservedName commit) =
    line_of (codes "error: reserved name" ∷ hex commit ∷ [])
refusal_text (refusals.BadMetadata name number rule) =
    line_of (codes "error: metadata" ∷ ref_text name ∷ decimal number
    ∷ metadata_rule_word rule ∷ [])
refusal_text (refusals.RefBinding name) = line_of (codes "error: ref binding" ∷ ref_text name ∷ [])
refusal_text (refusals.Older name have offered) =
    line_of (codes "error: older" ∷ ref_text name ∷ decimal have ∷ decimal offered ∷ [])
refusal_text (refusals.PinExists pin) = line_of (codes "error: pin exists" ∷ pin ∷ [])
refusal_text (refusals.NoSuchPin pin) = line_of (codes "error: no pin" ∷ pin ∷ [])
refusal_text (refusals.Limit what number) =
    line_of (codes "error: limit" ∷ what_word what ∷ decimal number ∷ [])
refusal_text (refusals.BadRecord number) = line_of (codes "error: record" ∷ decimal number ∷ [])
refusal_text (refusals.BadMessage side index rule) =
    line_of (codes "error: message" ∷ side_word side ∷ decimal index ∷ frame_rule_word rule ∷ [])
refusal_text (refusals.Damaged path) =
    line_of (codes "error: damaged" ∷ escaped (path_text path) ∷ [])
refusal_text (refusals.NoPrevious name) = line_of (codes "error: no previous" ∷ ref_text name ∷ [])

-- The line of some words, a ref and a commit
abbrev pub commit_text : List ℕ → Ref → List ℕ → List ℕ
commit_text words name commit = line_of (words ∷ ref_text name ∷ hex commit ∷ [])

-- The line that acknowledges an operation
abbrev pub op_text : Op → List ℕ
op_text (Install name remote commit) = commit_text (codes "installed") name commit
op_text (Update name remote commit) = commit_text (codes "updated") name commit
op_text (Uninstall name) = line_of (codes "uninstalled" ∷ ref_text name ∷ [])
op_text (AddPin pin) = line_of (codes "pinned" ∷ pin ∷ [])
op_text (DropPin pin) = line_of (codes "unpinned" ∷ pin ∷ [])
op_text (AddRemote row) = line_of (codes "remote added" ∷ row.name ∷ [])
op_text (ModifyRemote row) = line_of (codes "remote modified" ∷ row.name ∷ [])
op_text (DropRemote name) = line_of (codes "remote deleted" ∷ name ∷ [])
op_text (SetOverride row) = line_of (codes "override set" ∷ row.name ∷ [])
op_text (DropOverride name) = line_of (codes "override reset" ∷ name ∷ [])
op_text Migrate = line_of (codes "migrated layout 2" ∷ [])
op_text (Rollback name commit) = commit_text (codes "rolled back") name commit

-- A line for each pattern
abbrev pub pins_text : List (List ℕ) → List ℕ
pins_text pins = flat_map line pins

-- The line for a remote: its name, a space and its URL
abbrev pub remote_line : RemoteRow → List ℕ
remote_line row = line (row.name ++ 32 ∷ row.url)

-- A line for each remote
abbrev pub remotes_text : List RemoteRow → List ℕ
remotes_text remotes = flat_map remote_line remotes

-- The line for a deployed ref: the ref, its commit and the remote that it comes from
abbrev pub deployed_line : RefRow → List ℕ
deployed_line row = line_of (ref_text row.name ∷ hex row.commit ∷ row.origin ∷ [])

-- A line for each deployed ref
abbrev pub refs_text : List RefRow → List ℕ
refs_text rows = flat_map deployed_line rows

-- The line for a ref that an update of all skips
abbrev pub skipped_text : Ref → List ℕ
skipped_text name = line_of (codes "skipped" ∷ ref_text name ∷ [])

-- ---- `info`

-- The line for the previous commit, if there is one
abbrev pub previous_text : Option Previous → List ℕ
previous_text None = []
previous_text (Some previous) = line_of (codes "previous" ∷ hex previous.commit ∷ [])

-- The lines for a ref's row
abbrev pub row_text : RefRow → List ℕ
row_text row =
    line_of (codes "ref" ∷ ref_text row.name ∷ [])
    ++ (line_of (codes "commit" ∷ hex row.commit ∷ [])
    ++ (line_of (codes "origin" ∷ row.origin ∷ [])
    ++ (line_of (codes "timestamp" ∷ decimal row.timestamp ∷ []) ++ previous_text row.previous)))

-- The line for the runtime, if there is one
abbrev pub runtime_text : Option Ref → List ℕ
runtime_text None = []
runtime_text (Some name) = line_of (codes "runtime" ∷ ref_text name ∷ [])

-- The line for an extension, with its name escaped
abbrev pub extension_line : List ℕ → List ℕ
extension_line name = line_of (codes "extension" ∷ escaped name ∷ [])

-- The lines about a deployed ref: its row, the runtime that its metadata names, if it names one,
-- and each extension
abbrev pub info_text : RefRow → Option Ref → List (List ℕ) → List ℕ
info_text row runtime extensions =
    row_text row ++ (runtime_text runtime ++ flat_map extension_line extensions)

-- ---- exported files

-- The line for an exported file: its path below `exports`, and the ref that exports it. The path is
-- escaped, since names in it come from the commit.
abbrev pub export_line : Elements → Ref → List ℕ
export_line path name = line_of (escaped (path_text path) ∷ ref_text name ∷ [])

-- ---- a checked store

-- The line for an object that doesn't match its name
abbrev pub bad_text : List ℕ → ObjKind → List ℕ
bad_text digest kind = line_of (codes "bad" ∷ object_text digest kind ∷ [])

-- The line for a file or link whose path isn't the name of an object
abbrev pub stray_text : Elements → List ℕ
stray_text path = line_of (codes "stray" ∷ escaped (path_text path) ∷ [])

-- The line with the number of objects, and of the bad ones among them
abbrev pub fsck_text : ℕ → ℕ → List ℕ
fsck_text objects bad =
    line (codes "fsck " ++ (decimal objects
    ++ (codes " objects, " ++ (decimal bad ++ codes " bad"))))

-- The line for a commit that an export made
abbrev pub made_text : List ℕ → List ℕ
made_text commit = line_of (codes "commit" ∷ hex commit ∷ [])

-- ---- an exercise

-- The last line of an exercise: its number of applications, and the numbers of applications and
-- runtimes that are deployed at its end
abbrev pub exercise_text : ℕ → ℕ → ℕ → List ℕ
exercise_text count applications runtimes =
    codes "exercise " ++ (decimal count
    ++ (codes ": " ++ (decimal applications ++
    (codes " applications, " ++ (decimal runtimes ++ codes " runtimes\n")))))
