-- The commit that a remote offers under a ref.
use Rattle.std.specs.Prelude.{◌≡◌, ℕ, Bool, true, false, nat_le, ◌&&◌, ◌||◌, ◌==◌, List, [], ◌∷◌, length, codes, leb, Option, Some, None, Result, Ok, Err, if◌then◌else◌}
use Rattle.std.specs.List.{list_all}
use Rattle.std.specs.Str.{bytes_eq}
use Rattle.fp_host.specs.Paths.{Elements}
use Rattle.fp_host.specs.Remote.{Held, nothing, directory, contents, target, Holdings}
use Rattle.fp_host.specs.declared.remotes.Node.{Node}
use Rattle.fp_host.specs.declared.remotes.Node.TheVariants as nodes
use Rattle.fp_keyfile.specs.declared.group.Group.{Group}
use Rattle.fp_keyfile.specs.declared.fault.KeyFault.{KeyFault}
use Rattle.fp_keyfile.specs.KeyFile.{file_of, value_at}
use Rattle.fp_name.specs.Refs.{Ref}
use Rattle.fp_small.specs.declared.state.RemoteRow.{RemoteRow}
use Rattle.fp_small.specs.declared.refusal.Refusal.{Refusal}
use Rattle.fp_small.specs.declared.refusal.Refusal.TheVariants as refusals
use Rattle.ost_refs.specs.Places.{place_path}
use Rattle.ost_refs.specs.Files.{ref_file}
use Rattle.ost_refs.specs.declared.place.RefPlace.TheVariants.{Head}
use Rattle.ost_refs.specs.declared.reading.TheConstants.{REF_FILE_BYTES}
use Rattle.ost_refs.specs.declared.limits.TheConstants.{MOST_MODE_BYTES, MOST_STORE_CONFIG_BYTES}
use Rattle.ost_refs.specs.declared.place.RefFile.{RefFile}
use Rattle.ost_refs.specs.declared.place.RefFile.TheVariants as files

-- The content of a regular file of a remote, if it has at most this number of bytes
abbrev pub small_file : ℕ → Held → Option (List ℕ)
small_file most nothing = None
small_file most directory = None
small_file most (contents mode bytes) = if leb (length bytes) most then Some bytes else None
small_file most (target text) = None

-- The size in bytes of a regular file
abbrev pub size_in : Node → Option ℕ
size_in (nodes.File mode size) = Some size
size_in nodes.Absent = None
size_in nodes.Dir = None
size_in (nodes.Link text) = None

-- ---- the repository's mode

-- Tests whether there is a value, and it is this text
abbrev pub is_value : List ℕ → Option (List ℕ) → Bool
is_value value None = false
is_value value (Some text) = bytes_eq text value

-- Tests whether a key of the group `core` has this value
abbrev pub is_core : List Group → List ℕ → List ℕ → Bool
is_core file key value = is_value value (value_at file (codes "core") key)

-- Tests whether this is the `config` of a repository of version 1 and of the mode `bare-user-only`
abbrev pub is_pullable : List Group → Bool
is_pullable file = is_core file (codes "repo_version") (codes "1")
    && is_core file (codes "mode") (codes "bare-user-only")

-- Tests whether the byte is a lower-case ASCII letter, a digit or `-`
abbrev pub is_mode_byte : ℕ → Bool
is_mode_byte b = (nat_le 97 b && nat_le b 122) || (nat_le 48 b && nat_le b 57) || b == 45

-- Tests whether the text can be shown as a mode: 1 to 32 lower-case ASCII letters, digits and `-`
abbrev pub is_mode_word : List ℕ → Bool
is_mode_word text = if leb 1 (length text)
    then (if leb (length text) MOST_MODE_BYTES then list_all is_mode_byte text else false)
    else false

-- The mode if it can be shown, and `-` otherwise
abbrev pub mode_word : Option (List ℕ) → List ℕ
mode_word None = codes "-"
mode_word (Some text) = if is_mode_word text then text else codes "-"

-- The mode that is refused, if fpk doesn't pull from a repository with this `config`
abbrev pub mode_refused : List Group → Option (List ℕ)
mode_refused file =
    if is_pullable file then None
    else Some (mode_word (value_at file (codes "core") (codes "mode")))

-- The mode that is refused, by the result of parsing `config`
abbrev pub mode_read : Result (List Group) KeyFault → Option (List ℕ)
mode_read (Ok file) = mode_refused file
mode_read (Err fault) = Some (codes "-")

-- The mode that is refused, by the content of `config`. A missing or too long `config` has the mode
-- `-`.
abbrev pub mode_in : Option (List ℕ) → Option (List ℕ)
mode_in None = Some (codes "-")
mode_in (Some bytes) = mode_read (file_of bytes)

-- The path of the file `config`
abbrev pub config_path : Elements
config_path = codes "config" ∷ []

-- The mode that is refused of the remote at this URL
abbrev pub wrong_mode : Holdings → List ℕ → Option (List ℕ)
wrong_mode held url = mode_in (small_file MOST_STORE_CONFIG_BYTES (held url config_path))

-- ---- the ref

-- The path of the ref's file
abbrev pub ref_path : Ref → Elements
ref_path name = place_path [] (Head name)

-- The content of the ref's file with these bytes. A missing or too long file is `Bad`.
abbrev pub ref_said : Option (List ℕ) → RefFile
ref_said None = files.Bad
ref_said (Some bytes) = ref_file bytes

-- The content of the ref's file at the remote with this URL
abbrev pub ref_at : Holdings → List ℕ → Ref → RefFile
ref_at held url name = ref_said (small_file REF_FILE_BYTES (held url (ref_path name)))

-- The commit in the ref's file, or the refusal of the ref
abbrev pub commit_said : RemoteRow → Ref → RefFile → Result (List ℕ) Refusal
commit_said remote name (files.Digest d) = Ok d
commit_said remote name files.Absent = Err (refusals.NoSuchRef remote.name name)
commit_said remote name files.Bad = Err (refusals.NoSuchRef remote.name name)

-- The answer, or the refusal of the remote if its mode is refused
abbrev pub after_mode : RemoteRow → Option (List ℕ) → Result (List ℕ) Refusal
    → Result (List ℕ) Refusal
after_mode remote (Some mode) answer = Err (refusals.WrongMode remote.name mode)
after_mode remote None answer = answer

-- The commit that the remote offers under the ref, or the refusal. Its `config` must be that of a
-- repository of version 1 and of the mode `bare-user-only`, and the ref's file must have 64 digits
-- and a newline.
abbrev pub offered : Holdings → RemoteRow → Ref → Result (List ℕ) Refusal
offered held remote name = after_mode remote (wrong_mode held remote.url)
    (commit_said remote name (ref_at held remote.url name))
