-- Notes on options that do less than they seem to: one whose name isn't known, and one that denies
-- the home directory or a place in it, which has two names.
use Rattle.std.specs.Prelude.{ℕ, List, [], ◌∷◌, ◌++◌, ◌==◌, Bool, true, length, take, drop, option_map, Option, Some, None, codes, flat_map, if◌then◌else◌}
use Rattle.std.specs.Option.{option_or, option_map_or}
use Rattle.std.specs.Str.{bytes_eq}
use Rattle.fl_meta.specs.declared.permission.PermList.{PermList}
use Rattle.fl_meta.specs.declared.permission.PermList.TheVariants as lists
use Rattle.fl_meta.specs.declared.permission.Value.{Value}
use Rattle.fl_meta.specs.declared.permission.Value.TheVariants as values
use Rattle.fl_meta.specs.declared.permission.Mention.{Mention}
use Rattle.fl_options.specs.Options.{option_layer}
use Rattle.fl_lines.specs.Lines.{escaped}

-- ---- names that aren't known

-- For a list of unknown names: what its names are called, and the names that are known
abbrev pub unknown_in : PermList → Option (List ℕ × List ℕ)
unknown_in lists.UnknownShared = Some (codes "share", codes "network, ipc")
unknown_in lists.UnknownSockets = Some (
  codes "socket",
  codes "x11, wayland, fallback-x11, pulseaudio, session-bus, system-bus, ssh-auth, pcsc, cups",
)
unknown_in lists.UnknownDevices = Some (codes "device", codes "dri, kvm, shm, all")
unknown_in lists.UnknownFeatures = Some (
  codes "feature",
  codes "devel, multiarch, bluetooth, canbus, per-app-dev-shm",
)
unknown_in _ = None

-- The effect that a value has on a known name
abbrev pub effect_of : Value → List ℕ
effect_of values.Off = codes "denies"
effect_of _ = codes "grants"

-- The note that a name isn't known, with the names that are
abbrev pub unknown_note : Mention → List ℕ × List ℕ → List ℕ
unknown_note mention kind = codes "fpk: no known " ++ (kind.0
    ++ (codes ": " ++ (escaped mention.permission.name
    ++ (codes "; it is kept and " ++ (effect_of mention.value
    ++ (codes " nothing (known: " ++ (kind.1 ++ codes ")\n")))))))

-- ---- the two names of the home directory

-- Tests whether the text is empty, or begins with a slash
abbrev pub is_below : List ℕ → Bool
is_below [] = true
is_below (b ∷ bs) = b == 47

-- The text, if it is empty or begins with a slash
abbrev pub below_path : List ℕ → Option (List ℕ)
below_path path = if is_below path then Some path else None

-- The rest of a name after that of the directory, if the rest is empty or begins with a slash
abbrev pub path_in : List ℕ → List ℕ → Option (List ℕ)
path_in folder name = if bytes_eq (take (length folder) name) folder
    then below_path (drop (length folder) name) else None

-- The other name of a place in the home directory: `home` for `~` and the reverse, with the same
-- path after it
abbrev pub other_home : List ℕ → Option (List ℕ)
other_home name =
    option_or (option_map (λ path. codes "home" ++ path) (path_in (codes "~") name))
    (option_map (λ path. codes "~" ++ path) (path_in (codes "home") name))

-- The note that a place has another name, if both are given as they are printed
unfoldable pub names_line : List ℕ → List ℕ → List ℕ
names_line name other = codes "fpk: " ++ (other
    ++ (codes " is another name of " ++ (name ++ codes ", and stays as it is\n")))

-- The note that a place has another name, with both names escaped
abbrev pub home_line : List ℕ → List ℕ → List ℕ
home_line name other = names_line (escaped name) (escaped other)

-- The note on a denied place of the home directory: the denial doesn't apply to its other name.
-- Empty for another mention.
abbrev pub home_note : PermList → Value → List ℕ → List ℕ
home_note lists.Filesystems values.Off name = option_map_or (home_line name) (other_home name) []
home_note _ value name = []

-- ---- notes

-- The note on a mention, by what `unknown_in` gives for its list
abbrev pub note_by : Option (List ℕ × List ℕ) → Mention → List ℕ
note_by None mention = home_note mention.permission.list mention.value mention.permission.name
note_by (Some kind) mention = unknown_note mention kind

-- The note on a mention, or nothing
abbrev pub note_of : Mention → List ℕ
note_of mention = note_by (unknown_in mention.permission.list) mention

-- The notes on the option in a word, one after another
abbrev pub notes_of : List ℕ → List ℕ
notes_of word = flat_map note_of (option_layer word)

-- The notes on words, one after another
abbrev pub notes : List (List ℕ) → List ℕ
notes words = flat_map notes_of words
