-- Rewriting of desktop files for export.
use Rattle.std.specs.Prelude.{ℕ, Bool, ◌||◌, ◌&&◌, ◌==◌, not, List, [], ◌∷◌, ◌++◌, length, map, codes, Option, Some, None, Result, Ok, Err, if◌then◌else◌}
use Rattle.std.specs.List.{before_first, flat_map, list_all}
use Rattle.std.specs.Char.{is_ascii_alphanumeric}
use Rattle.std.specs.Str.{bytes_eq}
use Rattle.fp_name.specs.Refs.{Ref, ref_text}
use Rattle.fp_keyfile.specs.declared.group.Pair.{Pair}
use Rattle.fp_keyfile.specs.declared.group.Group.{Group}
use Rattle.fp_keyfile.specs.declared.fault.KeyFault.{KeyFault}
use Rattle.fp_keyfile.specs.KeyFile.{file_of, text_of}
use Rattle.fl_export.specs.Keys.{is_left_out}

-- The text before the first space, or all of it if there is none
abbrev pub first_word : List ℕ → List ℕ
first_word value = before_first (λ c. c == 32) value

-- Tests whether a byte may be in a command that is handed on: an ASCII letter, a digit, or one of
-- `-`, `_`, `.`, `/` and `+`
abbrev pub is_command_byte : ℕ → Bool
is_command_byte c = is_ascii_alphanumeric c || c == 45 || c == 95 || c == 46 || c == 47 || c == 43

-- Tests whether a word is handed on as a command: it isn't empty, and a desktop reads it as this
-- one word
abbrev pub is_command : List ℕ → Bool
is_command word = not (length word == 0) && list_all is_command_byte word

-- The option that hands the word on as the command; empty if the word isn't handed on
abbrev pub command_option : List ℕ → List ℕ
command_option word = if is_command word then codes " --command=" ++ word else []

-- The new value of `Exec`: `fpk launch REF --command=WORD`, where WORD is the first word of the old
-- value
abbrev pub launch_line : Ref → List ℕ → List ℕ
launch_line name value = codes "fpk launch " ++ (ref_text name ++ command_option (first_word value))

-- The pair; if its key is `Exec`, with the launch of the application as its value
abbrev pub launching : Ref → Pair → Pair
launching name p =
    if bytes_eq p.key (codes "Exec") then record p { value = launch_line name p.value } else p

-- The pair as it is exported; empty if it is left out
abbrev pub rewritten_pair : Ref → Pair → List Pair
rewritten_pair name p = if is_left_out p.key then [] else launching name p ∷ []

-- The group as it is exported
abbrev pub rewritten_group : Ref → Group → Group
rewritten_group name g = record g { pairs = flat_map (rewritten_pair name) g.pairs }

-- The groups as they are exported
abbrev pub rewritten_file : Ref → List Group → List Group
rewritten_file name file = map (rewritten_group name) file

-- The exported text of a parsed desktop file; none if it didn't parse
abbrev pub text_by : Ref → Result (List Group) KeyFault → Option (List ℕ)
text_by name (Ok file) = Some (text_of (rewritten_file name file))
text_by name (Err fault) = None

-- The exported text of a desktop file; none if the bytes aren't a key file
unfoldable pub rewritten : List ℕ → Ref → Option (List ℕ)
rewritten bytes name = text_by name (file_of bytes)
