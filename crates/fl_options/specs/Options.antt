-- Options that change permissions, after flatpak-override(1), written `NAME=REST`. An option stands
-- for a key file of two lines, a group and a pair. It mentions what an override with these lines
-- mentions.
use Rattle.std.specs.Prelude.{◌≡◌, ℕ, Bool, true, false, not, ◌&&◌, ◌||◌, ◌==◌, List, [], ◌∷◌, ◌++◌, length, codes, Option, Some, None, option_and_then, Result, Ok, Err, if◌then◌else◌}
use Rattle.std.specs.List.{list_any, flat_map}
use Rattle.std.specs.Option.{option_or, option_map_or, is_some}
use Rattle.std.specs.Str.{bytes_eq, is_utf8}
use Rattle.fp_name.specs.Grammar.{is_element}
use Rattle.fp_keyfile.specs.declared.group.Group.{Group}
use Rattle.fp_keyfile.specs.declared.fault.KeyFault.{KeyFault}
use Rattle.fp_keyfile.specs.Grammar.{is_blank, begins_so}
use Rattle.fp_base.specs.Parts.{is_control}
use Rattle.fp_keyfile.specs.KeyFile.{file_of, is_good}
use Rattle.fp_keyfile.specs.Lines.{split_at}
use Rattle.fl_meta.specs.declared.permission.PermList.{PermList}
use Rattle.fl_meta.specs.declared.permission.PermList.TheVariants as lists
use Rattle.fl_meta.specs.declared.permission.Value.{Value}
use Rattle.fl_meta.specs.declared.permission.Value.TheVariants as values
use Rattle.fl_meta.specs.declared.permission.Mention.{Mention}
use Rattle.fl_meta.specs.declared.mentions.Source.TheVariants as sources
use Rattle.fl_meta.specs.Mentions.{file_mentions}
use Rattle.fl_meta.specs.Names.{is_among, key_of, word_of}
use Rattle.fl_meta.specs.Patterns.{is_pattern}

-- ---- the text after the name

-- Tests whether a byte is `;`, `=` or a control character, which the name of a permission can't
-- have
abbrev pub is_barred : ℕ → Bool
is_barred b = is_control b || (b == 59 || b == 61)

-- Tests whether a byte is `!`, a space or a tab, with which the name of a permission can't begin
abbrev pub is_lead : ℕ → Bool
is_lead b = is_blank b || b == 33

-- Tests whether the text may name a permission: it isn't empty, has no barred byte, and doesn't
-- begin with `!`, a space or a tab
unfoldable pub is_given : List ℕ → Bool
is_given text =
    not (length text == 0) && (not (list_any is_barred text) && not (begins_so is_lead text))

-- Tests whether the text may be the value of a variable: it has no control character, and doesn't
-- begin with a space or a tab
abbrev pub is_text : List ℕ → Bool
is_text text = not (list_any is_control text) && not (begins_so is_blank text)

-- Tests whether the parts are the name of a variable and its value. The name begins with a letter
-- or `_`, and goes on with letters, digits and `_`.
abbrev pub are_variable : Option (List ℕ × List ℕ) → Bool
are_variable None = false
are_variable (Some parts) = is_element parts.0 && is_text parts.1

-- Tests whether the text is the name of a variable, `=` and its value
unfoldable pub is_variable : List ℕ → Bool
is_variable text = are_variable (split_at 61 text)

-- ---- the names

-- The list of the group `Context` to which the option of this name adds
abbrev pub granted_list : List ℕ → Option PermList
granted_list name =
    if bytes_eq name (codes "--share") then Some lists.Shared
    else (if bytes_eq name (codes "--socket") then Some lists.Sockets
    else (if bytes_eq name (codes "--device") then Some lists.Devices
    else (if bytes_eq name (codes "--allow") then Some lists.Features
    else (if bytes_eq name (codes "--filesystem") then Some lists.Filesystems
    else (if bytes_eq name (codes "--persist") then Some lists.Persistent else None)))))

-- The list of the group `Context` in which the option of this name denies an entry
abbrev pub denied_list : List ℕ → Option PermList
denied_list name =
    if bytes_eq name (codes "--unshare") then Some lists.Shared
    else (if bytes_eq name (codes "--nosocket") then Some lists.Sockets
    else (if bytes_eq name (codes "--nodevice") then Some lists.Devices
    else (if bytes_eq name (codes "--disallow") then Some lists.Features
    else (if bytes_eq name (codes "--nofilesystem") then Some lists.Filesystems else None))))

-- The group of the bus policy that the option of this name changes
abbrev pub bus_group : List ℕ → Option (List ℕ)
bus_group name =
    if is_among (codes "--talk-name" ∷ codes "--own-name" ∷ codes "--no-talk-name" ∷ []) name
    then Some (codes "Session Bus Policy")
    else (if is_among (codes "--system-talk-name" ∷ codes "--system-own-name"
    ∷ codes "--system-no-talk-name" ∷ []) name then Some (codes "System Bus Policy") else None)

-- The level that the option of this name gives in a bus policy
abbrev pub bus_level : List ℕ → Value
bus_level name =
    if is_among (codes "--talk-name" ∷ codes "--system-talk-name" ∷ []) name then values.Talk
    else (if is_among (codes "--own-name" ∷ codes "--system-own-name" ∷ []) name then values.Own
    else values.NoBus)

-- ---- the two lines

-- The lines of an entry of a list, after the mark `=` or `=!`; None if the name is bad
abbrev pub list_lines : Option PermList → List ℕ → List ℕ → Option (List ℕ)
list_lines None mark name = None
list_lines (Some list) mark name =
    if is_given name then Some (codes "[Context]\n" ++ (key_of list ++ (mark ++ name))) else None

-- The lines of a pattern of bus names and its level; None if the pattern is bad
abbrev pub bus_lines : Option (List ℕ) → Value → List ℕ → Option (List ℕ)
bus_lines None level pattern = None
bus_lines (Some group) level pattern = if is_pattern pattern
    then Some (codes "[" ++ (group ++ (codes "]\n" ++ (pattern ++ (codes "=" ++ word_of level)))))
    else None

-- The lines of `--env=VAR=VALUE`; None for another option, or a bad variable
abbrev pub variable_lines : List ℕ → List ℕ → Option (List ℕ)
variable_lines name text = if bytes_eq name (codes "--env") && is_variable text
    then Some (codes "[Environment]\n" ++ text) else None

-- The two lines of the option of this name, if the text may follow its `=`
unfoldable pub lines_with : List ℕ → List ℕ → Option (List ℕ)
lines_with name text =
    option_or (list_lines (granted_list name) (codes "=") text)
    (option_or (list_lines (denied_list name) (codes "=!") text)
    (option_or (bus_lines (bus_group name) (bus_level name) text) (variable_lines name text)))

-- The two lines of the option with this name and this text after its `=`
abbrev pub lines_of_parts : List ℕ × List ℕ → Option (List ℕ)
lines_of_parts parts = lines_with parts.0 parts.1

-- The two lines of a word, which is cut at its first `=`; None if it is no UTF-8
unfoldable pub option_lines : List ℕ → Option (List ℕ)
option_lines word = if is_utf8 word then option_and_then lines_of_parts (split_at 61 word) else None

-- ---- what it mentions

-- The mentions of an override, given the result of reading its file; none if it is no key file
abbrev pub mentions_read : Result (List Group) KeyFault → List Mention
mentions_read (Ok file) = file_mentions sources.Override file
mentions_read (Err fault) = []

-- The mentions of an override with this text; none if it is no key file
abbrev pub text_mentions : List ℕ → List Mention
text_mentions text = mentions_read (file_of text)

-- The mentions of a word as an option; none if it is no option
unfoldable pub option_layer : List ℕ → List Mention
option_layer word = option_map_or text_mentions (option_lines word) []

-- Tests whether the word is an option: it mentions something. A filesystem that is only an ending
-- has no name, and is no option.
abbrev pub is_option : List ℕ → Bool
is_option word = not (length (option_layer word) == 0)

-- Some override that can be written mentions these
pub record IsOfFile (mentions : List Mention) : Type 0 where
  pub file : List Group
  pub good : is_good file ≡ true
  pub mentioned : mentions ≡ file_mentions sources.Override file

-- The mentions of words as options, one after another
abbrev pub layer_of : List (List ℕ) → List Mention
layer_of words = flat_map option_layer words

-- ---- the command of a launch

-- The command that `--command=X` names, given its name and its text
abbrev pub command_in : List ℕ × List ℕ → Option (List ℕ)
command_in parts =
    if bytes_eq parts.0 (codes "--command") && is_given parts.1 then Some parts.1 else None

-- The command that the word `--command=X` names; None for another word, and if it is no UTF-8
unfoldable pub command_option : List ℕ → Option (List ℕ)
command_option word = if is_utf8 word then option_and_then command_in (split_at 61 word) else None

-- Tests whether the word is an option of a launch: one that changes permissions, or `--command=X`
abbrev pub is_launch_option : List ℕ → Bool
is_launch_option word = is_option word || is_some (command_option word)

-- The last command that the words name, or the one before them if they name none
abbrev pub command_after : Option (List ℕ) → List (List ℕ) → Option (List ℕ)
command_after before [] = before
command_after before (word ∷ words) = command_after (option_or (command_option word) before) words

-- The last command that the words name
abbrev pub last_command : List (List ℕ) → Option (List ℕ)
last_command words = command_after None words
