-- The reasons why words are of none of some forms: what is wrong with the words, and the usage of
-- the forms that they begin.
use Rattle.std.specs.Prelude.{ℕ, ◌-◌, List, [], ◌∷◌, ◌++◌, ◌==◌, ◌||◌, take, map, length, slice_get, slice_index_or, Bool, false, Option, Some, None, Result, Ok, Err, codes, decimal, flat_map, option_and_then, if◌then◌else◌}
use Rattle.std.specs.Option.{option_or, option_map_or, is_some, unwrap_or}
use Rattle.std.specs.Str.{bytes_eq}
use Rattle.std.specs.Str.Lossy.{utf8_lossy}
use Rattle.fp_name.specs.Grammar.{is_id}
use Rattle.fp_keyfile.specs.Lines.{lines_of, split_at}
use Rattle.fl_words.specs.declared.command.Change.{Change}
use Rattle.fl_words.specs.declared.forms.Form.{Form}
use Rattle.fl_words.specs.declared.limits.TheConstants.{CHANGES}
use Rattle.fl_words.specs.Forms.{Place, literal, pattern, remote, url, ref_name, app, app_id, type_string, permission, permissions, launch_options, filter_rules, from_app, app_count, forms, slots_of, fits, left_after, most, word_at}
use Rattle.fl_words.specs.Batch.{words_in, batch_of}
use Rattle.fl_lines.specs.Lines.{line, escaped}

-- ---- usage

-- The name of a place in usages
abbrev pub place_name : Place → List ℕ
place_name (literal w) = w
place_name pattern = codes "PATTERN"
place_name remote = codes "NAME"
place_name url = codes "URL"
place_name ref_name = codes "REF"
place_name app = codes "APP"
place_name app_id = codes "ID"
place_name type_string = codes "TYPE"
place_name permission = codes "OPTION"
place_name permissions = codes "[OPTION..]"
place_name launch_options = codes "[OPTION..]"
place_name filter_rules = codes "[RULE..]"
place_name from_app = codes "--from=APP"
place_name app_count = codes "COUNT"

-- A space and the name of the place
abbrev pub named_place : Place → List ℕ
named_place place = 32 ∷ place_name place

-- The usage of a form: the program, then the names of the form's places. The program is ` fpk` on a
-- command line and empty in a batch.
abbrev pub usage : List ℕ → Form → List ℕ
usage program form = line (codes "usage:" ++ (program ++ flat_map named_place (slots_of form)))

-- The places of the form that are left after the first `count` words took one each; None if one has
-- no place
abbrev pub places_left : List (List ℕ) → ℕ → Form → Option (List Place)
places_left words count form = left_after (slots_of form) (take count words)

-- Tests whether each of the first `count` words has a place in the form
abbrev pub begins : List (List ℕ) → ℕ → Form → Bool
begins words count form = is_some (places_left words count form)

-- The usage of the form, if the first `count` words begin it, or nothing
abbrev pub usage_begun : List ℕ → List (List ℕ) → ℕ → Form → List ℕ
usage_begun program words count form = if begins words count form then usage program form else []

-- The usages of those forms that the first `count` words begin
abbrev pub usages : List ℕ → List (List ℕ) → ℕ → List Form → List ℕ
usages program words count fs = flat_map (usage_begun program words count) fs

-- ---- what is wrong

-- The first place of a form that is left for the word at the index, if the words before it begin
-- the form
abbrev pub place_begun : List (List ℕ) → ℕ → Form → Option Place
place_begun words index form =
    option_and_then (λ left. slice_get left 0) (places_left words index form)

-- The first place that one of the forms, in order, has left for the word at the index
abbrev pub place_wanted : List (List ℕ) → ℕ → List Form → Option Place
place_wanted words index [] = None
place_wanted words index (form ∷ fs) =
    option_or (place_begun words index form) (place_wanted words index fs)

-- The part of a word before the first `=`, or the whole word if it has none
abbrev pub option_name : List ℕ → List ℕ
option_name word = option_map_or (λ parts. parts.0) (split_at 61 word) word

-- The text about what an option needs after its name; None if no option has the name. Four values
-- are tried, one for each kind of option.
abbrev pub need_named : Place → List ℕ → Option (List ℕ)
need_named place name =
    if fits place (name ++ codes "=a")
    then Some (codes "needs =X (one name without ;, = and !)")
    else (if fits place (name ++ codes "=a.b")
    then Some (codes "needs =N (a name on the bus, with a dot, as org.gnome.Shell)")
    else (if fits place (name ++ codes "=a=b")
    then Some (codes "needs =VAR=VALUE (as --env=LANG=C)")
    else (if fits place (name ++ codes "=a.b=*")
    then Some (codes "needs =N=RULE (as --call=org.gnome.Shell=*)") else None)))

-- The text about what the option in a word needs after its name; None if the place takes no such
-- option
abbrev pub need_at : Place → List ℕ → Option (List ℕ)
need_at permission word = need_named permission (option_name word)
need_at permissions word = need_named permissions (option_name word)
need_at launch_options word = need_named launch_options (option_name word)
need_at filter_rules word = need_named filter_rules (option_name word)
need_at _ word = None

-- The statement that the word isn't what the place takes
abbrev pub misfit_at : Place → List ℕ → List ℕ
misfit_at (literal w) word = codes "is not known here"
misfit_at pattern word = codes "is not a pattern (expected KIND/ID/ARCH/BRANCH)"
misfit_at remote word =
    codes "is not a name of a remote (expected letters, digits, _, - and ., as lab-1)"
misfit_at url word =
    codes "is not a URL of a remote (expected file:///PATH with no blank, as file:///srv/lab)"
misfit_at ref_name word = codes "is not a ref (expected KIND/ID/ARCH/BRANCH)"
misfit_at app word = codes "is not a ref of an application (expected app/ID/ARCH/BRANCH)"
misfit_at app_id word =
    codes "is not an ID of an application (expected three parts or more, as org.gnome.Calculator)"
misfit_at type_string word = codes "is not a type of GVariant"
misfit_at permission word = if is_id word
    then codes "is an ID, and stands after at least one option (as --share=network)"
    else codes "is not an option (as --share=network)"
misfit_at permissions word =
    codes "is neither an option (as --share=network) nor an ID (as org.gnome.Calculator)"
misfit_at launch_options word = codes "is not an option of a launch"
misfit_at filter_rules word = codes "is not a rule of the filter"
misfit_at from_app word = codes "is not --from=APP (expected --from=app/ID/ARCH/BRANCH)"
misfit_at app_count word = codes "is not a number from 1 to 64"

-- The fault of a word that doesn't fit its place, or that has no place
abbrev pub fault_at : Option Place → List ℕ → List ℕ
fault_at None word = codes "is one word too many"
fault_at (Some place) word = unwrap_or (need_at place word) (misfit_at place word)

-- The statement that a word is missing at the place
abbrev pub missing_at : Option Place → List ℕ
missing_at None = codes "a word is missing"
missing_at (Some (literal w)) = codes "a word is missing"
missing_at (Some place) = codes "missing " ++ place_name place

-- The word and what is wrong with it, or, without a word, what is missing
abbrev pub fault_text : Option (List ℕ) → Option Place → List ℕ
fault_text None place = missing_at place
fault_text (Some word) place = codes "'" ++ (escaped word ++ (codes "' " ++ fault_at place word))

-- The usages of the forms that the words before the index begin. At index 0 there are none, and the
-- line points to `fpk --help`.
abbrev pub forms_told : List ℕ → List (List ℕ) → ℕ → List Form → List ℕ
forms_told program words index fs =
    if index == 0 then codes "see fpk --help\n" else usages program words index fs

-- The line about the fault at the index, then the usages of the forms that the words before it
-- begin
abbrev pub why_at : ℕ → List ℕ → List Form → List (List ℕ) → List ℕ
why_at index program fs words = line
    (fault_text (slice_get words index) (place_wanted words index fs))
    ++ forms_told program words index fs

-- The reason why the words are of none of the forms: the line about the first word with which they
-- can't go on to be of one, or after the last word if they can; then the usages
abbrev pub why : List ℕ → List Form → List (List ℕ) → List ℕ
why program fs words = why_at (most words fs) program fs words

-- ---- the words of a command line

-- Tests whether the word asks for help: `--help`, `-h` or `help`
abbrev pub asks_help : List ℕ → Bool
asks_help word =
    bytes_eq word (codes "--help") || (bytes_eq word (codes "-h") || bytes_eq word (codes "help"))

-- The text that is printed for the words of a command line that are of none of the forms, given the
-- index of the first bad word. If that word asks for help, it is the usages alone.
abbrev pub said_at : ℕ → List Form → List (List ℕ) → List ℕ
said_at index fs words = if asks_help (word_at index words)
    then forms_told (codes " fpk") words index fs
    else codes "fpk: " ++ why_at index (codes " fpk") fs words

-- The text that is printed for the words of a command line that are of none of the forms
abbrev pub said : List Form → List (List ℕ) → List ℕ
said fs words = said_at (most words fs) fs words

-- The reason why the words of a command line are no command. The word that is named is the one at
-- the index of `BadWords`.
abbrev pub reason_text : List (List ℕ) → List ℕ
reason_text words = said forms words

-- ---- a line of a batch

-- The forms that ask for a `Change`: the first CHANGES of all forms
abbrev pub change_forms : List Form
change_forms = take CHANGES forms

-- The words of a line. Bytes that are no UTF-8 are replaced.
abbrev pub words_shown : List ℕ → List (List ℕ)
words_shown line = map utf8_lossy (words_in line)

-- The reason why the line with this number asks for no change
abbrev pub line_reason : ℕ → List ℕ → List ℕ
line_reason number line =
    codes "fpk: line " ++ (decimal number ++ (codes ": " ++ why [] change_forms (words_shown line)))

-- The reason why the line with the number asks for no change; None for a good batch
abbrev pub batch_reason_by : Result (List Change) ℕ → List (List ℕ) → Option (List ℕ)
batch_reason_by (Ok changes) lines = None
batch_reason_by (Err number) lines =
    Some (line_reason number (slice_index_or lines (number - 1) []))

-- The reason why the first bad line of a batch asks for no change; None if each line asks for one
abbrev pub batch_reason_text : List ℕ → Option (List ℕ)
batch_reason_text bytes = batch_reason_by (batch_of bytes) (lines_of bytes)
