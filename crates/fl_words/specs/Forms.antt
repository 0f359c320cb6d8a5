-- The forms of command lines. The row of a form is the list of its places. A place takes one word,
-- or any number of words.
use Rattle.std.specs.Prelude.{ℕ, ◌+◌, ◌-◌, ◌&&◌, List, [], ◌∷◌, length, max, take, drop, slice_index_or, Bool, true, false, Option, Some, None, option_and_then, codes, if◌then◌else◌}
use Rattle.std.specs.List.{find, list_all}
use Rattle.std.specs.Option.{option_map, option_map_or, is_some}
use Rattle.std.specs.Str.{bytes_eq}
use Rattle.fp_name.specs.Grammar.{is_remote_name, is_url, is_id}
use Rattle.fp_name.specs.Pins.{is_pin, is_app}
use Rattle.fp_name.specs.Refs.{Ref, ref_of, ref_at}
use Rattle.fp_small.specs.declared.state.RemoteRow.{RemoteRow}
use Rattle.fl_options.specs.Options.{is_option, is_launch_option}
use Rattle.fl_options.specs.Rules.{is_rule}
use Rattle.fl_words.specs.declared.command.Command.{Command}
use Rattle.fl_words.specs.declared.command.Command.TheVariants.{Change as Changing, List as Listed, Show as Showing, Filter as Filtering, Batch as Batched, Fsck as Checked, Export as Exporting, Exercise as Exercising}
use Rattle.fl_words.specs.declared.command.PolicySource.TheVariants as sources
use Rattle.fl_words.specs.declared.command.Change.TheVariants as changes
use Rattle.fl_words.specs.declared.command.Listing.TheVariants as listings
use Rattle.fl_words.specs.declared.command.Shown.TheVariants as things
use Rattle.fl_words.specs.declared.forms.Slot.{Slot}
use Rattle.fl_words.specs.declared.forms.Slot.TheVariants as slots
use Rattle.fl_words.specs.declared.forms.Form.{Form}
use Rattle.fl_words.specs.declared.forms.Form.TheVariants.{Pin, Unpin, RemoteAdd, RemoteModify, RemoteDelete, Install, UpdateAll, UpdateOne, Uninstall, UninstallUnused, Rollback, Override, OverrideApp, OverrideReset, OverrideResetApp, ListRefs, ListRemotes, ListPins, ListExports, Info, Launch, OverrideShow, OverrideShowApp, Filter, FilterFrom, FilterSystemFrom, Batch, Fsck, Export, Exercise, ShowCommit, ShowDirTree, ShowDirMeta, ShowValue}
use Rattle.fl_words.specs.Types.{is_type_text}
use Rattle.fl_words.specs.Counts.{count_at, is_count_text}

-- ---- places

-- A place of a form, by the words that it takes: this word alone, the pattern of a pin, the name or
-- the URL of a remote, a ref, a ref of an application, an application's ID, a GVariant type string,
-- an option that changes permissions, any number of those, any number of options of a launch or of
-- filter rules, `--from=` and a ref of an application, or the number of an exercise's applications
pub data Place : Type 0 where
  literal : List ℕ → Place
  pattern : Place
  remote : Place
  url : Place
  ref_name : Place
  app : Place
  app_id : Place
  type_string : Place
  permission : Place
  permissions : Place
  launch_options : Place
  filter_rules : Place
  from_app : Place
  app_count : Place

-- The place that a value of `Slot` in the code stands for
abbrev pub place_of : Slot → Place
place_of (slots.Word text) = literal text.now
place_of slots.Pattern = pattern
place_of slots.Remote = remote
place_of slots.Url = url
place_of slots.Ref = ref_name
place_of slots.App = app
place_of slots.Id = app_id
place_of slots.Type = type_string
place_of slots.Permission = permission
place_of slots.Permissions = permissions
place_of slots.LaunchOptions = launch_options
place_of slots.Rules = filter_rules
place_of slots.FromApp = from_app
place_of slots.Count = app_count

-- Tests whether the text is that of a ref of an application
abbrev pub is_app_text : List ℕ → Bool
is_app_text text = option_map_or is_app (ref_of text) false

-- Tests whether the text may be at the place
abbrev pub fits : Place → List ℕ → Bool
fits (literal w) text = bytes_eq text w
fits pattern text = is_pin text
fits remote text = is_remote_name text
fits url text = is_url text
fits ref_name text = is_some (ref_of text)
fits app text = is_app_text text
fits app_id text = is_id text
fits type_string text = is_type_text text
fits permission text = is_option text
fits permissions text = is_option text
fits launch_options text = is_launch_option text
fits filter_rules text = is_rule text
fits from_app text = bytes_eq (take 7 text) (codes "--from=") && is_app_text (drop 7 text)
fits app_count text = is_count_text text

-- Tests whether the place takes any number of words
abbrev pub repeats : Place → Bool
repeats permissions = true
repeats launch_options = true
repeats filter_rules = true
repeats _ = false

-- ---- the table

-- All forms, in the order in which they are tried
abbrev pub forms : List Form
forms =
    Pin ∷ Unpin ∷ RemoteAdd ∷ RemoteModify ∷ RemoteDelete
    ∷ Install ∷ UpdateAll ∷ UpdateOne ∷ Uninstall ∷ UninstallUnused ∷ Rollback
    ∷ Override ∷ OverrideApp ∷ OverrideReset ∷ OverrideResetApp
    ∷ ListRefs ∷ ListRemotes ∷ ListPins ∷ ListExports ∷ Info ∷ Launch ∷ OverrideShow
    ∷ OverrideShowApp
    ∷ Filter ∷ FilterFrom ∷ FilterSystemFrom ∷ Batch ∷ Fsck ∷ Export ∷ Exercise
    ∷ ShowCommit ∷ ShowDirTree ∷ ShowDirMeta ∷ ShowValue ∷ []

-- The places of each form, in the order of the words
abbrev pub slots_of : Form → List Place
slots_of Pin = literal (codes "pin") ∷ pattern ∷ []
slots_of Unpin = literal (codes "unpin") ∷ pattern ∷ []
slots_of RemoteAdd = literal (codes "remote-add") ∷ remote ∷ url ∷ []
slots_of RemoteModify = literal (codes "remote-modify") ∷ remote ∷ url ∷ []
slots_of RemoteDelete = literal (codes "remote-delete") ∷ remote ∷ []
slots_of Install = literal (codes "install") ∷ remote ∷ ref_name ∷ []
slots_of UpdateAll = literal (codes "update") ∷ []
slots_of UpdateOne = literal (codes "update") ∷ ref_name ∷ []
slots_of Uninstall = literal (codes "uninstall") ∷ ref_name ∷ []
slots_of UninstallUnused = literal (codes "uninstall") ∷ literal (codes "--unused") ∷ []
slots_of Rollback = literal (codes "rollback") ∷ ref_name ∷ []
slots_of Override = literal (codes "override") ∷ permission ∷ permissions ∷ []
slots_of OverrideApp = literal (codes "override") ∷ permission ∷ permissions ∷ app_id ∷ []
slots_of OverrideReset = literal (codes "override") ∷ literal (codes "--reset") ∷ []
slots_of OverrideResetApp = literal (codes "override") ∷ literal (codes "--reset") ∷ app_id ∷ []
slots_of ListRefs = literal (codes "list") ∷ []
slots_of ListRemotes = literal (codes "list") ∷ literal (codes "--remotes") ∷ []
slots_of ListPins = literal (codes "list") ∷ literal (codes "--pins") ∷ []
slots_of ListExports = literal (codes "list") ∷ literal (codes "--exports") ∷ []
slots_of Info = literal (codes "info") ∷ ref_name ∷ []
slots_of Launch = literal (codes "launch") ∷ app ∷ launch_options ∷ []
slots_of OverrideShow = literal (codes "override") ∷ literal (codes "--show") ∷ []
slots_of OverrideShowApp = literal (codes "override") ∷ literal (codes "--show") ∷ app_id ∷ []
slots_of Filter = literal (codes "filter") ∷ filter_rules ∷ []
slots_of FilterFrom = literal (codes "filter") ∷ from_app ∷ []
slots_of FilterSystemFrom = literal (codes "filter") ∷ literal (codes "--system") ∷ from_app ∷ []
slots_of Batch = literal (codes "batch") ∷ []
slots_of Fsck = literal (codes "fsck") ∷ []
slots_of Export = literal (codes "export") ∷ remote ∷ ref_name ∷ []
slots_of Exercise = literal (codes "exercise") ∷ app_count ∷ []
slots_of ShowCommit = literal (codes "show") ∷ literal (codes "commit") ∷ []
slots_of ShowDirTree = literal (codes "show") ∷ literal (codes "dirtree") ∷ []
slots_of ShowDirMeta = literal (codes "show") ∷ literal (codes "dirmeta") ∷ []
slots_of ShowValue = literal (codes "show") ∷ literal (codes "value") ∷ type_string ∷ []

-- The word at index i, from 0; the empty word if there is none
abbrev pub word_at : ℕ → List (List ℕ) → List ℕ
word_at i words = slice_index_or words i []

-- The remote whose name is the second word and whose URL is the third
abbrev pub remote_in : List (List ℕ) → RemoteRow
remote_in words = record { name = word_at 1 words; url = word_at 2 words }

-- The index of the last word
abbrev pub last_place : List (List ℕ) → ℕ
last_place words = length words - 1

-- The command that words of the form ask for
abbrev pub form_command : Form → List (List ℕ) → Command
form_command Pin words = Changing (changes.Pin (word_at 1 words))
form_command Unpin words = Changing (changes.Unpin (word_at 1 words))
form_command RemoteAdd words = Changing (changes.RemoteAdd (remote_in words))
form_command RemoteModify words = Changing (changes.RemoteModify (remote_in words))
form_command RemoteDelete words = Changing (changes.RemoteDelete (word_at 1 words))
form_command Install words = Changing (changes.Install (word_at 1 words) (ref_at (word_at 2 words)))
form_command UpdateAll words = Changing changes.UpdateAll
form_command UpdateOne words = Changing (changes.UpdateOne (ref_at (word_at 1 words)))
form_command Uninstall words = Changing (changes.Uninstall (ref_at (word_at 1 words)))
form_command UninstallUnused words = Changing changes.UninstallUnused
form_command Rollback words = Changing (changes.Rollback (ref_at (word_at 1 words)))
form_command Override words = Changing (changes.OverrideChange (codes "global") (drop 1 words))
form_command OverrideApp words = Changing
    (changes.OverrideChange (word_at (last_place words) words)
    (drop 1 (take (last_place words) words)))
form_command OverrideReset words = Changing (changes.OverrideReset (codes "global"))
form_command OverrideResetApp words = Changing (changes.OverrideReset (word_at 2 words))
form_command ListRefs words = Listed listings.Refs
form_command ListRemotes words = Listed listings.Remotes
form_command ListPins words = Listed listings.Pins
form_command ListExports words = Listed listings.Exports
form_command Info words = Listed (listings.Info (ref_at (word_at 1 words)))
form_command Launch words = Listed (listings.Launch (ref_at (word_at 1 words)) (drop 2 words))
form_command OverrideShow words = Listed (listings.OverrideShow (codes "global"))
form_command OverrideShowApp words = Listed (listings.OverrideShow (word_at 2 words))
form_command Filter words = Filtering (sources.Rules (drop 1 words))
form_command FilterFrom words = Filtering (sources.Session (ref_at (drop 7 (word_at 1 words))))
form_command FilterSystemFrom words = Filtering (sources.System (ref_at (drop 7 (word_at 2 words))))
form_command Batch words = Batched
form_command Fsck words = Checked
form_command Export words = Exporting (word_at 1 words) (ref_at (word_at 2 words))
form_command Exercise words = Exercising (count_at (word_at 1 words))
form_command ShowCommit words = Showing things.Commit
form_command ShowDirTree words = Showing things.DirTree
form_command ShowDirMeta words = Showing things.DirMeta
form_command ShowValue words = Showing (things.Value (word_at 2 words))

-- ---- words in a form

-- The places that are left after a word took one. The word takes the first place that it fits, but
-- may skip only places that take any number of words. Such a place stays after a word that fits it.
abbrev pub left_after_word : List Place → List ℕ → Option (List Place)
left_after_word [] text = None
left_after_word (place ∷ places) text =
    if fits place text then Some (if repeats place then place ∷ places else places)
    else (if repeats place then left_after_word places text else None)

-- The places that are left after each of the words took one; None if one has no place
abbrev pub left_after : List Place → List (List ℕ) → Option (List Place)
left_after places [] = Some places
left_after places (text ∷ words) =
    option_and_then (λ left. left_after left words) (left_after_word places text)

-- Tests whether the words are of the form: each has a place, and no place that needs a word is left
abbrev pub reads : List (List ℕ) → Form → Bool
reads words form = option_map_or (list_all repeats) (left_after (slots_of form) words) false

-- The command that the words of a command line ask for, by the first form that they are of
abbrev pub command_of : List (List ℕ) → Option Command
command_of words = option_map (λ form. form_command form words) (find (reads words) forms)

-- ---- where words go wrong

-- The number of words, from the first on, that have places
abbrev pub reach : List Place → List (List ℕ) → ℕ
reach places [] = 0
reach places (text ∷ words) =
    option_map_or (λ left. reach left words + 1) (left_after_word places text) 0

-- The greatest number of words, from the first on, that have places in one of the forms
abbrev pub most : List (List ℕ) → List Form → ℕ
most words [] = 0
most words (form ∷ more) = max (reach (slots_of form) words) (most words more)

-- The index of the first bad word: the greatest number of words that begin one of all forms. It is
-- the least i such that the first i + 1 words begin no form, or the number of words.
abbrev pub bad_index : List (List ℕ) → ℕ
bad_index words = most words forms
