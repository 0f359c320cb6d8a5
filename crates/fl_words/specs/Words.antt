-- The words of each command, and the kind of its work.
use Rattle.std.specs.Prelude.{ℕ, List, [], ◌∷◌, ◌++◌, ◌&&◌, Bool, true, false, IsSome, codes, decimal, if◌then◌else◌}
use Rattle.std.specs.List.{list_all}
use Rattle.std.specs.Str.{bytes_eq}
use Rattle.fp_name.specs.Refs.{Ref, is_ref, ref_text}
use Rattle.fl_words.specs.declared.command.Command.{Command}
use Rattle.fl_words.specs.declared.command.Command.TheVariants.{Change as Changing, List as Listed, Show as Showing, Filter, Batch, Fsck, Export, Exercise}
use Rattle.fl_words.specs.declared.command.Change.{Change}
use Rattle.fl_words.specs.declared.command.Change.TheVariants.{Pin, Unpin, RemoteAdd, RemoteModify, RemoteDelete, Install, UpdateAll, UpdateOne, Uninstall, UninstallUnused, Rollback, OverrideChange, OverrideReset}
use Rattle.fl_words.specs.declared.command.Listing.{Listing}
use Rattle.fl_words.specs.declared.command.Listing.TheVariants.{Refs, Remotes, Pins, Exports, Info, Launch, OverrideShow}
use Rattle.fl_words.specs.declared.command.PolicySource.{PolicySource}
use Rattle.fl_words.specs.declared.command.PolicySource.TheVariants.{Rules, Session, System}
use Rattle.fl_words.specs.declared.command.Shown.{Shown}
use Rattle.fl_words.specs.declared.command.Shown.TheVariants.{Commit, DirTree, DirMeta, Value}
use Rattle.fl_options.specs.Options.{is_option}
use Rattle.fl_words.specs.Forms.{Place, pattern, remote, url, type_string, launch_options, filter_rules, fits, command_of}
use Rattle.fp_name.specs.Pins.{is_app}
use Rattle.fp_name.specs.Grammar.{is_override}
use Rattle.fl_words.specs.Counts.{is_app_count}

-- The word for the override of this name. There is none for the override for all applications.
abbrev pub override_word : List ℕ → List (List ℕ)
override_word name = if bytes_eq name (codes "global") then [] else name ∷ []

-- The word that takes the policy from the grants of an application
abbrev pub from_word : Ref → List ℕ
from_word name = codes "--from=" ++ ref_text name

-- ---- the words of commands

-- The words of a command at one place of its form, or at two adjacent places: the form's own word,
-- a text that the place takes, any number of such texts, one or more options that change
-- permissions, a ref, a ref of an application, the application whose grants are the policy, the
-- name of an override, or the number of an exercise's applications
pub data Filling : Type 0 where
  own : List ℕ → Filling
  one_text : Place → List ℕ → Filling
  many_texts : Place → List (List ℕ) → Filling
  some_options : List (List ℕ) → Filling
  any_ref : Ref → Filling
  app_ref : Ref → Filling
  policy_app : Ref → Filling
  override_name : List ℕ → Filling
  apps_number : ℕ → Filling

-- The words of a filling
abbrev pub filling_words : Filling → List (List ℕ)
filling_words (own word) = word ∷ []
filling_words (one_text place text) = text ∷ []
filling_words (many_texts place texts) = texts
filling_words (some_options options) = options
filling_words (any_ref name) = ref_text name ∷ []
filling_words (app_ref name) = ref_text name ∷ []
filling_words (policy_app name) = from_word name ∷ []
filling_words (override_name name) = override_word name
filling_words (apps_number apps) = decimal apps ∷ []

-- Tests whether the words are options that change permissions, at least one
abbrev pub are_options : List (List ℕ) → Bool
are_options [] = false
are_options words = list_all is_option words

-- Tests whether the filling is valid, as each is of a command that is read from words
abbrev pub is_filled : Filling → Bool
is_filled (own word) = true
is_filled (one_text place text) = fits place text
is_filled (many_texts place texts) = list_all (fits place) texts
is_filled (some_options options) = are_options options
is_filled (any_ref name) = is_ref name
is_filled (app_ref name) = is_ref name && is_app name
is_filled (policy_app name) = is_ref name && is_app name
is_filled (override_name name) = is_override name
is_filled (apps_number apps) = is_app_count apps

-- The fillings of the places of the form of a change
abbrev pub change_fillings : Change → List Filling
change_fillings (Pin p) = own (codes "pin") ∷ one_text pattern p ∷ []
change_fillings (Unpin p) = own (codes "unpin") ∷ one_text pattern p ∷ []
change_fillings (RemoteAdd row) =
    own (codes "remote-add") ∷ one_text remote row.name ∷ one_text url row.url ∷ []
change_fillings (RemoteModify row) =
    own (codes "remote-modify") ∷ one_text remote row.name ∷ one_text url row.url ∷ []
change_fillings (RemoteDelete name) = own (codes "remote-delete") ∷ one_text remote name ∷ []
change_fillings (Install origin name) =
    own (codes "install") ∷ one_text remote origin ∷ any_ref name ∷ []
change_fillings UpdateAll = own (codes "update") ∷ []
change_fillings (UpdateOne name) = own (codes "update") ∷ any_ref name ∷ []
change_fillings (Uninstall name) = own (codes "uninstall") ∷ any_ref name ∷ []
change_fillings UninstallUnused = own (codes "uninstall") ∷ own (codes "--unused") ∷ []
change_fillings (Rollback name) = own (codes "rollback") ∷ any_ref name ∷ []
change_fillings (OverrideChange name options) =
    own (codes "override") ∷ some_options options ∷ override_name name ∷ []
change_fillings (OverrideReset name) =
    own (codes "override") ∷ own (codes "--reset") ∷ override_name name ∷ []

-- The fillings of the places of the form of a listing
abbrev pub listing_fillings : Listing → List Filling
listing_fillings Refs = own (codes "list") ∷ []
listing_fillings Remotes = own (codes "list") ∷ own (codes "--remotes") ∷ []
listing_fillings Pins = own (codes "list") ∷ own (codes "--pins") ∷ []
listing_fillings Exports = own (codes "list") ∷ own (codes "--exports") ∷ []
listing_fillings (Info name) = own (codes "info") ∷ any_ref name ∷ []
listing_fillings (Launch name options) =
    own (codes "launch") ∷ app_ref name ∷ many_texts launch_options options ∷ []
listing_fillings (OverrideShow name) =
    own (codes "override") ∷ own (codes "--show") ∷ override_name name ∷ []

-- The fillings of the places of the form of `filter`
abbrev pub source_fillings : PolicySource → List Filling
source_fillings (Rules rules) = own (codes "filter") ∷ many_texts filter_rules rules ∷ []
source_fillings (Session name) = own (codes "filter") ∷ policy_app name ∷ []
source_fillings (System name) =
    own (codes "filter") ∷ own (codes "--system") ∷ policy_app name ∷ []

-- The fillings of the places of the form of `show`
abbrev pub shown_fillings : Shown → List Filling
shown_fillings Commit = own (codes "show") ∷ own (codes "commit") ∷ []
shown_fillings DirTree = own (codes "show") ∷ own (codes "dirtree") ∷ []
shown_fillings DirMeta = own (codes "show") ∷ own (codes "dirmeta") ∷ []
shown_fillings (Value of) =
    own (codes "show") ∷ own (codes "value") ∷ one_text type_string of ∷ []

-- ---- the table of commands: words and kind of work of each

-- The kind of a command's work
pub data Work : Type 0 where
  -- Changing the installation's state. The change may depend on what the remotes hold: those of the
  -- installation, or those that are generated for an exercise.
  altering : Work
  -- Printing something of the installation or of the input, without changing anything
  looking : Work
  -- Checking each object of the store and printing what is wrong, without changing anything
  checking : Work
  -- Exporting: making a remote of this name that offers this ref
  making : List ℕ → Ref → Work

-- A row of the table of commands: what fills the places of its form, the kind of its work, and
-- whether it reads the input
pub record CommandRow : Type 0 where
  pub fillings : List Filling
  pub work : Work
  pub reads_input : Bool

-- The row with these fields
abbrev pub command_row : List Filling → Work → Bool → CommandRow
command_row fillings work reads = record { fillings = fillings; work = work; reads_input = reads }

-- The row of each command
abbrev pub row_of : Command → CommandRow
row_of (Changing change) = command_row (change_fillings change) altering false
row_of (Listed listing) = command_row (listing_fillings listing) looking false
row_of (Showing thing) = command_row (shown_fillings thing) looking true
row_of (Filter source) = command_row (source_fillings source) looking true
row_of Batch = command_row (own (codes "batch") ∷ []) altering true
row_of Fsck = command_row (own (codes "fsck") ∷ []) checking false
row_of (Export origin name) =
    command_row (own (codes "export") ∷ one_text remote origin ∷ any_ref name ∷ [])
    (making origin name) true
row_of (Exercise apps) =
    command_row (own (codes "exercise") ∷ apps_number apps ∷ []) altering false

-- ---- what follows from it

-- The words of some fillings, in order
abbrev pub filled_words : List Filling → List (List ℕ)
filled_words [] = []
filled_words (filling ∷ fillings) = filling_words filling ++ filled_words fillings

-- The words of a command
abbrev pub words_of : Command → List (List ℕ)
words_of command = filled_words (row_of command).fillings

-- Tests whether the patterns, names, refs, URLs, options and rules of the command are valid, as
-- they are of each command that is read from words
abbrev pub is_command : Command → Bool
is_command command = list_all is_filled (row_of command).fillings

-- Tests whether the patterns, names, refs, URLs and options of the change are valid
abbrev pub is_change : Change → Bool
is_change change = is_command (Changing change)

-- The kind of a command's work
abbrev pub work_of : Command → Work
work_of command = (row_of command).work

-- Tests whether the work may change files in the installation's directory
abbrev pub changes_folder : Work → Bool
changes_folder altering = true
changes_folder looking = false
changes_folder checking = false
changes_folder (making origin name) = true

-- Tests whether the command may change files in the installation's directory
abbrev pub may_change : Command → Bool
may_change command = changes_folder (work_of command)

-- ---- words that go on

-- The words are a command, or become one if more words follow
pub record Begins (words : List (List ℕ)) : Type 0 where
  pub more : List (List ℕ)
  pub accepted : IsSome (command_of (words ++ more))
