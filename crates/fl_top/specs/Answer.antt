-- The answer of a command: what it prints, and the operations that this acknowledges.
use Rattle.std.specs.Prelude.{◌≡◌, ◌⊎◌, ℕ, ◌+◌, List, [], ◌∷◌, ◌++◌, map, length, nat_le, Option, Some, None, Result, Ok, Err, if◌then◌else◌}
use Rattle.std.specs.Option.{option_map_or}
use Rattle.fp_host.specs.Paths.{Elements}
use Rattle.fp_host.specs.Outcome.{Disk}
use Rattle.fp_host.specs.Remote.{Holdings}
use Rattle.fp_small.specs.Places.{repo}
use Rattle.ost_model.specs.Objects.{store}
use Rattle.fp_small.specs.declared.state.State.{State}
use Rattle.fp_small.specs.declared.refusal.Refusal.{Refusal}
use Rattle.fp_small.specs.declared.refusal.Refusal.TheVariants.{BadWords, MalformedObject, MalformedValue, Limit, BadRecord, Damaged, NotInstalled}
use Rattle.fp_base.specs.declared.object.ObjKind.{ObjKind}
use Rattle.fp_base.specs.declared.object.ObjKind.TheVariants as kinds
use Rattle.fp_base.specs.declared.rule.Rule.{Rule}
use Rattle.fp_base.specs.declared.what.What.TheVariants.{Input}
use Rattle.dep_states.specs.After.{row_at}
use Rattle.dep_states.specs.Damaged.{Gives}
use Rattle.dep_states.specs.Shown.{at_name, override_key}
use Rattle.fp_keyfile.specs.KeyFile.{text_of}
use Rattle.fp_name.specs.Refs.{Ref}
use Rattle.fp_small.specs.declared.state.RefRow.{RefRow}
use Rattle.fl_installed.specs.Deployed.{DeployedFiles}
use Rattle.fl_installed.specs.Described.{info_in}
use Rattle.fl_installed.specs.declared.info.Info.{Info}
use Rattle.fl_words.specs.declared.command.Command.{Command}
use Rattle.fl_words.specs.declared.command.Command.TheVariants.{Change as Changing, List as Listed, Show as Showing, Filter as Filtering, Batch, Fsck, Export as Exporting, Exercise as Exercising}
use Rattle.fl_words.specs.declared.command.Change.{Change}
use Rattle.fl_words.specs.declared.command.Listing.{Listing}
use Rattle.fl_words.specs.declared.command.Listing.TheVariants as listings
use Rattle.fl_words.specs.declared.command.Shown.{Shown}
use Rattle.fl_words.specs.declared.command.Shown.TheVariants as things
use Rattle.fl_words.specs.declared.command.PolicySource.{PolicySource}
use Rattle.fl_words.specs.declared.command.PolicySource.TheVariants as sources
use Rattle.bus_stream.specs.declared.recording.Recording.{Recording}
use Rattle.bus_stream.specs.Recordings.{recording_of}
use Rattle.bus_policy.specs.declared.policy.PolicyRule.{PolicyRule}
use Rattle.fl_options.specs.Rules.{policy_of}
use Rattle.fl_filter.specs.Filtered.{Filtered, filtered}
use Rattle.fl_launch.specs.Policies.{session_rules, system_rules}
use Rattle.fl_launch.specs.declared.launching.LaunchText.{LaunchText}
use Rattle.fl_installed.specs.Launching.{launch_in}
use Rattle.fl_export.specs.Exported.{exported}
use Rattle.fl_words.specs.Forms.{command_of, bad_index}
use Rattle.fl_words.specs.Batch.{batch_of}
use Rattle.ost_fsck.specs.declared.report.Report.{Report}
use Rattle.ost_description.specs.declared.description.Description.{Description}
use Rattle.ost_description.specs.Descriptions.{described}
use Rattle.fl_top.specs.Fsck.{report_text}
use Rattle.fl_top.specs.Exports.{exports_text}
use Rattle.fl_top.specs.Input.{input_most}
use Rattle.fl_change.specs.World.{World, used_of}
use Rattle.fl_lines.specs.Lines.{refs_text, pins_text, remotes_text, info_text, made_text}
use Rattle.gv_value.specs.Shape.{Shape}
use Rattle.gv_value.specs.Tree.{Tree}
use Rattle.gv_value.specs.TypeText.{type_of}
use Rattle.gv_value.specs.Reading.{value_of}
use Rattle.ost_model.specs.Contents.{meta_digest}
use Rattle.ost_model.specs.Readers.{commit_read, tree_read, meta_read}
use Rattle.fp_base.specs.Objects.{kind_text}
use Rattle.fl_top.specs.Objects.{head, commit_lines, tree_lines, meta_lines, normal_line}
use Rattle.fl_change.specs.Turns.{changing}
use Rattle.fl_top.specs.Exercising.{exercising}
use Rattle.fl_change.specs.Answer.{Answer, Piece, refusal_answer, text_answer}

-- Everything that a command is given beside the installation's state: its input, what the remotes
-- hold, the `metadata` files in the directories of deployed commits, the report of the
-- installation's store, and the digest of the commit that the input describes
pub record Given : Type 0 where
  pub input : List ℕ
  pub held : Holdings
  pub files : DeployedFiles
  pub report : Report
  pub commit : List ℕ

-- ---- listings

-- The text of an override's key file; empty if there is no such override
abbrev pub override_text : State → List ℕ → List ℕ
override_text s name =
    option_map_or (λ row. text_of row.file) (at_name override_key s.overrides name) []

-- The answer of `info` for a deployed ref: its lines, or the refusal of its metadata
abbrev pub told_of : RefRow → Result Info Refusal → Answer
told_of row (Ok info) = text_answer (info_text row info.runtime info.extensions)
told_of row (Err refusal) = refusal_answer refusal

-- The answer of `info` for a ref. It goes by the `metadata` file in the deployed commit's
-- directory; in a sound installation, this is the one of the commit in the store.
abbrev pub known_of : DeployedFiles → Ref → World → Answer
known_of files name x = option_map_or (λ row. told_of row (info_in files name row.commit))
    (row_at x.state name) (refusal_answer (NotInstalled name))

-- The answer of `launch`: its text, or the refusal
abbrev pub launched_of : Result LaunchText Refusal → Answer
launched_of (Ok launch) = text_answer launch.text
launched_of (Err refusal) = refusal_answer refusal

-- The answer of a listing
abbrev pub listing_answer : DeployedFiles → Listing → World → Answer
listing_answer files listings.Refs x = text_answer (refs_text x.state.refs)
listing_answer files listings.Pins x = text_answer (pins_text x.state.pins)
listing_answer files listings.Remotes x = text_answer (remotes_text x.state.remotes)
listing_answer files listings.Exports x = text_answer (exports_text (exported x.have x.state))
listing_answer files (listings.Info name) x = known_of files name x
listing_answer files (listings.Launch name options) x =
    launched_of (launch_in files x.state name options)
listing_answer files (listings.OverrideShow name) x = text_answer (override_text x.state name)

-- The answer of `fsck`: the text of the store's report, for any world
abbrev pub checked : Report → World → Answer
checked report x = text_answer (report_text report)

-- ---- `show`

-- The answer for an object of this digest and kind: its lines, or the refusal with the first rule
-- that it breaks
abbrev pub by_read : {A : Type 0} → List ℕ → ObjKind → (A → List ℕ) → Result A Rule → Answer
by_read digest kind lines (Ok a) = text_answer (head digest (kind_text kind) ++ lines a)
by_read digest kind lines (Err rule) = refusal_answer (MalformedObject digest kind rule)

-- The answer of `show commit` for these bytes
unfoldable pub commit_shown : List ℕ → Answer
commit_shown bytes = by_read (meta_digest bytes) kinds.Commit commit_lines (commit_read bytes)

-- The answer of `show dirtree` for these bytes
unfoldable pub tree_shown : List ℕ → Answer
tree_shown bytes = by_read (meta_digest bytes) kinds.DirTree tree_lines (tree_read bytes)

-- The answer of `show dirmeta` for these bytes
unfoldable pub meta_shown : List ℕ → Answer
meta_shown bytes = by_read (meta_digest bytes) kinds.DirMeta meta_lines (meta_read bytes)

-- The answer for bytes and the value that they are read as: the number of bytes, or a refusal if
-- they are no value in normal form
abbrev pub by_value : List ℕ → Option Tree → Answer
by_value bytes None = refusal_answer (MalformedValue (meta_digest bytes))
by_value bytes (Some value) = text_answer (normal_line (length bytes))

-- The answer for bytes and a type; a refusal if there is no type
abbrev pub by_type : Option Shape → List ℕ → Answer
by_type None bytes = by_value bytes None
by_type (Some of) bytes = by_value bytes (value_of of bytes)

-- The answer of `show value` for the text of a type and these bytes
unfoldable pub value_shown : List ℕ → List ℕ → Answer
value_shown text bytes = by_type (type_of text) bytes

-- The answer of `show` for these bytes
abbrev pub shown_by : Shown → List ℕ → Answer
shown_by things.Commit bytes = commit_shown bytes
shown_by things.DirTree bytes = tree_shown bytes
shown_by things.DirMeta bytes = meta_shown bytes
shown_by (things.Value of) bytes = value_shown of bytes

-- ---- `filter`

-- The piece with this text, which acknowledges no operation
abbrev pub piece_of : List ℕ → Piece
piece_of text = record { text = text; op = None }

-- The answer with a piece for each forwarded message
abbrev pub forwarding : Filtered → Answer
forwarding f = record { pieces = map piece_of f.lines; refusal = f.refusal }

-- The launch of an application without options, for what the image gives; else the refusal
abbrev pub launch_over : DeployedFiles → Ref → Result World Elements → Result LaunchText Refusal
launch_over files name (Err path) = Err (Damaged path)
launch_over files name (Ok x) = launch_in files x.state name []

-- The policy rules that `rules` makes of a launch, or the refusal of the launch
abbrev pub of_launch : (LaunchText → List PolicyRule) → Result LaunchText Refusal
    → Result (List PolicyRule) Refusal
of_launch rules (Err refusal) = Err refusal
of_launch rules (Ok launch) = Ok (rules launch)

-- The rules of an application's policy on the session bus
abbrev pub on_session : Ref → LaunchText → List PolicyRule
on_session name launch = session_rules name.id launch.grants

-- The rules of an application's policy on the system bus
abbrev pub on_system : LaunchText → List PolicyRule
on_system launch = system_rules launch.grants

-- The rules of a source: those of the words, whatever the image gives, or those of an application's
-- launch
abbrev pub rules_over : DeployedFiles → PolicySource → Result World Elements
    → Result (List PolicyRule) Refusal
rules_over files (sources.Rules words) shown = Ok (policy_of words)
rules_over files (sources.Session name) shown =
    of_launch (on_session name) (launch_over files name shown)
rules_over files (sources.System name) shown = of_launch on_system (launch_over files name shown)

-- The answer for a recording: the messages that these rules forward, or the refusal of the rules
abbrev pub by_rules : Recording → Result (List PolicyRule) Refusal → Answer
by_rules recording (Err refusal) = refusal_answer refusal
by_rules recording (Ok rules) = forwarding (filtered rules recording)

-- The answer for a recording that was read: the refusal of its first bad line comes before a
-- refusal of the rules
abbrev pub of_recording : Result (List PolicyRule) Refusal → Result Recording ℕ → Answer
of_recording rules (Err line) = refusal_answer (BadRecord line)
of_recording rules (Ok recording) = by_rules recording rules

-- The answer of `filter` for these rules and the bytes of a recording
unfoldable pub filtered_by : Result (List PolicyRule) Refusal → List ℕ → Answer
filtered_by rules bytes = of_recording rules (recording_of bytes)

-- The answer of `filter` for a source of rules and the bytes of a recording
abbrev pub filter_by : DeployedFiles → PolicySource → Result World Elements → List ℕ → Answer
filter_by files source shown bytes = filtered_by (rules_over files source shown) bytes

-- ---- `export`

-- The answer for a description that was read: the line of its commit, or the refusal of its first
-- bad line
abbrev pub of_description : List ℕ → Result Description ℕ → Answer
of_description commit (Err line) = refusal_answer (BadRecord line)
of_description commit (Ok description) = text_answer (made_text commit)

-- The answer of `export` for the digest of the commit and the bytes of the description
unfoldable pub commit_made : List ℕ → List ℕ → Answer
commit_made commit bytes = of_description commit (described bytes)

-- ---- the answer, by the input and by what the image gives

-- The words or the input are refused, whatever the image gives
abbrev pub IsAtOnce : Option Refusal → Type 0
IsAtOnce None = ⊥
IsAtOnce (Some (BadWords index)) = Unit {0}
IsAtOnce (Some (Limit Input number)) = Unit {0}
IsAtOnce (Some (BadRecord line)) = Unit {0}
IsAtOnce (Some _) = ⊥

-- The answer by what the image gives: a refusal if it shows no state, with the first damaged path
abbrev pub shown_answer : (World → Answer) → Result World Elements → Answer
shown_answer f (Err path) = refusal_answer (Damaged path)
shown_answer f (Ok x) = f x

-- The answer of a batch that was read: the refusal of its first bad line, or that of its changes
abbrev pub of_batch : Result (List Change) ℕ → Holdings → Result World Elements → Answer
of_batch (Err line) held shown = refusal_answer (BadRecord line)
of_batch (Ok changes) held shown = shown_answer (changing changes held) shown

-- The answer for the whole input, which is read before anything is done; a refusal if the input has
-- more than 64 MiB
abbrev pub over_input : (List ℕ → Answer) → List ℕ → Answer
over_input f input = if nat_le (length input) input_most then f input
    else refusal_answer (Limit Input (input_most + 1))

-- The basis of a command's answer: these changes, the changes that are the lines of the input, the
-- changes of an exercise with this number of applications, the world that the image gives, or the
-- whole input together with what the image gives
pub data How : Type 0 where
  by_changes : List Change → How
  by_batch : How
  by_exercise : ℕ → How
  by_world : (Given → World → Answer) → How
  by_input : (Given → Result World Elements → List ℕ → Answer) → How

-- The basis of this command's answer
abbrev pub how : Command → How
how (Changing change) = by_changes (change ∷ [])
how (Listed listing) = by_world (λ given. listing_answer given.files listing)
how (Showing thing) = by_input (λ given shown. shown_by thing)
how (Filtering source) = by_input (λ given shown. filter_by given.files source shown)
how Batch = by_batch
how Fsck = by_world (λ given. checked given.report)
how (Exporting remote name) = by_input (λ given shown. commit_made given.commit)
how (Exercising apps) = by_exercise apps

-- The answer on this basis
abbrev pub answer_by : How → Given → Result World Elements → Answer
answer_by (by_changes changes) given shown = shown_answer (changing changes given.held) shown
answer_by by_batch given shown =
    over_input (λ bytes. of_batch (batch_of bytes) given.held shown) given.input
answer_by (by_exercise apps) given shown = shown_answer (exercising apps given.held) shown
answer_by (by_world f) given shown = shown_answer (f given) shown
answer_by (by_input f) given shown = over_input (f given shown) given.input

-- The answer of this command
abbrev pub answer_over : Command → Given → Result World Elements → Answer
answer_over command given shown = answer_by (how command) given shown

-- The answer of these words; a refusal if they are no command
abbrev pub answer_to : List (List ℕ) → Option Command → Given → Result World Elements → Answer
answer_to words None given shown = refusal_answer (BadWords (bad_index words))
answer_to words (Some command) given shown = answer_over command given shown

-- The answer of these words. Of several refusals the first of these counts: of the words; of an
-- input that is too long, or of its first bad line; of an image that shows no state; of the
-- command's work.
abbrev pub answer : List (List ℕ) → Given → Result World Elements → Answer
answer words given shown = answer_to words (command_of words) given shown

-- The image gives this result: the state that it shows, with the objects that its commits use, or
-- the first damaged path
abbrev pub GivesWorld : Disk → Result World Elements → Type 0
GivesWorld disk (Ok x) = Gives disk (Ok x.state) × (x.have ≡ used_of x.state (store repo disk))
GivesWorld disk (Err path) = Gives disk (Err path)

-- The answer over this result counts: the image gives the result, or the answer is the same over
-- every result. So words that are no command, an input that is refused and a command that reads no
-- installation have an answer over each image, also over one that gives no result.
abbrev pub IsOver : (Result World Elements → Answer) → Disk → Result World Elements → Type 0
IsOver by disk shown =
    GivesWorld disk shown ⊎ ((other : Result World Elements) → by other ≡ by shown)
