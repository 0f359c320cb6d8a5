-- Worked rows, closed by computing.
use Rattle.std.proofs.Common.{◌≡◌, ℕ, true, List, [], ◌∷◌, Some, None, Ok, Err, refl}
use Rattle.std.specs.Prelude.{codes}
use Rattle.std.specs.Fmt.{digits}
use Rattle.std.specs.List.{list_all}
use Rattle.std.specs.Str.Lossy.{utf8_lossy}
use Rattle.std.proofs.lemmas.Str.{utf8_lossy-IsUtf8}
use Rattle.fp_name.specs.Bytes.{is_dotted}
use Rattle.fp_name.proofs.Bytes.{Utf8-from_dotted}
use Rattle.fp_name.specs.Grammar.{is_id, is_arch, is_branch, is_remote_name, is_url}
use Rattle.fp_name.specs.Refs.{Ref, ref_of}
use Rattle.fp_name.specs.declared.kind.RefKind.TheVariants.{App}
use Rattle.fp_name.specs.Pins.{is_pin}
use Rattle.fl_words.specs.declared.command.Command.TheVariants.{Change as Changing, List as Listed, Show as Showing, Filter as Filtering, Batch, Fsck, Export, Exercise}
use Rattle.fl_words.specs.declared.command.PolicySource.TheVariants.{Rules, Session, System}
use Rattle.fl_options.specs.Rules.{word_rule}
use Rattle.fl_words.specs.declared.command.Change.TheVariants.{Pin, Unpin, Install, UpdateAll, UpdateOne, Uninstall, UninstallUnused, Rollback, OverrideChange}
use Rattle.fl_words.specs.declared.command.Listing.TheVariants as listings
use Rattle.fl_words.specs.declared.command.Shown.TheVariants.{Commit, DirTree, DirMeta, Value}
use Rattle.fl_options.proofs.Rows.{some_option}
use Rattle.fl_options.proofs.Lines.{uncut_no_option}
use Rattle.fl_words.specs.Types.{is_type_text}
use Rattle.fl_words.specs.Counts.{is_count_text}
use Rattle.fl_words.specs.Forms.{command_of, bad_index}
use Rattle.fl_words.specs.Batch.{batch_change, batch_of}
use Rattle.fl_words.specs.Reasons.{reason_text, batch_reason_text}

pub pin_all : command_of (codes "pin" ∷ codes "app/*/*/*" ∷ []) ≡ Some (Changing (Pin (codes "app/*/*/*")))
unfolding is_pin
pin_all = refl

pub unpin_one : command_of (codes "unpin" ∷ codes "app/org.x.Y/*/1.0" ∷ []) ≡ Some (Changing (Unpin (codes "app/org.x.Y/*/1.0")))
unfolding is_pin is_id is_branch
unpin_one = refl

pub list_exports : command_of (codes "list" ∷ codes "--exports" ∷ []) ≡ Some (Listed listings.Exports)
list_exports = refl

pub list_pins : command_of (codes "list" ∷ codes "--pins" ∷ []) ≡ Some (Listed listings.Pins)
list_pins = refl

pub no_words : bad_index [] ≡ 0
no_words = refl

pub empty_word : bad_index ([] ∷ []) ≡ 0
empty_word = refl

pub another_word : bad_index (codes "pins" ∷ []) ≡ 0
another_word = refl

pub pin_alone : bad_index (codes "pin" ∷ []) ≡ 1
pin_alone = refl

pub pin_x : bad_index (codes "pin" ∷ codes "x" ∷ []) ≡ 1
unfolding is_pin
pin_x = refl

pub pin_and_more : bad_index (codes "pin" ∷ codes "app/*/*/*" ∷ codes "x" ∷ []) ≡ 2
unfolding is_pin
pin_and_more = refl

pub list_alone : command_of (codes "list" ∷ []) ≡ Some (Listed listings.Refs)
list_alone = refl

pub list_pin : bad_index (codes "list" ∷ codes "--pin" ∷ []) ≡ 1
list_pin = refl

pub list_and_more : bad_index (codes "list" ∷ codes "--pins" ∷ [] ∷ []) ≡ 2
list_and_more = refl

-- ---- commands on refs

abbrev name : Ref
name = record { kind = App; id = codes "org.x.App"; arch = codes "x86_64"; branch = codes "stable" }

pub install_one : command_of (codes "install" ∷ codes "hub" ∷ codes "app/org.x.App/x86_64/stable" ∷ []) ≡ Some (Changing (Install (codes "hub") name))
unfolding is_remote_name ref_of is_id is_arch is_branch
install_one = refl

pub update_all : command_of (codes "update" ∷ []) ≡ Some (Changing UpdateAll)
update_all = refl

pub update_one : command_of (codes "update" ∷ codes "app/org.x.App/x86_64/stable" ∷ []) ≡ Some (Changing (UpdateOne name))
unfolding ref_of is_id is_arch is_branch
update_one = refl

pub uninstall_one : command_of (codes "uninstall" ∷ codes "app/org.x.App/x86_64/stable" ∷ []) ≡ Some (Changing (Uninstall name))
unfolding ref_of is_id is_arch is_branch
uninstall_one = refl

pub uninstall_unused : command_of (codes "uninstall" ∷ codes "--unused" ∷ []) ≡ Some (Changing UninstallUnused)
unfolding ref_of
uninstall_unused = refl

pub rollback_one : command_of (codes "rollback" ∷ codes "app/org.x.App/x86_64/stable" ∷ []) ≡ Some (Changing (Rollback name))
unfolding ref_of is_id is_arch is_branch
rollback_one = refl

pub install_no_ref : bad_index (codes "install" ∷ codes "hub" ∷ codes "org.x.App" ∷ []) ≡ 2
unfolding is_remote_name ref_of
install_no_ref = refl

pub batch_alone : command_of (codes "batch" ∷ []) ≡ Some Batch
batch_alone = refl

pub batch_and_more : bad_index (codes "batch" ∷ [] ∷ []) ≡ 1
batch_and_more = refl

pub fsck_alone : command_of (codes "fsck" ∷ []) ≡ Some Fsck
fsck_alone = refl

pub fsck_and_more : bad_index (codes "fsck" ∷ [] ∷ []) ≡ 1
fsck_and_more = refl

pub export_alone : bad_index (codes "export" ∷ []) ≡ 1
export_alone = refl

pub export_no_ref : bad_index (codes "export" ∷ codes "lab" ∷ []) ≡ 2
unfolding is_remote_name
export_no_ref = refl

pub exercise_one : command_of (codes "exercise" ∷ codes "1" ∷ []) ≡ Some (Exercise 1)
unfolding is_count_text digits
exercise_one = refl

pub exercise_most : command_of (codes "exercise" ∷ codes "64" ∷ []) ≡ Some (Exercise 64)
unfolding is_count_text digits
exercise_most = refl

pub exercise_alone : bad_index (codes "exercise" ∷ []) ≡ 1
exercise_alone = refl

pub exercise_none : bad_index (codes "exercise" ∷ codes "0" ∷ []) ≡ 1
unfolding is_count_text digits
exercise_none = refl

pub exercise_too_many : bad_index (codes "exercise" ∷ codes "65" ∷ []) ≡ 1
unfolding is_count_text digits
exercise_too_many = refl

pub exercise_leading_zero : bad_index (codes "exercise" ∷ codes "01" ∷ []) ≡ 1
unfolding is_count_text digits
exercise_leading_zero = refl

pub exercise_sign : bad_index (codes "exercise" ∷ codes "+1" ∷ []) ≡ 1
unfolding is_count_text digits
exercise_sign = refl

pub exercise_and_more : bad_index (codes "exercise" ∷ codes "4" ∷ codes "4" ∷ []) ≡ 2
unfolding is_count_text digits
exercise_and_more = refl

pub show_commit : command_of (codes "show" ∷ codes "commit" ∷ []) ≡ Some (Showing Commit)
show_commit = refl

pub show_dirtree : command_of (codes "show" ∷ codes "dirtree" ∷ []) ≡ Some (Showing DirTree)
show_dirtree = refl

pub show_dirmeta : command_of (codes "show" ∷ codes "dirmeta" ∷ []) ≡ Some (Showing DirMeta)
show_dirmeta = refl

pub show_value : command_of (codes "show" ∷ codes "value" ∷ codes "(si)" ∷ []) ≡ Some (Showing (Value (codes "(si)")))
unfolding is_type_text
show_value = refl

pub show_alone : bad_index (codes "show" ∷ []) ≡ 1
show_alone = refl

pub show_file : bad_index (codes "show" ∷ codes "file" ∷ []) ≡ 1
show_file = refl

pub show_two : bad_index (codes "show" ∷ codes "commit" ∷ codes "y" ∷ []) ≡ 2
show_two = refl

pub show_no_type : bad_index (codes "show" ∷ codes "value" ∷ []) ≡ 2
show_no_type = refl

pub show_bad_type : bad_index (codes "show" ∷ codes "value" ∷ codes "si" ∷ []) ≡ 2
unfolding is_type_text
show_bad_type = refl

pub show_more : bad_index (codes "show" ∷ codes "value" ∷ codes "s" ∷ [] ∷ []) ≡ 3
unfolding is_type_text
show_more = refl

-- ---- options

abbrev share : List ℕ
share = codes "--share=ipc"

pub override_all : command_of (codes "override" ∷ share ∷ share ∷ []) ≡ Some (Changing (OverrideChange (codes "global") (share ∷ share ∷ [])))
override_all = rw (some_option, some_option) refl

pub override_one : command_of (codes "override" ∷ share ∷ codes "org.x.App" ∷ []) ≡ Some (Changing (OverrideChange (codes "org.x.App") (share ∷ [])))
unfolding is_id
override_one = rw (some_option, uncut_no_option (codes "org.x.App") refl) refl

pub override_none : bad_index (codes "override" ∷ []) ≡ 1
override_none = refl

pub override_no_option : bad_index (codes "override" ∷ codes "network" ∷ []) ≡ 1
override_no_option = rw (uncut_no_option (codes "network") refl) refl

pub launch_alone : command_of (codes "launch" ∷ codes "app/org.x.App/x86_64/stable" ∷ []) ≡ Some (Listed (listings.Launch name []))
unfolding ref_of is_id is_arch is_branch
launch_alone = refl

pub launch_with : command_of (codes "launch" ∷ codes "app/org.x.App/x86_64/stable" ∷ share ∷ []) ≡ Some (Listed (listings.Launch name (share ∷ [])))
unfolding ref_of is_id is_arch is_branch
launch_with = rw some_option refl

pub launch_runtime : bad_index (codes "launch" ∷ codes "runtime/org.x.App/x86_64/stable" ∷ []) ≡ 1
unfolding ref_of is_id is_arch is_branch
launch_runtime = refl

-- ---- the filter

pub filter_all : command_of (codes "filter" ∷ []) ≡ Some (Filtering (Rules []))
filter_all = refl

pub filter_from : command_of (codes "filter" ∷ codes "--from=app/org.x.App/x86_64/stable" ∷ []) ≡ Some (Filtering (Session name))
unfolding ref_of is_id is_arch is_branch word_rule
filter_from = refl

pub filter_system : command_of (codes "filter" ∷ codes "--system" ∷ codes "--from=app/org.x.App/x86_64/stable" ∷ []) ≡ Some (Filtering (System name))
unfolding ref_of is_id is_arch is_branch word_rule
filter_system = refl

pub filter_runtime : bad_index (codes "filter" ∷ codes "--from=runtime/org.x.App/x86_64/stable" ∷ []) ≡ 1
unfolding ref_of is_id is_arch is_branch word_rule
filter_runtime = refl

-- ---- batches

pub no_lines : batch_of [] ≡ Ok []
unfolding batch_of
no_lines = refl

pub one_line : batch_of (codes "pin app/*/*/*") ≡ Ok (Pin (codes "app/*/*/*") ∷ [])
unfolding batch_of batch_change is_pin
one_line = refl

pub two_lines : batch_of (codes "pin app/*/*/*\nunpin app/*/*/*\n") ≡ Ok (Pin (codes "app/*/*/*") ∷ Unpin (codes "app/*/*/*") ∷ [])
unfolding batch_of batch_change is_pin
two_lines = refl

pub empty_line : batch_of (codes "\n") ≡ Err 1
unfolding batch_of batch_change
empty_line = refl

pub list_line : batch_of (codes "pin app/*/*/*\nlist --pins\n") ≡ Err 2
unfolding batch_of batch_change is_pin
list_line = refl

pub exercise_line : batch_of (codes "exercise 4\n") ≡ Err 1
unfolding batch_of batch_change is_count_text digits
exercise_line = refl

pub two_spaces : batch_of (codes "pin  app/*/*/*\n") ≡ Err 1
unfolding batch_of batch_change is_pin
two_spaces = refl

pub space_remainder : batch_of (codes "pin app/*/*/* \n") ≡ Err 1
unfolding batch_of batch_change is_pin
space_remainder = refl

-- ---- reasons

pub bad_pattern : reason_text (codes "pin" ∷ codes "app/*/*" ∷ []) ≡ codes "fpk: 'app/*/*' is not a pattern (expected KIND/ID/ARCH/BRANCH)\nusage: fpk pin PATTERN\n"
unfolding is_pin
bad_pattern = refl

pub list_shown : reason_text (codes "list" ∷ codes "x" ∷ []) ≡ codes "fpk: 'x' is not known here\nusage: fpk list\nusage: fpk list --remotes\nusage: fpk list --pins\nusage: fpk list --exports\n"
list_shown = refl

pub one_more_word : reason_text (codes "batch" ∷ codes "x" ∷ []) ≡ codes "fpk: 'x' is one word too many\nusage: fpk batch\n"
one_more_word = refl

pub no_count : reason_text (codes "exercise" ∷ codes "65" ∷ []) ≡ codes "fpk: '65' is not a number from 1 to 64\nusage: fpk exercise COUNT\n"
unfolding is_count_text digits
no_count = refl

pub unknown_command : reason_text (codes "frob" ∷ codes "x" ∷ []) ≡ codes "fpk: 'frob' is not known here\nsee fpk --help\n"
unknown_command = refl

pub nothing_asked : reason_text [] ≡ codes "fpk: a word is missing\nsee fpk --help\n"
nothing_asked = refl

pub help_of_one : reason_text (codes "install" ∷ codes "--help" ∷ []) ≡ codes "usage: fpk install NAME REF\n"
unfolding is_remote_name
help_of_one = refl

pub help_of_all : reason_text (codes "help" ∷ codes "install" ∷ []) ≡ codes "see fpk --help\n"
help_of_all = refl

pub bad_remote : reason_text (codes "remote-delete" ∷ codes "a/b" ∷ []) ≡ codes "fpk: 'a/b' is not a name of a remote (expected letters, digits, _, - and ., as lab-1)\nusage: fpk remote-delete NAME\n"
unfolding is_remote_name
bad_remote = refl

pub bad_url : reason_text (codes "remote-add" ∷ codes "lab" ∷ codes "/lab" ∷ []) ≡ codes "fpk: '/lab' is not a URL of a remote (expected file:///PATH with no blank, as file:///srv/lab)\nusage: fpk remote-add NAME URL\n"
unfolding is_remote_name is_url
bad_url = refl

pub missing_ref : reason_text (codes "uninstall" ∷ []) ≡ codes "fpk: missing REF\nusage: fpk uninstall REF\nusage: fpk uninstall --unused\n"
missing_ref = refl

as_they_are : (word : List ℕ) → list_all is_dotted word ≡ true → utf8_lossy word ≡ word
as_they_are word plain = utf8_lossy-IsUtf8 word (Utf8-from_dotted word plain)

pub bad_line : batch_reason_text (codes "pin app/*/*/*\nunpin app\n") ≡ Some (codes "fpk: line 2: 'app' is not a pattern (expected KIND/ID/ARCH/BRANCH)\nusage: unpin PATTERN\n")
unfolding batch_of batch_change is_pin digits
bad_line = rw (as_they_are (codes "unpin") refl, as_they_are (codes "app") refl) refl

pub no_bad_line : batch_reason_text (codes "pin app/*/*/*\n") ≡ None
unfolding batch_of batch_change is_pin
no_bad_line = refl
