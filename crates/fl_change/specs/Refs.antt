-- The answers of operations, of changes of refs, and of resets of overrides, in a world.
use Rattle.std.specs.Prelude.{ℕ, List, Bool, true, false, Option, Some, None, option_map, Result, Ok, Err, if◌then◌else◌}
use Rattle.std.specs.Option.{option_map_or}
use Rattle.fp_host.specs.Remote.{Holdings}
use Rattle.fp_name.specs.Refs.{Ref}
use Rattle.fp_small.specs.Config.{name_of}
use Rattle.fp_small.specs.declared.state.State.{State}
use Rattle.fp_small.specs.declared.state.RefRow.{RefRow}
use Rattle.fp_small.specs.declared.state.RemoteRow.{RemoteRow}
use Rattle.fp_small.specs.declared.state.Previous.{Previous}
use Rattle.fp_small.specs.declared.op.Op.{Op}
use Rattle.fp_small.specs.declared.op.Op.TheVariants.{Uninstall, DropOverride, Rollback}
use Rattle.fp_small.specs.declared.refusal.Refusal.{Refusal}
use Rattle.fp_small.specs.declared.refusal.Refusal.TheVariants as refusals
use Rattle.dep_states.specs.Shown.{at_name, override_key}
use Rattle.dep_states.specs.After.{row_at}
use Rattle.op_change.specs.Applied.{op_refusal, done_with}
use Rattle.fl_meta.specs.declared.meta.Meta.{Meta}
use Rattle.fl_extension.specs.Found.{has_ref}
use Rattle.fl_installed.specs.Described.{described}
use Rattle.fl_installed.specs.Users.{first_user, installed_metas, installed_points}
use Rattle.fl_plan.specs.Plans.{plan_of}
use Rattle.fl_plan.specs.Targets.{targets_of}
use Rattle.fl_plan.specs.Unused.{unused_of}
use Rattle.fl_lines.specs.Lines.{skipped_text}
use Rattle.fl_change.specs.World.{World, supplied}
use Rattle.fl_change.specs.Answer.{Answer, nothing, refusal_answer, done_answer, text_answer, unless, each_over}

-- ---- operations

-- The answer of an operation: its line, or the refusal of the commit that it brings
abbrev pub op_over : Op → Holdings → World → Answer
op_over op held x =
    unless (op_refusal (supplied held x op) op) (done_answer (done_with (supplied held x op) op))

-- The answer of operations, one after another up to the first that is refused
abbrev pub ops_over : List Op → Holdings → World → Answer
ops_over ops held x = each_over op_over ops held x

-- ---- what is there

-- The answer `found` for the row of a ref, or `none` if the ref isn't deployed
abbrev pub if_deployed : World → Ref → (RefRow → Answer) → Answer → Answer
if_deployed x name found none = option_map_or found (row_at x.state name) none

-- The answer `found` for the remote with this name, or `none` if there is none
abbrev pub if_remote : World → List ℕ → (RemoteRow → Answer) → Answer → Answer
if_remote x name found none = option_map_or found (at_name name_of x.state.remotes name) none

-- ---- installs and updates

-- The answer of the operations of a plan, or its refusal
abbrev pub planned : Result (List Op) Refusal → Holdings → World → Answer
planned (Ok ops) held x = ops_over ops held x
planned (Err refusal) held x = refusal_answer refusal

-- The answer of installing or updating a ref from this remote: of the operations of its plan
abbrev pub from_remote : RemoteRow → Ref → Holdings → World → Answer
from_remote remote name held x = planned (plan_of held x.have x.state remote name) held x

-- The refusal of installing a ref that has a row already
abbrev pub installed_refusal : Ref → Option RefRow → Option Refusal
installed_refusal name row = option_map (λ r. refusals.AlreadyInstalled name) row

-- The answer of `install`, for a remote that exists and a ref that isn't deployed
abbrev pub install_over : List ℕ → Ref → Holdings → World → Answer
install_over remote name held x = if_remote x remote
    (λ row. unless (installed_refusal name (row_at x.state name)) (from_remote row name held x))
    (refusal_answer (refusals.NoSuchRemote remote))

-- The answer of `update REF`, for a ref that is deployed and whose remote exists
abbrev pub update_over : Ref → Holdings → World → Answer
update_over name held x = if_deployed x name
    (λ row. if_remote x row.origin (λ remote. from_remote remote name held x)
    (refusal_answer (refusals.NoSuchRemote row.origin)))
    (refusal_answer (refusals.NotInstalled name))

-- ---- an update of all that is installed

-- The answer for a ref that an update of all skips
abbrev pub skipped : Ref → Answer
skipped name = text_answer (skipped_text name)

-- Tests whether the refusal is that a remote doesn't offer a ref
abbrev pub is_no_offer : Refusal → Bool
is_no_offer (refusals.NoSuchRef remote name) = true
is_no_offer _ = false

-- The answer of the operations of a plan; or that the ref is skipped, if a remote doesn't offer it;
-- or the refusal
abbrev pub unless_skipped : Ref → Result (List Op) Refusal → Holdings → World → Answer
unless_skipped name (Ok ops) held x = ops_over ops held x
unless_skipped name (Err refusal) held x =
    if is_no_offer refusal then skipped name else refusal_answer refusal

-- The answer of updating a ref from this remote in an update of all
abbrev pub updated_from : RemoteRow → Ref → Holdings → World → Answer
updated_from remote name held x =
    unless_skipped name (plan_of held x.have x.state remote name) held x

-- The answer of updating a ref in an update of all; it is skipped if its remote is gone
abbrev pub target_over : Ref → Holdings → World → Answer
target_over name held x = if_deployed x name
    (λ row. if_remote x row.origin (λ remote. updated_from remote name held x) (skipped name))
    nothing

-- The answer of `update` for the refs that are deployed at its start
abbrev pub update_all_over : Holdings → World → Answer
update_all_over held x = each_over target_over (targets_of x.state None) held x

-- ---- what goes away

-- The refusal of uninstalling a runtime that an application uses; nothing if none does
abbrev pub used_refusal : Ref → Option Ref → Option Refusal
used_refusal runtime app = option_map (refusals.RuntimeInUse runtime) app

-- The answer of `uninstall REF`, for a ref that is deployed and isn't the runtime of a deployed
-- application
abbrev pub uninstall_over : Ref → Holdings → World → Answer
uninstall_over name held x = if_deployed x name
    (λ row. unless (used_refusal name (first_user x.have name x.state.refs))
    (op_over (Uninstall name) held x))
    (refusal_answer (refusals.NotInstalled name))

-- The deployed runtimes that nothing keeps
abbrev pub unused_in : World → List Ref
unused_in x =
    unused_of x.state (installed_metas x.have x.state.refs) (installed_points x.have x.state.refs)

-- The answer of uninstalling a ref; nothing is done if it isn't deployed
abbrev pub drop_over : Ref → Holdings → World → Answer
drop_over name held x = if_deployed x name (λ row. op_over (Uninstall name) held x) nothing

-- The answer of `uninstall --unused`
abbrev pub unused_over : Holdings → World → Answer
unused_over held x = each_over drop_over (unused_in x) held x

-- ---- what goes back

-- The refusal of a commit whose runtime isn't deployed; nothing if it names none
abbrev pub missing_refusal : State → Option Ref → Option Refusal
missing_refusal s None = None
missing_refusal s (Some runtime) =
    if has_ref s runtime then None else Some (refusals.RuntimeMissing runtime)

-- The answer of rolling a ref back to a commit with this metadata, or with this refusal of it
abbrev pub back_to : Ref → List ℕ → Result Meta Refusal → Holdings → World → Answer
back_to name commit (Ok meta) held x =
    unless (missing_refusal x.state meta.runtime) (op_over (Rollback name commit) held x)
back_to name commit (Err refusal) held x = refusal_answer refusal

-- The previous commit, or the refusal if there is none
abbrev pub previous_commit : Ref → Option Previous → Result (List ℕ) Refusal
previous_commit name None = Err (refusals.NoPrevious name)
previous_commit name (Some p) = Ok p.commit

-- The previous commit of a deployed ref, or the refusal: the ref isn't deployed, or it has none
abbrev pub previous_in : Ref → Option RefRow → Result (List ℕ) Refusal
previous_in name None = Err (refusals.NotInstalled name)
previous_in name (Some row) = previous_commit name row.previous

-- The answer of rolling a ref back to this commit, or the refusal if there is none
abbrev pub going_back : Ref → Result (List ℕ) Refusal → Holdings → World → Answer
going_back name (Ok commit) held x = back_to name commit (described x.have name commit) held x
going_back name (Err refusal) held x = refusal_answer refusal

-- The answer of `rollback`: to the previous commit, whose runtime has to be deployed
abbrev pub rollback_over : Ref → Holdings → World → Answer
rollback_over name held x = going_back name (previous_in name (row_at x.state name)) held x

-- ---- overrides

-- The answer of `override --reset`; nothing is done if there is no override
abbrev pub reset_over : List ℕ → Holdings → World → Answer
reset_over name held x = option_map_or (λ row. op_over (DropOverride name) held x)
    (at_name override_key x.state.overrides name) nothing
