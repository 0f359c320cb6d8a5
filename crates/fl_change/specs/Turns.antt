-- The answers of changes in a world, one after another.
use Rattle.std.specs.Prelude.{◌≡◌, ◌⊎◌, ℕ, List, [], ◌∷◌, Option}
use Rattle.fp_host.specs.Remote.{Holdings}
use Rattle.fp_keyfile.specs.declared.group.Group.{Group}
use Rattle.fp_name.specs.Refs.{Ref}
use Rattle.fp_small.specs.declared.state.Layout.{Layout}
use Rattle.fp_small.specs.declared.state.Layout.TheVariants.{One, Two}
use Rattle.fp_small.specs.declared.state.State.{State}
use Rattle.fp_small.specs.declared.state.OverrideRow.{OverrideRow}
use Rattle.fp_small.specs.declared.refusal.Refusal.{Refusal}
use Rattle.fp_small.specs.declared.op.Op.{Op}
use Rattle.fp_small.specs.declared.op.Op.TheVariants as ops
use Rattle.op_change.specs.Applied.{Brings}
use Rattle.fl_words.specs.declared.command.Change.{Change}
use Rattle.fl_words.specs.declared.command.Change.TheVariants.{Pin, Unpin, RemoteAdd, RemoteModify, RemoteDelete, Install, UpdateAll, UpdateOne, Uninstall, UninstallUnused, Rollback, OverrideChange, OverrideReset}
use Rattle.fl_change.specs.World.{World}
use Rattle.fl_change.specs.Answer.{Answer, nothing, op_answer, unless, then_over, each_over}
use Rattle.fl_change.specs.Settings.{add_pin_refusal, drop_pin_refusal, add_remote_refusal, remote_refusal, drop_remote_refusal}
use Rattle.fl_change.specs.Overrides.{changed_row, long_refusal}
use Rattle.fl_change.specs.Refs.{install_over, update_over, update_all_over, uninstall_over, unused_over, rollback_over, reset_over}

-- ---- operations of a kind

-- The operation is an uninstall
abbrev pub IsUninstall : Op → Type 0
IsUninstall op = (name : Ref) × (op ≡ ops.Uninstall name)

-- The operation is a rollback of this ref
abbrev pub IsRollback : Ref → Op → Type 0
IsRollback name op = (commit : List ℕ) × (op ≡ ops.Rollback name commit)

-- The operation sets the override with this name
abbrev pub IsOverride : List ℕ → Op → Type 0
IsOverride name op =
    (file : List Group) × (op ≡ ops.SetOverride (record { name = name; file = file }))

-- The answer of setting an override to this row, unless its text is too long
abbrev pub override_answer : OverrideRow → Answer
override_answer row = unless (long_refusal row) (op_answer (ops.SetOverride row))

-- ---- the table of changes

-- A change: its answer in a world, and the operations that it may do
pub record Turn : Type 1 where
  pub over : Holdings → World → Answer
  pub may : Op → Type 0

-- The change with this answer and these operations
abbrev pub turn : (Holdings → World → Answer) → (Op → Type 0) → Turn
turn over may = record { over = over; may = may }

-- The change that does this one operation, unless the state refuses it
abbrev pub asked : (State → Option Refusal) → Op → Turn
asked refusal op = turn (λ held x. unless (refusal x.state) (op_answer op)) (λ other. other ≡ op)

-- The answer and the operations of each change
abbrev pub turn_of : Change → Turn
turn_of (Pin pin) = asked (λ s. add_pin_refusal s.pins pin) (ops.AddPin pin)
turn_of (Unpin pin) = asked (λ s. drop_pin_refusal s.pins pin) (ops.DropPin pin)
turn_of (RemoteAdd row) = asked (λ s. add_remote_refusal s.remotes row.name) (ops.AddRemote row)
turn_of (RemoteModify row) = asked (λ s. remote_refusal s.remotes row.name) (ops.ModifyRemote row)
turn_of (RemoteDelete name) = asked (λ s. drop_remote_refusal s name) (ops.DropRemote name)
turn_of (Install remote name) = turn (install_over remote name) Brings
turn_of UpdateAll = turn update_all_over Brings
turn_of (UpdateOne name) = turn (update_over name) Brings
turn_of (Uninstall name) = turn (uninstall_over name) (λ op. op ≡ ops.Uninstall name)
turn_of UninstallUnused = turn unused_over IsUninstall
turn_of (Rollback name) = turn (rollback_over name) (IsRollback name)
turn_of (OverrideChange name options) =
    turn (λ held x. override_answer (changed_row x.state.overrides name options)) (IsOverride name)
turn_of (OverrideReset name) = turn (reset_over name) (λ op. op ≡ ops.DropOverride name)

-- The answer of a change in a world
abbrev pub change_over : Change → Holdings → World → Answer
change_over change held x = (turn_of change).over held x

-- The change may do this operation
abbrev pub OpsOf : Change → Op → Type 0
OpsOf change op = (turn_of change).may op

-- ---- changes in turn

-- The answer of changes, one after another up to the first refusal
abbrev pub in_turn : List Change → Holdings → World → Answer
in_turn changes held x = each_over change_over changes held x

-- The answer of the migration that comes before changes: it is done in layout 1, and nothing is
-- done in layout 2
abbrev pub by_layout : Layout → Answer
by_layout One = op_answer ops.Migrate
by_layout Two = nothing

-- The answer of the migration of a world
abbrev pub migrating : Holdings → World → Answer
migrating held x = by_layout x.state.layout

-- The answer of a command's changes: the migration, and the changes one after another
abbrev pub changing : List Change → Holdings → World → Answer
changing changes held x = then_over held x (migrating held x) (in_turn changes held)

-- One of the changes may do this operation
abbrev pub OpsOfAny : List Change → Op → Type 0
OpsOfAny [] op = ⊥
OpsOfAny (change ∷ changes) op = OpsOf change op ⊎ OpsOfAny changes op

-- A command with these changes may do this operation: the migration, or one of a change
abbrev pub MayDo : List Change → Op → Type 0
MayDo changes op = (op ≡ ops.Migrate) ⊎ OpsOfAny changes op
