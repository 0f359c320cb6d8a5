-- The state after an operation, and the operations that a state allows.
use Rattle.std.specs.Prelude.{◌≡◌, ◌≢◌, ◌<◌, ◌^◌, ℕ, List, [], ◌∷◌, length, map, Contains, true, false, Option, Some, None}
use Rattle.std.specs.List.{AllByRecursion}
use Rattle.fp_keyfile.specs.KeyFile.{is_good}
use Rattle.fp_host.specs.Reads.{is_ascending}
use Rattle.fp_name.specs.Grammar.{is_remote_name}
use Rattle.fp_name.specs.Hex.{is_digest}
use Rattle.fp_name.specs.Pins.{is_pin}
use Rattle.fp_name.specs.Refs.{Ref, is_ref, ref_text}
use Rattle.fp_small.specs.Config.{IsSettings, is_row, name_of}
use Rattle.fp_small.specs.Order.{inserted, removed, replaced, has_name}
use Rattle.fp_small.specs.declared.limits.TheConstants.{MOST_REFS, MOST_PINS, MOST_REMOTES}
use Rattle.fp_small.specs.declared.state.State.{State}
use Rattle.fp_small.specs.declared.state.RefRow.{RefRow}
use Rattle.fp_small.specs.declared.state.Previous.{Previous}
use Rattle.fp_small.specs.declared.state.OverrideRow.{OverrideRow}
use Rattle.fp_small.specs.declared.state.Layout.{Layout}
use Rattle.fp_small.specs.declared.state.Layout.TheVariants.{Two}
use Rattle.fp_small.specs.declared.op.Op.{Op}
use Rattle.fp_small.specs.declared.op.Op.TheVariants.{Install, Update, Uninstall, AddPin, DropPin, AddRemote, ModifyRemote, DropRemote, SetOverride, DropOverride, Migrate, Rollback}
use Rattle.fp_name.specs.Grammar.{is_override}
use Rattle.dep_states.specs.Deploy.{goes_back_to}
use Rattle.dep_states.specs.Effects.{effect_of, layout_before, WritesConfig}
use Rattle.dep_states.specs.Shown.{at_name, ref_key, override_key, settings_of}

-- An operation, and the timestamp of the commit that it brings; 0 if it isn't an `Install` or
-- `Update`
pub record Done : Type 0 where
  pub op : Op
  pub timestamp : ℕ

-- ---- the rows of refs

-- The row of a ref with this origin, commit, timestamp and previous commit
abbrev pub ref_row : Ref → List ℕ → List ℕ → ℕ → Option Previous → RefRow
ref_row name origin commit timestamp previous =
    record {
      name = name;
      origin = origin;
      commit = commit;
      timestamp = timestamp;
      previous = previous;
    }

-- The commit of a row, as a previous commit
abbrev pub as_previous : RefRow → Option Previous
as_previous row = Some (record { commit = row.commit; timestamp = row.timestamp })

-- The row of a ref in a state; nothing if the state doesn't have the ref
abbrev pub row_at : State → Ref → Option RefRow
row_at s name = at_name ref_key s.refs (ref_text name)

-- The state with these rows of refs instead of its own
abbrev pub with_refs : State → List RefRow → State
with_refs s rows = record s { refs = rows }

-- The rows of refs ascend
abbrev pub HasOrder : State → Type 0
HasOrder s = is_ascending (map ref_key s.refs) ≡ true

-- The row of a ref that moved to this commit of this remote; the row's old commit is the previous
-- one
abbrev pub moved : Ref → List ℕ → List ℕ → ℕ → RefRow → RefRow
moved name remote commit timestamp row =
    record {
      name = name;
      origin = remote;
      commit = commit;
      timestamp = timestamp;
      previous = Some (record { commit = row.commit; timestamp = row.timestamp });
    }

-- The state after an update of the ref whose row this is; unchanged if there is no row
abbrev pub updated : State → Ref → List ℕ → List ℕ → ℕ → Option RefRow → State
updated s name remote commit timestamp None = s
updated s name remote commit timestamp (Some row) =
    with_refs s (replaced ref_key s.refs (moved name remote commit timestamp row))

-- The row after a rollback: its commit and its previous commit are exchanged
abbrev pub exchanged : RefRow → Previous → RefRow
exchanged row p = record {
  name = row.name;
  origin = row.origin;
  commit = p.commit;
  timestamp = p.timestamp;
  previous = Some (record { commit = row.commit; timestamp = row.timestamp });
}

-- The state after a rollback of the ref with this row and previous commit; unchanged if there is
-- none
abbrev pub back : State → RefRow → Option Previous → State
back s row None = s
back s row (Some p) = with_refs s (replaced ref_key s.refs (exchanged row p))

-- The state after a rollback of the ref whose row this is; unchanged if there is no row
abbrev pub rolled_back : State → Option RefRow → State
rolled_back s None = s
rolled_back s (Some row) = back s row row.previous

-- ---- the state after an operation

-- The state after an operation with this timestamp
abbrev pub after_op : State → ℕ → Op → State
after_op s timestamp (Install name remote commit) = with_refs s
    (inserted ref_key s.refs
    (record {
      name = name;
      origin = remote;
      commit = commit;
      timestamp = timestamp;
      previous = None;
    }))
after_op s timestamp (Update name remote commit) =
    updated s name remote commit timestamp (row_at s name)
after_op s timestamp (Uninstall name) = with_refs s (removed ref_key s.refs (ref_text name))
after_op s timestamp (AddPin pin) = record s { pins = inserted (λ p. p) s.pins pin }
after_op s timestamp (DropPin pin) = record s { pins = removed (λ p. p) s.pins pin }
after_op s timestamp (AddRemote row) = record s { remotes = inserted name_of s.remotes row }
after_op s timestamp (ModifyRemote row) = record s { remotes = replaced name_of s.remotes row }
after_op s timestamp (DropRemote name) = record s { remotes = removed name_of s.remotes name }
after_op s timestamp (SetOverride row) =
    record s { overrides = replaced override_key s.overrides row }
after_op s timestamp (DropOverride name) =
    record s { overrides = removed override_key s.overrides name }
after_op s timestamp Migrate = record s { layout = Two }
after_op s timestamp (Rollback name commit) = rolled_back s (row_at s name)

-- An operation that brings no commit, with the timestamp 0
abbrev pub plain : Op → Done
plain op = record { op = op; timestamp = 0 }

-- The state after an operation with its timestamp
abbrev pub state_after : State → Done → State
state_after s done = after_op s done.timestamp done.op

-- The state after operations in turn
abbrev pub after_all : State → List Done → State
after_all s [] = s
after_all s (done ∷ more) = after_all (state_after s done) more

-- ---- the operations that a state allows

-- The layout of the state on which the operation is done: layout 1 for `Migrate`, which comes
-- before any other operation, else layout 2
abbrev pub layout_for : Op → Layout
layout_for op = layout_before (effect_of op)

-- The operation changes what `config` contains: the pins, the remotes or the layout
abbrev pub IsOnConfig : Op → Type 0
IsOnConfig op = WritesConfig (effect_of op)

-- The state has the ref, and its row has the property `Is`
abbrev pub HasRow : State → Ref → (RefRow → Type 0) → Type 0
HasRow s name Is = (row : RefRow) × (row_at s name ≡ Some row) × Is row

-- The row has this previous commit
abbrev pub HasPrevious : List ℕ → RefRow → Type 0
HasPrevious commit row = (p : Previous) × (row.previous ≡ Some p) × (p.commit ≡ commit)

-- The ref isn't deployed, the remote exists, the commit is a digest, and the state has fewer refs
-- than the maximum
abbrev pub IsInstall : State → Ref → List ℕ → List ℕ → Type 0
IsInstall s name remote commit = (is_ref name ≡ true) × (row_at s name ≡ None)
    × (has_name name_of s.remotes remote ≡ true) × (is_digest commit ≡ true)
    × (length s.refs < MOST_REFS)

-- The ref is deployed at another commit, the remote exists, and the commit is a digest
abbrev pub IsUpdate : State → Ref → List ℕ → List ℕ → Type 0
IsUpdate s name remote commit = HasRow s name (λ row. row.commit ≢ commit)
    × (has_name name_of s.remotes remote ≡ true) × (is_digest commit ≡ true)

-- The state allows the operation, in any layout
abbrev pub Allows : State → Op → Type 0
Allows s (Install name remote commit) = IsInstall s name remote commit
Allows s (Update name remote commit) = IsUpdate s name remote commit
Allows s (Uninstall name) = row_at s name ≢ None
Allows s (AddPin pin) =
    (is_pin pin ≡ true) × (Contains s.pins pin → ⊥) × (length s.pins < MOST_PINS)
Allows s (DropPin pin) = Contains s.pins pin
Allows s (AddRemote row) = (is_row row ≡ true) × (has_name name_of s.remotes row.name ≡ false)
    × (length s.remotes < MOST_REMOTES)
Allows s (ModifyRemote row) = (is_row row ≡ true) × (has_name name_of s.remotes row.name ≡ true)
Allows s (DropRemote name) = has_name name_of s.remotes name ≡ true
Allows s (SetOverride row) = (is_override row.name ≡ true) × (is_good row.file ≡ true)
Allows s (DropOverride name) = is_override name ≡ true
Allows s Migrate = Unit {0}
Allows s (Rollback name commit) = HasRow s name (HasPrevious commit)

-- The operation may be done on the state
pub record May (s : State) (op : Op) : Type 0 where
  pub layout : s.layout ≡ layout_for op
  pub allows : Allows s op

-- ---- states that can be written

-- The previous commit, if there is one, can be written: a digest and a 64-bit timestamp
abbrev pub IsGoodPrevious : Option Previous → Type 0
IsGoodPrevious None = Unit {0}
IsGoodPrevious (Some p) = (is_digest p.commit ≡ true) × (p.timestamp < 2 ^ 64)

-- A row that a file `deploy` can have
pub record IsGoodRow (row : RefRow) : Type 0 where
  pub name : is_ref row.name ≡ true
  pub origin : is_remote_name row.origin ≡ true
  pub commit : is_digest row.commit ≡ true
  pub previous : IsGoodPrevious row.previous
  pub moves : goes_back_to row.commit row.previous ≡ false
  pub time : row.timestamp < 2 ^ 64

-- A row that a key file can have
pub record IsGoodLayer (row : OverrideRow) : Type 0 where
  pub name : is_override row.name ≡ true
  pub file : is_good row.file ≡ true

-- A state that can be written: each of its parts is valid, and its rows ascend
pub record IsGood (s : State) : Type 0 where
  pub settings : IsSettings (settings_of s)
  pub rows : AllByRecursion IsGoodRow s.refs
  pub refs_ascend : is_ascending (map ref_key s.refs) ≡ true
  pub layers : AllByRecursion IsGoodLayer s.overrides
  pub overrides_ascend : is_ascending (map override_key s.overrides) ≡ true
