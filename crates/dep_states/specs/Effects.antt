-- The effect of an operation. Operations are distinguished by what they write only here.
use Rattle.std.specs.Prelude.{◌≡◌, ℕ, List, Bool, true, false}
use Rattle.fp_name.specs.Refs.{Ref}
use Rattle.fp_small.specs.declared.state.Layout.{Layout}
use Rattle.fp_small.specs.declared.state.Layout.TheVariants.{One, Two}
use Rattle.fp_small.specs.declared.state.OverrideRow.{OverrideRow}
use Rattle.fp_small.specs.declared.op.Op.{Op}
use Rattle.fp_small.specs.declared.op.Op.TheVariants.{Install, Update, Uninstall, AddPin, DropPin, AddRemote, ModifyRemote, DropRemote, SetOverride, DropOverride, Migrate, Rollback}

-- A change of the installation's files by an operation that brings no commit
pub data Write : Type 0 where
  -- The ref's `active` links to this commit, which is in the store
  moves : Ref → List ℕ → Write
  -- The ref's `active` is removed
  leaves : Ref → Write
  -- The file `config` is replaced, with a pin or a remote changed
  sets : Write
  -- The file `config` is made, and replaces the two files of layout 1
  migrates : Write
  -- The file of an override is replaced
  layers : OverrideRow → Write
  -- The file of the override with this name is removed
  bares : List ℕ → Write

-- The effect of an operation
pub data Effect : Type 0 where
  -- The ref's `active` links to this commit, whose objects come from the remote of this name
  brings : Ref → List ℕ → List ℕ → Effect
  -- Only this is written
  writes : Write → Effect

-- The effect of each operation
abbrev pub effect_of : Op → Effect
effect_of (Install name remote commit) = brings name remote commit
effect_of (Update name remote commit) = brings name remote commit
effect_of (Uninstall name) = writes (leaves name)
effect_of (AddPin pin) = writes sets
effect_of (DropPin pin) = writes sets
effect_of (AddRemote row) = writes sets
effect_of (ModifyRemote row) = writes sets
effect_of (DropRemote name) = writes sets
effect_of (SetOverride row) = writes (layers row)
effect_of (DropOverride name) = writes (bares name)
effect_of Migrate = writes migrates
effect_of (Rollback name commit) = writes (moves name commit)

-- The effect brings a commit
abbrev pub BringsCommit : Effect → Type 0
BringsCommit (brings name remote commit) = Unit {0}
BringsCommit (writes write) = ⊥

-- Tests whether `config` is written
abbrev pub is_of_config : Write → Bool
is_of_config sets = true
is_of_config migrates = true
is_of_config _ = false

-- Tests whether the effect writes `config`
abbrev pub writes_config : Effect → Bool
writes_config (brings name remote commit) = false
writes_config (writes write) = is_of_config write

-- The effect writes `config`
abbrev pub WritesConfig : Effect → Type 0
WritesConfig e = writes_config e ≡ true

-- Tests whether the settings or an override of layout 2 are written
abbrev pub is_small : Write → Bool
is_small sets = true
is_small (layers row) = true
is_small (bares name) = true
is_small _ = false

-- Tests whether the effect changes no commit
abbrev pub keeps_refs : Effect → Bool
keeps_refs (brings name remote commit) = false
keeps_refs (writes write) = is_small write

-- The layout of the state on which an operation with this effect is done
abbrev pub layout_before : Effect → Layout
layout_before (writes migrates) = One
layout_before _ = Two
