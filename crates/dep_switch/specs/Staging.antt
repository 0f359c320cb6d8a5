-- Staging a switch of a ref to another commit, and the switch.
use Rattle.std.specs.Prelude.{◌≡◌, ◌⊎◌, ◌≤◌, ℕ, List, length, true, Some, Contains}
use Rattle.fp_host.specs.Paths.{Elements, Slot, absent, link}
use Rattle.fp_host.specs.View.{View}
use Rattle.fp_host.specs.Outcome.{IsSettled, shows}
use Rattle.fp_name.specs.Hex.{hex, is_digest}
use Rattle.fp_name.specs.Refs.{is_ref}
use Rattle.fp_small.specs.Places.{repo}
use Rattle.fp_small.specs.Replace.{IsFreeFile}
use Rattle.fp_small.specs.declared.state.State.{State}
use Rattle.fp_small.specs.declared.state.RefRow.{RefRow}
use Rattle.ost_model.specs.Standing.{Stands}
use Rattle.dep_states.specs.Lasting.{IsLasting, SharesAs}
use Rattle.dep_states.specs.Names.{active, commit_dir, deploy}
use Rattle.dep_states.specs.Deploy.{deploy_of}
use Rattle.dep_states.specs.Shown.{small_most}
use Rattle.dep_states.specs.Sound.{reads_as, IsPrevious, Opens}
use Rattle.dep_states.specs.Switch.{Stages, OpensEither}
use Rattle.dep_switch.specs.Rows.{with_row, IsAt}
use Rattle.dep_switch.specs.Writing.{data_of, new_link, Prepares}
use Rattle.dep_switch.specs.declared.staged.Staged.{Staged}
use Rattle.dep_switch.specs.declared.staged.Preparation.{Preparation}
use Rattle.dep_switch.specs.declared.staged.Parts.{Parts}

-- The path of the file `deploy` of a row's commit
abbrev pub row_deploy : RefRow → Elements
row_deploy row = deploy (commit_dir row.name row.commit)

-- ---- before the switch is staged

-- A switch to the row can be staged. The row's commit is checked out in its directory, and its ref
-- isn't at this commit; the row's previous commit is that of the ref. Nothing is at the staging
-- path of the symlink, and the row's `deploy` is absent or a file.
pub record CanStage (s : State) (row : RefRow) (v : View) : Type 0 where
  pub opens : Opens s v
  pub stands : Stands (reads_as row.name.kind) repo (shows v) row.commit
      (commit_dir row.name row.commit)
  pub moves : IsAt s row.name row.commit → ⊥
  pub previous : (commit : List ℕ) → IsPrevious row.previous commit → IsAt s row.name commit
  pub link_free : v.names new_link ≡ absent
  pub deploy_free : IsFreeFile (row_deploy row) v

-- ---- while the switch is staged

-- The staging at each moment: each crash leaves the state, if the ref isn't at the row's commit.
-- Only the names of the row's `deploy`, of the new symlink and of its ancestors change. A new file
-- that isn't empty is that `deploy`.
pub record Readies (s : State) (row : RefRow) (u w : View) : Type 0 where
  pub opens : Opens s u → (IsAt s row.name row.commit → ⊥) → Opens s w
  pub prepares : Prepares (row_deploy row) (hex row.commit) u w
  pub shares : SharesAs IsLasting u w

-- ---- the staged switch

-- The switch to the row is staged: each crash leaves the state, the row's commit with its `deploy`
-- beside it, and a sound installation; the symlink to the commit is at its staging path, and
-- nothing waits for a sync
pub record IsStaged (s : State) (row : RefRow) (v : View) : Type 0 where
  pub stages : Stages s row.name row v
  pub moves : IsAt s row.name row.commit → ⊥
  pub linked : v.names new_link ≡ link (hex row.commit)
  pub settled : IsSettled v

-- The staging succeeded: the switch is staged if it could be, and the symlink is at its staging
-- path
pub record WasStaged (s : State) (row : RefRow) (u w : View) : Type 0 where
  pub staged : CanStage s row u → IsStaged s row w
  pub linked : w.names new_link ≡ link (hex row.commit)

-- The switch leads from this state to the one with the row
pub record LeadsTo (s : State) (row : RefRow) (staged : Staged) : Type 0 where
  pub from : staged.from ≡ new_link
  pub to : staged.to ≡ active row.name
  pub state : staged.state ≡ with_row s row

-- The parts of a switch to the row, without the state
pub record ArePartsOf (row : RefRow) (parts : Parts) : Type 0 where
  pub deploy : parts.deploy ≡ row_deploy row
  pub says : deploy_of parts.bytes ≡ Some (data_of row)
  pub short : length parts.bytes ≤ small_most
  pub text : parts.text ≡ hex row.commit
  pub from : parts.from ≡ new_link
  pub to : parts.to ≡ active row.name
  pub digits : is_digest row.commit ≡ true

-- The preparation of a switch to the row
pub record IsPreparation (s : State) (row : RefRow) (made : Preparation) : Type 0 where
  pub deploy : made.deploy ≡ row_deploy row
  pub says : deploy_of made.bytes ≡ Some (data_of row)
  pub short : length made.bytes ≤ small_most
  pub text : made.text ≡ hex row.commit
  pub leads : LeadsTo s row made.staged
  pub name : is_ref row.name ≡ true
  pub digits : is_digest row.commit ≡ true

-- The switch is staged in the present view
pub record CanSwitch (staged : Staged) (v : View) : Type 0 where
  pub old : State
  pub row : RefRow
  pub leads : LeadsTo old row staged
  pub ready : IsStaged old row v

-- ---- the switch

-- The entries that names get by a switch: the symlink at `active`, and nothing at its staging path
abbrev pub SwitchesName : Staged → View → Elements → Slot → Type 0
SwitchesName staged u q e =
    ((q ≡ staged.to) × (e ≡ u.names staged.from)) ⊎ ((q ≡ staged.from) × (e ≡ absent))

-- The switch at each moment: each crash leaves the old state or the new one, and a sound
-- installation. No file changes, remembered entries stay remembered, and nothing is printed.
pub record Switches (staged : Staged) (u w : View) : Type 0 where
  pub either : (s : State) (row : RefRow) → LeadsTo s row staged → IsStaged s row u
      → OpensEither s staged.state w
  pub names : (q : Elements) → (w.names q ≡ u.names q) ⊎ SwitchesName staged u q (w.names q)
  pub puts : (x : Elements × Slot) → Contains w.stood x
      → Contains u.stood x ⊎ SwitchesName staged u x.0 x.1
  pub files : (id : ℕ) → w.files id ≡ u.files id
  pub stood : (x : Elements × Slot) → Contains u.stood x → Contains w.stood x
  pub printed : w.printed ≡ u.printed

-- The switch succeeded: each crash leaves the new state, and nothing waits for a sync
pub record WasSwitched (staged : Staged) (u w : View) : Type 0 where
  pub opens : CanSwitch staged u → Opens staged.state w
  pub settled : IsSettled w
