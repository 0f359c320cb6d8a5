-- One operation, done wholly or not at all.
use Rattle.std.specs.Prelude.{◌≡◌, ◌⊎◌, ℕ, List, true, Some}
use Rattle.fp_base.specs.declared.object.ObjKind.{ObjKind}
use Rattle.fp_host.specs.Paths.{Elements, Slot, absent, link}
use Rattle.fp_host.specs.View.{View}
use Rattle.fp_host.specs.Outcome.{IsSettled, shows}
use Rattle.fp_name.specs.Hex.{hex, is_digest}
use Rattle.fp_name.specs.Refs.{Ref, is_ref, ref_text}
use Rattle.fp_small.specs.Clear.{IsWithin}
use Rattle.fp_small.specs.Files.{KeepsFiles}
use Rattle.fp_small.specs.Places.{repo}
use Rattle.fp_small.specs.declared.state.State.{State}
use Rattle.fp_small.specs.declared.state.Previous.{Previous}
use Rattle.fp_small.specs.declared.state.RefRow.{RefRow}
use Rattle.ost_model.specs.Objects.{store}
use Rattle.ost_store.specs.Created.{Creates, NoObject}
use Rattle.dep_states.specs.After.{exchanged}
use Rattle.dep_states.specs.Lasting.{IsLasting, SharesAs}
use Rattle.dep_states.specs.Links.{Links}
use Rattle.dep_states.specs.Shown.{at_name, ref_key}
use Rattle.dep_states.specs.Names.{active, commit_dir, deploy}
use Rattle.dep_states.specs.Sound.{Opens}
use Rattle.dep_states.specs.Switch.{OpensEither}
use Rattle.dep_switch.specs.Rows.{with_row}
use Rattle.dep_switch.specs.Staging.{CanStage}
use Rattle.dep_switch.specs.Writing.{new_link, PreparesName}

-- ---- from a state to another

-- An operation from the state `s` to `t` at each moment: if every crash left `s` before, it leaves
-- `s` or `t`. No names change but those of `W`, each file keeps its mode and its bytes, and nothing
-- is printed.
pub record Does (s t : State) (W : View → Elements → Slot → Type 0) (u w : View) : Type 0 where
  pub either : Opens s u → OpensEither s t w
  pub names : (q : Elements) → (w.names q ≡ u.names q) ⊎ W u q (w.names q)
  pub files : KeepsFiles u w
  pub printed : w.printed ≡ u.printed

-- The store has the same objects before and after
abbrev pub SameObjects : View → View → Type 0
SameObjects u w = (d : List ℕ) (kind : ObjKind) → is_digest d ≡ true
    → store repo (shows w) d kind ≡ store repo (shows u) d kind

-- The operation succeeded: every crash leaves exactly the present content, and the state `t` if
-- every crash left the state `s` before. The store has the same objects, each new file that has
-- bytes was put at a path where it lasts, and no object was made.
pub record WasDone (s t : State) (u w : View) : Type 0 where
  pub opens : Opens s u → Opens t w
  pub settled : IsSettled w
  pub objects : SameObjects u w
  pub shares : SharesAs IsLasting u w
  pub creates : Creates repo NoObject u w

-- ---- a row that is deployed

-- Deploying the commit may give the name `q` this entry: nothing at and below `repo/tmp/active`,
-- what is prepared before the switch, and the link at `active`
pub data DeploysName (name : Ref) (commit : List ℕ) (q : Elements) (e : Slot) : Type 0 where
  work_goes : IsWithin new_link q → e ≡ absent → DeploysName name commit q e
  before_switch : PreparesName (deploy (commit_dir name commit)) (hex commit) q e
      → DeploysName name commit q e
  at_active : q ≡ active name → e ≡ link (hex commit) → DeploysName name commit q e

-- Deploying a row at each moment: every crash leaves the state `s` or the one with the row, if the
-- row could be deployed (`CanStage`). No names change but those of `DeploysName`, each file keeps
-- its mode and its bytes, and nothing is printed. A new file that has bytes was put at a path where
-- it lasts, and no object is made. A file that is new in a commit's directory is the record
-- `deploy`, or was put below the store's objects.
pub record Deploys (s : State) (row : RefRow) (u w : View) : Type 0 where
  pub either : CanStage s row u → OpensEither s (with_row s row) w
  pub names : (q : Elements) → (w.names q ≡ u.names q)
      ⊎ DeploysName row.name row.commit q (w.names q)
  pub files : KeepsFiles u w
  pub shares : SharesAs IsLasting u w
  pub links : Links u w
  pub creates : Creates repo NoObject u w
  pub printed : w.printed ≡ u.printed

-- Deploying a row succeeded: every crash leaves exactly the present content, and the state with the
-- row, if the row could be deployed (`CanStage`)
pub record WasDeployed (s : State) (row : RefRow) (u w : View) : Type 0 where
  pub opens : CanStage s row u → Opens (with_row s row) w
  pub settled : IsSettled w

-- The row that a ref among these rows has after a rollback: its commit and its previous commit are
-- exchanged
pub record IsRowBack (rows : List RefRow) (name : Ref) (new : RefRow) : Type 0 where
  pub row : RefRow
  pub previous : Previous
  pub has : at_name ref_key rows (ref_text name) ≡ Some row
  pub was : row.previous ≡ Some previous
  pub is : new ≡ exchanged row previous
  pub good : is_ref name ≡ true

-- The ref has a row among these, with a previous commit
pub record HasBack (rows : List RefRow) (name : Ref) : Type 0 where
  pub row : RefRow
  pub previous : Previous
  pub has : at_name ref_key rows (ref_text name) ≡ Some row
  pub was : row.previous ≡ Some previous
