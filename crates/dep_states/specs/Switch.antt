-- Two images that differ in the `active` of one ref.
use Rattle.std.specs.Prelude.{◌≡◌, ◌≢◌, ◌⊎◌, ◌++◌, ℕ, List, map, true, Option}
use Rattle.fp_host.specs.Paths.{Elements}
use Rattle.fp_host.specs.View.{View}
use Rattle.fp_host.specs.Outcome.{Spot, gone, points, Disk, Leaves}
use Rattle.fp_host.specs.Reads.{is_ascending}
use Rattle.fp_name.specs.Hex.{hex}
use Rattle.fp_name.specs.Refs.{Ref, is_ref, ref_text}
use Rattle.fp_small.specs.Places.{repo}
use Rattle.fp_small.specs.declared.state.State.{State}
use Rattle.fp_small.specs.declared.state.RefRow.{RefRow}
use Rattle.ost_model.specs.Objects.{object_path, store}
use Rattle.ost_model.specs.Order.{Place, In, order}
use Rattle.ost_model.specs.Standing.{deploy_name, Stands}
use Rattle.dep_states.specs.Names.{active, commit_dir, deploy}
use Rattle.dep_states.specs.Shown.{there, seen_of, deploy_at, ref_seen, at_name, ref_key, setup_of, Shows}
use Rattle.dep_states.specs.Zones.{IsFileOrGone}
use Rattle.dep_states.specs.Sound.{Keeps, IsPrevious, Fixed, Permits, Sound, Opens, reads_as}

-- The state `t` equals `s` except that it has this row for the ref, or none
pub record IsWith (s : State) (name : Ref) (row : Option RefRow) (t : State) : Type 0 where
  pub setup : setup_of t ≡ setup_of s
  pub overrides : t.overrides ≡ s.overrides
  pub here : at_name ref_key t.refs (ref_text name) ≡ row
  pub others : (text : List ℕ) → text ≢ ref_text name
      → at_name ref_key t.refs text ≡ at_name ref_key s.refs text
  pub ascend : is_ascending (map ref_key t.refs) ≡ true

-- The image `j` shows this row for the ref, or none. At each fixed path of `i` except the ref's
-- `active` it has the node of `i`, and elsewhere one that may be there. The commits that it keeps
-- for the ref are checked out whole.
pub record Changed (i j : Disk) (name : Ref) (row : Option RefRow) : Type 0 where
  pub seen : ref_seen j name ≡ seen_of row
  pub still : (p : Elements) → Fixed i p → p ≢ active name → j p ≡ i p
  pub elsewhere : (p : Elements) → (j p ≡ i p) ⊎ Permits i p (j p)
  pub whole : (commit : List ℕ) → Keeps j name commit
      → Stands (reads_as name.kind) repo j commit (commit_dir name commit)
  pub deploys : (commit : List ℕ) → Keeps j name commit
      → IsFileOrGone (j (deploy (commit_dir name commit)))

-- The image is prepared for a switch of the ref to this row: the row's commit is checked out in its
-- directory with its `deploy`, and its previous commit is kept
pub record Prepared (i : Disk) (name : Ref) (row : RefRow) : Type 0 where
  pub good : is_ref name ≡ true
  pub stands : Stands (reads_as name.kind) repo i row.commit (commit_dir name row.commit)
  pub recorded : deploy_at name (hex row.commit) (i (deploy (commit_dir name row.commit)))
      ≡ there row
  pub previous : (commit : List ℕ) → IsPrevious row.previous commit → Keeps i name commit

-- The paths on which a switch to the row depends: the fixed ones but the ref's `active`, and those
-- of the row's commit, its objects and its `deploy`
pub data Wanted (i : Disk) (name : Ref) (row : RefRow) (p : Elements) : Type 0 where
  is_fixed : Fixed i p → p ≢ active name → Wanted i name row p
  is_new_path : (rest : Elements) → rest ≢ deploy_name → p ≡ rest ++ commit_dir name row.commit
      → Wanted i name row p
  is_new_object : (place : Place) → In (order (store repo i) row.commit) place
      → p ≡ object_path repo place.digest place.kind → Wanted i name row p
  is_new_deploy : p ≡ deploy (commit_dir name row.commit) → Wanted i name row p

-- A crash may newly show the switch: the new symlink at `active`, and nothing at its staging path
abbrev pub SwitchesAt : Ref → RefRow → Elements → Elements → Spot → Type 0
SwitchesAt name row from q spot =
    ((q ≡ active name) × (spot ≡ points (hex row.commit))) ⊎ ((q ≡ from) × (spot ≡ gone))

-- Each crash leaves an image that shows the state, is sound, and is prepared for a switch of the
-- ref to this row
pub record Stages (s : State) (name : Ref) (row : RefRow) (v : View) : Type 0 where
  pub opens : Opens s v
  pub prepared : (disk : Disk) → Leaves v disk → Prepared disk name row

-- Each crash leaves an image that shows one of the two states and is sound
pub record OpensEither (s t : State) (v : View) : Type 0 where
  pub shown : (disk : Disk) → Leaves v disk → Shows disk s ⊎ Shows disk t
  pub sound : (disk : Disk) → Leaves v disk → Sound disk
