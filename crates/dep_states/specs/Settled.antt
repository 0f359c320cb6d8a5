-- Settled images: those with nothing that their commits don't use.
use Rattle.std.specs.Prelude.{◌≡◌, ◌≢◌, ◌∷◌, ◌++◌, [], ℕ, List, true}
use Rattle.fp_host.specs.Paths.{Elements}
use Rattle.fp_host.specs.Outcome.{Spot, gone, folder, holds, points, Disk}
use Rattle.fp_name.specs.Grammar.{is_remote_name}
use Rattle.fp_name.specs.Hex.{hex, is_digest}
use Rattle.fp_name.specs.Refs.{Ref, is_ref}
use Rattle.fp_small.specs.Places.{repo, tmp}
use Rattle.fp_small.specs.declared.state.RefRow.{RefRow}
use Rattle.fp_base.specs.declared.object.ObjKind.{ObjKind}
use Rattle.ost_model.specs.Objects.{object_path, store}
use Rattle.ost_model.specs.Order.{Place, In, order}
use Rattle.dep_states.specs.Names.{config, remotes_conf, pins_file, commit_dir, ref_file}
use Rattle.dep_states.specs.Shown.{there, ref_seen}
use Rattle.dep_states.specs.Sound.{Keeps}

-- The object is in the order of a commit that the image keeps
pub record Used (disk : Disk) (d : List ℕ) (kind : ObjKind) : Type 0 where
  pub name : Ref
  pub commit : List ℕ
  pub place : Place
  pub kept : Keeps disk name commit
  pub inside : In (order (store repo disk) commit) place
  pub digest_is : place.digest ≡ d
  pub kind_is : place.kind ≡ kind

-- The node is a file with exactly these bytes
abbrev pub HasBytes : List ℕ → Spot → Type 0
HasBytes text gone = ⊥
HasBytes text folder = ⊥
HasBytes text (points link) = ⊥
HasBytes text (holds id mode bytes) = bytes ≡ text

-- The image shows the ref, with this origin
abbrev pub HasOrigin : Disk → Ref → List ℕ → Type 0
HasOrigin disk name origin =
    (row : RefRow) × (ref_seen disk name ≡ there row) × (row.origin ≡ origin)

-- The image is settled. Nothing is below `repo/tmp`. Each object that is present is used, and each
-- commit's directory is that of a commit that is kept. Each ref that is shown has a ref file, and
-- no other ref has one. Beside `config` there are no files of layout 1. In a sound image, each used
-- object is present.
pub record Settled (disk : Disk) : Type 0 where
  pub no_work : (x : List ℕ) (rest : Elements) → disk (rest ++ (x ∷ tmp)) ≡ gone
  pub used : (d : List ℕ) (kind : ObjKind) → is_digest d ≡ true
      → disk (object_path repo d kind) ≢ gone → Used disk d kind
  pub dirs : (name : Ref) (commit : List ℕ) → is_ref name ≡ true → is_digest commit ≡ true
      → disk (commit_dir name commit) ≢ gone → Keeps disk name commit
  pub ref_files : (name : Ref) (row : RefRow) → ref_seen disk name ≡ there row
      → HasBytes (hex row.commit ++ 10 ∷ []) (disk (ref_file row.origin name))
  pub no_other : (origin : List ℕ) (name : Ref) → is_remote_name origin ≡ true → is_ref name ≡ true
      → disk (ref_file origin name) ≢ gone → HasOrigin disk name origin
  pub no_old : disk config ≢ gone → (disk remotes_conf ≡ gone) × (disk pins_file ≡ gone)
