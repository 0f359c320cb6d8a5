-- Checking out a commit into a directory.
use Rattle.std.specs.Prelude.{◌≡◌, ℕ, List, None}
use Rattle.fp_host.specs.Paths.{Elements, absent, IsAbove}
use Rattle.fp_host.specs.View.{View, IsTree}
use Rattle.fp_host.specs.Outcome.{shows}
use Rattle.fp_host.specs.Frame.{Keeps, NoPath}
use Rattle.fp_base.specs.declared.object.ObjKind.{ObjKind}
use Rattle.fp_small.specs.Folders.{ancestors, FoldersAt, DirsAt, AreFree}
use Rattle.fp_small.specs.Places.{repo}
use Rattle.ost_model.specs.Objects.{object_path, store}
use Rattle.ost_model.specs.Order.{first_fault}
use Rattle.ost_checkout.specs.Checkout.{IsApart, ChecksOut, IsCheckedOut}

-- The missing directories above a path may be made, and nothing else changes
abbrev pub MakesAbove : Elements → View → View → Type 0
MakesAbove to u w = Keeps (FoldersAt (ancestors to)) (DirsAt (ancestors to)) NoPath u w

-- A checkout at each moment: the directories above it are being made, or they were made and the
-- commit's paths are being made
pub data LaysOut (commit : List ℕ) (to : Elements) (u w : View) : Type 0 where
  folders_come : MakesAbove to u w → LaysOut commit to u w
  paths_come : (between : View) → IsTree between → MakesAbove to u between
      → ChecksOut repo commit to between w → LaysOut commit to u w

-- If no object has its path at or below `to`, the commit is checked out in the directory `to`
abbrev pub WasLaidOut : List ℕ → Elements → View → View → Type 0
WasLaidOut commit to u w = IsApart repo to → IsCheckedOut repo commit to w

-- The commit can be checked out into `to`: `to` is absent, no object has its path at, below or
-- above it, directories can be made above it, and the commit has no fault in the store
pub record CanLayOut (commit : List ℕ) (to : Elements) (v : View) : Type 0 where
  pub apart : IsApart repo to
  pub above : (d : List ℕ) (kind : ObjKind) → IsAbove (object_path repo d kind) to → ⊥
  pub free : v.names to ≡ absent
  pub folders : AreFree (ancestors to) v
  pub whole : first_fault (store repo (shows v)) commit ≡ None
