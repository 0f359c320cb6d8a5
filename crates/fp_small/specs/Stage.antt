-- Staging of a new file.
use Rattle.std.specs.Prelude.{◌≡◌, ℕ, List, Some, false}
use Rattle.fp_host.specs.Paths.{Elements, absent, file}
use Rattle.fp_host.specs.View.{View}
use Rattle.fp_host.specs.Calls.{HasFolder}
use Rattle.fp_host.specs.Outcome.{IsSettled}
use Rattle.fp_small.specs.declared.limits.TheConstants.{FILE_MODE}

-- The path `t` is a file with these bytes and the permission bits 0644. No crash changes the file,
-- since it was synced.
pub record IsReady (t : Elements) (bytes : List ℕ) (v : View) : Type 0 where
  pub id : ℕ
  pub name : v.names t ≡ file id
  pub row : v.files id ≡ Some (record { mode = FILE_MODE; bytes = bytes })
  pub clean : v.dirty id ≡ false

-- The file was staged and synced: it is ready, and every crash leaves exactly the present content
pub record WasStaged (t : Elements) (bytes : List ℕ) (u w : View) : Type 0 where
  pub ready : IsReady t bytes w
  pub settled : IsSettled w

-- A file can be staged at the path: the path's parent is a directory, and the path is absent
abbrev pub CanStage : Elements → View → Type 0
CanStage t v = HasFolder v t × (v.names t ≡ absent)
