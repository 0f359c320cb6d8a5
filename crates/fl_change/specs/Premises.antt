-- The premises of the laws of changes, and the answers in them.
use Rattle.std.specs.Prelude.{◌≡◌, ℕ, List, [], ◌∷◌, length, Option, Some, None, Result, Ok}
use Rattle.fp_host.specs.Remote.{Holdings}
use Rattle.fp_keyfile.specs.KeyFile.{text_of}
use Rattle.fp_name.specs.Refs.{Ref}
use Rattle.fp_small.specs.Config.{name_of}
use Rattle.fp_small.specs.declared.op.Op.{Op}
use Rattle.fp_small.specs.declared.refusal.Refusal.{Refusal}
use Rattle.fp_small.specs.declared.refusal.Refusal.TheVariants.{NoSuchRef}
use Rattle.fp_small.specs.declared.state.OverrideRow.{OverrideRow}
use Rattle.fp_small.specs.declared.state.Previous.{Previous}
use Rattle.fp_small.specs.declared.state.RefRow.{RefRow}
use Rattle.fp_small.specs.declared.state.RemoteRow.{RemoteRow}
use Rattle.dep_states.specs.After.{Done, row_at}
use Rattle.dep_states.specs.Shown.{at_name}
use Rattle.op_change.specs.Applied.{done_with, op_refusal}
use Rattle.fl_meta.specs.declared.meta.Meta.{Meta}
use Rattle.fl_installed.specs.Described.{described}
use Rattle.fl_lines.specs.Lines.{op_text}
use Rattle.fl_words.specs.declared.command.Change.TheVariants.{UpdateAll}
use Rattle.fl_change.specs.World.{World, supplied}
use Rattle.fl_change.specs.Answer.{Answer, Piece, IsIdle, each_over}
use Rattle.fl_change.specs.Overrides.{changed_row}
use Rattle.fl_change.specs.Refs.{drop_over, target_over}
use Rattle.fl_change.specs.Turns.{changing}

-- ---- what is there

-- The remote with this name; nothing if there is none
abbrev pub remote_named : World → List ℕ → Option RemoteRow
remote_named x name = at_name name_of x.state.remotes name

-- The ref isn't deployed, and `from` is the remote named `remote`
pub record MayInstall (x : World) (remote : List ℕ) (name : Ref) (from : RemoteRow) : Type 0 where
  pub there : remote_named x remote ≡ Some from
  pub absent : row_at x.state name ≡ None

-- The ref is deployed, and `from` is the remote that it comes from
pub record IsDeployedFrom (x : World) (name : Ref) (from : RemoteRow) : Type 0 where
  pub row : RefRow
  pub deployed : row_at x.state name ≡ Some row
  pub there : remote_named x row.origin ≡ Some from

-- The ref is deployed and has this previous commit, whose metadata or its refusal is `said`
pub record GoesBackTo (x : World) (name : Ref) (previous : Previous)
    (said : Result Meta Refusal) : Type 0 where
  pub row : RefRow
  pub deployed : row_at x.state name ≡ Some row
  pub before : row.previous ≡ Some previous
  pub says : described x.have name previous.commit ≡ said

-- The ref is deployed and has this previous commit, whose metadata is valid and names this runtime,
-- or none
pub record NamesRuntime (x : World) (name : Ref) (previous : Previous)
    (runtime : Option Ref) : Type 0 where
  pub meta : Meta
  pub goes : GoesBackTo x name previous (Ok meta)
  pub names : meta.runtime ≡ runtime

-- The override with this name, changed by the options
abbrev pub override_with : World → List ℕ → List (List ℕ) → OverrideRow
override_with x name options = changed_row x.state.overrides name options

-- The length in bytes of the text of the override with this name, changed by the options
abbrev pub override_len : World → List ℕ → List (List ℕ) → ℕ
override_len x name options = length (text_of (override_with x name options).file)

-- The refusal is that a remote doesn't offer a ref
abbrev pub IsOfNoOffer : Refusal → Type 0
IsOfNoOffer refusal = (remote : List ℕ) × (missed : Ref) × (refusal ≡ NoSuchRef remote missed)

-- ---- what is done

-- The operation isn't refused, and `done` is the operation with the timestamp that it brings
pub record Does (held : Holdings) (x : World) (op : Op) (done : Done) : Type 0 where
  pub accepted : op_refusal (supplied held x op) op ≡ None
  pub is : done_with (supplied held x op) op ≡ done

-- An update of all in this world has no operation and isn't refused
abbrev pub HasNoUpdate : Holdings → World → Type 0
HasNoUpdate held x = IsIdle (changing (UpdateAll ∷ []) held x)
    × ((changing (UpdateAll ∷ []) held x).refusal ≡ None)

-- ---- what is answered

-- The answer of an update of all for these refs, one after another
abbrev pub targets_over : List Ref → Holdings → World → Answer
targets_over names held x = each_over target_over names held x

-- The answer of uninstalling these runtimes one after another
abbrev pub drops_over : List Ref → Holdings → World → Answer
drops_over names held x = each_over drop_over names held x

-- The line of an operation, which acknowledges it
abbrev pub done_piece : Done → Piece
done_piece done = record { text = op_text done.op; op = Some done }

-- The piece, followed by the answer
abbrev pub after_piece : Piece → Answer → Answer
after_piece piece next =
    record { pieces = piece ∷ next.pieces; refusal = next.refusal }
