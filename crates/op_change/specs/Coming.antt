-- A commit whose head was checked, before it is pulled.
use Rattle.std.specs.Prelude.{◌≡◌, ◌<◌, ◌^◌, ℕ, List, true, false, None, Result, Ok, Err}
use Rattle.fp_name.specs.Grammar.{is_remote_name}
use Rattle.fp_name.specs.Hex.{is_digest}
use Rattle.fp_name.specs.Refs.{Ref, is_ref}
use Rattle.fp_small.specs.declared.state.RefRow.{RefRow}
use Rattle.fp_small.specs.declared.state.State.{State}
use Rattle.ost_model.specs.Objects.{Have}
use Rattle.ost_head.specs.Heads.{head_of}
use Rattle.ost_head.specs.declared.head.Head.{Head}
use Rattle.ost_walk.specs.PullEnds.{RefusesBy}
use Rattle.ost_walk.specs.declared.pull_end.PullEnd.{PullEnd}
use Rattle.dep_states.specs.After.{HasRow, HasPrevious}
use Rattle.op_change.specs.Brought.{row_brought}
use Rattle.op_change.specs.Places.{ArePlaces}
use Rattle.op_change.specs.declared.coming.Coming.{Coming}

-- The row is the ref's at this commit, with any timestamp below 2^64, and its parts are valid
pub record IsRowFor (s : State) (origin : List ℕ) (name : Ref) (commit : List ℕ)
    (row : RefRow) : Type 0 where
  pub is : row ≡ row_brought s name origin commit row.timestamp
  pub time : row.timestamp < 2 ^ 64
  pub origin_is : is_remote_name origin ≡ true
  pub name_is : is_ref name ≡ true
  pub commit_is : is_digest commit ≡ true

-- The parts of a `Coming`: the row, the paths, and whether the ref keeps the commit as its previous
-- one
pub record IsComing (s : State) (origin : List ℕ) (name : Ref) (commit : List ℕ)
    (coming : Coming) : Type 0 where
  pub row : IsRowFor s origin name commit coming.row
  pub places : ArePlaces name commit coming.places
  pub kept : coming.kept ≡ true → HasRow s name (HasPrevious commit)
  pub unkept : coming.kept ≡ false → HasRow s name (HasPrevious commit) → ⊥

-- The result is a row with the timestamp of the commit's head, or the refusal of the head
abbrev pub HeadsFor : Have → Ref → List ℕ → Result Coming PullEnd → Type 0
HeadsFor have name commit (Ok coming) = (head : Head)
    × (head_of have name commit None ≡ Ok head) × (head.timestamp ≡ coming.row.timestamp)
HeadsFor have name commit (Err end) = RefusesBy (λ r. head_of have name commit None ≡ Err r) end
