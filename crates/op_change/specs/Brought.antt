-- Bringing a commit: its refusals, the new state, and the objects.
use Rattle.std.specs.Prelude.{◌≡◌, ◌≢◌, ℕ, List, true, Option, Some, None, Result, Ok, Err, option_map}
use Rattle.std.specs.Option.{option_or}
use Rattle.fp_base.specs.declared.object.ObjKind.{ObjKind}
use Rattle.fp_host.specs.View.{View}
use Rattle.fp_host.specs.Outcome.{shows}
use Rattle.fp_host.specs.Remote.{Holdings}
use Rattle.fp_name.specs.Hex.{is_digest}
use Rattle.fp_name.specs.Refs.{Ref}
use Rattle.fp_small.specs.Places.{repo}
use Rattle.fp_small.specs.declared.refusal.Refusal.{Refusal}
use Rattle.fp_small.specs.declared.state.State.{State}
use Rattle.fp_small.specs.declared.state.RefRow.{RefRow}
use Rattle.fp_small.specs.declared.state.Previous.{Previous}
use Rattle.ost_model.specs.Fields.{CommitView}
use Rattle.ost_model.specs.Objects.{Have, store, supply}
use Rattle.ost_model.specs.Order.{Agree, commit_at, order}
use Rattle.ost_model.specs.Remotes.{remote}
use Rattle.ost_head.specs.Heads.{head_of}
use Rattle.ost_pull.specs.Pulls.{IsNoneOf, first_refusal}
use Rattle.dep_states.specs.After.{row_at}
use Rattle.dep_switch.specs.Rows.{with_row}

-- ---- what is refused

-- The refusal of a result, if it is one
abbrev pub refusal_in : {A : Type 0} → Result A Refusal → Option Refusal
refusal_in (Ok a) = None
refusal_in (Err refusal) = Some refusal

-- The refusal of a commit: for its head, whatever its timestamp, else for the first fault of its
-- objects in their order
abbrev pub brought_refusal : Have → Ref → List ℕ → Option Refusal
brought_refusal have name commit =
    option_or (refusal_in (head_of have name commit None)) (first_refusal have commit)

-- ---- the state

-- The timestamp of a parsed commit; 0 if it isn't parsed
abbrev pub time_of : Option CommitView → ℕ
time_of None = 0
time_of (Some c) = c.timestamp

-- The timestamp of a commit; 0 if it is missing or isn't valid
abbrev pub commit_time : Have → List ℕ → ℕ
commit_time have commit = time_of (commit_at have commit)

-- The commit of a row, as a previous one
abbrev pub left_at : RefRow → Previous
left_at row = record { commit = row.commit; timestamp = row.timestamp }

-- The commit that the ref is at, as a previous one; nothing if the ref isn't deployed
abbrev pub previous_for : State → Ref → Option Previous
previous_for s name = option_map left_at (row_at s name)

-- The row of the ref at this commit, with the one that it is at now as its previous commit
abbrev pub row_brought : State → Ref → List ℕ → List ℕ → ℕ → RefRow
row_brought s name origin commit timestamp =
    record {
      name = name;
      origin = origin;
      commit = commit;
      timestamp = timestamp;
      previous = previous_for s name;
    }

-- The state with the ref at this commit, whose row has the commit's own timestamp
abbrev pub state_brought : Have → State → Ref → List ℕ → List ℕ → State
state_brought have s name origin commit =
    with_row s (row_brought s name origin commit (commit_time have commit))

-- ---- the objects

-- The objects of the installation's store, and those of the remote at the URL where it has none
abbrev pub supply_at : Holdings → Option (List ℕ) → View → Have
supply_at held url v = supply (store repo (shows v)) (remote held url)

-- The store has the objects of the commit as they were supplied, the objects that it had are the
-- same, and no others were added
pub record HasObjects (have : Have) (commit : List ℕ) (u w : View) : Type 0 where
  pub there : Agree have (store repo (shows w)) (order have commit)
  pub stood : (d : List ℕ) (kind : ObjKind) → is_digest d ≡ true
      → store repo (shows u) d kind ≢ None → store repo (shows w) d kind
      ≡ store repo (shows u) d kind
  pub others : (d : List ℕ) (kind : ObjKind) → is_digest d ≡ true → IsNoneOf have commit (d, kind)
      → store repo (shows w) d kind ≡ store repo (shows u) d kind
