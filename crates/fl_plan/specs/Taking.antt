-- Operations that bring commits offered by remotes.
use Rattle.std.specs.Prelude.{◌≡◌, ◌⊎◌, ℕ, true, List, [], ◌∷◌, Some, Ok}
use Rattle.std.specs.List.{AllByRecursion}
use Rattle.fp_host.specs.Remote.{Holdings}
use Rattle.fp_name.specs.Refs.{Ref}
use Rattle.fp_small.specs.Config.{name_of}
use Rattle.fp_small.specs.declared.op.Op.{Op}
use Rattle.fp_small.specs.declared.op.Op.TheVariants.{Install, Update}
use Rattle.fp_small.specs.declared.state.State.{State}
use Rattle.fp_small.specs.declared.state.RemoteRow.{RemoteRow}
use Rattle.ost_refs.specs.Offers.{offered}
use Rattle.dep_states.specs.Shown.{at_name}
use Rattle.fl_extension.specs.Found.{row_of}
use Rattle.fl_plan.specs.Plans.{is_at}

-- The remote with this name offers this commit under the ref
pub record IsOfferedBy (held : Holdings) (remotes : List RemoteRow) (name : Ref)
    (origin commit : List ℕ) : Type 0 where
  pub remote : RemoteRow
  pub there : at_name name_of remotes origin ≡ Some remote
  pub offers : offered held remote name ≡ Ok commit

-- The operation brings a commit that the remote named in it offers
abbrev pub IsOffered : Holdings → List RemoteRow → Op → Type 0
IsOffered held remotes (Install name origin commit) = IsOfferedBy held remotes name origin commit
IsOffered held remotes (Update name origin commit) = IsOfferedBy held remotes name origin commit
IsOffered held remotes _ = ⊥

-- The operation brings a commit of this ref
abbrev pub IsOf : Ref → Op → Type 0
IsOf name (Install n origin commit) = n ≡ name
IsOf name (Update n origin commit) = n ≡ name
IsOf name _ = ⊥

-- One of the operations brings a commit of this ref
abbrev pub IsAmong : Ref → List Op → Type 0
IsAmong name [] = ⊥
IsAmong name (op ∷ ops) = IsOf name op ⊎ IsAmong name ops

-- The plan for a ref: either the offered commit is deployed and there are no operations, or the
-- operations bring commits that remotes offer, and one of them is for the ref
pub record Settles (held : Holdings) (state : State) (remote : RemoteRow) (name : Ref)
    (ops : List Op) : Type 0 where
  pub commit : List ℕ
  pub offers : offered held remote name ≡ Ok commit
  pub ends : ((is_at commit (row_of state name) ≡ true) × (ops ≡ []))
      ⊎ (AllByRecursion (IsOffered held state.remotes) ops × IsAmong name ops)
