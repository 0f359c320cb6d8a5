-- Sequences of operations that can be done one after another.
use Rattle.std.specs.Prelude.{◌≡◌, ℕ, Bool, true, false, List, [], ◌∷◌}
use Rattle.std.specs.List.{AllByRecursion, list_any}
use Rattle.fp_name.specs.Hex.{is_digest}
use Rattle.fp_name.specs.Refs.{Ref, is_ref}
use Rattle.fp_small.specs.Config.{name_of}
use Rattle.fp_small.specs.Order.{has_name}
use Rattle.fp_small.specs.declared.op.Op.{Op}
use Rattle.fp_small.specs.declared.state.State.{State}
use Rattle.fp_small.specs.declared.state.RemoteRow.{RemoteRow}
use Rattle.dep_states.specs.After.{Allows, after_op}
use Rattle.dep_states.specs.Effects.{effect_of, BringsCommit}
use Rattle.fl_plan.specs.Extensions.{is_coming}
use Rattle.fl_extension.specs.Found.{row_of}
use Rattle.fl_plan.specs.Plans.{is_at}
use Rattle.fl_plan.specs.declared.offer.Offer.{Offer}

-- Each operation can be done on the state that the previous ones leave, whatever the times of their
-- commits
abbrev pub AreAllowed : State → List Op → Type 0
AreAllowed state [] = Unit {0}
AreAllowed state (op ∷ ops) =
    Allows state op × ((timestamp : ℕ) → AreAllowed (after_op state timestamp op) ops)

-- The offer is by this remote, of this ref, and its commit is a valid digest
pub record IsTaken (remote : RemoteRow) (name : Ref) (offer : Offer) : Type 0 where
  pub name_is : offer.name ≡ name
  pub good : is_ref name ≡ true
  pub remote_is : offer.remote ≡ remote
  pub commit : is_digest offer.commit ≡ true

-- The offer is by this remote, of one of these refs
pub record IsOneOf (remote : RemoteRow) (names : List Ref) (offer : Offer) : Type 0 where
  pub taken : IsTaken remote offer.name offer
  pub among : (test : Ref → Bool) → test offer.name ≡ true → list_any test names ≡ true

-- The offer is by one of these remotes, of this ref
pub record IsOfferOf (rows : List RemoteRow) (name : Ref) (offer : Offer) : Type 0 where
  pub name_is : offer.name ≡ name
  pub good : is_ref name ≡ true
  pub remote : has_name name_of rows offer.remote.name ≡ true
  pub commit : is_digest offer.commit ≡ true

-- The offer can be installed or updated to: it is valid, its remote is one of the state's, and its
-- ref isn't deployed at this commit
pub record MayCome (state : State) (offer : Offer) : Type 0 where
  pub name : is_ref offer.name ≡ true
  pub remote : has_name name_of state.remotes offer.remote.name ≡ true
  pub commit : is_digest offer.commit ≡ true
  pub moves : is_at offer.commit (row_of state offer.name) ≡ false

-- The offer can be added to a plan: it may come, and its ref isn't in the plan
pub record ComesTo (state : State) (plan : List Offer) (offer : Offer) : Type 0 where
  pub may : MayCome state offer
  pub apart : is_coming plan offer.name ≡ false

-- No ref occurs twice in the plan
abbrev pub AreApart : List Offer → Type 0
AreApart [] = Unit {0}
AreApart (offer ∷ offers) = (is_coming offers offer.name ≡ false) × AreApart offers

-- A valid plan: each offer may come, and no ref occurs twice
pub record IsPlan (state : State) (plan : List Offer) : Type 0 where
  pub each : AllByRecursion (MayCome state) plan
  pub apart : AreApart plan

-- The operation brings a commit
abbrev pub IsComing : Op → Type 0
IsComing op = BringsCommit (effect_of op)
