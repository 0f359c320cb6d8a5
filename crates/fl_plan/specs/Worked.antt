-- The conditions of the worked plans.
use Rattle.std.specs.Prelude.{◌≡◌, ◌≤◌, ℕ, true, false, List, map, Option, Some, None, Result, Ok, Err}
use Rattle.fp_host.specs.Remote.{Holdings}
use Rattle.fp_name.specs.Refs.{Ref}
use Rattle.fp_small.specs.declared.limits.TheConstants.{MOST_REFS}
use Rattle.fp_small.specs.declared.op.Op.{Op}
use Rattle.fp_small.specs.declared.refusal.Refusal.{Refusal}
use Rattle.fp_small.specs.declared.state.State.{State}
use Rattle.fp_small.specs.declared.state.RemoteRow.{RemoteRow}
use Rattle.fl_extension.specs.declared.point.Point.{Point}
use Rattle.ost_model.specs.Objects.{Have}
use Rattle.ost_head.specs.declared.head.Head.{Head}
use Rattle.ost_head.specs.Heads.{head_of}
use Rattle.ost_refs.specs.Offers.{offered}
use Rattle.fl_installed.specs.Metadata.{runtime_named, points_in}
use Rattle.fl_extension.specs.Found.{has_ref, row_of}
use Rattle.fl_plan.specs.Offers.{first_of, first_offer, have_at, in_turn, offer_of, offer_with}
use Rattle.fl_plan.specs.Extensions.{is_done}
use Rattle.fl_plan.specs.Plans.{is_at, number_after, op_of, plan_of, time_of}
use Rattle.fl_plan.specs.declared.offer.Offer.{Offer}

-- The remote offers the ref at the commit, whose head is `head`, if the ref has been deployed at a
-- commit of the time `since`
pub record Heads (held : Holdings) (stored : Have) (remote : RemoteRow) (name : Ref)
    (since : Option ℕ) (commit : List ℕ) (head : Head) : Type 0 where
  pub offers : offered held remote name ≡ Ok commit
  pub heads : head_of (have_at held stored remote) name commit since ≡ Ok head

-- The ref isn't deployed at the commit that the remote offers, which has this head
pub record IsTarget (held : Holdings) (stored : Have) (state : State) (remote : RemoteRow)
    (name : Ref) (commit : List ℕ) (head : Head) : Type 0 where
  pub heads : Heads held stored remote name (time_of (row_of state name)) commit head
  pub moves : is_at commit (row_of state name) ≡ false

-- The metadata of the head names this runtime and these extension points
pub record Says (name : Ref) (head : Head) (runtime : Option Ref) (points : List Point) : Type 0
  where
    pub runtime_is : runtime_named name head.metadata ≡ runtime
    pub points_are : points_in name head.metadata ≡ points

-- ---- plans of targets

-- The basis of a plan: the content of the remotes, the objects of the store, and the state
pub record Basis : Type 0 where
  pub held : Holdings
  pub stored : Have
  pub state : State

-- The plan for the ref of an offer, from the remote of the offer
abbrev pub plan_for : Basis → Offer → Result (List Op) Refusal
plan_for b target = plan_of b.held b.stored b.state target.remote target.name

-- The plan for the target is the operations for these offers, in this order, unless too many refs
-- would be deployed
abbrev pub PlanIs : Basis → Offer → List Offer → Type 0
PlanIs b target offers = number_after b.state offers ≤ MOST_REFS
    → plan_for b target ≡ Ok (map (op_of b.state) offers)

-- The head of an offer's commit, if the ref has been deployed at a commit of the time `since`
abbrev pub head_at : Basis → Offer → Option ℕ → Result Head Refusal
head_at b offer since =
    head_of (have_at b.held b.stored offer.remote) offer.name offer.commit since

-- The target isn't deployed at the commit that its remote offers, and the metadata of that commit
-- names this runtime and these extension points
pub record IsTargetWith (b : Basis) (target : Offer) (runtime : Option Ref)
    (points : List Point) : Type 0 where
  pub head : Head
  pub is : IsTarget b.held b.stored b.state target.remote target.name target.commit head
  pub says : Says target.name head runtime points

-- The target isn't deployed at the commit that its remote offers. The metadata of that commit names
-- an installed runtime and these extension points.
pub record HasItsRuntime (b : Basis) (target : Offer) (points : List Point) : Type 0 where
  pub runtime : Ref
  pub comes : IsTargetWith b target (Some runtime) points
  pub there : has_ref b.state runtime ≡ true

-- ---- runtimes and extensions that are installed along

-- The first offer of a runtime: the target's remote is asked first, then the others
abbrev pub runtime_offer : Basis → Offer → Ref → Option Offer
runtime_offer b target runtime =
    first_offer b.held (in_turn target.remote.name b.state.remotes) runtime

-- The runtime isn't installed, and is installed along with the target by its first offer. The
-- runtime's metadata names no runtime and the extension points `points`, the target's names the
-- runtime and the extension points `others`.
pub record ComeTogether (b : Basis) (runtime : Offer) (points : List Point) (target : Offer)
    (others : List Point) : Type 0 where
  pub comes : IsTargetWith b target (Some runtime.name) others
  pub missing : has_ref b.state runtime.name ≡ false
  pub first : runtime_offer b target runtime.name ≡ Some runtime
  pub head : Head
  pub heads : Heads b.held b.stored runtime.remote runtime.name None runtime.commit head
  pub says : Says runtime.name head None points

-- The runtime isn't installed, and the head of its first offer is refused with this refusal
pub record RuntimeRefused (b : Basis) (target : Offer) (runtime : Ref) (refusal : Refusal) : Type 0
  where
    pub missing : has_ref b.state runtime ≡ false
    pub remote : RemoteRow
    pub commit : List ℕ
    pub first : runtime_offer b target runtime ≡ Some (offer_with remote runtime commit)
    pub refused : head_at b (offer_with remote runtime commit) None ≡ Err refusal

-- The offer of the first of a point's candidates that the owner's remote offers
abbrev pub extension_offer : Basis → Offer → Point → Option Offer
extension_offer b owner point = first_of (offer_of b.held owner.remote) point.candidates

-- The point isn't done with the plan `coming`, and this is the offer for it
pub record Fills (b : Basis) (coming : List Offer) (owner : Offer) (point : Point)
    (extension : Offer) : Type 0 where
  pub undone : is_done b.state coming point ≡ false
  pub first : extension_offer b owner point ≡ Some extension
  pub head : Head
  pub heads : Heads b.held b.stored extension.remote extension.name None extension.commit head

-- The point isn't done with the plan `coming`, and the head of the offer for it is refused with
-- this refusal
pub record ExtensionRefused (b : Basis) (coming : List Offer) (owner : Offer) (point : Point)
    (refusal : Refusal) : Type 0 where
  pub undone : is_done b.state coming point ≡ false
  pub extension : Offer
  pub first : extension_offer b owner point ≡ Some extension
  pub refused : head_at b extension None ≡ Err refusal
