-- Extension points that are gone through.
use Rattle.std.proofs.Common.{◌≡◌, ◌+◌, ℕ, List, [], ◌∷◌, ◌++◌, drop, Option, Some, Result, Ok, Err, ◌∙◌, ap}
use Rattle.std.specs.Prelude.{option_to_list}
use Rattle.fp_host.specs.Remote.{Holdings}
use Rattle.fp_host.proofs.Framed.{IsTold}
use Rattle.fp_small.specs.Places.{repo}
use Rattle.fp_small.specs.declared.refusal.Refusal.{Refusal}
use Rattle.fp_small.specs.declared.state.State.{State}
use Rattle.fp_small.specs.declared.state.RemoteRow.{RemoteRow}
use Rattle.ost_model.specs.Objects.{Have}
use Rattle.ost_model.specs.Remotes.{Stores}
use Rattle.ost_walk.specs.Ends.{Outside}
use Rattle.ost_walk.specs.declared.pull_end.PullEnd.{PullEnd}
use Rattle.ost_walk.specs.declared.pull_end.PullEnd.TheVariants as ends
use Rattle.ost_walk.specs.PullEnds.{Looks}
use Rattle.fl_extension.specs.declared.point.Point.{Point}
use Rattle.fl_plan.specs.Answers.{and_then, Plans}
use Rattle.fl_plan.specs.Extensions.{extension_at, with_points}
use Rattle.fl_plan.specs.declared.offer.Offer.{Offer}
use Rattle.fl_plan.proofs.Steps.{looks_to, looks_err, looks_on, stores_on, ok_no_fault, starved_no_fault, refused_on}

module _ (state : State) (remote : RemoteRow) (points : List Point) (plan now : List Offer) where
  abbrev whole : Holdings → Have → Result (List Offer) Refusal
  whole held stored = with_points held stored state remote points plan

  abbrev left : Holdings → Have → List Point → Result (List Offer) Refusal
  left held stored rest = with_points held stored state remote rest now

  abbrev step : Point → Holdings → Have → Result (Option Offer) Refusal
  step x held stored = extension_at held stored state remote now x

  abbrev later : ℕ → Holdings → Have → Option Offer → Result (List Offer) Refusal
  later i held stored more = with_points held stored state remote (drop (i + 1) points) (now ++ option_to_list more)

  module _ {u v : Outside} (before : Looks {A = Unit {0}} (Ok tt) u v) (i : ℕ) (rest : (held : Holdings) (stored : Have) → u.holdings ≡ Some held → Stores repo u.told stored → whole held stored ≡ left held stored (drop i points)) where
    -- all were gone through
    pub points_done : drop i points ≡ [] → Plans whole (Ok now) u v
    points_done none = record {
      looks = looks_to (Ok now) before (ok_no_fault now);
      tells = λ held stored holds stores. rest held stored holds stores ∙ ap (left held stored) none;
    }

    module _ (x : Point) (here : drop i points ≡ x ∷ drop (i + 1) points) where
      known : (held : Holdings) (stored : Have) → u.holdings ≡ Some held → Stores repo u.told stored → whole held stored ≡ and_then (step x held stored) (later i held stored)
      known held stored holds stores = rest held stored holds stores ∙ ap (left held stored) here

      module _ {w : Outside} (told : IsTold v.told) where
        -- the next one
        pub points_looks : (more : Option Offer) → Plans (step x) (Ok more) v w → Looks {A = Unit {0}} (Ok tt) u w
        points_looks more plans = looks_to (Ok tt) (looks_on told before plans.looks) (ok_no_fault tt)

        pub points_next : (more : Option Offer) → Plans (step x) (Ok more) v w
            → (held : Holdings) (stored : Have) → u.holdings ≡ Some held → Stores repo u.told stored → whole held stored ≡ later i held stored more
        points_next more plans held stored holds stores =
            known held stored holds stores ∙ ap (λ r. and_then r (later i held stored)) (plans.tells held stored (before.same ∙ holds) (stores_on before stores))

        -- a refusal or a fault
        pub points_failed : (end : PullEnd) → Plans (step x) (Err end) v w → Plans whole (Err end) u w
        points_failed end plans = record {
          looks = looks_err end (looks_on told before plans.looks);
          tells = λ held stored holds stores. refused_on (λ r. step x held stored ≡ Err r) (λ r. whole held stored ≡ Err r) end
              (λ r is. known held stored holds stores ∙ ap (λ z. and_then z (later i held stored)) is)
              (plans.tells held stored (before.same ∙ holds) (stores_on before stores));
        }

        pub points_starved : (more : Option Offer) → Plans (step x) (Ok more) v w → Plans whole (Err ends.NoMemory) u w
        points_starved more plans = record {
          looks = looks_to (Err ends.NoMemory) (looks_on told before plans.looks) starved_no_fault;
          tells = λ held stored holds stores. tt;
        }
