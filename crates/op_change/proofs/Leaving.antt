-- A ref that is uninstalled.
use Rattle.std.proofs.Common.{◌≡◌, ◌≢◌, inl, inr, Option, None, sym, ◌∙◌, ap, subst}
use Rattle.fp_host.specs.Paths.{absent}
use Rattle.fp_host.specs.View.{View, IsTree}
use Rattle.fp_host.specs.Frame.{AtEnd}
use Rattle.fp_host.specs.Moments.{Moments, Goes}
use Rattle.fp_host.proofs.Ending.{ends_in_tree, goes_known}
use Rattle.fp_host.proofs.Framed.{IsTold}
use Rattle.fp_host.proofs.Goes.{begins}
use Rattle.fp_name.specs.Refs.{Ref}
use Rattle.fp_small.specs.Clear.{AbsentAt}
use Rattle.fp_small.specs.declared.state.State.{State}
use Rattle.dep_states.proofs.SharedAs.{shared_none}
use Rattle.ost_store.proofs.Creating.{creates_none}
use Rattle.dep_states.specs.After.{row_at}
use Rattle.dep_states.specs.Names.{active}
use Rattle.dep_states.specs.Sound.{Opens}
use Rattle.dep_states.specs.Switch.{OpensEither}
use Rattle.dep_switch.specs.Rows.{without_row}
use Rattle.dep_switch.specs.Retiring.{IsPlanOf, CanRetire, Retires, WasRetired}
use Rattle.dep_switch.specs.declared.retiring.RetirePlan.{RetirePlan}
use Rattle.op_change.specs.Deploys.{Does, WasDone}
use Rattle.op_change.proofs.Objects.{same_objects}

its_own : {name : Ref} {plan : RetirePlan} → IsPlanOf name plan → IsPlanOf plan.name plan
its_own {plan = plan} planned = subst (λ (n : Ref). IsPlanOf n plan) (sym planned.name) planned

module _ {s : State} {name : Ref} {plan : RetirePlan} (planned : IsPlanOf name plan) where
  pub leaves : {u w : View} → Retires s plan u w → Does s (without_row s name) (λ u. AbsentAt (active name)) u w
  leaves {w = w} retires = record {
    either = λ opens. subst (λ (n : Ref). OpensEither s (without_row s n) w) planned.name (retires.either (its_own planned) opens);
    names = λ q. elim (retires.names q) [ inl same ↦ inl same | inr gone ↦ inr (gone.0 ∙ planned.link, gone.1) ];
    files = record { rows = λ id f some. retires.files id ∙ some; stood = retires.stood };
    printed = retires.printed;
  }

  pub left_goes : {a b : Option Moments} → IsTold a → Goes a b (Retires s plan) (Retires s plan) → Goes a b (Does s (without_row s name) (λ u. AbsentAt (active name))) (Does s (without_row s name) (λ u. AbsentAt (active name)))
  left_goes told goes = begins told goes (λ u w t r. leaves r) (λ u w t r e. leaves e)

  was_left : {u w : View} → IsTree u → IsTree w → Retires s plan u w → WasRetired s plan u w → WasDone s (without_row s name) u w
  was_left {w = w} before after retires done = record {
    opens = λ opens. subst (λ (n : Ref). Opens (without_row s n) w) planned.name (done.opens (its_own planned) opens);
    settled = done.settled;
    objects = same_objects (AbsentAt (active name)) before after ((leaves retires).files) ((leaves retires).names) (λ d kind e put. cc put.0);
    shares = shared_none (λ id none. retires.files id ∙ none);
    creates = creates_none (λ q e. (q ≡ plan.link) × (e ≡ absent)) retires.puts (λ q id below gone. cc gone.1);
  }

  pub left_end : {a b : Option Moments} → IsTold a → IsTold b → Goes a b (Retires s plan) (Retires s plan) → AtEnd (WasRetired s plan) a b → AtEnd (WasDone s (without_row s name)) a b
  left_end told mid goes done = ends_in_tree {Q = λ u w. IsTree u × Retires s plan u w × WasRetired s plan u w} mid
      (record { goes = begins told (goes_known goes done) (λ u w t r. tt) (λ u w t r q. (t, q.0, q.1)) })
      (λ u w after q. was_left q.0 after q.1 q.2)

  pub can_leave : {v : View} → row_at s name ≢ None → Opens s v → CanRetire s plan v
  can_leave there opens = record { opens = opens; planned = its_own planned; there = λ none. there (ap (row_at s) (sym planned.name) ∙ none) }
