-- Heads as steps of a plan.
use Rattle.std.proofs.Common.{◌≡◌, ℕ, Option, Some, None, Result, Ok, Err}
use Rattle.fp_host.specs.Remote.{Holdings}
use Rattle.fp_small.specs.Places.{repo}
use Rattle.fp_small.specs.declared.refusal.Refusal.{Refusal}
use Rattle.fp_small.specs.declared.state.State.{State}
use Rattle.ost_model.specs.Objects.{Have}
use Rattle.ost_model.specs.Remotes.{Supplies}
use Rattle.ost_walk.specs.Ends.{Outside}
use Rattle.ost_walk.specs.declared.pull_end.PullEnd.{PullEnd}
use Rattle.ost_head.specs.declared.head.Head.{Head}
use Rattle.ost_walk.specs.PullEnds.{Answers, Looks}
use Rattle.ost_head.specs.Heads.{head_of}
use Rattle.fl_plan.specs.Answers.{Plans}
use Rattle.fl_plan.specs.Offers.{have_at, chosen_with, chosen}
use Rattle.fl_extension.specs.Found.{row_of}
use Rattle.fl_plan.specs.Plans.{time_of, target_of}
use Rattle.fl_plan.specs.declared.offer.Offer.{Offer}
use Rattle.fl_plan.proofs.Steps.{supplies, plans_to, plans_err, ok_no_fault, mapped_ok, mapped_err}

-- what is known of a head that was read
abbrev pub Reads : Offer → Option ℕ → Result Head PullEnd → Outside → Type 0
Reads offer since result u = (have : Have) → Supplies repo (Some offer.remote.url) u.told u.holdings have → Answers result (head_of have offer.name offer.commit since)

module _ (offer : Offer) where
  abbrev heads : Option ℕ → Holdings → Have → Result Head Refusal
  heads since held stored = head_of (have_at held stored offer.remote) offer.name offer.commit since

  head_plans : {u w : Outside} (since : Option ℕ) (result : Result Head PullEnd) → Looks result u w → Reads offer since result u → Plans (heads since) result u w
  head_plans since result looks tells = record { looks = looks; tells = λ held stored holds stores. tells (have_at held stored offer.remote) (supplies held offer.remote.url holds stores) }

  chosen_known : (held : Holdings) (stored : Have) (head : Head) → heads None held stored ≡ Ok head → chosen held stored offer ≡ Ok (chosen_with offer head)
  unfolding chosen
  chosen_known held stored head is = mapped_ok (heads None held stored) head (chosen_with offer) is

  chosen_refused : (held : Holdings) (stored : Have) (r : Refusal) → heads None held stored ≡ Err r → chosen held stored offer ≡ Err r
  unfolding chosen
  chosen_refused held stored r is = mapped_err (heads None held stored) r (chosen_with offer) is

  pub chosen_ok : {u w : Outside} (head : Head) → Looks (Ok head) u w → Reads offer None (Ok head) u → Plans (λ held stored. chosen held stored offer) (Ok (chosen_with offer head)) u w
  chosen_ok head looks tells =
      plans_to (λ held stored. chosen held stored offer) head (Ok (chosen_with offer head)) (head_plans None (Ok head) looks tells) (ok_no_fault _) (λ held stored is. chosen_known held stored head is)

  pub chosen_err : {u w : Outside} (end : PullEnd) → Looks {A = Head} (Err end) u w → Reads offer None (Err end) u → Plans (λ held stored. chosen held stored offer) (Err end) u w
  chosen_err end looks tells = plans_err (λ held stored. chosen held stored offer) end (head_plans None (Err end) looks tells) chosen_refused

  module _ (state : State) where
    abbrev since_of : Option ℕ
    since_of = time_of (row_of state offer.name)

    target_known : (held : Holdings) (stored : Have) (head : Head) → heads since_of held stored ≡ Ok head → target_of held stored state offer ≡ Ok (chosen_with offer head)
    unfolding target_of
    target_known held stored head is = mapped_ok (heads since_of held stored) head (chosen_with offer) is

    target_refused : (held : Holdings) (stored : Have) (r : Refusal) → heads since_of held stored ≡ Err r → target_of held stored state offer ≡ Err r
    unfolding target_of
    target_refused held stored r is = mapped_err (heads since_of held stored) r (chosen_with offer) is

    pub target_ok : {u w : Outside} (head : Head) → Looks (Ok head) u w → Reads offer since_of (Ok head) u → Plans (λ held stored. target_of held stored state offer) (Ok (chosen_with offer head)) u w
    target_ok head looks tells =
        plans_to (λ held stored. target_of held stored state offer) head (Ok (chosen_with offer head)) (head_plans since_of (Ok head) looks tells) (ok_no_fault _) (λ held stored is. target_known held stored head is)

    pub target_err : {u w : Outside} (end : PullEnd) → Looks {A = Head} (Err end) u w → Reads offer since_of (Err end) u → Plans (λ held stored. target_of held stored state offer) (Err end) u w
    target_err end looks tells = plans_err (λ held stored. target_of held stored state offer) end (head_plans since_of (Err end) looks tells) target_refused
