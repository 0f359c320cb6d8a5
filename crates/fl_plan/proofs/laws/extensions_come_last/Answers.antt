use Rattle.std.proofs.Common.{◌≡◌, ◌≤◌, [], ◌∷◌, false, None, Some, Ok, subst}
use Rattle.fp_small.specs.declared.limits.TheConstants.{MOST_REFS}
use Rattle.fp_small.specs.declared.state.RemoteRow.{RemoteRow}
use Rattle.fl_plan.specs.Extensions.{is_done}
use Rattle.fl_plan.specs.Offers.{offer_with}
use Rattle.fl_plan.specs.Plans.{number_after, op_of}
use Rattle.fl_plan.specs.Worked.{Heads, extension_offer, plan_for}
use Rattle.fl_plan.proofs.Own.{is_own}
use Rattle.fl_plan.proofs.Rows.{extensions_come}
use Rattle.fl_plan.proofs.laws.extensions_come_last.Goals as goal

pub returns : goal.returns
returns c b target runtime first second p q both fills others =
    subst (λ (mine : RemoteRow). extension_offer b target q ≡ Some (offer_with mine second.name second.commit)
    → Heads b.held b.stored mine second.name None second.commit others.head
    → number_after b.state (runtime ∷ target ∷ first ∷ offer_with mine second.name second.commit ∷ []) ≤ MOST_REFS
    → plan_for b target ≡ Ok (op_of b.state runtime ∷ op_of b.state target ∷ op_of b.state first ∷ op_of b.state (offer_with mine second.name second.commit) ∷ []))
    (is_own b.held target.remote q.candidates second others.first)
    (subst (λ (other : RemoteRow). extension_offer b runtime p ≡ Some (offer_with other first.name first.commit)
    → Heads b.held b.stored other first.name None first.commit fills.head
    → is_done b.state (runtime ∷ target ∷ offer_with other first.name first.commit ∷ []) q ≡ false
    → extension_offer b target q ≡ Some (offer_with target.remote second.name second.commit)
    → Heads b.held b.stored target.remote second.name None second.commit others.head
    → number_after b.state (runtime ∷ target ∷ offer_with other first.name first.commit ∷ offer_with target.remote second.name second.commit ∷ []) ≤ MOST_REFS
    → plan_for b target ≡ Ok (op_of b.state runtime ∷ op_of b.state target ∷ op_of b.state (offer_with other first.name first.commit) ∷ op_of b.state (offer_with target.remote second.name second.commit) ∷ []))
    (is_own b.held runtime.remote p.candidates first fills.first)
    (extensions_come b.held b.stored b.state target.remote target.name target.commit both.comes.head both.comes.is
    runtime.name runtime.remote runtime.commit both.head p q first.name second.name first.commit second.commit fills.head others.head
    both.comes.says both.says both.missing both.first both.heads fills.undone)
    fills.first fills.heads others.undone)
    others.first others.heads
