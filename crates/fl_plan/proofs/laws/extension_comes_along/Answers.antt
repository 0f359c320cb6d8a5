use Rattle.std.proofs.Common.{◌≡◌, ◌≤◌, [], ◌∷◌, None, Some, Ok, Err, subst}
use Rattle.fp_small.specs.declared.limits.TheConstants.{MOST_REFS}
use Rattle.fp_small.specs.declared.state.RemoteRow.{RemoteRow}
use Rattle.fl_plan.specs.Offers.{offer_with}
use Rattle.fl_plan.specs.Plans.{number_after, op_of}
use Rattle.fl_plan.specs.Worked.{Heads, extension_offer, head_at, plan_for}
use Rattle.fl_plan.proofs.Own.{is_own}
use Rattle.fl_plan.proofs.Rows.{extension_comes, extension_filled, extension_missing, extension_refused, runtime_extension_refused}
use Rattle.fl_plan.proofs.laws.extension_comes_along.Goals as goal

pub returns-clause-planned : goal.returns-clause-planned
returns-clause-planned c b target extension point is fills =
    subst (λ (remote : RemoteRow). extension_offer b target point ≡ Some (offer_with remote extension.name extension.commit)
    → Heads b.held b.stored remote extension.name None extension.commit fills.head
    → number_after b.state (target ∷ offer_with remote extension.name extension.commit ∷ []) ≤ MOST_REFS
    → plan_for b target ≡ Ok (op_of b.state target ∷ op_of b.state (offer_with remote extension.name extension.commit) ∷ []))
    (is_own b.held target.remote point.candidates extension fills.first)
    (extension_comes b.held b.stored b.state target.remote target.name target.commit is.comes.head is.comes.is is.runtime point extension.name extension.commit fills.head is.comes.says is.there fills.undone)
    fills.first fills.heads

pub returns-clause-filled : goal.returns-clause-filled
returns-clause-filled c b target point is = extension_filled b.held b.stored b.state target.remote target.name target.commit is.comes.head is.comes.is is.runtime point is.comes.says is.there

pub returns-clause-not_offered : goal.returns-clause-not_offered
returns-clause-not_offered c b target point is = extension_missing b.held b.stored b.state target.remote target.name target.commit is.comes.head is.comes.is is.runtime point is.comes.says is.there

pub returns-clause-refused : goal.returns-clause-refused
returns-clause-refused c b target point points refusal is bad =
    subst (λ (remote : RemoteRow). extension_offer b target point ≡ Some (offer_with remote bad.extension.name bad.extension.commit)
    → head_at b (offer_with remote bad.extension.name bad.extension.commit) None ≡ Err refusal → plan_for b target ≡ Err refusal)
    (is_own b.held target.remote point.candidates bad.extension bad.first)
    (extension_refused b.held b.stored b.state target.remote target.name target.commit is.comes.head is.comes.is is.runtime point points bad.extension.name bad.extension.commit refusal is.comes.says is.there bad.undone)
    bad.first bad.refused

pub returns-clause-of_runtime_refused : goal.returns-clause-of_runtime_refused
returns-clause-of_runtime_refused c b target runtime mine points point refusal both bad =
    subst (λ (remote : RemoteRow). extension_offer b runtime point ≡ Some (offer_with remote bad.extension.name bad.extension.commit)
    → head_at b (offer_with remote bad.extension.name bad.extension.commit) None ≡ Err refusal → plan_for b target ≡ Err refusal)
    (is_own b.held runtime.remote point.candidates bad.extension bad.first)
    (runtime_extension_refused b.held b.stored b.state target.remote target.name target.commit both.comes.head both.comes.is
    runtime.name runtime.remote runtime.commit both.head mine points point bad.extension.name bad.extension.commit refusal
    both.comes.says both.says both.missing both.first both.heads bad.undone)
    bad.first bad.refused
