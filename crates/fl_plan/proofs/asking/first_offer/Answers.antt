use Rattle.std.proofs.Common.{filter, sym, ◌∙◌, not}
use Rattle.fl_plan.specs.Offers.{is_remote, offer_of}
use Rattle.fl_plan.proofs.Offering.{both_first, both_second, both_failed}
use Rattle.fl_plan.proofs.asking.first_offer.Goals as goal

pub returns-then-is_some-clause-asks : goal.returns-then-is_some-clause-asks
returns-then-is_some-clause-asks g c =
    let rows = c.args.state.now.remotes in
    both_first (λ held row. offer_of held row c.args.name.now) (filter (is_remote c.args.own.now) rows) (filter (λ row. not (is_remote c.args.own.now row)) rows) c.in-Ok.found
    (rw (sym c.as_slice-rows.ensures) c.in-Ok.ensures.asks) (sym c.is_some.ensures ∙ c.if-is_some.true)

pub returns-else-is_some-clause-asks : goal.returns-else-is_some-clause-asks
returns-else-is_some-clause-asks g c =
    let rows = c.args.state.now.remotes in
    both_second (λ held row. offer_of held row c.args.name.now) (filter (is_remote c.args.own.now) rows) (filter (λ row. not (is_remote c.args.own.now row)) rows) c.in-Ok.found c.ask_each-in-Ok.result
    (rw c.as_slice-rows.ensures at c.in-Ok.ensures.asks) (sym c.is_some.ensures ∙ c.if-is_some.false) (rw c.as_slice-rows.ensures at c.ask_each-in-Ok.ensures.asks)

pub returns-in-Err-clause-asks : goal.returns-in-Err-clause-asks
returns-in-Err-clause-asks g c =
    let rows = c.args.state.now.remotes in
    both_failed (λ held row. offer_of held row c.args.name.now) (filter (is_remote c.args.own.now) rows) (filter (λ row. not (is_remote c.args.own.now row)) rows) c.in-Err.end
    (rw (sym c.as_slice-rows.ensures) c.in-Err.ensures.asks)
