use Rattle.std.proofs.Common.{filter, sym, ◌∙◌, arith}
use Rattle.std.proofs.lemmas.List.{drop_all}
use Rattle.fp_base.proofs.Lists.{drop_read}
use Rattle.fl_plan.specs.Offers.{first_offer, is_in_turn, offer_if, offer_of}
use Rattle.fl_plan.proofs.Offering.{asks_same, asks_found, asks_failed, asks_next, asks_none, each_in_turn}
use Rattle.fl_plan.proofs.Parts.{found_among}
use Rattle.fl_plan.proofs.asking.ask_each.Goals as goal

pub returns-then-is_some-clause-asks : goal.returns-then-is_some-clause-asks
returns-then-is_some-clause-asks g c =
    let rows = c.args.rows.now in
    let inv = c.loop-row.invariant in
    asks_same (λ held. first_offer held (filter (is_in_turn c.args.own.now c.args.others) rows) c.args.name.now)
    (λ held. sym (each_in_turn (λ row. offer_of held row c.args.name.now) (is_in_turn c.args.own.now c.args.others) rows))
    (asks_found (λ held. offer_if held c.args.own.now c.args.others c.args.name.now) rows c.loop-row.row-index inv.rest inv.same inv.later c.row-item.result
    (drop_read rows c.loop-row.row-index c.row-item.result c.loop-row-test.true c.row-item.is) c.in-Ok.found c.in-Ok.ensures.asks (sym c.is_some.ensures ∙ c.if-is_some.true))

pub returns-then-is_some-clause-good : goal.returns-then-is_some-clause-good
returns-then-is_some-clause-good g c = found_among c.args.rows.now c.loop-row.row-index c.row-item.result c.args.name.now c.in-Ok.found c.loop-row-test.true c.row-item.is c.in-Ok.ensures.good

pub returns-in-Err-clause-asks : goal.returns-in-Err-clause-asks
returns-in-Err-clause-asks g c =
    let rows = c.args.rows.now in
    let inv = c.loop-row.invariant in
    asks_same (λ held. first_offer held (filter (is_in_turn c.args.own.now c.args.others) rows) c.args.name.now)
    (λ held. sym (each_in_turn (λ row. offer_of held row c.args.name.now) (is_in_turn c.args.own.now c.args.others) rows))
    (asks_failed (λ held. offer_if held c.args.own.now c.args.others c.args.name.now) rows c.loop-row.row-index inv.rest inv.same inv.later c.row-item.result
    (drop_read rows c.loop-row.row-index c.row-item.result c.loop-row-test.true c.row-item.is) c.in-Err.end c.in-Err.ensures.asks)

pub loop-row-preserved : goal.loop-row-preserved
loop-row-preserved g c =
    let rows = c.args.rows.now in
    let inv = c.loop-row.invariant in
    let asks = c.in-Ok.ensures.asks in
    record {
      same = asks.same ∙ inv.same;
      later = omega (arith, inv.later, asks.remote.later);
      rest = asks_next (λ held. offer_if held c.args.own.now c.args.others c.args.name.now) rows c.loop-row.row-index inv.rest inv.same c.row-item.result
          (drop_read rows c.loop-row.row-index c.row-item.result c.loop-row-test.true c.row-item.is) c.in-Ok.found asks (sym c.is_some.ensures ∙ c.if-is_some.false);
    }

pub returns-clause-asks : goal.returns-clause-asks
returns-clause-asks g c =
    let rows = c.args.rows.now in
    let inv = c.loop-row.invariant in
    asks_same (λ held. first_offer held (filter (is_in_turn c.args.own.now c.args.others) rows) c.args.name.now)
    (λ held. sym (each_in_turn (λ row. offer_of held row c.args.name.now) (is_in_turn c.args.own.now c.args.others) rows))
    (asks_none (λ held. offer_if held c.args.own.now c.args.others c.args.name.now) rows c.loop-row.row-index inv.rest inv.same inv.later (drop_all c.loop-row.row-index rows c.loop-row-test.false))
