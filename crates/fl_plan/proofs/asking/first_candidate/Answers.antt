use Rattle.std.proofs.Common.{sym, ◌∙◌, arith}
use Rattle.std.proofs.lemmas.List.{drop_all}
use Rattle.fp_base.proofs.Lists.{drop_read}
use Rattle.fl_plan.specs.Offers.{offer_of}
use Rattle.fl_plan.proofs.Offering.{asks_found, asks_failed, asks_next, asks_none}
use Rattle.fl_plan.proofs.Parts.{candidate_among}
use Rattle.fl_plan.proofs.asking.first_candidate.Goals as goal

pub returns-then-is_some-clause-asks : goal.returns-then-is_some-clause-asks
returns-then-is_some-clause-asks g c =
    let names = c.args.candidates.now in
    let inv = c.loop-name.invariant in
    asks_found (λ held. offer_of held c.args.remote.now) names c.loop-name.name-index inv.rest inv.same inv.later c.name-item.result
    (drop_read names c.loop-name.name-index c.name-item.result c.loop-name-test.true c.name-item.is) c.in-Ok.found c.in-Ok.ensures.asks (sym c.is_some.ensures ∙ c.if-is_some.true)

pub returns-then-is_some-clause-good : goal.returns-then-is_some-clause-good
returns-then-is_some-clause-good g c = candidate_among c.args.candidates.now c.loop-name.name-index c.name-item.result c.args.remote.now c.in-Ok.found c.loop-name-test.true c.name-item.is c.in-Ok.ensures.good

pub returns-in-Err-clause-asks : goal.returns-in-Err-clause-asks
returns-in-Err-clause-asks g c =
    let names = c.args.candidates.now in
    let inv = c.loop-name.invariant in
    asks_failed (λ held. offer_of held c.args.remote.now) names c.loop-name.name-index inv.rest inv.same inv.later c.name-item.result
    (drop_read names c.loop-name.name-index c.name-item.result c.loop-name-test.true c.name-item.is) c.in-Err.end c.in-Err.ensures.asks

pub loop-name-preserved : goal.loop-name-preserved
loop-name-preserved g c =
    let names = c.args.candidates.now in
    let inv = c.loop-name.invariant in
    let asks = c.in-Ok.ensures.asks in
    record {
      same = asks.same ∙ inv.same;
      later = omega (arith, inv.later, asks.remote.later);
      rest = asks_next (λ held. offer_of held c.args.remote.now) names c.loop-name.name-index inv.rest inv.same c.name-item.result
          (drop_read names c.loop-name.name-index c.name-item.result c.loop-name-test.true c.name-item.is) c.in-Ok.found asks (sym c.is_some.ensures ∙ c.if-is_some.false);
    }

pub returns-clause-asks : goal.returns-clause-asks
returns-clause-asks g c =
    let names = c.args.candidates.now in
    let inv = c.loop-name.invariant in
    asks_none (λ held. offer_of held c.args.remote.now) names c.loop-name.name-index inv.rest inv.same inv.later (drop_all c.loop-name.name-index names c.loop-name-test.false)
