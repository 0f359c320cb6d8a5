use Rattle.std.proofs.Common.{◌≡◌, ◌∙◌}
use Rattle.indexmap.specs.IndexMap.{get_by_text}
use Rattle.bus_policy.proofs.Keeping.{end_keeps}
use Rattle.bus_policy.proofs.peers.settle.Goals as goal

pub returns-clause-known : goal.returns-clause-known
returns-clause-known g c = λ q. c.forget_unknown.ensures.known q ∙ c.end_call.ensures.known c.args.rules.now q

pub returns-clause-kept : goal.returns-clause-kept
returns-clause-kept g c = λ kept. c.forget_unknown.ensures.kept (end_keeps c.args.rules.now c.args.name.now (get_by_text c.args.peers.now) _ c.end_call.ensures.others kept)
