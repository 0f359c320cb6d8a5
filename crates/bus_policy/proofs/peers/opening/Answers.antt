use Rattle.std.proofs.Common.{◌≡◌, None, ◌∙◌, rules}
use Rattle.indexmap.specs.IndexMap.{get_by_text}
use Rattle.bus_policy.proofs.Telling.{same_known}
use Rattle.bus_policy.proofs.Opening.{known_none, opening_next}
use Rattle.bus_policy.proofs.peers.opening.Goals as goal

pub loop-name-init : goal.loop-name-init
loop-name-init g c = record {
  known = λ q. let nothing : get_by_text c.with_hasher-peers.result q ≡ None = search rules in same_known c.args.rules.now _ _ nothing ∙ known_none c.args.rules.now q;
  kept = λ q e. let nothing : get_by_text c.with_hasher-peers.result q ≡ None = search rules in nothing;
}

pub loop-name-preserved : goal.loop-name-preserved
loop-name-preserved g c = record {
  known = λ q.
      opening_next c.args.rules.now c.args.owners.now c.loop-name.name-index c.loop-name-item.result c.as_str.result.now c.as_str-in-loop-name.result.now q _ _ c.loop-name-test.true c.loop-name-item.is c.as_str.ensures c.as_str-in-loop-name.ensures (c.in_ok-add_owned.ensures.ok q) (c.loop-name.invariant.known q);
  kept = c.in_ok-add_owned.ensures.kept c.loop-name.invariant.kept;
}
