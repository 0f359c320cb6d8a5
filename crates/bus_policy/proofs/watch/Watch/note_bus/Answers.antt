use Rattle.std.proofs.Common.{◌≡◌, List, ℕ, refl, subst}
use Rattle.indexmap.specs.IndexMap.{get_by_text}
use Rattle.fp_base.specs.declared.side.Side.TheVariants.{Bus}
use Rattle.bus_policy.specs.declared.policy.PolicyRule.{PolicyRule}
use Rattle.bus_policy.specs.Watching.{KeepsKnown, known_of, with_event, judged_event}
use Rattle.bus_policy.proofs.Sights.{watch_next, watch_same}
use Rattle.bus_policy.proofs.watch.Watch.note_bus.Goals as goal

pub returns-clause-ok : goal.returns-clause-ok
returns-clause-ok g c = λ owners noted at.
    let j = judged_event Bus c.args.header.now c.args.message.now c.args.verdict in
    let peers = subst
    (λ (rules : List PolicyRule). (q : List ℕ) → known_of rules (get_by_text c.note_bus_peer.new.peers q) ≡ with_event rules j q (known_of rules (get_by_text c.args.self.now.peers q)))
    c.rules-rules.ensures c.in_ok-note_bus_peer.ensures.ok in
    let keeps = subst
    (λ (rules : List PolicyRule). KeepsKnown rules (get_by_text c.args.self.now.peers) → KeepsKnown rules (get_by_text c.note_bus_peer.new.peers))
    c.rules-rules.ensures c.in_ok-note_bus_peer.ensures.kept in
    watch_next c.args.self.now _ owners noted j refl peers keeps (c.note_bus_reply.ensures noted c.args.message.now) at
