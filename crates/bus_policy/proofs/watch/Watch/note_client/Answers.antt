use Rattle.std.proofs.Common.{◌≡◌, List, ℕ, refl, subst}
use Rattle.indexmap.specs.IndexMap.{get_by_text}
use Rattle.fp_base.specs.declared.side.Side.TheVariants.{Client}
use Rattle.bus_policy.specs.declared.policy.PolicyRule.{PolicyRule}
use Rattle.bus_policy.specs.Watching.{KeepsKnown, known_of, with_event, judged_event}
use Rattle.bus_policy.proofs.Sights.{watch_next}
use Rattle.bus_policy.proofs.watch.Watch.note_client.Goals as goal

pub returns-clause-ok : goal.returns-clause-ok
returns-clause-ok g c = λ owners noted bytes at.
    let j = judged_event Client c.args.header.now bytes c.args.verdict in
    let peers = subst
    (λ (rules : List PolicyRule). (q : List ℕ) → known_of rules (get_by_text c.note_client_reply.new.peers q) ≡ with_event rules j q (known_of rules (get_by_text c.args.self.now.peers q)))
    c.rules.ensures (λ q. c.note_client_reply.ensures.known q bytes) in
    let keeps = subst
    (λ (rules : List PolicyRule). KeepsKnown rules (get_by_text c.args.self.now.peers) → KeepsKnown rules (get_by_text c.note_client_reply.new.peers))
    c.rules.ensures c.note_client_reply.ensures.kept in
    watch_next c.args.self.now _ owners noted j refl peers keeps (c.in_ok-note_client_call.ensures.ok noted bytes) at
