use Rattle.std.proofs.Common.{◌≡◌, true, sym, ◌∙◌}
use Rattle.std.proofs.lemmas.Result.{on_ok_weaker}
use Rattle.indexmap.specs.IndexMap.{get_by_text}
use Rattle.bus_policy.specs.Events.{tells_owner}
use Rattle.bus_policy.specs.Watching.{known_of}
use Rattle.bus_policy.proofs.Happening.{owned}
use Rattle.bus_policy.proofs.noting.note_bus_peer.Goals as goal

pub returns-in-Some-clause-ok : goal.returns-in-Some-clause-ok
returns-in-Some-clause-ok g c =
    let policy = c.args.rules.now in
    let tells : tells_owner c.args.header.now ≡ true = sym c.is_about_owner.ensures ∙ c.if-not-is_about_owner.false in
    on_ok_weaker c.add_owned.result
    (λ h q. h q ∙ owned policy c.in-Some.name.now c.in-Some.field-0-1.now c.in-Some.owner.now q c.args.header.now c.args.message.now c.args.verdict (known_of policy (get_by_text c.args.peers.now q)) tells c.in-Some.ensures.exact) c.add_owned.ensures.ok
