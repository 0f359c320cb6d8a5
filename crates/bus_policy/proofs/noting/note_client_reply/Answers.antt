use Rattle.std.proofs.Common.{◌≡◌, List, ℕ, true, ap, sym, ◌∙◌}
use Rattle.std.specs.Prelude.{if◌then◌else◌}
use Rattle.indexmap.specs.IndexMap.{get_by_text}
use Rattle.std.specs.Str.{bytes_eq}
use Rattle.bus_policy.specs.Events.{is_reply, is_forwarded}
use Rattle.bus_policy.specs.Watching.{known_of, without_call}
use Rattle.bus_policy.proofs.Happening.{settled}
use Rattle.bus_policy.proofs.noting.note_client_reply.Goals as goal

pub returns-clause-known : goal.returns-clause-known
returns-clause-known g c = λ q bytes.
    let policy = c.args.rules.now in
    let k = known_of policy (get_by_text c.args.peers.now q) in
    let peer = c.in-Some-Some.peer in
    let serial = c.in-Some-Some.serial in
    let reply : is_reply c.args.header.now ≡ true = sym c.is_a_reply.ensures ∙ c.if-not-is_a_reply.false in
    let forwarded : is_forwarded c.args.verdict ≡ true = sym c.is_forwarding.ensures ∙ c.if-not-is_forwarding.false in
    c.settle.ensures.known q
    ∙ ap (λ (p : List ℕ). if bytes_eq p q then without_call serial k else k) c.as_str.ensures
    ∙ settled policy peer q serial c.args.header.now bytes c.args.verdict k reply forwarded c.in-Some-Some.is-0 c.in-Some-Some.is-1
