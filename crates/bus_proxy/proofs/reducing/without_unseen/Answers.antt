use Rattle.std.proofs.Common.{rules, ◌≡◌, ◌+◌, Some}
use Rattle.bus_proxy.proofs.Shorter.{room, still_room}
use Rattle.bus_proxy.proofs.reducing.without_unseen.Goals as goal

pub with_names-requires-clause-room : goal.with_names-requires-clause-room
with_names-requires-clause-room g c =
    let h = c.args.header.now in
    let names = c.in-Some.names in
    let is : c.in_ok-names.field-0 ≡ Some names = search rules in
    still_room h c.in_ok-seen.seen names (c.in_ok-seen.ensures.shorter h.little (h.body_at + 4)) (room h c.args.message.now names ((c.in_ok-names.ensures.names names).0 is))
