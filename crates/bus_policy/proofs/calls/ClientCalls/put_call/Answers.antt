use Rattle.std.proofs.Common.{◌≡◌, ◌∙◌, None, ap, sym}
use Rattle.std.specs.Prelude.{nat_eq}
use Rattle.indexmap.specs.IndexMap.{get}
use Rattle.bus_policy.specs.Driver.{is_listing}
use Rattle.bus_policy.specs.Events.{wants_no_reply}
use Rattle.bus_policy.specs.Watching.{calls_with}
use Rattle.bus_policy.proofs.Calling.{none_put}
use Rattle.bus_policy.proofs.calls.ClientCalls.put_call.Goals as goal

pub returns-in-None-clause-ok : goal.returns-in-None-clause-ok
returns-in-None-clause-ok g c =
    let h = c.args.header.now in
    none_put (get nat_eq c.args.self.now.waiting) (wants_no_reply h) (is_listing h) c.args.reused h.serial
    (sym c.in-None.is ∙ c.with_call.ensures ∙ ap (calls_with (wants_no_reply h) (is_listing h) c.args.reused) c.with_serial.ensures)
