use Rattle.std.proofs.Common.{◌≡◌, ap, sym, ◌∙◌, rules}
use Rattle.std.specs.Prelude.{option_map}
use Rattle.bus_policy.specs.declared.driver.Handler.{Handler}
use Rattle.bus_policy.specs.declared.driver.Handler.TheVariants as handler
use Rattle.bus_policy.specs.Driver.{handler_of}
use Rattle.bus_policy.specs.Verdicts.{driver_call}
use Rattle.bus_policy.specs.Watching.{sight_of}
use Rattle.bus_policy.proofs.watch.Watch.driver_call.Goals as goal

pub returns-in-Deny : goal.returns-in-Deny
returns-in-Deny g c =
    let is : handler_of c.args.header.now ≡ handler.Deny = search rules in
    c.refused_call.ensures
    ∙ ap (λ (h : Handler). driver_call (sight_of c.args.self.now) c.args.header.now h (option_map (λ t. t.now) c.args.argument)) (sym is)
