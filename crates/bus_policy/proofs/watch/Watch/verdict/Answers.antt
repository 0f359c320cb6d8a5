use Rattle.std.proofs.Common.{ap, ◌∙◌}
use Rattle.bus_policy.specs.Verdicts.{Sight, verdict_in}
use Rattle.bus_policy.specs.Watching.{event}
use Rattle.bus_policy.proofs.Sights.{sight_same}
use Rattle.bus_policy.proofs.watch.Watch.verdict.Goals as goal

pub returns : goal.returns
returns g c = λ owners noted at. c.judge.ensures ∙ ap (λ (s : Sight). verdict_in s (event c.args.side c.args.header.now c.args.message.now)) (sight_same c.args.self.now owners noted at)
