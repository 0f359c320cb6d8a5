use Rattle.std.proofs.Common.{ap, ◌∙◌}
use Rattle.bus_policy.specs.Verdicts.{Sight}
use Rattle.bus_policy.proofs.Sights.{sight_same}
use Rattle.bus_policy.proofs.watch.Watch.level.Goals as goal

pub returns : goal.returns
returns g c = λ owners noted at. c.level_now.ensures ∙ ap (λ (s : Sight). s.level_of c.args.name.now) (sight_same c.args.self.now owners noted at)
