use Rattle.std.proofs.Common.{refl, true}
use Rattle.fp_host.specs.Calls.{says}
use Rattle.fp_memhost.proofs.Calling.{step_of, records_of}
use Rattle.fp_memhost.proofs.hosting.MemHostHost.say.Goals as goal

pub returns-clause-step : goal.returns-clause-step
returns-clause-step c = step_of c.args.self.now c.play.new.self c.play.result (says c.args.piece.now) true c.say.result c.play.ensures (λ t. tt, λ can. refl) c.say.ensures

pub returns-clause-records : goal.returns-clause-records
returns-clause-records c = records_of c.args.self.now c.play.new.self c.play.result (says c.args.piece.now) refl true c.say.result c.play.ensures (λ t. tt, λ can. refl) c.say.ensures
