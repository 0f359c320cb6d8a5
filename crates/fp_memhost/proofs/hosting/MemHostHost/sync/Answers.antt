use Rattle.std.proofs.Common.{refl, true, Some}
use Rattle.fp_host.specs.Calls.{syncs}
use Rattle.fp_memhost.specs.declared.event.Event.TheVariants.{Sync}
use Rattle.fp_memhost.proofs.Calling.{step_of, records_of}
use Rattle.fp_memhost.proofs.hosting.MemHostHost.sync.Goals as goal

pub returns-clause-step : goal.returns-clause-step
returns-clause-step c = step_of c.args.self.now c.play.new.self c.play.result syncs true (Some Sync) c.play.ensures (λ t. tt, λ can. refl) refl

pub returns-clause-records : goal.returns-clause-records
returns-clause-records c = records_of c.args.self.now c.play.new.self c.play.result syncs refl true (Some Sync) c.play.ensures (λ t. tt, λ can. refl) refl
