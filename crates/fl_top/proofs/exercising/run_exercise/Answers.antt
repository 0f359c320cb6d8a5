use Rattle.std.proofs.Common.{ℕ, inr, refl, subst, arith}
use Rattle.fl_gen.specs.Generator.{IsGenerated, holdings_of}
use Rattle.fp_host.proofs.Ending.{ends_to}
use Rattle.fl_top.proofs.Exercises.{exercise_made, nothing_done}
use Rattle.fl_top.proofs.Refreshed.{step_anyhow}
use Rattle.fl_top.proofs.exercising.run_exercise.Goals as goal

-- ---- over the remotes that are made

pub returns-in-Ok-clause-runs : goal.returns-in-Ok-clause-runs
returns-in-Ok-clause-runs g c =
    let generated = subst (λ (n : ℕ). IsGenerated n (holdings_of c.in-Ok.remotes)) c.number.ensures.number c.in-Ok.ensures.generated in
    exercise_made c.args.apps (g.I.Source.left c.args.input.now) _ (holdings_of c.in-Ok.remotes) c.run_command.result c.in-Ok.ensures.holds generated c.run_command.ensures.any_moment

pub returns-in-Ok-clause-fault_has_cause : goal.returns-in-Ok-clause-fault_has_cause
returns-in-Ok-clause-fault_has_cause g c =
    let cause = c.run_command.ensures.fault_has_cause in
    record { later = cause.later; fault = λ three. cause.fault ((λ asks. (holdings_of c.in-Ok.remotes, c.in-Ok.ensures.holds)), three) }

pub returns-in-Ok-clause-exports : goal.returns-in-Ok-clause-exports
returns-in-Ok-clause-exports g c = λ holds done.
    ends_to (c.run_command.ensures.exports refl done (λ asks. (holdings_of c.in-Ok.remotes, c.in-Ok.ensures.holds)))
    (λ u w step sound. step_anyhow c.in-Ok.ensures.holds (step sound) holds)

-- their count of faults stands at 0
pub returns-in-Ok-clause-no_remote_fault : goal.returns-in-Ok-clause-no_remote_fault
returns-in-Ok-clause-no_remote_fault g c = λ four. let rose = c.run_command.ensures.remotes.rose four in omega (arith, rose)

pub returns-in-Ok-clause-left : goal.returns-in-Ok-clause-left
returns-in-Ok-clause-left g c = c.run_command.ensures.input.taken.1 refl

pub returns-in-Ok-clause-later : goal.returns-in-Ok-clause-later
returns-in-Ok-clause-later g c = c.run_command.ensures.input.later

-- ---- out of memory

pub returns-in-Err-clause-runs : goal.returns-in-Err-clause-runs
returns-in-Err-clause-runs g c = inr (refl, nothing_done (g.met.H.Host.is_tree c.args.host.now))
