use Rattle.std.proofs.Common.{◌≡◌, ◌∙◌, inl, inr, Result, Ok, Err, refl, sym, subst, ap, arith}
use Rattle.fp_host.specs.Moments.{Goes}
use Rattle.fp_host.proofs.Ending.{ends_goes, ends_on}
use Rattle.fl_top.specs.Told.{told_start}
use Rattle.fl_top.specs.Moment.{RunsCommand}
use Rattle.fl_top.specs.Return.{CommandHasEnded, IsClosedBy}
use Rattle.fl_top.specs.Taken.{Takes}
use Rattle.fl_top.specs.declared.command_end.CommandEnd.{CommandEnd}
use Rattle.fl_top.specs.declared.command_end.CommandEnd.TheVariants.{Refused}
use Rattle.fl_top.proofs.Finishing.{goes_done, goes_fault, goes_remote, goes_input, goes_memory, goes_refused, taken_at, caused_after}
use Rattle.fl_top.proofs.Asked.{asks_more, fails_changing}
use Rattle.fl_top.proofs.Ending.{not_answered}
use Rattle.fl_top.proofs.running.run_command.Goals as goal

pub returns-in-Ok-clause-any_moment : goal.returns-in-Ok-clause-any_moment
returns-in-Ok-clause-any_moment g c = goes_done c.args.command (told_start (g.I.Source.left c.args.input.now) (g.R.Remotes.holds c.args.remotes.now) (g.H.Host.moments c.args.host.now)) (g.met.H.Host.is_tree c.args.host.now) c.in-Ok.ensures.any_moment

pub returns-in-Err-Refused-clause-any_moment : goal.returns-in-Err-Refused-clause-any_moment
returns-in-Err-Refused-clause-any_moment g c =
    let t = told_start (g.I.Source.left c.args.input.now) (g.R.Remotes.holds c.args.remotes.now) (g.H.Host.moments c.args.host.now) in
    let performed = subst (λ (e : CommandEnd). Goes (g.H.Host.moments c.args.host.now) (g.H.Host.moments c.perform.new.host) (RunsCommand c.args.command t) (CommandHasEnded c.args.command t (Err e))) c.in-Err-Refused.field-0-is c.in-Err-Refused.ensures.any_moment in
    goes_refused c.args.command t c.in-Err-Refused.refusal c.refuse.result (g.met.H.Host.is_tree c.perform.new.host) performed c.refuse.ensures.any_moment

pub returns-in-Err-Fault-clause-any_moment : goal.returns-in-Err-Fault-clause-any_moment
returns-in-Err-Fault-clause-any_moment g c =
    let t = told_start (g.I.Source.left c.args.input.now) (g.R.Remotes.holds c.args.remotes.now) (g.H.Host.moments c.args.host.now) in
    goes_fault c.args.command t (g.met.H.Host.is_tree c.args.host.now) (subst (λ (e : CommandEnd). Goes (g.H.Host.moments c.args.host.now) (g.H.Host.moments c.perform.new.host) (RunsCommand c.args.command t) (CommandHasEnded c.args.command t (Err e))) c.in-Err-Fault.field-0-is c.in-Err-Fault.ensures.any_moment)

pub returns-in-Err-Fault-clause-fault_has_cause : goal.returns-in-Err-Fault-clause-fault_has_cause
returns-in-Err-Fault-clause-fault_has_cause g c = record {
  later = c.perform.ensures.fault_has_cause.later;
  fault = λ same. c.perform.ensures.fault_has_cause.fault (same.0, c.in-Err-Fault.is ∙ ap (λ (e : CommandEnd). Err e) c.in-Err-Fault.field-0-is);
}

pub returns-in-Err-RemoteFault-clause-any_moment : goal.returns-in-Err-RemoteFault-clause-any_moment
returns-in-Err-RemoteFault-clause-any_moment g c =
    let t = told_start (g.I.Source.left c.args.input.now) (g.R.Remotes.holds c.args.remotes.now) (g.H.Host.moments c.args.host.now) in
    goes_remote c.args.command t (g.met.H.Host.is_tree c.args.host.now) (subst (λ (e : CommandEnd). Goes (g.H.Host.moments c.args.host.now) (g.H.Host.moments c.perform.new.host) (RunsCommand c.args.command t) (CommandHasEnded c.args.command t (Err e))) c.in-Err-RemoteFault.field-0-is c.in-Err-RemoteFault.ensures.any_moment)

pub returns-in-Err-RemoteFault-clause-status : goal.returns-in-Err-RemoteFault-clause-status
returns-in-Err-RemoteFault-clause-status g c =
    inr (inr (inr (inl (refl, fails_changing c.args.command (g.I.Source.left c.args.input.now) c.perform.ensures.remotes (c.in-Err-RemoteFault.is ∙ ap (λ (e : CommandEnd). Err e) c.in-Err-RemoteFault.field-0-is)))))

pub returns-in-Err-RemoteFault-clause-remotes : goal.returns-in-Err-RemoteFault-clause-remotes
returns-in-Err-RemoteFault-clause-remotes g c = asks_more (λ op may. may) (λ four. c.in-Err-RemoteFault.is ∙ ap (λ (e : CommandEnd). Err e) c.in-Err-RemoteFault.field-0-is) c.perform.ensures.remotes

pub returns-in-Err-RemoteFault-clause-input : goal.returns-in-Err-RemoteFault-clause-input
returns-in-Err-RemoteFault-clause-input g c = record {
  failed = λ five. absurd (let is : 4 ≡ 5 = five in omega (arith, is));
  taken = taken_at c.args.command c.perform.result 4 (g.I.Source.left c.args.input.now) (g.I.Source.left c.perform.new.input) c.perform.ensures.taken (λ taken answered. absurd (not_answered 4 (omega arith) answered));
  later = c.perform.ensures.later;
}

pub returns-in-Err-Refused-clause-remotes : goal.returns-in-Err-Refused-clause-remotes
returns-in-Err-Refused-clause-remotes g c = asks_more (λ op may. may) (λ four. absurd (elim c.refuse.ensures.status [
  | inl is ↦ omega (arith, four, is)
  | inr more ↦ elim more [ inl is ↦ omega (arith, four, is) | inr is ↦ omega (arith, four, is) ]
])) c.perform.ensures.remotes

pub returns-in-Err-InputFault-clause-any_moment : goal.returns-in-Err-InputFault-clause-any_moment
returns-in-Err-InputFault-clause-any_moment g c =
    let t = told_start (g.I.Source.left c.args.input.now) (g.R.Remotes.holds c.args.remotes.now) (g.H.Host.moments c.args.host.now) in
    goes_input c.args.command t (g.met.H.Host.is_tree c.args.host.now) (subst (λ (e : CommandEnd). Goes (g.H.Host.moments c.args.host.now) (g.H.Host.moments c.perform.new.host) (RunsCommand c.args.command t) (CommandHasEnded c.args.command t (Err e))) c.in-Err-InputFault.field-0-is c.in-Err-InputFault.ensures.any_moment)

pub returns-in-Err-NoMemory-clause-any_moment : goal.returns-in-Err-NoMemory-clause-any_moment
returns-in-Err-NoMemory-clause-any_moment g c =
    let t = told_start (g.I.Source.left c.args.input.now) (g.R.Remotes.holds c.args.remotes.now) (g.H.Host.moments c.args.host.now) in
    goes_memory c.args.command t (g.met.H.Host.is_tree c.args.host.now) (subst (λ (e : CommandEnd). Goes (g.H.Host.moments c.args.host.now) (g.H.Host.moments c.perform.new.host) (RunsCommand c.args.command t) (CommandHasEnded c.args.command t (Err e))) c.in-Err-NoMemory.field-0-is c.in-Err-NoMemory.ensures.any_moment)

pub returns-in-Ok-clause-input : goal.returns-in-Ok-clause-input
returns-in-Ok-clause-input g c =
    let old = g.I.Source.left c.args.input.now in
    let new = g.I.Source.left c.perform.new.input in
    let is : c.perform.result ≡ Ok tt = c.in-Ok.is in
    record {
      failed = λ five. absurd (let is : 0 ≡ 5 = five in omega (arith, is));
      taken = taken_at c.args.command (Ok tt) 0 old new (subst (λ (r : Result (Unit {0}) CommandEnd). Takes c.args.command r old new) is c.perform.ensures.taken) (λ taken answered. taken);
      later = c.perform.ensures.later;
    }

pub returns-in-Err-Refused-clause-input : goal.returns-in-Err-Refused-clause-input
returns-in-Err-Refused-clause-input g c =
    let old = g.I.Source.left c.args.input.now in
    let new = g.I.Source.left c.perform.new.input in
    let is = c.in-Err-Refused.is ∙ ap (λ (e : CommandEnd). Err e) c.in-Err-Refused.field-0-is in
    record {
      failed = λ five. absurd (elim c.refuse.ensures.status [
        | inl is ↦ omega (arith, five, is)
        | inr more ↦ elim more [ inl is ↦ omega (arith, five, is) | inr is ↦ omega (arith, five, is) ]
      ]);
      taken = taken_at c.args.command (Err (Refused c.in-Err-Refused.refusal)) c.refuse.result old new (subst (λ (r : Result (Unit {0}) CommandEnd). Takes c.args.command r old new) is c.perform.ensures.taken) (λ taken answered. taken);
      later = c.perform.ensures.later;
    }

pub returns-in-Err-Fault-clause-input : goal.returns-in-Err-Fault-clause-input
returns-in-Err-Fault-clause-input g c = record {
  failed = λ five. absurd (let is : 3 ≡ 5 = five in omega (arith, is));
  taken = taken_at c.args.command c.perform.result 3 (g.I.Source.left c.args.input.now) (g.I.Source.left c.perform.new.input) c.perform.ensures.taken (λ taken answered. absurd (not_answered 3 (omega arith) answered));
  later = c.perform.ensures.later;
}

pub returns-in-Err-InputFault-clause-input : goal.returns-in-Err-InputFault-clause-input
returns-in-Err-InputFault-clause-input g c = record {
  failed = λ five. let failed = c.perform.ensures.input (c.in-Err-InputFault.is ∙ ap (λ (e : CommandEnd). Err e) c.in-Err-InputFault.field-0-is) in (failed.1, failed.2);
  taken = taken_at c.args.command c.perform.result 5 (g.I.Source.left c.args.input.now) (g.I.Source.left c.perform.new.input) c.perform.ensures.taken (λ taken answered. absurd (not_answered 5 (omega arith) answered));
  later = c.perform.ensures.later;
}

pub returns-in-Err-NoMemory-clause-input : goal.returns-in-Err-NoMemory-clause-input
returns-in-Err-NoMemory-clause-input g c = record {
  failed = λ five. absurd (let is : 6 ≡ 5 = five in omega (arith, is));
  taken = taken_at c.args.command c.perform.result 6 (g.I.Source.left c.args.input.now) (g.I.Source.left c.perform.new.input) c.perform.ensures.taken (λ taken answered. absurd (not_answered 6 (omega arith) answered));
  later = c.perform.ensures.later;
}

pub returns-in-Err-Refused-clause-fault_has_cause : goal.returns-in-Err-Refused-clause-fault_has_cause
returns-in-Err-Refused-clause-fault_has_cause g c = caused_after _ _ _ c.perform.ensures.fault_has_cause.later c.in-Err-Refused.ensures.any_moment (λ u w q at. tt) c.refuse.ensures.fault_has_cause (λ is. is.1)

pub returns-in-Ok-clause-remotes : goal.returns-in-Ok-clause-remotes
returns-in-Ok-clause-remotes g c = asks_more (λ op may. may) (λ four. absurd (let is : 0 ≡ 4 = four in omega (arith, is))) c.perform.ensures.remotes

pub returns-in-Err-Fault-clause-remotes : goal.returns-in-Err-Fault-clause-remotes
returns-in-Err-Fault-clause-remotes g c = asks_more (λ op may. may) (λ four. absurd (let is : 3 ≡ 4 = four in omega (arith, is))) c.perform.ensures.remotes

pub returns-in-Err-InputFault-clause-remotes : goal.returns-in-Err-InputFault-clause-remotes
returns-in-Err-InputFault-clause-remotes g c = asks_more (λ op may. may) (λ four. absurd (let is : 5 ≡ 4 = four in omega (arith, is))) c.perform.ensures.remotes

pub returns-in-Err-NoMemory-clause-remotes : goal.returns-in-Err-NoMemory-clause-remotes
returns-in-Err-NoMemory-clause-remotes g c = asks_more (λ op may. may) (λ four. absurd (let is : 6 ≡ 4 = four in omega (arith, is))) c.perform.ensures.remotes

-- ---- what was found

pub returns-in-Ok-clause-found : goal.returns-in-Ok-clause-found
returns-in-Ok-clause-found g c checks answered = c.in-Ok.ensures.found checks tt

pub returns-in-Err-Refused-clause-found : goal.returns-in-Err-Refused-clause-found
returns-in-Err-Refused-clause-found g c checks answered =
    let t = g.met.H.Host.is_tree in
    ends_on (ends_goes (t c.perform.new.host) c.refuse.ensures.any_moment) (c.in-Err-Refused.ensures.found checks (subst (λ (e : CommandEnd). IsClosedBy (Err e)) (sym c.in-Err-Refused.field-0-is) tt)) (t c.perform.new.host) (λ u v w tree q s. q)

pub returns-in-Err-Fault-clause-found : goal.returns-in-Err-Fault-clause-found
returns-in-Err-Fault-clause-found g c checks answered = absurd (not_answered 3 (omega arith) answered)

pub returns-in-Err-RemoteFault-clause-found : goal.returns-in-Err-RemoteFault-clause-found
returns-in-Err-RemoteFault-clause-found g c checks answered = absurd (not_answered 4 (omega arith) answered)

pub returns-in-Err-InputFault-clause-found : goal.returns-in-Err-InputFault-clause-found
returns-in-Err-InputFault-clause-found g c checks answered = absurd (not_answered 5 (omega arith) answered)

pub returns-in-Err-NoMemory-clause-found : goal.returns-in-Err-NoMemory-clause-found
returns-in-Err-NoMemory-clause-found g c checks answered = absurd (not_answered 6 (omega arith) answered)

-- ---- what is exported

pub returns-in-Ok-clause-exports : goal.returns-in-Ok-clause-exports
returns-in-Ok-clause-exports g c change done = c.in-Ok.ensures.exports change

pub returns-in-Err-Refused-clause-exports : goal.returns-in-Err-Refused-clause-exports
returns-in-Err-Refused-clause-exports g c change done = absurd (elim c.refuse.ensures.status [
  | inl is ↦ omega (arith, done, is)
  | inr more ↦ elim more [ inl is ↦ omega (arith, done, is) | inr is ↦ omega (arith, done, is) ]
])
