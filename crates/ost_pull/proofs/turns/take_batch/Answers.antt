use Rattle.std.proofs.Common.{◌≡◌, Option, Some, length, sym, ◌∙◌, subst, arith, rules}
use Rattle.std.proofs.lemmas.Result.{on_ok_weaker}
use Rattle.fp_host.specs.View.{View}
use Rattle.fp_host.specs.Frame.{AtEnd}
use Rattle.fp_host.specs.Remote.{Holdings}
use Rattle.fp_host.proofs.Cause.{Rose-later}
use Rattle.fp_host.proofs.Ending.{ends_on, ends_looks}
use Rattle.ost_walk.specs.Surveys.{first_bad, told_fault}
use Rattle.ost_walk.proofs.Ended.{remotes_on}
use Rattle.ost_pull.specs.Takes.{AreTaken, AreTakenNow, TakesAll}
use Rattle.ost_store.specs.ObjectNames.{AreOpen}
use Rattle.ost_pull.proofs.Batched.{ready_same}
use Rattle.ost_pull.proofs.Kept.{works_looks, works_within}
use Rattle.ost_pull.proofs.Taken.{passed, counted, still_supplied, taken_from, never_named}
use Rattle.ost_pull.proofs.Trusted.{trust_later}
use Rattle.ost_pull.proofs.turns.take_batch.Goals as goal

pub returns-in_err-digests-in-Ok : goal.returns-in_err-digests-in-Ok
returns-in_err-digests-in-Ok g c =
    record {
      any_moment = works_looks (g.met.H.Host.is_tree c.args.host.now) c.read_batch.ensures.unchanged;
      same = search rules;
      only = search rules;
      noted = search rules;
      on_success = search rules;
      tells = search rules;
      fault_has_cause = search rules;
      remote_fault_has_cause = search rules;
    }

pub take_turns-requires-clause-ready : goal.take_turns-requires-clause-ready
take_turns-requires-clause-ready g c =
    ready_same (length c.args.objects.now) c.args.objects.now c.in-Ok.batch.turns.items c.deref-in-Ok.result.now c.in-Ok.batch.items.items c.deref-in-Ok-2.result.now c.read_batch.ensures.same c.deref-in-Ok.ensures.value c.deref-in-Ok-2.ensures.value c.in-Ok.ensures.ready

pub returns-in_ok-digests-in-Ok : goal.returns-in_ok-digests-in-Ok
returns-in_ok-digests-in-Ok g c =
    let t = g.met.H.Host.is_tree in
    let root = c.args.root.now in
    let work = c.args.work.now in
    let url = c.args.url.now in
    let objects = c.args.objects.now in
    let holds = g.R.Remotes.holds c.args.remotes.now in
    let before = c.args.kept.now.items in
    let after = c.take_turns.new.kept.items in
    record {
      any_moment = works_within (t c.read_batch.new.host) c.take_turns.ensures.any_moment (works_looks (t c.args.host.now) c.read_batch.ensures.unchanged);
      same = c.take_turns.ensures.same ∙ c.read_batch.ensures.same;
      only = c.take_turns.ensures.only;
      noted = c.take_turns.ensures.noted;
      on_success =
          on_ok_weaker c.take_turns.result
          (λ takes. ends_on
          (subst (λ (h : Option Holdings). AtEnd (TakesAll root work url h objects before after) (g.H.Host.moments c.read_batch.new.host) (g.H.Host.moments c.take_turns.new.host)) c.read_batch.ensures.same takes)
          (ends_looks (t c.args.host.now) c.read_batch.ensures.unchanged) (t c.read_batch.new.host)
          (λ u v w tree q s. subst (λ (x : View). TakesAll root work url holds objects before after x w) q.0 s))
          c.take_turns.ensures.on_success;
      tells = λ have s now trusted.
          let there = taken_from (ends_looks (t c.args.host.now) c.read_batch.ensures.unchanged) s.moments s.told_is (λ w q. subst (AreTaken root work url holds before) (sym q.0) (now.are s.moments s.told_is)) in
          c.take_turns.ensures.tells have (still_supplied c.read_batch.ensures.unchanged c.read_batch.ensures.same s)
          (subst (λ (h : Option Holdings). AreTakenNow root work url h before (g.H.Host.moments c.read_batch.new.host)) (sym c.read_batch.ensures.same) there)
          (trust_later c.requires.apart c.args.trust (t c.args.host.now) (t c.read_batch.new.host) (works_looks (t c.args.host.now) c.read_batch.ensures.unchanged) trusted);
      fault_has_cause =
          passed (AreOpen c.args.work.now) (AreOpen c.args.work.now) (t c.args.host.now) c.read_batch.ensures.fault_has_cause.later (ends_looks (t c.args.host.now) c.read_batch.ensures.unchanged) c.take_turns.ensures.fault_has_cause (λ is. is)
          (λ u v tree q can. subst (AreOpen c.args.work.now) (sym q.0) can);
      remote_fault_has_cause =
          let cause = c.take_turns.ensures.remote_fault_has_cause in
          let first = c.read_batch.ensures.remote_fault_has_cause.later in
          record { later = omega (arith, first, cause.later); rose = λ is. Rose-later _ _ _ first (cause.rose is) };
    }

pub returns-in-Err : goal.returns-in-Err
returns-in-Err g c =
    record {
      any_moment = works_looks (g.met.H.Host.is_tree c.args.host.now) c.read_batch.ensures.unchanged;
      same = c.read_batch.ensures.same;
      only = tt;
      noted = tt;
      on_success = tt;
      tells = λ have s now trusted. never_named (λ w. first_bad have c.args.objects.now ≡ Some (told_fault w)) c.in-Err.end c.in-Err.ensures.refuses;
      fault_has_cause = counted (λ is. cc is) c.in-Err.ensures.fault_has_cause;
      remote_fault_has_cause = remotes_on (λ is. cc is) c.in-Err.ensures.remote_fault_has_cause;
    }
