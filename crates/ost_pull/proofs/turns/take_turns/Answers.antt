use Rattle.std.proofs.Common.{List, ℕ, Option, refl, sym, ◌∙◌, ap, subst, arith, inl}
use Rattle.fp_host.specs.Frame.{AtEnd}
use Rattle.fp_host.specs.Remote.{Holdings}
use Rattle.fp_host.proofs.Cause.{Rose-later}
use Rattle.fp_host.proofs.Ending.{ends_start, ends_to, ends_on, ends_both, ends_goes, to_tree}
use Rattle.fp_base.specs.declared.object.ObjKind.{ObjKind}
use Rattle.ost_walk.specs.Surveys.{first_bad}
use Rattle.ost_pull.specs.Batches.{IsReady}
use Rattle.ost_pull.specs.Takes.{AreTakenNow, TakesOne, TakesAll, AddsAmong}
use Rattle.ost_store.specs.ObjectNames.{AreOpen}
use Rattle.ost_pull.proofs.Apart.{works_supplies, works_open}
use Rattle.ost_pull.proofs.Kept.{works_start, works_within}
use Rattle.ost_pull.proofs.Taken.{none_taken, next_taken, next_added, next_good, next_bad, all_is, passed, no_fault, no_remotes, taken_from}
use Rattle.ost_pull.proofs.Batched.{ready_later}
use Rattle.ost_pull.proofs.Joined.{noted_next}
use Rattle.ost_pull.proofs.Trusted.{trust_later}
use Rattle.ost_pull.proofs.turns.take_turns.Goals as goal

pub loop-at-init : goal.loop-at-init
loop-at-init g c =
    let t = g.met.H.Host.is_tree in
    record {
      works = works_start (t c.args.host.now);
      same = refl;
      only = λ o has. inl has;
      noted = λ o has. has;
      taken = ends_to (ends_start (t c.args.host.now)) (λ u w same. none_taken c.args.kept.now.items same);
      good = λ have s now trusted. refl;
      later = omega arith;
      remote_later = omega arith;
    }

pub loop-at-preserved : goal.loop-at-preserved
loop-at-preserved g c =
    let t = g.met.H.Host.is_tree in
    let before = c.loop-at.invariant in
    let objects = c.args.objects.now in
    let i = c.loop-at.at in
    let o = c.index-objects-at.result in
    let low = c.loop-at-test.true in
    let is = c.index-objects-at.is in
    record {
      works = works_within (t c.loop-at.host) c.take_turn.ensures.any_moment before.works;
      same = c.take_turn.ensures.same ∙ before.same;
      only = next_added objects i o low is c.args.kept.now.items c.loop-at.kept.items c.take_turn.new.kept.items c.in-Ok.ensures.adds before.only;
      noted = noted_next o c.args.kept.now.items c.loop-at.kept.items c.take_turn.new.kept.items c.in-Ok.ensures.adds before.noted;
      taken = ends_on
          (to_tree (t c.take_turn.new.host) (ends_both (ends_goes (t c.loop-at.host) c.take_turn.ensures.any_moment)
          (subst (λ (holds : Option Holdings). AtEnd (TakesOne c.args.root.now c.args.work.now c.args.url.now holds (o.0, o.1) c.loop-at.kept.items c.take_turn.new.kept.items) (g.H.Host.moments c.loop-at.host) (g.H.Host.moments c.take_turn.new.host)) before.same c.in-Ok.ensures.on_success)))
          before.taken (t c.loop-at.host)
          (λ u v w tree q s. next_taken objects i o low is c.args.kept.now.items c.loop-at.kept.items c.take_turn.new.kept.items c.in-Ok.ensures.adds c.requires.apart tree s.0 q s.1.0 s.1.1);
      good = λ have s now trusted. next_good have objects i o low is (before.good have s now trusted) (c.in-Ok.ensures.tells have (works_supplies c.args.root.now c.args.work.now c.requires.apart (t c.args.host.now) (t c.loop-at.host) before.works before.same s)
          (subst (λ (holds : Option Holdings). AreTakenNow c.args.root.now c.args.work.now c.args.url.now holds c.loop-at.kept.items (g.H.Host.moments c.loop-at.host)) (sym before.same)
          (taken_from before.taken s.moments s.told_is (λ w q. q.taken (now.are s.moments s.told_is))))
          (trust_later c.requires.apart c.args.trust (t c.args.host.now) (t c.loop-at.host) before.works trusted));
      later = omega (arith, before.later, c.take_turn.ensures.fault_has_cause.later);
      remote_later = omega (arith, before.remote_later, c.take_turn.ensures.remote_fault_has_cause.later);
    }

pub bounds-turns-at : goal.bounds-turns-at
bounds-turns-at g c = let many = c.requires.ready.many in let low = c.loop-at-test.true in omega (arith, many, low)

pub take_turn-requires-clause-ready : goal.take_turn-requires-clause-ready
take_turn-requires-clause-ready g c =
    let t = g.met.H.Host.is_tree in
    let before = c.loop-at.invariant in
    let o = c.index-objects-at.result in
    let turn = c.index-turns-at.result in
    subst (λ (holds : Option Holdings). IsReady c.args.root.now c.args.url.now (g.H.Host.moments c.loop-at.host) holds (o.0, o.1) c.args.items.now turn) (sym before.same)
    (ready_later c.requires.apart c.args.url.now (g.R.Remotes.holds c.args.remotes.now) (o.0, o.1) c.args.items.now turn (t c.args.host.now) (t c.loop-at.host) before.works
    (c.requires.ready.each c.loop-at.at (o.0, o.1) turn c.loop-at-test.true c.index-objects-at.is c.index-turns-at.is))

pub returns-in-Err : goal.returns-in-Err
returns-in-Err g c =
    let t = g.met.H.Host.is_tree in
    let before = c.loop-at.invariant in
    record {
      any_moment = works_within (g.met.H.Host.is_tree c.loop-at.host) c.take_turn.ensures.any_moment c.loop-at.invariant.works;
      same = c.take_turn.ensures.same ∙ c.loop-at.invariant.same;
      only = tt;
      noted = tt;
      on_success = tt;
      tells = λ have s now trusted.
          next_bad have c.args.objects.now c.loop-at.at c.index-objects-at.result c.loop-at-test.true c.index-objects-at.is (before.good have s now trusted) c.in-Err.end
          (c.in-Err.ensures.tells have (works_supplies c.args.root.now c.args.work.now c.requires.apart (t c.args.host.now) (t c.loop-at.host) before.works before.same s)
          (subst (λ (holds : Option Holdings). AreTakenNow c.args.root.now c.args.work.now c.args.url.now holds c.loop-at.kept.items (g.H.Host.moments c.loop-at.host)) (sym before.same)
          (taken_from before.taken s.moments s.told_is (λ w q. q.taken (now.are s.moments s.told_is))))
          (trust_later c.requires.apart c.args.trust (t c.args.host.now) (t c.loop-at.host) before.works trusted));
      fault_has_cause = passed (AreOpen c.args.work.now) (AreOpen c.args.work.now) (t c.args.host.now) before.later (ends_goes (t c.args.host.now) before.works) c.in-Err.ensures.fault_has_cause (λ is. cc is) (λ u v tree works can. works_open works can);
      remote_fault_has_cause =
          let cause = c.in-Err.ensures.remote_fault_has_cause in
          record { later = omega (arith, before.remote_later, cause.later); rose = λ is. Rose-later _ _ _ before.remote_later (cause.rose (cc is)) };
    }

pub returns : goal.returns
returns g c =
    let all = all_is c.args.objects.now c.loop-at.at (omega (arith, c.loop-at-test.false, c.loop-at.auto.at-end)) in
    record {
      any_moment = c.loop-at.invariant.works;
      same = c.loop-at.invariant.same;
      only = subst (λ (l : List (List ℕ × ObjKind)). AddsAmong l c.args.kept.now.items c.loop-at.kept.items) all c.loop-at.invariant.only;
      noted = c.loop-at.invariant.noted;
      on_success = subst (λ (l : List (List ℕ × ObjKind)). AtEnd (TakesAll c.args.root.now c.args.work.now c.args.url.now (g.R.Remotes.holds c.args.remotes.now) l c.args.kept.now.items c.loop-at.kept.items) (g.H.Host.moments c.args.host.now) (g.H.Host.moments c.loop-at.host)) all c.loop-at.invariant.taken;
      tells = λ have s now trusted. ap (first_bad have) (sym all) ∙ c.loop-at.invariant.good have s now trusted;
      fault_has_cause = no_fault (λ is. absurd (cc is)) c.loop-at.invariant.later;
      remote_fault_has_cause = no_remotes (λ is. absurd (cc is)) c.loop-at.invariant.remote_later;
    }
