use Rattle.std.proofs.Common.{◌≡◌, ◌∙◌, Option, Some, [], sym, subst, arith}
use Rattle.std.proofs.lemmas.Result.{on_ok_weaker}
use Rattle.fp_host.specs.Frame.{AtEnd}
use Rattle.fp_host.specs.Remote.{Holdings}
use Rattle.fp_host.specs.View.{View}
use Rattle.fp_host.proofs.Cause.{Rose-later}
use Rattle.fp_host.proofs.Ending.{ends_on, ends_looks}
use Rattle.ost_walk.specs.Surveys.{first_named, told_fault}
use Rattle.ost_walk.proofs.Ended.{remotes_on, never_refused}
use Rattle.ost_pull.specs.Takes.{AreTaken, AreTakenNow, TakesAll}
use Rattle.ost_store.specs.ObjectNames.{AreOpen}
use Rattle.ost_pull.specs.Work.{Gathered}
use Rattle.ost_pull.proofs.Kept.{works_start, works_looks, works_within}
use Rattle.ost_pull.proofs.Taken.{passed, counted, survey_judged, covers_order, ok_two, placed_supplies, still_supplied, taken_from}
use Rattle.ost_pull.proofs.Trusted.{trust_later}
use Rattle.ost_pull.proofs.gathering.take_order.Goals as goal

pub returns-in_err-places-clause-any_moment : goal.returns-in_err-places-clause-any_moment
returns-in_err-places-clause-any_moment g c = works_start (g.met.H.Host.is_tree c.args.host.now)

pub returns-in-Ok-clause-any_moment : goal.returns-in-Ok-clause-any_moment
returns-in-Ok-clause-any_moment g c =
    let t = g.met.H.Host.is_tree in
    works_within (t c.survey.new.host) c.take_surveyed.ensures.any_moment (works_looks (t c.args.host.now) c.in-Ok.ensures.looks.still)

pub returns-in-Ok-clause-same : goal.returns-in-Ok-clause-same
returns-in-Ok-clause-same g c = c.take_surveyed.ensures.same ∙ c.in-Ok.ensures.looks.same

pub returns-in-Ok-clause-on_success : goal.returns-in-Ok-clause-on_success
returns-in-Ok-clause-on_success g c =
    let t = g.met.H.Host.is_tree in
    let root = c.args.root.now in
    let work = c.args.work.now in
    let url = c.args.url.now in
    let holds = g.R.Remotes.holds c.args.remotes.now in
    let before = c.args.kept.now.items in
    let after = c.take_surveyed.new.kept.items in
    on_ok_weaker c.take_surveyed.result
    (λ takes. ends_on
    (subst (λ (h : Option Holdings). AtEnd (TakesAll root work url h c.in-Ok.survey.objects before after) (g.H.Host.moments c.survey.new.host) (g.H.Host.moments c.take_surveyed.new.host)) c.in-Ok.ensures.looks.same takes)
    (ends_looks (t c.args.host.now) c.in-Ok.ensures.looks.still) (t c.survey.new.host) (λ u v w tree q s. record {
      on = λ taken. s.taken (subst (AreTaken root work url holds before) (sym q.0) taken);
      gathers = subst (λ (x : View). Gathered work x w) q.0 s.gathers;
    }))
    c.take_surveyed.ensures.on_success

pub returns-in-Ok-clause-covers : goal.returns-in-Ok-clause-covers
returns-in-Ok-clause-covers g c have s empty =
    let t = g.met.H.Host.is_tree in
    let root = c.args.root.now in
    let work = c.args.work.now in
    let url = c.args.url.now in
    let holds = g.R.Remotes.holds c.args.remotes.now in
    let before = c.args.kept.now.items in
    let after = c.take_surveyed.new.kept.items in
    let from = placed_supplies c.in_ok-places.ensures.0 c.in_ok-places.ensures.1 s in
    let is = c.in-Ok.ensures.tells have from in
    ok_two c.take_surveyed.result
    (λ only takes. ends_on
    (subst (λ (h : Option Holdings). AtEnd (TakesAll root work url h c.in-Ok.survey.objects before after) (g.H.Host.moments c.survey.new.host) (g.H.Host.moments c.take_surveyed.new.host)) c.in-Ok.ensures.looks.same takes)
    (ends_looks (t c.args.host.now) c.in-Ok.ensures.looks.still) (t c.survey.new.host)
    (λ u v w tree q s taken. covers_order c.in-Ok.survey before after is only.1 empty only.0 s (subst (AreTaken root work url holds []) (sym q.0) taken)))
    c.take_surveyed.ensures.only c.take_surveyed.ensures.on_success

pub returns-in-Ok-clause-refuses : goal.returns-in-Ok-clause-refuses
returns-in-Ok-clause-refuses g c have s now trusted =
    let t = g.met.H.Host.is_tree in
    let from = placed_supplies c.in_ok-places.ensures.0 c.in_ok-places.ensures.1 s in
    let root = c.args.root.now in
    let work = c.args.work.now in
    let url = c.args.url.now in
    let holds = g.R.Remotes.holds c.args.remotes.now in
    let before = c.args.kept.now.items in
    let there = taken_from (ends_looks (t c.args.host.now) c.in-Ok.ensures.looks.still) s.moments s.told_is (λ w q. subst (AreTaken root work url holds before) (sym q.0) (now.are s.moments s.told_is)) in
    survey_judged c.in-Ok.survey c.take_surveyed.result (c.in-Ok.ensures.tells have from) (c.take_surveyed.ensures.tells have (still_supplied c.in-Ok.ensures.looks.still c.in-Ok.ensures.looks.same s)
    (subst (λ (h : Option Holdings). AreTakenNow root work url h before (g.H.Host.moments c.survey.new.host)) (sym c.in-Ok.ensures.looks.same) there)
    (trust_later c.requires c.args.trust (t c.args.host.now) (t c.survey.new.host) (works_looks (t c.args.host.now) c.in-Ok.ensures.looks.still) trusted))

pub returns-in-Ok-clause-fault_has_cause : goal.returns-in-Ok-clause-fault_has_cause
returns-in-Ok-clause-fault_has_cause g c =
    let t = g.met.H.Host.is_tree in
    passed (AreOpen c.args.work.now) (AreOpen c.args.work.now) (t c.args.host.now) c.in-Ok.ensures.looks.host.later (ends_looks (t c.args.host.now) c.in-Ok.ensures.looks.still) c.take_surveyed.ensures.fault_has_cause (λ is. is)
    (λ u v tree q can. subst (AreOpen c.args.work.now) (sym q.0) can)

pub returns-in-Ok-clause-remote_fault_has_cause :
    goal.returns-in-Ok-clause-remote_fault_has_cause
returns-in-Ok-clause-remote_fault_has_cause g c =
    let cause = c.take_surveyed.ensures.remote_fault_has_cause in
    let before = c.in-Ok.ensures.looks.remote.later in
    record { later = omega (arith, before, cause.later); rose = λ is. Rose-later _ _ _ before (cause.rose is) }

pub returns-clause-any_moment : goal.returns-clause-any_moment
returns-clause-any_moment g c = works_looks (g.met.H.Host.is_tree c.args.host.now) c.in-Err.ensures.looks.still

pub returns-clause-refuses : goal.returns-clause-refuses
returns-clause-refuses g c have s now trusted = never_refused (λ w. first_named have c.args.commit.now ≡ Some (told_fault w)) c.in-Err.end (c.in-Err.ensures.tells have (placed_supplies c.in_ok-places.ensures.0 c.in_ok-places.ensures.1 s))

pub returns-clause-fault_has_cause : goal.returns-clause-fault_has_cause
returns-clause-fault_has_cause g c = counted (λ is. cc is) c.in-Err.ensures.looks.host

pub returns-clause-remote_fault_has_cause :
    goal.returns-clause-remote_fault_has_cause
returns-clause-remote_fault_has_cause g c = remotes_on (λ is. cc is) c.in-Err.ensures.looks.remote
