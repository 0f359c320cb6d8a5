use Rattle.std.proofs.Common.{◌≡◌, sym, subst, arith}
use Rattle.fp_host.specs.View.{View}
use Rattle.fp_host.specs.Calls.{Can, makes_link}
use Rattle.fp_host.proofs.Cause.{clash_step, same_fault}
use Rattle.fp_host.proofs.Ending.{ends_start, ends_call, ends_goes, ends_on, call_caused, fault_caused}
use Rattle.fp_small.specs.Folders.{ancestors, AreFree}
use Rattle.dep_switch.specs.Writing.{CanWrite, CanPrepare, WritesFile}
use Rattle.dep_switch.proofs.Prepared.{IsHoused, prepared_above, prepared_file, prepared_link, prepared_sync, housed_end, linked, was_prepared, can_fold, can_link}
use Rattle.dep_switch.proofs.preparing.prepare.Goals as goal

pub returns-in_err-make_above-clause-any_moment : goal.returns-in_err-make_above-clause-any_moment
returns-in_err-make_above-clause-any_moment g c = prepared_above c.requires.place (g.met.H.Host.is_tree c.args.host.now) c.make_above.ensures.frame

pub returns-in_err-make_above-clause-fault_has_cause : goal.returns-in_err-make_above-clause-fault_has_cause
returns-in_err-make_above-clause-fault_has_cause g c =
    let t = g.met.H.Host.is_tree in
    fault_caused (CanPrepare c.args.deploy.now) (AreFree (ancestors c.args.link.now)) _ _ _ _ _ (t c.args.host.now) (omega arith) (ends_start (t c.args.host.now)) c.make_above.ensures.fault_has_cause (same_fault _ _ _ c.in_err-make_above.was c.from_residual.ensures.1)
    (λ u v tree same can. subst (AreFree (ancestors c.args.link.now)) (sym same) (can_fold c.requires.place can))

pub returns-in_err-write_new-clause-any_moment : goal.returns-in_err-write_new-clause-any_moment
returns-in_err-write_new-clause-any_moment g c =
    let t = g.met.H.Host.is_tree in
    prepared_file c.requires.place (t c.make_above.new.host) (prepared_above c.requires.place (t c.args.host.now) c.make_above.ensures.frame) c.write_new.ensures.any_moment

pub returns-in_err-write_new-clause-fault_has_cause : goal.returns-in_err-write_new-clause-fault_has_cause
returns-in_err-write_new-clause-fault_has_cause g c =
    let t = g.met.H.Host.is_tree in
    fault_caused (CanPrepare c.args.deploy.now) (CanWrite c.args.deploy.now) _ _ _ _ _ (t c.args.host.now) c.make_above.ensures.fault_has_cause.later (housed_end c.requires.place (t c.args.host.now) c.make_above.ensures.frame c.in_ok-make_above.ensures.on_success) c.write_new.ensures.fault_has_cause
    (same_fault _ _ _ c.in_err-write_new.was c.from_residual-in_err-write_new.ensures.1) (λ u v tree q can. q.write can)

pub returns-in_err-symlink-clause-any_moment : goal.returns-in_err-symlink-clause-any_moment
returns-in_err-symlink-clause-any_moment g c =
    let t = g.met.H.Host.is_tree in
    prepared_link c.requires.place (t c.write_new.new.host) (prepared_file c.requires.place (t c.make_above.new.host) (prepared_above c.requires.place (t c.args.host.now) c.make_above.ensures.frame) c.write_new.ensures.any_moment) c.symlink.ensures.step

pub returns-in_err-symlink-clause-fault_has_cause : goal.returns-in_err-symlink-clause-fault_has_cause
returns-in_err-symlink-clause-fault_has_cause g c =
    let t = g.met.H.Host.is_tree in
    let e = c.in_err-symlink.ensures in
    let house = housed_end c.requires.place (t c.args.host.now) c.make_above.ensures.frame c.in_ok-make_above.ensures.on_success in
    call_caused (CanPrepare c.args.deploy.now) (Can (makes_link c.args.text.now c.args.link.now)) _ _ _ _ _ (t c.args.host.now) (omega (arith, c.make_above.ensures.fault_has_cause.later, c.write_new.ensures.fault_has_cause.later))
    (ends_on {Q' = λ u w. (v : View) × IsHoused c.args.deploy.now u v × WritesFile c.args.deploy.now v w} (ends_goes (t c.make_above.new.host) c.write_new.ensures.any_moment) house (t c.make_above.new.host) (λ u v w tree q s. (v, q, s))) e.step e.fault_has_cause
    c.from_residual-in_err-symlink.ensures.1 (λ v w step. clash_step step) (λ u v tree q can. can_link c.args.text.now c.requires.place c.requires.text q.1 q.2 can)

pub returns-in_err-sync-clause-any_moment : goal.returns-in_err-sync-clause-any_moment
returns-in_err-sync-clause-any_moment g c =
    let t = g.met.H.Host.is_tree in
    prepared_sync c.requires.place (t c.symlink.new.self) (prepared_link c.requires.place (t c.write_new.new.host) (prepared_file c.requires.place (t c.make_above.new.host) (prepared_above c.requires.place (t c.args.host.now) c.make_above.ensures.frame) c.write_new.ensures.any_moment) c.symlink.ensures.step) c.sync.ensures.step

pub returns-clause-any_moment : goal.returns-clause-any_moment
returns-clause-any_moment g c =
    let t = g.met.H.Host.is_tree in
    prepared_sync c.requires.place (t c.symlink.new.self) (prepared_link c.requires.place (t c.write_new.new.host) (prepared_file c.requires.place (t c.make_above.new.host) (prepared_above c.requires.place (t c.args.host.now) c.make_above.ensures.frame) c.write_new.ensures.any_moment) c.symlink.ensures.step) c.sync.ensures.step

pub returns-clause-on_success : goal.returns-clause-on_success
returns-clause-on_success g c =
    let t = g.met.H.Host.is_tree in
    let house = housed_end {deploy = c.args.deploy.now} c.requires.place (t c.args.host.now) c.make_above.ensures.frame c.in_ok-make_above.ensures.on_success in
    let file = ends_on c.in_ok-write_new.ensures.on_success house (t c.make_above.new.host) (λ u v w tree q s. s) in
    let both = ends_on (ends_call (t c.write_new.new.host) c.in_ok-symlink.ensures.step) file (t c.write_new.new.host) (λ u v w tree q s. linked c.requires.place q s) in
    ends_on (ends_call (t c.symlink.new.self) c.in_ok-sync.ensures.step) both (t c.symlink.new.self) (λ u v w tree q s. was_prepared q s)
