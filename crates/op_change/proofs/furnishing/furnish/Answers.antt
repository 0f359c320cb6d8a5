use Rattle.fp_host.proofs.Cause.{passed_on}
use Rattle.dep_states.specs.Names.{commit_dir}
use Rattle.op_change.specs.Furnishing.{CanFurnish}
use Rattle.op_change.specs.LayingOut.{CanLayOut}
use Rattle.op_change.proofs.Furnished.{goes_ready, goes_lays, end_kept, end_lays, ready_tree, reserved_by, fault_by, can_lay_after, reserved_after, at_folder, laid_at_folder, cause_at_folder}
use Rattle.op_change.proofs.furnishing.furnish.Goals as goal

pub returns-then-kept-clause-any_moment : goal.returns-then-kept-clause-any_moment
returns-then-kept-clause-any_moment g c = goes_ready (g.met.H.Host.is_tree c.args.host.now) c.ready_store.ensures.any_moment

pub returns-then-kept-clause-on_success : goal.returns-then-kept-clause-on_success
returns-then-kept-clause-on_success g c = end_kept c.if-kept.true c.in_ok-ready_store.ensures.on_success

pub returns-in-Ok-clause-any_moment : goal.returns-in-Ok-clause-any_moment
returns-in-Ok-clause-any_moment g c =
    let t = g.met.H.Host.is_tree in
    goes_lays c.if-kept.false (t c.args.host.now) (t c.ready_store.new.host) c.ready_store.ensures.any_moment (at_folder c.requires.place c.lay_out.ensures.any_moment)

pub returns-in-Ok-clause-on_success : goal.returns-in-Ok-clause-on_success
returns-in-Ok-clause-on_success g c = end_lays c.args.name.now c.args.commit.now (g.met.H.Host.is_tree c.ready_store.new.host) c.in_ok-ready_store.ensures.on_success (at_folder c.requires.place c.lay_out.ensures.any_moment) (laid_at_folder c.requires.place c.in-Ok.ensures.on_success)

pub returns-in-Err-clause-any_moment : goal.returns-in-Err-clause-any_moment
returns-in-Err-clause-any_moment g c =
    let t = g.met.H.Host.is_tree in
    goes_lays c.if-kept.false (t c.args.host.now) (t c.ready_store.new.host) c.ready_store.ensures.any_moment (at_folder c.requires.place c.lay_out.ensures.any_moment)

pub returns-in-Err-clause-reserved : goal.returns-in-Err-clause-reserved
returns-in-Err-clause-reserved g c r is =
    let t = g.met.H.Host.is_tree in
    reserved_after (t c.args.host.now) (t c.ready_store.new.host) c.ready_store.ensures.any_moment (c.in-Err.ensures.reserved (reserved_by c.args.commit.now c.in-Err.end r c.end_of.result c.end_of.ensures is))

pub returns-in-Err-clause-fault_has_cause : goal.returns-in-Err-clause-fault_has_cause
returns-in-Err-clause-fault_has_cause g c =
    let t = g.met.H.Host.is_tree in
    passed_on _ _ (CanFurnish c.args.commit.now (commit_dir c.args.name.now c.args.commit.now) c.args.kept) (CanLayOut c.args.commit.now (commit_dir c.args.name.now c.args.commit.now)) _ _ _ (t c.args.host.now) c.ready_store.ensures.fault_has_cause.later
    (ready_tree (t c.args.host.now) (t c.ready_store.new.host) c.ready_store.ensures.any_moment) (cause_at_folder c.requires.place c.in-Err.ensures.fault_has_cause)
    (λ is. fault_by c.args.commit.now c.in-Err.end c.end_of.result c.end_of.ensures is) (λ u v tree q can. can_lay_after c.args.name.now c.args.commit.now c.if-kept.false tree q can)
