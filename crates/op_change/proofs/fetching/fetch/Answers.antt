use Rattle.std.proofs.Common.{arith, refl, sym}
use Rattle.std.proofs.lemmas.Result.{on_ok_weaker}
use Rattle.fp_host.proofs.Cause.{passed_on}
use Rattle.fp_host.proofs.Ending.{ends_err, ends_frame, ends_in_tree}
use Rattle.dep_states.specs.Sound.{Opens}
use Rattle.dep_states.specs.Names.{commit_dir}
use Rattle.ost_pull.specs.Pulls.{CanPull}
use Rattle.ost_pull.specs.Pulls.{first_refusal}
use Rattle.op_change.specs.Furnishing.{CanFurnish}
use Rattle.op_change.specs.Places.{pull_work}
use Rattle.fp_small.specs.Places.{repo}
use Rattle.op_change.proofs.Apart.{pull_apart}
use Rattle.op_change.proofs.Brings.{where_told}
use Rattle.fp_host.specs.View.{IsTree}
use Rattle.ost_walk.proofs.Ended.{remotes_on}
use Rattle.op_change.proofs.Fetched.{RoomMade}
use Rattle.op_change.proofs.Passing.{host_no_refusal, host_no_remote, host_fault, host_refuses, passes, refuses_on}
use Rattle.op_change.proofs.Steps.{room_at, has_room_at, pulls_at, pulled_at, goes_room, goes_pull, at_pull, goes_furnish, end_furnish, end_reserved, end_turned, room_can, known_tree, pull_can, furnish_can, refuses_none, supplies_after, true_after, true_at, room_cause_at, pull_cause_at, refused_at, supplies_at, never_reserved, turned_by}
use Rattle.op_change.proofs.fetching.fetch.Goals as goal

pub returns-in_err-make_room : goal.returns-in_err-make_room
returns-in_err-make_room g c =
    let t = g.met.H.Host.is_tree in
    let p = c.requires.places in
    let frame = room_at p.tmp_is p.folder_is c.make_room.ensures.frame in
    let cause = room_cause_at p.tmp_is p.folder_is c.make_room.ensures.fault_has_cause in
    record {
      same = refl;
      refuses = λ have x files none. host_refuses (first_refusal have c.args.commit.now) _ _ c.from_residual.ensures.1;
      moments = goes_room c.args.opened.now c.args.name.now c.args.commit.now c.args.url.now c.args.kept (g.R.Remotes.holds c.args.remotes.now) p.digits c.requires.unkept (t c.args.host.now) frame;
      success = ends_err _ _ c.from_residual.ensures.0;
      refused = λ r is. absurd (host_no_refusal _ _ c.from_residual.ensures.1 r is);
      remote_fault = λ is. absurd (host_no_remote _ _ c.from_residual.ensures.1 is);
      host = record { later = cause.later; fault = λ is m told opens. cause.fault (host_fault _ _ _ c.in_err-make_room.was c.from_residual.ensures.1 is.1) m told (room_can c.args.opened.now c.args.name.now c.args.commit.now c.args.url.now c.args.kept (g.R.Remotes.holds c.args.remotes.now) p.digits c.requires.unkept (t c.args.host.now m told) opens) };
      remote = record { later = omega arith; rose = λ is. absurd (host_no_remote _ _ c.from_residual.ensures.1 is) };
    }

pub pull_trusting-requires : goal.pull_trusting-requires
pull_trusting-requires g c =
    let p = c.requires.places in (c.type_bounds.sync-typeof-rt, pull_apart (sym p.repo_is) (sym p.work_is))

pub returns-in_err-pull_trusting : goal.returns-in_err-pull_trusting
returns-in_err-pull_trusting g c =
    let t = g.met.H.Host.is_tree in
    let p = c.requires.places in
    let frame = room_at p.tmp_is p.folder_is c.make_room.ensures.frame in
    let pulls = pulls_at p.repo_is p.work_is c.pull_trusting.ensures.any_moment in
    let has = has_room_at p.tmp_is p.folder_is c.in_ok-make_room.ensures.on_success in
    let cause = pull_cause_at p.repo_is p.work_is c.pull_trusting.ensures.fault_has_cause in
    let later = c.make_room.ensures.fault_has_cause.later in
    record {
      same = c.pull_trusting.ensures.same;
      refuses = λ have x files none. refuses_on (first_refusal have c.args.commit.now) _ _ _ c.in_err-pull_trusting.was c.from_residual-in_err-pull_trusting.ensures.1
          (c.pull_trusting.ensures.refuses have (supplies_at (sym p.repo_is) (supplies_after c.args.name.now c.args.commit.now c.args.kept c.args.opened.now (t c.args.host.now) (t c.make_room.new.host) frame x)) (true_at (sym p.repo_is) (true_after c.args.name.now c.args.commit.now c.args.kept c.args.opened.now (t c.args.host.now) (t c.make_room.new.host) frame x.moments x.told_is files)));
      moments = goes_pull c.args.opened.now c.args.name.now c.args.commit.now c.args.url.now c.args.kept (g.R.Remotes.holds c.args.remotes.now) p.digits c.requires.unkept (t c.args.host.now) (t c.make_room.new.host) frame pulls;
      success = ends_err _ _ c.from_residual-in_err-pull_trusting.ensures.0;
      refused = λ r is. end_turned c.args.opened.now c.args.name.now c.args.commit.now c.args.url.now c.args.kept (g.R.Remotes.holds c.args.remotes.now) p.digits c.requires.unkept (t c.args.host.now) (t c.make_room.new.host) (t c.pull_trusting.new.host) frame has pulls
          (refused_at p.work_is (c.pull_trusting.ensures.refused_unchanged r (passes _ _ _ _ c.in_err-pull_trusting.was c.from_residual-in_err-pull_trusting.ensures.1 is)));
      remote_fault = λ is. end_turned c.args.opened.now c.args.name.now c.args.commit.now c.args.url.now c.args.kept (g.R.Remotes.holds c.args.remotes.now) p.digits c.requires.unkept (t c.args.host.now) (t c.make_room.new.host) (t c.pull_trusting.new.host) frame has pulls
          (refused_at p.work_is (c.pull_trusting.ensures.remote_fault_unchanged (passes _ _ _ _ c.in_err-pull_trusting.was c.from_residual-in_err-pull_trusting.ensures.1 is)));
      host = where_told (omega (arith, later, cause.later))
          (λ told. passed_on _ _ (Opens c.args.opened.now) (CanPull repo pull_work) _ _ _ (t c.args.host.now) later (ends_in_tree {Q' = λ u v. IsTree v × RoomMade c.args.name.now c.args.commit.now c.args.kept u v} (t c.make_room.new.host) (ends_frame (t c.args.host.now) frame) (λ u w tree k. (tree, k))) cause
          (λ is. passes _ _ _ _ c.in_err-pull_trusting.was c.from_residual-in_err-pull_trusting.ensures.1 is) (λ u v tree q opens. pull_can c.args.opened.now c.args.name.now c.args.commit.now c.args.url.now c.args.kept (g.R.Remotes.holds c.args.remotes.now) p.digits c.requires.unkept q.0 q.1 opens));
      remote = remotes_on (λ is. passes _ _ _ _ c.in_err-pull_trusting.was c.from_residual-in_err-pull_trusting.ensures.1 is) c.pull_trusting.ensures.remote_fault_has_cause;
    }

pub returns : goal.returns
returns g c =
    let t = g.met.H.Host.is_tree in
    let p = c.requires.places in
    let frame = room_at p.tmp_is p.folder_is c.make_room.ensures.frame in
    let pulls = pulls_at p.repo_is p.work_is c.pull_trusting.ensures.any_moment in
    let has = has_room_at p.tmp_is p.folder_is c.in_ok-make_room.ensures.on_success in
    let known = at_pull c.args.opened.now c.args.name.now c.args.commit.now c.args.url.now c.args.kept (g.R.Remotes.holds c.args.remotes.now) p.digits c.requires.unkept (t c.args.host.now) (t c.make_room.new.host) frame has pulls (pulled_at p.repo_is p.work_is (λ have x files. c.in_ok-pull_trusting.ensures.on_success have x files)) in
    let before = c.make_room.ensures.fault_has_cause.later in
    let middle = c.pull_trusting.ensures.fault_has_cause.later in
    let last = c.furnish.ensures.fault_has_cause.later in
    record {
      same = c.pull_trusting.ensures.same;
      refuses = λ have x files none. refuses_none (first_refusal have c.args.commit.now) c.furnish.result
          (c.in_ok-pull_trusting.ensures.refuses have (supplies_at (sym p.repo_is) (supplies_after c.args.name.now c.args.commit.now c.args.kept c.args.opened.now (t c.args.host.now) (t c.make_room.new.host) frame x)) (true_at (sym p.repo_is) (true_after c.args.name.now c.args.commit.now c.args.kept c.args.opened.now (t c.args.host.now) (t c.make_room.new.host) frame x.moments x.told_is files)))
          (λ r is. never_reserved c.args.commit.now x files none (end_reserved c.args.opened.now c.args.name.now c.args.commit.now c.args.url.now c.args.kept (g.R.Remotes.holds c.args.remotes.now) p.digits c.requires.unkept (t c.pull_trusting.new.host) (t c.furnish.new.host) known c.furnish.ensures.any_moment (c.furnish.ensures.reserved r is)));
      moments = goes_furnish c.args.opened.now c.args.name.now c.args.commit.now c.args.url.now c.args.kept (g.R.Remotes.holds c.args.remotes.now) p.digits c.requires.unkept (t c.pull_trusting.new.host) (goes_pull c.args.opened.now c.args.name.now c.args.commit.now c.args.url.now c.args.kept (g.R.Remotes.holds c.args.remotes.now) p.digits c.requires.unkept (t c.args.host.now) (t c.make_room.new.host) frame pulls) known c.furnish.ensures.any_moment;
      success = on_ok_weaker c.furnish.result (λ done. end_furnish c.args.opened.now c.args.name.now c.args.commit.now c.args.url.now c.args.kept (g.R.Remotes.holds c.args.remotes.now) p.digits c.requires.unkept (t c.pull_trusting.new.host) (t c.furnish.new.host) known c.furnish.ensures.any_moment done) c.furnish.ensures.on_success;
      refused = λ r is. turned_by (end_reserved c.args.opened.now c.args.name.now c.args.commit.now c.args.url.now c.args.kept (g.R.Remotes.holds c.args.remotes.now) p.digits c.requires.unkept (t c.pull_trusting.new.host) (t c.furnish.new.host) known c.furnish.ensures.any_moment (c.furnish.ensures.reserved r is));
      remote_fault = λ is. absurd (c.furnish.ensures.no_remote_fault is);
      host = where_told (omega (arith, before, middle, last))
          (λ told. passed_on _ _ (Opens c.args.opened.now) (CanFurnish c.args.commit.now (commit_dir c.args.name.now c.args.commit.now) c.args.kept) _ _ _ (t c.args.host.now) (omega (arith, before, middle)) (known_tree c.args.opened.now c.args.name.now c.args.commit.now c.args.url.now c.args.kept (g.R.Remotes.holds c.args.remotes.now) p.digits c.requires.unkept (t c.pull_trusting.new.host) known) c.furnish.ensures.fault_has_cause
          (λ is. is) (λ u v tree q opens. furnish_can c.args.opened.now c.args.name.now c.args.commit.now c.args.url.now c.args.kept (g.R.Remotes.holds c.args.remotes.now) p.digits c.requires.unkept p.good q.0 q.1 told opens));
      remote = record { later = c.pull_trusting.ensures.remote_fault_has_cause.later; rose = λ is. absurd (c.furnish.ensures.no_remote_fault is) };
    }
