use Rattle.std.proofs.Common.{◌≡◌, sym, subst, arith, take, Contains}
use Rattle.fp_host.specs.Paths.{absent}
use Rattle.fp_host.specs.View.{IsTree}
use Rattle.fp_host.specs.Calls.{HasFolder}
use Rattle.fp_host.proofs.Framed.{frame_within}
use Rattle.fp_host.proofs.Ending.{ends_on, ends_both, ends_frame, ends_in_tree, fault_caused}
use Rattle.fp_host.proofs.Cause.{same_fault}
use Rattle.fp_small.specs.Folders.{AreFree, AreDirs, IsLadder}
use Rattle.fp_small.proofs.Unsynced.{none_on}
use Rattle.fp_small.proofs.Making.{item_in, one_more, can_make}
use Rattle.fp_small.proofs.replacing.make_folders.Goals as goal

pub returns-in_err-make_folder-clause-frame : goal.returns-in_err-make_folder-clause-frame
returns-in_err-make_folder-clause-frame g c =
    let t = g.met.H.Host.is_tree in
    let has = item_in c.args.paths.now c.loop-path.path-index c.path-item.result c.loop-path-test.true c.path-item.is in
    frame_within c.make_folder.ensures.frame c.loop-path.invariant.frame (t c.loop-path.host) (λ q spot h. (subst (Contains c.args.paths.now) (sym h.0) has, h.1)) (λ q e h. (subst (Contains c.args.paths.now) (sym h.0) has, h.1)) (λ q h. h) (λ q id h p. h)

pub returns-in_err-make_folder-clause-fault_has_cause : goal.returns-in_err-make_folder-clause-fault_has_cause
returns-in_err-make_folder-clause-fault_has_cause g c =
    let t = g.met.H.Host.is_tree in
    let paths = c.args.paths.now in
    fault_caused (λ v. IsLadder paths × AreFree paths v) (λ v. v.names c.path-item.result ≡ absent → HasFolder v c.path-item.result) _ _ _ _ _ (t c.args.host.now) c.loop-path.invariant.later (ends_in_tree {Q' = λ u w. IsTree w × (AreFree paths u → AreFree paths w × AreDirs (take c.loop-path.path-index paths) w)} (t c.loop-path.host) c.loop-path.invariant.done (λ u w tree q. (tree, q))) c.make_folder.ensures.fault_has_cause (same_fault _ _ _ c.in_err-make_folder.was c.from_residual.ensures.1)
    (λ u v tree q can none. can_make paths c.loop-path.path-index c.path-item.result c.loop-path-test.true c.path-item.is q.0 can.0 (q.1 can.1).1 none)

pub returns-in_err-make_folder-clause-unsynced : goal.returns-in_err-make_folder-clause-unsynced
returns-in_err-make_folder-clause-unsynced g c = ends_on c.make_folder.ensures.unsynced c.loop-path.invariant.unsynced (g.met.H.Host.is_tree c.loop-path.host) (λ u v w tree q s. none_on q s)

pub loop-path-preserved : goal.loop-path-preserved
loop-path-preserved g c =
    let t = g.met.H.Host.is_tree in
    let paths = c.args.paths.now in
    let has = item_in paths c.loop-path.path-index c.path-item.result c.loop-path-test.true c.path-item.is in
    let made = ends_both (ends_frame (t c.loop-path.host) c.make_folder.ensures.frame) c.in_ok-make_folder.ensures.on_success in
    record {
      frame = frame_within c.make_folder.ensures.frame c.loop-path.invariant.frame (t c.loop-path.host) (λ q spot h. (subst (Contains paths) (sym h.0) has, h.1)) (λ q e h. (subst (Contains paths) (sym h.0) has, h.1)) (λ q h. h) (λ q id h p. h);
      done = ends_on made c.loop-path.invariant.done (t c.loop-path.host) (λ u v w tree q s free. one_more paths c.loop-path.path-index c.path-item.result c.loop-path-test.true c.path-item.is q s.0.names s.1 free);
      unsynced = ends_on c.make_folder.ensures.unsynced c.loop-path.invariant.unsynced (t c.loop-path.host) (λ u v w tree q s. none_on q s);
      later = omega (arith, c.loop-path.invariant.later, c.make_folder.ensures.fault_has_cause.later);
    }
