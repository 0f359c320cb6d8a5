use Rattle.std.proofs.lemmas.Result.{on_ok_weaker}
use Rattle.fp_host.proofs.Ending.{ends_both, ends_frame, ends_on, ends_to, fault_caused}
use Rattle.fp_small.specs.Clear.{CanClear}
use Rattle.op_change.specs.Rooms.{CanMakeRoom}
use Rattle.op_change.proofs.Cleared.{room_below, room_both, can_clear_next, room_made, room_kept}
use Rattle.op_change.proofs.rooms.make_room.Goals as goal

pub returns-in_err-clear_below-clause-frame : goal.returns-in_err-clear_below-clause-frame
returns-in_err-clear_below-clause-frame g c = room_below c.args.tmp.now c.args.folder.now c.args.kept (g.met.H.Host.is_tree c.args.host.now) c.clear_below.ensures.frame

pub returns-then-kept-clause-frame : goal.returns-then-kept-clause-frame
returns-then-kept-clause-frame g c = room_below c.args.tmp.now c.args.folder.now c.args.kept (g.met.H.Host.is_tree c.args.host.now) c.clear_below.ensures.frame

pub returns-then-kept-clause-on_success : goal.returns-then-kept-clause-on_success
returns-then-kept-clause-on_success g c = ends_to c.in_ok-clear_below.ensures.on_success (λ u w emptied. room_kept c.if-kept.true emptied)

pub returns-clause-frame : goal.returns-clause-frame
returns-clause-frame g c =
    let t = g.met.H.Host.is_tree in
    room_both c.args.tmp.now c.args.folder.now c.args.kept c.if-kept.false (t c.args.host.now) (t c.clear_below.new.host) c.clear_below.ensures.frame c.clear.ensures.frame

pub returns-clause-on_success : goal.returns-clause-on_success
returns-clause-on_success g c =
    let t = g.met.H.Host.is_tree c.clear_below.new.host in
    on_ok_weaker c.clear.result (λ cleared. ends_on (ends_both (ends_frame t c.clear.ensures.frame) cleared) c.in_ok-clear_below.ensures.on_success t (λ u v w tree emptied q. room_made c.if-kept.false emptied q.0 q.1)) c.clear.ensures.on_success

pub returns-clause-fault_has_cause : goal.returns-clause-fault_has_cause
returns-clause-fault_has_cause g c =
    let t = g.met.H.Host.is_tree c.args.host.now in
    fault_caused (CanMakeRoom c.args.tmp.now c.args.folder.now c.args.kept) (CanClear c.args.folder.now) _ _ _ c.clear.result c.clear.result t c.clear_below.ensures.fault_has_cause.later (ends_frame t c.clear_below.ensures.frame) c.clear.ensures.fault_has_cause (λ fault. fault)
    (λ u v tree keeps can. can_clear_next c.if-kept.false keeps can)
