use Rattle.fp_host.specs.Causes.{end_of}
use Rattle.fp_host.specs.Frame.{NoPath, NoName}
use Rattle.fp_host.specs.Outcome.{Nothing}
use Rattle.fp_host.proofs.Framed.{frame_start, frame_looks, frame_sync}
use Rattle.fp_host.proofs.Ending.{ends_call, ends_looks, ends_both, ends_on, ends_to, ends_frame}
use Rattle.fp_host.proofs.Goes.{makes_goes}
use Rattle.dep_open.proofs.Synced.{opened_ok, ended}
use Rattle.dep_open.proofs.Unread.{not_read, read_on}
use Rattle.dep_open.proofs.opening.open.Goals as goal

pub returns-in_err-state-clause-frame : goal.returns-in_err-state-clause-frame
returns-in_err-state-clause-frame g c = let t = g.met.H.Host.is_tree in frame_looks c.read_state.ensures.unchanged (frame_start (t c.args.host.now)) (t c.args.host.now)

pub returns-in_err-sync-clause-frame : goal.returns-in_err-sync-clause-frame
returns-in_err-sync-clause-frame g c = let t = g.met.H.Host.is_tree in frame_sync c.sync.ensures.step (frame_looks c.read_state.ensures.unchanged (frame_start (t c.args.host.now)) (t c.args.host.now)) (t c.read_state.new.host)

pub returns-in_err-sync-clause-tells : goal.returns-in_err-sync-clause-tells
returns-in_err-sync-clause-tells g c =
    let t = g.met.H.Host.is_tree in
    let frame = frame_sync {G = Nothing} {W = NoName} {A = NoPath} c.sync.ensures.step (frame_looks c.read_state.ensures.unchanged (frame_start (t c.args.host.now)) (t c.args.host.now)) (t c.read_state.new.host) in
    ends_to (ends_frame (t c.args.host.now) frame) (λ u w keeps. ended c.from_residual-in_err-sync.result (end_of c.in_err-sync.field-0.0) u w c.from_residual-in_err-sync.ensures.0 c.from_residual-in_err-sync.ensures.1)

pub returns-clause-frame : goal.returns-clause-frame
returns-clause-frame g c = let t = g.met.H.Host.is_tree in frame_sync c.sync.ensures.step (frame_looks c.read_state.ensures.unchanged (frame_start (t c.args.host.now)) (t c.args.host.now)) (t c.read_state.new.host)

pub returns-clause-tells : goal.returns-clause-tells
returns-clause-tells g c =
    let t = g.met.H.Host.is_tree in
    ends_on (ends_call (t c.read_state.new.host) c.in_ok-sync.ensures.step) (ends_both (ends_looks (t c.args.host.now) c.in_ok-state.ensures.unchanged) c.in_ok-state.ensures.tells) (t c.read_state.new.host)
    (λ u v w tree q step. opened_ok c.in_ok-state.state c.of.result u v w c.of.ensures tree q.0.0 q.1 step)

pub returns-in_err-state-clause-unread : goal.returns-in_err-state-clause-unread
returns-in_err-state-clause-unread g c = not_read (g.met.H.Host.is_tree c.args.host.now) c.read_state.ensures.unchanged

pub returns-in_err-sync-clause-unread : goal.returns-in_err-sync-clause-unread
returns-in_err-sync-clause-unread g c =
    let t = g.met.H.Host.is_tree in
    read_on c.in_ok-state.state (t c.args.host.now) (t c.read_state.new.host) c.in_ok-state.ensures.unchanged c.in_ok-state.ensures.tells (makes_goes c.sync.ensures.step)

pub returns-clause-unread : goal.returns-clause-unread
returns-clause-unread g c =
    let t = g.met.H.Host.is_tree in
    read_on c.in_ok-state.state (t c.args.host.now) (t c.read_state.new.host) c.in_ok-state.ensures.unchanged c.in_ok-state.ensures.tells (makes_goes c.sync.ensures.step)
