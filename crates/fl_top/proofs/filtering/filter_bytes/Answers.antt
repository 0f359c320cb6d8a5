use Rattle.fl_top.specs.Told.{files_at}
use Rattle.fl_top.proofs.Forwarding.{goes_unread, goes_unfound, goes_found}
use Rattle.fl_top.proofs.filtering.filter_bytes.Goals as goal

pub returns-in_err-recording-clause-any_moment : goal.returns-in_err-recording-clause-any_moment
returns-in_err-recording-clause-any_moment g c =
    goes_unread (files_at (g.H.Host.moments c.args.host.now)) c.args.source.now c.args.bytes.now c.in_err-recording.field-0.0 c.from_residual.result (g.met.H.Host.is_tree c.args.host.now) c.in_err-recording.ensures.read c.from_residual.ensures.1

pub returns-in_err-policy-clause-any_moment : goal.returns-in_err-policy-clause-any_moment
returns-in_err-policy-clause-any_moment g c =
    goes_unfound (files_at (g.H.Host.moments c.args.host.now)) c.args.source.now c.args.bytes.now c.in_ok-recording.recording c.in_ok-recording.ensures.read c.in_err-policy.field-0.0 c.from_residual-in_err-policy.result (g.met.H.Host.is_tree c.args.host.now) c.in_err-policy.ensures.finds c.from_residual-in_err-policy.ensures.1

pub returns-clause-any_moment : goal.returns-clause-any_moment
returns-clause-any_moment g c =
    goes_found (files_at (g.H.Host.moments c.args.host.now)) c.args.source.now c.args.bytes.now c.in_ok-recording.recording c.in_ok-recording.ensures.read c.in_ok-policy.policy c.forward.result (g.met.H.Host.is_tree c.args.host.now) (g.met.H.Host.is_tree c.find_policy.new.host) c.in_ok-policy.ensures.finds c.forward.ensures.any_moment
