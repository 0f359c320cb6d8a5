use Rattle.std.proofs.Common.{Ok, Err, sym, ◌∙◌}
use Rattle.fl_change.specs.declared.end.RunEnd.TheVariants.{Refused}
use Rattle.fl_top.specs.Told.{files_at}
use Rattle.fl_top.proofs.Stored.{has_files}
use Rattle.fl_top.proofs.Finding.{looks_unread, looks_failed, looks_launched}
use Rattle.fl_top.proofs.filtering.find_launch.Goals as goal

pub returns-in_err-state-clause-finds : goal.returns-in_err-state-clause-finds
returns-in_err-state-clause-finds g c =
    looks_unread (files_at (g.H.Host.moments c.args.host.now)) c.args.name.now c.in_err-state.field-0.0 c.from_residual.result c.read_state.ensures.unchanged c.in_err-state.ensures.tells c.from_residual.ensures.1

pub returns-in_err-launch-clause-finds : goal.returns-in_err-launch-clause-finds
returns-in_err-launch-clause-finds g c =
    looks_failed (files_at (g.H.Host.moments c.args.host.now)) c.args.name.now c.in_err-launch.field-0.0 c.from_residual-in_err-launch.result (g.met.H.Host.is_tree c.read_state.new.host) c.read_state.ensures.unchanged c.launch_in.ensures.unchanged c.from_residual-in_err-launch.ensures.1

pub returns-in-Ok-clause-finds : goal.returns-in-Ok-clause-finds
returns-in-Ok-clause-finds g c =
    looks_launched (files_at (g.H.Host.moments c.args.host.now)) c.args.name.now c.in_ok-state.state (Ok c.in-Ok.launch) (Ok c.in-Ok.launch) (g.met.H.Host.is_tree c.read_state.new.host) (has_files (g.H.Host.moments c.args.host.now)) c.read_state.ensures.unchanged c.in_ok-state.ensures.tells c.launch_in.ensures.unchanged
    (λ others deploys. sym c.in-Ok.is ∙ c.in_ok-launch.ensures.tells others deploys) (λ disk found. found)

pub returns-clause-finds : goal.returns-clause-finds
returns-clause-finds g c =
    looks_launched (files_at (g.H.Host.moments c.args.host.now)) c.args.name.now c.in_ok-state.state (Err c.in-Err.refusal) (Err (Refused c.in-Err.refusal)) (g.met.H.Host.is_tree c.read_state.new.host) (has_files (g.H.Host.moments c.args.host.now)) c.read_state.ensures.unchanged c.in_ok-state.ensures.tells c.launch_in.ensures.unchanged
    (λ others deploys. sym c.in-Err.is ∙ c.in_ok-launch.ensures.tells others deploys) (λ disk found. found)
