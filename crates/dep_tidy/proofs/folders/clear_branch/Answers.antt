use Rattle.std.proofs.Common.{subst}
use Rattle.fp_host.proofs.Framed.{frame_start}
use Rattle.fp_host.proofs.Ending.{ends_to, ends_start}
use Rattle.dep_states.specs.Branches.{IsRefAt}
use Rattle.dep_tidy.proofs.UnkeptFolders.{none_in_bad}
use Rattle.dep_tidy.proofs.folders.clear_branch.Goals as goal

pub returns-in-None-clause-frame : goal.returns-in-None-clause-frame
returns-in-None-clause-frame g c = frame_start (g.met.H.Host.is_tree c.args.host.now)

pub returns-in-None-clause-on_success : goal.returns-in-None-clause-on_success
returns-in-None-clause-on_success g c = ends_to (ends_start (g.met.H.Host.is_tree c.args.host.now)) (λ u w same. none_in_bad (subst (IsRefAt c.args.path.now) c.in-None.is c.in_ok-ref_at.ensures) w)
