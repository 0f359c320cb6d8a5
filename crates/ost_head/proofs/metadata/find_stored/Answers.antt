use Rattle.std.proofs.Common.{Option, IsErrOf}
use Rattle.fp_host.proofs.Looking.{looks_within}
use Rattle.ost_model.specs.declared.object.Object.{Object}
use Rattle.ost_walk.specs.declared.ends.WalkEnd.TheVariants as walks
use Rattle.ost_head.specs.Kept.{KeepsIfThere}
use Rattle.ost_head.proofs.Told.{stored_file, stored_text, counted_after}
use Rattle.ost_head.proofs.metadata.find_stored.Goals as goal

pub returns-in-File-clause-unchanged : goal.returns-in-File-clause-unchanged
returns-in-File-clause-unchanged g c = looks_within c.keep_stored.ensures.unchanged c.get.ensures.unchanged (g.met.H.Host.is_tree c.get.new.host)

pub returns-in-File-clause-fault_has_cause : goal.returns-in-File-clause-fault_has_cause
returns-in-File-clause-fault_has_cause g c =
    counted_after c.args.root.now c.args.digest.now (IsErrOf c.keep_stored.result walks.HostFault) _ _ _ c.get.ensures.fault_has_cause.later c.get.ensures.unchanged
    (λ m at. stored_file c.args.root.now c.args.digest.now _ c.in_ok-mode.field-0 m at c.in_ok-mode.ensures.tells c.in-File.mode c.in-File.size c.in-File.is) c.keep_stored.ensures.fault_has_cause

pub returns-in-Link-clause-tells : goal.returns-in-Link-clause-tells
returns-in-Link-clause-tells g c m at =
    stored_text (λ (o : Option Object). KeepsIfThere c.args.digest.now o c.keep_link.result) c.args.root.now c.args.digest.now _ c.in_ok-mode.field-0 m at c.in_ok-mode.ensures.tells c.in-Link.text c.in-Link.is c.keep_link.ensures.tells
