use Rattle.std.proofs.Common.{refl, subst}
use Rattle.fp_host.specs.Outcome.{shows}
use Rattle.fp_host.proofs.Cause.{same_fault}
use Rattle.fp_host.proofs.Ending.{ends_to}
use Rattle.fp_base.specs.declared.object.ObjKind.TheVariants as kinds
use Rattle.fp_base.proofs.Options.{if_ok_to}
use Rattle.ost_model.specs.Objects.{store}
use Rattle.ost_store.specs.declared.reading.Got.{Got}
use Rattle.ost_store.specs.Reads.{Gets}
use Rattle.ost_checkout.proofs.Read.{is_tree, tree_reads, meta_told}
use Rattle.ost_checkout.proofs.reading.read_tree.Goals as goal

pub returns-in_err-bytes-clause-fault_has_cause : goal.returns-in_err-bytes-clause-fault_has_cause
returns-in_err-bytes-clause-fault_has_cause g c = record {
  later = c.get.ensures.fault_has_cause.later;
  fault = λ is m at can. c.get.ensures.fault_has_cause.fault (same_fault _ _ _ c.in_err-bytes.was c.from_residual.ensures.1 is) m at tt;
}

pub returns-in-Meta-clause-tells : goal.returns-in-Meta-clause-tells
returns-in-Meta-clause-tells g c = if_ok_to c.tree_in.result (λ t read. ends_to c.in_ok-bytes.ensures.tells (λ u w gets.
    is_tree (subst (λ (x : Got). Gets c.args.root.now c.args.digest.now kinds.DirTree 16777216 u x) c.in-Meta.is gets) read)) c.tree_in.ensures.read

pub returns-in-Meta-clause-fault_has_cause : goal.returns-in-Meta-clause-fault_has_cause
returns-in-Meta-clause-fault_has_cause g c = record {
  later = c.get.ensures.fault_has_cause.later;
  fault = λ is m at can.
      let gets = (c.in_ok-bytes.ensures.tells.goes.told m at).3 in
      absurd (tree_reads (subst (λ (x : Got). Gets c.args.root.now c.args.digest.now kinds.DirTree 16777216 m.now x) c.in-Meta.is gets) can (c.tree_in.ensures.unread is));
}

pub returns-clause-fault_has_cause : goal.returns-clause-fault_has_cause
returns-clause-fault_has_cause g c = record {
  later = c.get.ensures.fault_has_cause.later;
  fault = λ is m at can.
      absurd (meta_told c.args.digest.now kinds.DirTree (store c.args.root.now (shows m.now) c.args.digest.now kinds.DirTree) _ refl can.good (c.in_ok-bytes.ensures.tells.goes.told m at).3.is c.in_default.not-Meta);
}
