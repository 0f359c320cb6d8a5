use Rattle.std.proofs.Common.{◌≡◌, Ok, refl, subst}
use Rattle.ost_model.specs.Readers.{commit_read}
use Rattle.ost_object.specs.Answers.{mapped}
use Rattle.ost_object.specs.Views.{root_in, root_view}
use Rattle.fp_host.specs.Outcome.{shows}
use Rattle.fp_host.proofs.Cause.{same_fault}
use Rattle.fp_host.proofs.Ending.{ends_to}
use Rattle.fp_base.specs.declared.object.ObjKind.TheVariants as kinds
use Rattle.fp_base.proofs.Options.{if_ok_to}
use Rattle.ost_model.specs.Objects.{store}
use Rattle.ost_store.specs.declared.reading.Got.{Got}
use Rattle.ost_store.specs.Reads.{Gets}
use Rattle.ost_checkout.proofs.Read.{is_root, commit_reads, meta_told}
use Rattle.ost_checkout.proofs.reading.read_root.Goals as goal

pub returns-in_err-bytes-clause-fault_has_cause : goal.returns-in_err-bytes-clause-fault_has_cause
returns-in_err-bytes-clause-fault_has_cause g c = record {
  later = c.get.ensures.fault_has_cause.later;
  fault = λ is m at can. c.get.ensures.fault_has_cause.fault (same_fault _ _ _ c.in_err-bytes.was c.from_residual.ensures.1 is) m at tt;
}

pub returns-in-Meta-clause-tells : goal.returns-in-Meta-clause-tells
returns-in-Meta-clause-tells g c = if_ok_to {P = λ r. mapped root_in (commit_read c.in-Meta.bytes) ≡ Ok (root_view r)} c.root_in.result (λ r read. ends_to c.in_ok-bytes.ensures.tells (λ u w gets.
    is_root {root = c.args.root.now} {d = c.args.commit.now} {u = u} {bytes = c.in-Meta.bytes} {found = root_view r} {most = 16777216}
    (subst (λ (x : Got). Gets c.args.root.now c.args.commit.now kinds.Commit 16777216 u x) c.in-Meta.is gets) read)) c.root_in.ensures.read

pub returns-in-Meta-clause-fault_has_cause : goal.returns-in-Meta-clause-fault_has_cause
returns-in-Meta-clause-fault_has_cause g c = record {
  later = c.get.ensures.fault_has_cause.later;
  fault = λ is m at can.
      let gets = (c.in_ok-bytes.ensures.tells.goes.told m at).3 in
      absurd (commit_reads (subst (λ (x : Got). Gets c.args.root.now c.args.commit.now kinds.Commit 16777216 m.now x) c.in-Meta.is gets) can (c.root_in.ensures.unread is));
}

pub returns-clause-fault_has_cause : goal.returns-clause-fault_has_cause
returns-clause-fault_has_cause g c = record {
  later = c.get.ensures.fault_has_cause.later;
  fault = λ is m at can.
      absurd (meta_told c.args.commit.now kinds.Commit (store c.args.root.now (shows m.now) c.args.commit.now kinds.Commit) _ refl can.good (c.in_ok-bytes.ensures.tells.goes.told m at).3.is c.in_default.not-Meta);
}
