use Rattle.std.proofs.Common.{List, ℕ, Bool, None, Ok, sym, ◌∙◌, subst, arith}
use Rattle.fp_base.specs.declared.object.ObjKind.{ObjKind}
use Rattle.fp_base.specs.declared.object.ObjKind.TheVariants as kinds
use Rattle.fp_host.specs.View.{View}
use Rattle.fp_host.specs.Outcome.{shows}
use Rattle.fp_host.proofs.Ending.{ends_looks}
use Rattle.ost_model.specs.Objects.{store}
use Rattle.ost_head.specs.Contents.{ChecksIfThere}
use Rattle.ost_head.specs.Found.{HostHas}
use Rattle.ost_store.specs.ObjectNames.{AreOpen}
use Rattle.ost_pull.specs.Work.{AreKept}
use Rattle.ost_pull.proofs.Batched.{none_there}
use Rattle.ost_pull.proofs.Kept.{works_looks, works_within}
use Rattle.ost_pull.proofs.Taken.{passed, counted, no_remotes, ok_two, content_taken, content_good, content_bad, content_judged, lacked, new_taken}
use Rattle.ost_pull.proofs.taking.take_content.Goals as goal

pub returns-in-Ok-true-clause-any_moment : goal.returns-in-Ok-true-clause-any_moment
returns-in-Ok-true-clause-any_moment g c = works_looks (g.met.H.Host.is_tree c.args.host.now) c.check_content.ensures.unchanged

pub returns-in-Ok-true-clause-on_success : goal.returns-in-Ok-true-clause-on_success
returns-in-Ok-true-clause-on_success g c = content_taken c.args.digest.now c.args.kept.now.items c.as_bytes-bytes.ensures.good c.check_content.ensures.unchanged (λ m at. sym (c.in-Ok-true.ensures.there m at) ∙ c.in-Ok-true.field-0-test)

pub returns-in-Ok-true-clause-tells : goal.returns-in-Ok-true-clause-tells
returns-in-Ok-true-clause-tells g c have s now trusted = content_good c.args.digest.now s (subst (λ (b : Bool). ChecksIfThere c.args.digest.now (store c.args.root.now (shows s.moments.now) c.args.digest.now kinds.File) (Ok b)) c.in-Ok-true.field-0-test (c.in-Ok-true.ensures.tells s.moments s.told_is trusted))

pub returns-in-Ok-false-clause-any_moment : goal.returns-in-Ok-false-clause-any_moment
returns-in-Ok-false-clause-any_moment g c =
    let t = g.met.H.Host.is_tree in
    works_within (t c.check_content.new.host) c.keep_content.ensures.any_moment (works_looks (t c.args.host.now) c.check_content.ensures.unchanged)

pub returns-in-Ok-false-clause-on_success : goal.returns-in-Ok-false-clause-on_success
returns-in-Ok-false-clause-on_success g c =
    let t = g.met.H.Host.is_tree in
    let o : List ℕ × ObjKind = (c.args.digest.now, kinds.File) in
    let none : HostHas c.args.root.now (g.H.Host.moments c.args.host.now) c.args.digest.now kinds.File None = record { is = λ m at. none_there (store c.args.root.now (shows m.now) c.args.digest.now kinds.File) (sym c.in-Ok-false.field-0-test ∙ c.in-Ok-false.ensures.there m at) } in
    ok_two c.keep_content.result
    (λ adds keeps. new_taken c.requires o c.args.kept.now.items c.keep_content.new.kept.items c.as_bytes-bytes.ensures.good adds (t c.check_content.new.host) (t c.keep_content.new.host) (lacked o c.check_content.ensures.unchanged none) c.keep_content.ensures.any_moment keeps)
    c.keep_content.ensures.adds c.keep_content.ensures.on_success

pub returns-in-Ok-false-clause-tells : goal.returns-in-Ok-false-clause-tells
returns-in-Ok-false-clause-tells g c have s now trusted =
    let n = c.check_content.ensures.unchanged.goes.told s.moments s.told_is in
    let kept = subst (λ (v : View). AreKept c.args.work.now c.args.url.now (g.R.Remotes.holds c.args.remotes.now) c.args.kept.now.items v) (sym n.3.0) (now.are s.moments s.told_is).are in
    content_judged c.args.digest.now s c.keep_content.result (subst (λ (b : Bool). ChecksIfThere c.args.digest.now (store c.args.root.now (shows s.moments.now) c.args.digest.now kinds.File) (Ok b)) c.in-Ok-false.field-0-test (c.in-Ok-false.ensures.tells s.moments s.told_is trusted)) (c.keep_content.ensures.tells n.0 s.held n.1 s.holdings_are kept)

pub returns-in-Ok-false-clause-fault_has_cause : goal.returns-in-Ok-false-clause-fault_has_cause
returns-in-Ok-false-clause-fault_has_cause g c =
    let t = g.met.H.Host.is_tree in
    passed (AreOpen c.args.work.now) (AreOpen c.args.work.now) (t c.args.host.now) c.check_content.ensures.fault_has_cause.later (ends_looks (t c.args.host.now) c.check_content.ensures.unchanged) c.keep_content.ensures.fault_has_cause (λ is. is)
    (λ u v tree q can. subst (AreOpen c.args.work.now) (sym q.0) can)

pub returns-in-Err-clause-any_moment : goal.returns-in-Err-clause-any_moment
returns-in-Err-clause-any_moment g c = works_looks (g.met.H.Host.is_tree c.args.host.now) c.check_content.ensures.unchanged

pub returns-in-Err-clause-tells : goal.returns-in-Err-clause-tells
returns-in-Err-clause-tells g c have s now trusted = content_bad c.args.digest.now s c.in-Err.end (c.in-Err.ensures.tells s.moments s.told_is trusted)

pub returns-in-Err-clause-fault_has_cause : goal.returns-in-Err-clause-fault_has_cause
returns-in-Err-clause-fault_has_cause g c = counted (λ is. cc is) c.in-Err.ensures.fault_has_cause

pub returns-in-Err-clause-remote_fault_has_cause : goal.returns-in-Err-clause-remote_fault_has_cause
returns-in-Err-clause-remote_fault_has_cause g c = no_remotes (λ is. c.in-Err.ensures.remote (cc is)) (omega arith)
