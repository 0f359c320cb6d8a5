use Rattle.std.proofs.Common.{List, ℕ, Err, subst}
use Rattle.std.specs.Prelude.{IsErrOf}
use Rattle.fp_base.specs.declared.object.ObjKind.{ObjKind}
use Rattle.ost_walk.specs.declared.ends.WalkEnd.{WalkEnd}
use Rattle.ost_walk.specs.declared.ends.WalkEnd.TheVariants as ends
use Rattle.fp_host.proofs.Ending.{ends_looks}
use Rattle.ost_head.specs.declared.found.Found.{Found}
use Rattle.ost_head.specs.Found.{IsFound, IsKeepableIfNew}
use Rattle.ost_store.specs.ObjectNames.{AreOpen}
use Rattle.ost_pull.specs.Work.{CanKeep}
use Rattle.ost_pull.proofs.Kept.{works_looks, works_within}
use Rattle.ost_pull.proofs.Taken.{host_fault, passed, stored_taken, lacked, new_taken, can_keep}
use Rattle.ost_pull.proofs.taking.take_whole.Goals as goal

pub returns-in-Ok-Stored-clause-any_moment : goal.returns-in-Ok-Stored-clause-any_moment
returns-in-Ok-Stored-clause-any_moment g c = works_looks (g.met.H.Host.is_tree c.args.host.now) c.find.ensures.looks.still

pub returns-in-Ok-Stored-clause-on_success : goal.returns-in-Ok-Stored-clause-on_success
returns-in-Ok-Stored-clause-on_success g c =
    let from = subst (λ (f : Found). IsFound c.args.root.now c.args.url.now (g.H.Host.moments c.args.host.now) (g.R.Remotes.holds c.args.remotes.now) c.args.digest.now c.args.kind f) c.in-Ok-Stored.field-0-is c.in-Ok-Stored.ensures.from in
    stored_taken (c.args.digest.now, c.args.kind) c.in-Ok-Stored.field-0-0 c.args.kept.now.items c.as_bytes-bytes.ensures.good c.find.ensures.looks.still from

pub returns-in-Ok-clause-any_moment : goal.returns-in-Ok-clause-any_moment
returns-in-Ok-clause-any_moment g c =
    let t = g.met.H.Host.is_tree in
    works_within (t c.find.new.host) c.keep.ensures.any_moment (works_looks (t c.args.host.now) c.find.ensures.looks.still)

pub returns-in-Ok-clause-on_success : goal.returns-in-Ok-clause-on_success
returns-in-Ok-clause-on_success g c =
    let t = g.met.H.Host.is_tree in
    let o : List ℕ × ObjKind = (c.args.digest.now, c.args.kind) in
    let from = subst (λ (f : Found). IsFound c.args.root.now c.args.url.now (g.H.Host.moments c.args.host.now) (g.R.Remotes.holds c.args.remotes.now) c.args.digest.now c.args.kind f) c.in-Ok-New.field-0-is c.in-Ok-New.ensures.from in
    new_taken c.requires o c.args.kept.now.items c.keep.new.kept.items c.as_bytes-bytes.ensures.good c.in-Ok.ensures.adds (t c.find.new.host) (t c.keep.new.host) (lacked o c.find.ensures.looks.still from.none) c.keep.ensures.any_moment
    (c.in-Ok.ensures.on_success c.args.url.now (g.R.Remotes.holds c.args.remotes.now) from.there)

pub returns-in-Ok-New-clause-any_moment : goal.returns-in-Ok-New-clause-any_moment
returns-in-Ok-New-clause-any_moment g c =
    let t = g.met.H.Host.is_tree in
    works_within (t c.find.new.host) c.keep.ensures.any_moment (works_looks (t c.args.host.now) c.find.ensures.looks.still)

pub returns-in-Ok-New-clause-fault_has_cause : goal.returns-in-Ok-New-clause-fault_has_cause
returns-in-Ok-New-clause-fault_has_cause g c =
    let t = g.met.H.Host.is_tree in
    let o : List ℕ × ObjKind = (c.args.digest.now, c.args.kind) in
    passed (AreOpen c.args.work.now) (CanKeep c.args.work.now c.args.digest.now c.args.kind c.in-Ok-New.object) (t c.args.host.now) c.find.ensures.looks.host.later (ends_looks (t c.args.host.now) c.find.ensures.looks.still)
    c.in-Err-keep.ensures.fault_has_cause (λ is. host_fault c.in-Err-keep.end (subst (λ (e : WalkEnd). IsErrOf {T = Unit {0}} (Err e) ends.HostFault) c.walk_end.ensures is)) (λ u v tree q can. can_keep o c.in-Ok-New.object c.as_bytes-bytes.ensures.good (subst IsKeepableIfNew c.in-Ok-New.field-0-is c.in-Ok-New.ensures.keepable) q.0 can)

pub returns-clause-any_moment : goal.returns-clause-any_moment
returns-clause-any_moment g c = works_looks (g.met.H.Host.is_tree c.args.host.now) c.find.ensures.looks.still
