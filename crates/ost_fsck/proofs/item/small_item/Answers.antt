use Rattle.std.proofs.Common.{◌≡◌, ℕ, List, Ok, IsErrOf, sym, subst}
use Rattle.fp_host.specs.Paths.{link}
use Rattle.fp_host.specs.View.{View, IsTree}
use Rattle.fp_host.specs.Reads.{StatOf}
use Rattle.fp_host.specs.declared.host.HostEnd.TheVariants.{Fault}
use Rattle.fp_host.proofs.Cause.{passed_on}
use Rattle.fp_host.proofs.Looking.{looks_start, looks_stat, looks_read_link, looks_within}
use Rattle.fp_host.proofs.Ending.{ends_call, ends_on, ends_to, call_caused}
use Rattle.fp_host.proofs.Slots.{stat_link, clash_link}
use Rattle.ost_fsck.proofs.Itemed.{file_after, link_at}
use Rattle.ost_fsck.proofs.item.small_item.Goals as goal

pub returns-in_err-mode-clause-unchanged : goal.returns-in_err-mode-clause-unchanged
returns-in_err-mode-clause-unchanged g c = let t = g.met.H.Host.is_tree in looks_stat c.stat.ensures.step (looks_start (t c.args.host.now)) (t c.args.host.now)

pub returns-in-File-clause-unchanged : goal.returns-in-File-clause-unchanged
returns-in-File-clause-unchanged g c =
    let t = g.met.H.Host.is_tree in
    looks_within c.file_item.ensures.unchanged (looks_stat c.stat.ensures.step (looks_start (t c.args.host.now)) (t c.args.host.now)) (t c.stat.new.self)

pub returns-in-File-clause-tells : goal.returns-in-File-clause-tells
returns-in-File-clause-tells g c =
    let t = g.met.H.Host.is_tree in
    file_after _ c.args.path.now c.args.kind _ _ _ c.file_item.result (t c.stat.new.self) (ends_call (t c.args.host.now) c.in_ok-mode.ensures.step) c.in-File.is c.file_item.ensures.tells

pub returns-in-File-clause-fault_has_cause : goal.returns-in-File-clause-fault_has_cause
returns-in-File-clause-fault_has_cause g c =
    let t = g.met.H.Host.is_tree in
    passed_on (IsErrOf c.file_item.result Fault) (IsErrOf c.file_item.result Fault) (λ v. Unit {0}) (λ v. Unit {0}) _ _ _ (t c.args.host.now) c.stat.ensures.fault_has_cause.later (ends_call (t c.args.host.now) c.in_ok-mode.ensures.step)
    c.file_item.ensures.fault_has_cause (λ is. is) (λ u v tree q can. tt)

pub returns-in_err-read_link-in-Link-clause-unchanged : goal.returns-in_err-read_link-in-Link-clause-unchanged
returns-in_err-read_link-in-Link-clause-unchanged g c =
    let t = g.met.H.Host.is_tree in
    looks_read_link c.read_link.ensures.step (looks_stat c.stat.ensures.step (looks_start (t c.args.host.now)) (t c.args.host.now)) (t c.stat.new.self)

pub returns-in_err-read_link-in-Link-clause-fault_has_cause : goal.returns-in_err-read_link-in-Link-clause-fault_has_cause
returns-in_err-read_link-in-Link-clause-fault_has_cause g c =
    let t = g.met.H.Host.is_tree in
    let p = c.args.path.now in
    let e = c.in_err-read_link-in-Link.ensures in
    call_caused (λ v. Unit {0}) (λ (v : View). (text : List ℕ) × (v.names p ≡ link text)) _ _ _ _ _ (t c.args.host.now) c.stat.ensures.fault_has_cause.later (ends_call (t c.args.host.now) c.in_ok-mode.ensures.step) e.step e.fault_has_cause c.from_residual-in_err-read_link-in-Link.ensures.1
    (λ v w step. clash_link step)
    (λ u v tree s can. subst (λ (x : View). (text : List ℕ) × (x.names p ≡ link text)) (sym s.same) (stat_link (subst (λ r. StatOf p (Ok r) u v) c.in-Link.is s)))

pub returns-in_err-link_item-in-Link-clause-unchanged : goal.returns-in_err-link_item-in-Link-clause-unchanged
returns-in_err-link_item-in-Link-clause-unchanged g c =
    let t = g.met.H.Host.is_tree in
    looks_read_link c.read_link.ensures.step (looks_stat c.stat.ensures.step (looks_start (t c.args.host.now)) (t c.args.host.now)) (t c.stat.new.self)

pub returns-in_ok-link_item-in-Link-clause-unchanged : goal.returns-in_ok-link_item-in-Link-clause-unchanged
returns-in_ok-link_item-in-Link-clause-unchanged g c =
    let t = g.met.H.Host.is_tree in
    looks_read_link c.read_link.ensures.step (looks_stat c.stat.ensures.step (looks_start (t c.args.host.now)) (t c.args.host.now)) (t c.stat.new.self)

pub returns-in_ok-link_item-in-Link-clause-tells : goal.returns-in_ok-link_item-in-Link-clause-tells
returns-in_ok-link_item-in-Link-clause-tells g c =
    let t = g.met.H.Host.is_tree in
    let text = c.in_ok-read_link-in-Link.field-0 in
    ends_on (ends_call (t c.stat.new.self) c.in_ok-read_link-in-Link.ensures.step) (ends_call (t c.args.host.now) c.in_ok-mode.ensures.step) (t c.stat.new.self)
    (λ u v w tree s read. link_at u c.args.path.now c.args.kind text c.in_ok-link_item-in-Link.field-0 (subst IsTree s.same tree) (subst (λ (x : View). x.names c.args.path.now ≡ link text) s.same read.tells.1) c.in_ok-link_item-in-Link.ensures)

pub returns-in-Absent-clause-unchanged : goal.returns-in-Absent-clause-unchanged
returns-in-Absent-clause-unchanged g c = let t = g.met.H.Host.is_tree in looks_stat c.stat.ensures.step (looks_start (t c.args.host.now)) (t c.args.host.now)

pub returns-in-Absent-clause-tells : goal.returns-in-Absent-clause-tells
returns-in-Absent-clause-tells g c = ends_to (ends_call (g.met.H.Host.is_tree c.args.host.now) c.in_ok-mode.ensures.step) (λ u w s. tt)
