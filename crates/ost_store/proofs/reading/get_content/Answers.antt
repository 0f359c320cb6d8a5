use Rattle.std.proofs.Common.{◌≡◌, Ok, List, ℕ, sym, subst, arith}
use Rattle.fp_host.specs.Paths.{link}
use Rattle.fp_host.specs.View.{View, IsTree}
use Rattle.fp_host.specs.Reads.{StatOf}
use Rattle.fp_host.proofs.Looking.{looks_start, looks_stat, looks_read_link}
use Rattle.fp_host.proofs.Ending.{ends_call, ends_on, ends_in_tree, call_caused}
use Rattle.fp_host.proofs.Slots.{stat_link, clash_link}
use Rattle.ost_store.proofs.Gets.{got_none, got_long, got_file, got_link}
use Rattle.ost_store.proofs.reading.get_content.Goals as goal

pub returns-in_err-stat-clause-unchanged : goal.returns-in_err-stat-clause-unchanged
returns-in_err-stat-clause-unchanged g c = let t = g.met.H.Host.is_tree in looks_stat c.stat.ensures.step (looks_start (t c.args.host.now)) (t c.args.host.now)

pub returns-in_err-read_link-in-Link-clause-unchanged : goal.returns-in_err-read_link-in-Link-clause-unchanged
returns-in_err-read_link-in-Link-clause-unchanged g c =
    let t = g.met.H.Host.is_tree in
    looks_read_link c.read_link.ensures.step (looks_stat c.stat.ensures.step (looks_start (t c.args.host.now)) (t c.args.host.now)) (t c.stat.new.self)

pub returns-in_err-read_link-in-Link-clause-fault_has_cause : goal.returns-in_err-read_link-in-Link-clause-fault_has_cause
returns-in_err-read_link-in-Link-clause-fault_has_cause g c =
    let t = g.met.H.Host.is_tree in
    let p = c.args.path.now in
    let e = c.in_err-read_link-in-Link.ensures in
    call_caused (λ v. Unit {0}) (λ (v : View). (text : List ℕ) × (v.names p ≡ link text)) _ _ _ _ _ (t c.args.host.now) c.stat.ensures.fault_has_cause.later (ends_call (t c.args.host.now) c.in_ok-stat.ensures.step) e.step e.fault_has_cause c.from_residual-in_err-read_link-in-Link.ensures.1
    (λ v w step. clash_link step)
    (λ u v tree s can. subst (λ (x : View). (text : List ℕ) × (x.names p ≡ link text)) (sym s.same) (stat_link (subst (λ r. StatOf p (Ok r) u v) c.in-Link.is s)))

pub returns-in-Absent-clause-unchanged : goal.returns-in-Absent-clause-unchanged
returns-in-Absent-clause-unchanged g c = let t = g.met.H.Host.is_tree in looks_stat c.stat.ensures.step (looks_start (t c.args.host.now)) (t c.args.host.now)

pub returns-in-Absent-clause-tells : goal.returns-in-Absent-clause-tells
returns-in-Absent-clause-tells g c =
    let t = g.met.H.Host.is_tree in
    ends_in_tree (t c.stat.new.self) (ends_call (t c.args.host.now) c.in_ok-stat.ensures.step) (λ u w tree s. got_none (subst IsTree s.same tree) s c.in-Absent.is)

pub returns-in-File-clause-unchanged : goal.returns-in-File-clause-unchanged
returns-in-File-clause-unchanged g c = let t = g.met.H.Host.is_tree in looks_stat c.stat.ensures.step (looks_start (t c.args.host.now)) (t c.args.host.now)

pub returns-in-File-clause-tells : goal.returns-in-File-clause-tells
returns-in-File-clause-tells g c =
    let t = g.met.H.Host.is_tree in
    ends_in_tree (t c.stat.new.self) (ends_call (t c.args.host.now) c.in_ok-stat.ensures.step) (λ u w tree s. got_long (subst IsTree s.same tree) (subst (λ r. StatOf c.args.path.now (Ok r) u w) c.in-File.is s) c.if-size-max.true)

pub returns-in-File-2-clause-unchanged : goal.returns-in-File-2-clause-unchanged
returns-in-File-2-clause-unchanged g c = let t = g.met.H.Host.is_tree in looks_stat c.stat.ensures.step (looks_start (t c.args.host.now)) (t c.args.host.now)

pub returns-in-File-2-clause-tells : goal.returns-in-File-2-clause-tells
returns-in-File-2-clause-tells g c =
    let t = g.met.H.Host.is_tree in
    ends_in_tree (t c.stat.new.self) (ends_call (t c.args.host.now) c.in_ok-stat.ensures.step) (λ u w tree s. got_file (subst IsTree s.same tree) (subst (λ r. StatOf c.args.path.now (Ok r) u w) c.in-File.is s) (omega (arith, c.if-size-max.false)))

pub returns-in_ok-read_link-in-Link-clause-unchanged : goal.returns-in_ok-read_link-in-Link-clause-unchanged
returns-in_ok-read_link-in-Link-clause-unchanged g c =
    let t = g.met.H.Host.is_tree in
    looks_read_link c.read_link.ensures.step (looks_stat c.stat.ensures.step (looks_start (t c.args.host.now)) (t c.args.host.now)) (t c.stat.new.self)

pub returns-in_ok-read_link-in-Link-clause-tells : goal.returns-in_ok-read_link-in-Link-clause-tells
returns-in_ok-read_link-in-Link-clause-tells g c =
    let t = g.met.H.Host.is_tree in
    ends_on (ends_call (t c.stat.new.self) c.in_ok-read_link-in-Link.ensures.step) (ends_call (t c.args.host.now) c.in_ok-stat.ensures.step) (t c.stat.new.self) (λ u v w tree s read. got_link (subst IsTree s.same tree) (subst (λ (x : View). x.names c.args.path.now ≡ link c.in_ok-read_link-in-Link.field-0) s.same read.tells.1))
