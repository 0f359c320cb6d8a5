use Rattle.std.proofs.Common.{◌≡◌, List, ℕ, Ok, subst, sym}
use Rattle.fp_host.specs.Paths.{link}
use Rattle.fp_host.specs.View.{IsTree}
use Rattle.fp_host.specs.Outcome.{shows}
use Rattle.fp_host.specs.Reads.{StatOf}
use Rattle.fp_host.proofs.Cause.{clash_reads}
use Rattle.fp_host.proofs.Looking.{looks_start, looks_stat, looks_read_link}
use Rattle.fp_host.proofs.Ending.{ends_call, ends_on, ends_in_tree, call_caused}
use Rattle.dep_states.specs.Shown.{there}
use Rattle.dep_open.specs.Parts.{text_seen}
use Rattle.dep_open.proofs.Linked.{nothing_there, other_there, link_there, stat_link}
use Rattle.dep_open.proofs.refs.read_text.Goals as goal

pub returns-in_err-stat-clause-unchanged : goal.returns-in_err-stat-clause-unchanged
returns-in_err-stat-clause-unchanged g c = let t = g.met.H.Host.is_tree in looks_stat c.stat.ensures.step (looks_start (t c.args.host.now)) (t c.args.host.now)

pub returns-in_err-read_link-in-Link-clause-unchanged :
    goal.returns-in_err-read_link-in-Link-clause-unchanged
returns-in_err-read_link-in-Link-clause-unchanged g c =
    let t = g.met.H.Host.is_tree in
    looks_read_link c.read_link.ensures.step (looks_stat c.stat.ensures.step (looks_start (t c.args.host.now)) (t c.args.host.now)) (t c.stat.new.self)

pub returns-in_err-read_link-in-Link-clause-fault_has_cause :
    goal.returns-in_err-read_link-in-Link-clause-fault_has_cause
returns-in_err-read_link-in-Link-clause-fault_has_cause g c =
    let t = g.met.H.Host.is_tree in
    let e = c.in_err-read_link-in-Link.ensures in
    call_caused (λ v. Unit {0}) (λ v. (text : List ℕ) × (v.names c.args.path.now ≡ link text)) _ _ _ _ _ (t c.args.host.now) c.stat.ensures.fault_has_cause.later (ends_call (t c.args.host.now) c.in_ok-stat.ensures.step) e.step e.fault_has_cause
    c.from_residual-in_err-read_link-in-Link.ensures.1 (λ v w step clash can. clash_reads {T = List ℕ} ((text : List ℕ) × (v.names c.args.path.now ≡ link text)) (λ text. v.names c.args.path.now ≡ link text) _ step.tells clash can)
    (λ u v is q can. subst (λ x. (text : List ℕ) × (x.names c.args.path.now ≡ link text)) (sym q.same) (stat_link (subst (λ r. StatOf c.args.path.now (Ok r) u v) c.in-Link.is q)))

pub returns-in-Absent-clause-unchanged : goal.returns-in-Absent-clause-unchanged
returns-in-Absent-clause-unchanged g c = let t = g.met.H.Host.is_tree in looks_stat c.stat.ensures.step (looks_start (t c.args.host.now)) (t c.args.host.now)

pub returns-in-Absent-clause-tells : goal.returns-in-Absent-clause-tells
returns-in-Absent-clause-tells g c = ends_in_tree (g.met.H.Host.is_tree c.stat.new.self) (ends_call (g.met.H.Host.is_tree c.args.host.now) c.in_ok-stat.ensures.step)
    (λ u w tree s. sym (nothing_there (subst IsTree s.same tree) (subst (λ r. StatOf c.args.path.now (Ok r) u w) c.in-Absent.is s)))

pub returns-in_ok-read_link-in-Link-clause-unchanged :
    goal.returns-in_ok-read_link-in-Link-clause-unchanged
returns-in_ok-read_link-in-Link-clause-unchanged g c =
    let t = g.met.H.Host.is_tree in
    looks_read_link c.read_link.ensures.step (looks_stat c.stat.ensures.step (looks_start (t c.args.host.now)) (t c.args.host.now)) (t c.stat.new.self)

pub returns-in_ok-read_link-in-Link-clause-tells :
    goal.returns-in_ok-read_link-in-Link-clause-tells
returns-in_ok-read_link-in-Link-clause-tells g c =
    let t = g.met.H.Host.is_tree in
    ends_on (ends_call (t c.stat.new.self) c.in_ok-read_link-in-Link.ensures.step) (ends_call (t c.args.host.now) c.in_ok-stat.ensures.step) (t c.stat.new.self)
    (λ u v w tree s reads. sym (subst (λ x. text_seen (shows x c.args.path.now) ≡ there c.in_ok-read_link-in-Link.field-0) s.same (link_there tree reads)))

pub returns-in_default : goal.returns-in_default
returns-in_default g c =
    let t = g.met.H.Host.is_tree in
    record {
      unchanged = looks_stat c.stat.ensures.step (looks_start (t c.args.host.now)) (t c.args.host.now);
      tells = ends_in_tree (t c.stat.new.self) (ends_call (t c.args.host.now) c.in_ok-stat.ensures.step) (λ u w tree s. sym (other_there (subst IsTree s.same tree) s c.in_default.not-Absent c.in_default.not-Link));
      fault_has_cause = record { later = c.stat.ensures.fault_has_cause.later; fault = λ is. absurd (cc is) };
    }
