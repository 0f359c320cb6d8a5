use Rattle.std.proofs.Common.{◌≡◌, Ok, List, ℕ, sym, ◌∙◌, subst}
use Rattle.fp_host.specs.Paths.{link}
use Rattle.fp_host.specs.View.{View, IsTree}
use Rattle.fp_host.specs.Reads.{StatOf, LinkOf}
use Rattle.fp_host.proofs.Looking.{looks_start, looks_stat, looks_read_link}
use Rattle.fp_host.proofs.Ending.{ends_call, ends_on, call_caused}
use Rattle.fp_host.proofs.Slots.{stat_link, clash_link}
use Rattle.fl_export.proofs.Tested.{tells_of, link_told, no_link_told}
use Rattle.fl_export.proofs.standing.is_link.Goals as goal

pub returns-in_err-stat-clause-unchanged : goal.returns-in_err-stat-clause-unchanged
returns-in_err-stat-clause-unchanged g c = let t = g.met.H.Host.is_tree in looks_stat c.stat.ensures.step (looks_start (t c.args.host.now)) (t c.args.host.now)

pub returns-in_err-read_link-in-Link-clause-unchanged : goal.returns-in_err-read_link-in-Link-clause-unchanged
returns-in_err-read_link-in-Link-clause-unchanged g c =
    let t = g.met.H.Host.is_tree in
    looks_read_link c.read_link.ensures.step (looks_stat c.stat.ensures.step (looks_start (t c.args.host.now)) (t c.args.host.now)) (t c.stat.new.self)

pub returns-in_err-read_link-in-Link-clause-fault_has_cause : goal.returns-in_err-read_link-in-Link-clause-fault_has_cause
returns-in_err-read_link-in-Link-clause-fault_has_cause g c =
    let t = g.met.H.Host.is_tree in
    let p = c.args.place.now in
    let e = c.in_err-read_link-in-Link.ensures in
    call_caused (λ v. Unit {0}) (λ (v : View). (text : List ℕ) × (v.names p ≡ link text)) _ _ _ _ _ (t c.args.host.now) c.stat.ensures.fault_has_cause.later (ends_call (t c.args.host.now) c.in_ok-stat.ensures.step) e.step e.fault_has_cause c.from_residual-in_err-read_link-in-Link.ensures.1
    (λ v w step. clash_link step)
    (λ u v tree s can. subst (λ (x : View). (text : List ℕ) × (x.names p ≡ link text)) (sym s.same) (stat_link (subst (λ r. StatOf p (Ok r) u v) c.in-Link.is s)))

pub returns-in_ok-read_link-in-Link-clause-unchanged : goal.returns-in_ok-read_link-in-Link-clause-unchanged
returns-in_ok-read_link-in-Link-clause-unchanged g c =
    let t = g.met.H.Host.is_tree in
    looks_read_link c.read_link.ensures.step (looks_stat c.stat.ensures.step (looks_start (t c.args.host.now)) (t c.args.host.now)) (t c.stat.new.self)

pub returns-in_ok-read_link-in-Link-clause-tells : goal.returns-in_ok-read_link-in-Link-clause-tells
returns-in_ok-read_link-in-Link-clause-tells g c =
    let t = g.met.H.Host.is_tree in
    let p = c.args.place.now in
    let found = c.in_ok-read_link-in-Link.field-0 in
    ends_on (ends_call (t c.stat.new.self) c.in_ok-read_link-in-Link.ensures.step) (ends_call (t c.args.host.now) c.in_ok-stat.ensures.step) (t c.stat.new.self)
    (λ u v w tree s read. c.eq-in-Link.ensures ∙ link_told (subst IsTree s.same tree) p c.args.text.now found (subst (λ (x : View). LinkOf p (Ok found) x w) s.same read))

pub returns-in_default : goal.returns-in_default
returns-in_default g c =
    let t = g.met.H.Host.is_tree in
    record {
      unchanged = looks_stat c.stat.ensures.step (looks_start (t c.args.host.now)) (t c.args.host.now);
      tells = tells_of (t c.args.host.now) c.in_ok-stat.ensures.step (λ u w tree s. no_link_told tree c.args.place.now c.args.text.now c.in_ok-stat.field-0 (λ is. c.in_default.not-Link is) s);
      fault_has_cause = record { later = c.stat.ensures.fault_has_cause.later; fault = λ is. absurd (cc is) };
    }
