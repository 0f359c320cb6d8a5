use Rattle.std.proofs.Common.{◌≡◌, List, ℕ, sym, subst, arith}
use Rattle.fp_host.specs.View.{View}
use Rattle.fp_host.specs.Paths.{link}
use Rattle.fp_host.specs.Calls.{Can, makes_link}
use Rattle.fp_host.proofs.Cause.{clash_step}
use Rattle.fp_host.proofs.Ending.{ends_start, ends_call, ends_on, ends_to, call_caused}
use Rattle.fp_host.proofs.Slots.{clash_link as no_link}
use Rattle.fp_small.proofs.Unsynced.{none_on, none_same, step_none}
use Rattle.ost_checkout.specs.Placing.{WasCopied, CanCopyLink}
use Rattle.ost_checkout.proofs.Copied.{read_only, text_linking, can_link_text, link_made}
use Rattle.ost_checkout.proofs.placing.copy_link.Goals as goal

pub returns-in_err-text-clause-any_moment : goal.returns-in_err-text-clause-any_moment
returns-in_err-text-clause-any_moment g c = read_only (g.met.H.Host.is_tree c.args.host.now) c.read_link.ensures.step

pub returns-in_err-text-clause-unsynced : goal.returns-in_err-text-clause-unsynced
returns-in_err-text-clause-unsynced g c = ends_to (ends_call (g.met.H.Host.is_tree c.args.host.now) c.read_link.ensures.step) (λ u w s. none_same s.same)

pub returns-in_err-text-clause-fault_has_cause : goal.returns-in_err-text-clause-fault_has_cause
returns-in_err-text-clause-fault_has_cause g c =
    let t = g.met.H.Host.is_tree in
    let from = c.args.from.now in
    let e = c.in_err-text.ensures in
    call_caused {Q = λ u w. w ≡ u} (CanCopyLink from c.args.to.now) (λ v. (text : List ℕ) × (v.names from ≡ link text)) _ _ _ _ _ (t c.args.host.now) (omega arith) (ends_start (t c.args.host.now)) e.step e.fault_has_cause c.from_residual.ensures.1
    (λ v w step. no_link step) (λ u v tree same can. subst (λ (x : View). (text : List ℕ) × (x.names from ≡ link text)) (sym same) (can.text, can.is))

pub returns-in_err-symlink-clause-any_moment : goal.returns-in_err-symlink-clause-any_moment
returns-in_err-symlink-clause-any_moment g c =
    let t = g.met.H.Host.is_tree in
    text_linking c.as_str.ensures (t c.args.host.now) (t c.read_link.new.self) c.in_ok-text.ensures.step c.symlink.ensures.step

pub returns-in_err-symlink-clause-unsynced : goal.returns-in_err-symlink-clause-unsynced
returns-in_err-symlink-clause-unsynced g c =
    let t = g.met.H.Host.is_tree in
    ends_on (ends_call (t c.read_link.new.self) c.symlink.ensures.step) (ends_call (t c.args.host.now) c.read_link.ensures.step) (t c.read_link.new.self) (λ u v w tree s step. none_on (none_same s.same) (step_none tt step))

pub returns-in_err-symlink-clause-fault_has_cause : goal.returns-in_err-symlink-clause-fault_has_cause
returns-in_err-symlink-clause-fault_has_cause g c =
    let t = g.met.H.Host.is_tree in
    let from = c.args.from.now in
    let to = c.args.to.now in
    let e = c.in_err-symlink.ensures in
    call_caused {Q = λ u w. (w ≡ u) × (u.names from ≡ link c.in_ok-text.text)} (CanCopyLink from to) (Can (makes_link c.as_str.result.now to)) _ _ _ _ _ (t c.args.host.now) c.read_link.ensures.fault_has_cause.later
    (ends_to (ends_call (t c.args.host.now) c.in_ok-text.ensures.step) (λ u w s. (s.same, s.tells.1))) e.step e.fault_has_cause c.from_residual-in_err-symlink.ensures.1
    (λ v w step. clash_step step) (λ u v tree q can. can_link_text c.as_str.ensures tree q can)

pub returns-clause-any_moment : goal.returns-clause-any_moment
returns-clause-any_moment g c =
    let t = g.met.H.Host.is_tree in
    text_linking c.as_str.ensures (t c.args.host.now) (t c.read_link.new.self) c.in_ok-text.ensures.step c.symlink.ensures.step

pub returns-clause-on_success : goal.returns-clause-on_success
returns-clause-on_success g c =
    let t = g.met.H.Host.is_tree in
    let from = c.args.from.now in
    let to = c.args.to.now in
    ends_on (ends_call (t c.read_link.new.self) c.in_ok-symlink.ensures.step) (ends_call (t c.args.host.now) c.in_ok-text.ensures.step) (t c.read_link.new.self)
    (λ u v w tree s step. subst (λ (x : View). WasCopied from to x w) s.same (link_made (subst (λ (x : View). x.names from ≡ link c.as_str.result.now) (sym s.same) (subst (λ (l : List ℕ). u.names from ≡ link l) (sym c.as_str.ensures) s.tells.1)) step))

pub returns-clause-unsynced : goal.returns-clause-unsynced
returns-clause-unsynced g c =
    let t = g.met.H.Host.is_tree in
    ends_on (ends_call (t c.read_link.new.self) c.symlink.ensures.step) (ends_call (t c.args.host.now) c.read_link.ensures.step) (t c.read_link.new.self) (λ u v w tree s step. none_on (none_same s.same) (step_none tt step))
