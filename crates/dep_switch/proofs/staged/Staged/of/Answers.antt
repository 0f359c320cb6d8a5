use Rattle.std.proofs.Common.{◌≡◌, ◌∙◌, sym, ap, subst, arith}
use Rattle.fp_host.specs.Paths.{is_link_text}
use Rattle.fp_host.proofs.Cause.{same_fault}
use Rattle.fp_host.proofs.Ending.{ends_start, fault_caused}
use Rattle.fp_host.proofs.Goes.{stays}
use Rattle.dep_switch.specs.Staging.{CanStage}
use Rattle.dep_switch.specs.Writing.{CanPrepare}
use Rattle.dep_switch.proofs.Readying.{goes_text, end_text, readies_start, readied, can_prepare_as, staged_end}
use Rattle.dep_switch.proofs.Texts.{link_digits}
use Rattle.dep_switch.proofs.staged.Staged.of.Goals as goal

pub returns-in_err-made-clause-any_moment : goal.returns-in_err-made-clause-any_moment
returns-in_err-made-clause-any_moment g c = stays (g.met.H.Host.is_tree c.args.host.now) (λ u. readies_start) (λ u t. readies_start)

pub prepare-requires-clause-text : goal.prepare-requires-clause-text
prepare-requires-clause-text g c = ap is_link_text (c.as_str-text.ensures ∙ c.in_ok-made.ensures.text) ∙ link_digits c.args.row.commit c.in_ok-made.ensures.digits

pub returns-in_err-prepare-clause-any_moment : goal.returns-in_err-prepare-clause-any_moment
returns-in_err-prepare-clause-any_moment g c =
    readied c.in_ok-made.ensures (g.met.H.Host.is_tree c.args.host.now) (goes_text c.as_str-text.ensures c.prepare.ensures.any_moment)

pub returns-in_err-prepare-clause-fault_has_cause : goal.returns-in_err-prepare-clause-fault_has_cause
returns-in_err-prepare-clause-fault_has_cause g c =
    let t = g.met.H.Host.is_tree c.args.host.now in
    let made = c.in_ok-made.made in
    fault_caused (CanStage c.args.opened c.args.row) (CanPrepare made.deploy) _ _ _ _ _ t (omega arith) (ends_start t) c.prepare.ensures.fault_has_cause (same_fault _ _ _ c.in_err-prepare.was c.from_residual-in_err-prepare.ensures.1)
    (λ u v tree same can. subst (CanPrepare made.deploy) (sym same) (can_prepare_as c.in_ok-made.ensures tree can))

pub returns-clause-any_moment : goal.returns-clause-any_moment
returns-clause-any_moment g c =
    readied c.in_ok-made.ensures (g.met.H.Host.is_tree c.args.host.now) (goes_text c.as_str-text.ensures c.prepare.ensures.any_moment)

pub returns-clause-on_success : goal.returns-clause-on_success
returns-clause-on_success g c =
    let t = g.met.H.Host.is_tree in
    staged_end c.in_ok-made.ensures (t c.args.host.now) (t c.prepare.new.host) (goes_text c.as_str-text.ensures c.prepare.ensures.any_moment) (end_text c.as_str-text.ensures c.as_slice-bytes.ensures c.in_ok-prepare.ensures.on_success)
