use Rattle.std.proofs.Common.{◌∙◌, ap, sym}
use Rattle.fp_base.proofs.Texts.{bytes_eq-false}
use Rattle.bus_frame.specs.Names.{is_interface, is_member}
use Rattle.bus_rules.proofs.Spelling.{no_dot, no_interface, no_member}
use Rattle.bus_rules.proofs.reading.members.Goals as goal

pub returns-in_err-interface : goal.returns-in_err-interface
returns-in_err-interface c = rw c.from_residual.ensures (no_dot c.args.text.now (bytes_eq-false _ _ (sym c.eq.ensures ∙ c.if-eq.false)) c.in_err-interface.ensures)

pub returns-then-not-is_interface_name : goal.returns-then-not-is_interface_name
returns-then-not-is_interface_name c =
    no_interface c.args.text.now c.in_ok-interface.interface.now c.in_ok-interface.member.now (bytes_eq-false _ _ (sym c.eq.ensures ∙ c.if-eq.false)) c.in_ok-interface.ensures.0 c.in_ok-interface.ensures.1
    (sym (ap is_interface c.as_bytes.ensures.value) ∙ sym c.is_interface_name.ensures ∙ c.if-not-is_interface_name.true)

pub returns-then-not-is_member_name : goal.returns-then-not-is_member_name
returns-then-not-is_member_name c =
    no_member c.args.text.now c.in_ok-interface.interface.now c.in_ok-interface.member.now (bytes_eq-false _ _ (sym c.eq.ensures ∙ c.if-eq.false)) c.in_ok-interface.ensures.0 c.in_ok-interface.ensures.1
    (bytes_eq-false _ _ (sym c.eq-2.ensures ∙ c.if-eq-2.false))
    (sym (ap is_member c.as_bytes-2.ensures.value) ∙ sym c.is_member_name.ensures ∙ c.if-not-is_member_name.true)
