use Rattle.std.proofs.Common.{Option, false, sym, ap, ◌∙◌}
use Rattle.std.specs.Option.{option_copied, option_map_or}
use Rattle.fl_meta.specs.declared.permission.Permission.{Permission}
use Rattle.fl_meta.specs.declared.permission.Value.{Value}
use Rattle.fl_context.specs.Grants.{is_granted, value_in}
use Rattle.fl_launch.specs.Granted.{has_session_bus}
use Rattle.fl_launch.proofs.granted.has_session_bus.Goals as goal

pub returns-in-Some : goal.returns-in-Some
unfolding has_session_bus
returns-in-Some c =
    c.is_granted.ensures ∙ ap (λ (o : Option Value). option_map_or is_granted o false)
    (sym (ap option_copied c.in-Some.is) ∙ c.value.ensures ∙ ap (λ (p : Permission). value_in c.args.grants.now p) c.in_ok-socket.ensures)

pub returns : goal.returns
unfolding has_session_bus
returns c =
    ap (λ (o : Option Value). option_map_or is_granted o false)
    (sym (ap option_copied c.in-None.is) ∙ c.value.ensures ∙ ap (λ (p : Permission). value_in c.args.grants.now p) c.in_ok-socket.ensures)
