use Rattle.std.proofs.Common.{◌≡◌, ◌∙◌, ap, sym, subst, Some, None, List, ℕ}
use Rattle.std.specs.List.{list_all}
use Rattle.std.specs.Prelude.{IfOk}
use Rattle.fp_keyfile.specs.KeyFile.{keys_of}
use Rattle.fp_small.specs.Order.{sorted_by}
use Rattle.fp_small.specs.Config.{is_pin_pair}
use Rattle.fp_small.proofs.ConfigReads.{pins_found, pairs_of_pins}
use Rattle.fp_small.proofs.config_reading.pins_of.Goals as goal

pub pin_keys-requires : goal.pin_keys-requires
pin_keys-requires c = ap (list_all is_pin_pair) c.as_slice.ensures ∙ pairs_of_pins c.args.groups.now c.in-Some.group.now c.requires (sym c.in-Some.ensures)

pub returns-in-Some-clause-ok : goal.returns-in-Some-clause-ok
returns-in-Some-clause-ok c = subst (λ (xs : List (List ℕ)). IfOk c.pin_keys.result (λ pins. pins.items ≡ sorted_by (λ pin. pin) xs)) (ap keys_of c.as_slice.ensures ∙ sym (pins_found c.args.groups.now (Some c.in-Some.group.now) c.in-Some.ensures)) c.pin_keys.ensures.ok

pub returns-in-None-clause-ok : goal.returns-in-None-clause-ok
returns-in-None-clause-ok c = c.new.ensures.items ∙ ap (sorted_by (λ (pin : List ℕ). pin)) (sym (pins_found c.args.groups.now None c.in-None.ensures))
