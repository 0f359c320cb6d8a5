use Rattle.std.proofs.Common.{◌∙◌, ap, sym, Some, None, List, ℕ, length}
use Rattle.std.proofs.lemmas.List.{length-map}
use Rattle.fp_keyfile.specs.KeyFile.{key_of}
use Rattle.fp_small.proofs.ConfigReads.{pins_found}
use Rattle.fp_small.proofs.config_reading.count_pins.Goals as goal

pub returns-in-Some : goal.returns-in-Some
returns-in-Some c = c.len.ensures ∙ sym (length-map c.in-Some.group.now.pairs key_of) ∙ ap (length {A = List ℕ}) (sym (pins_found c.args.groups.now (Some c.in-Some.group.now) c.in-Some.ensures))

pub returns-in-None : goal.returns-in-None
returns-in-None c = ap (length {A = List ℕ}) (sym (pins_found c.args.groups.now None c.in-None.ensures))
