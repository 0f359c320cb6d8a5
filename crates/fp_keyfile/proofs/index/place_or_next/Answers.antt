use Rattle.std.proofs.Common.{arith}
use Rattle.std.proofs.lemmas.Map.Text.{text_keys}
use Rattle.fp_keyfile.proofs.index.place_or_next.Goals as goal

pub returns-clause-after : goal.returns-clause-after
returns-clause-after c = λ other. grind (arith, text_keys)
