use Rattle.std.proofs.Common.{not, ◌∙◌, sym, rules}
use Rattle.std.specs.Str.{bytes_eq}
use Rattle.std.proofs.lemmas.Fn.{filter_same}
use Rattle.fp_small.proofs.Ordered.{removed-filter}
use Rattle.fp_small.proofs.ordering.remove_pin.Goals as goal

pub returns : goal.returns
returns c = filter_same _ (λ y. not (bytes_eq y c.args.pin.now)) _ (λ x b f' k. search rules) c.args.pins.now.items c.retain.new.self.items c.retain.ensures.filtered ∙ sym (removed-filter (λ p. p) c.args.pins.now.items c.args.pin.now)
