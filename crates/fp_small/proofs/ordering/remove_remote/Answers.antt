use Rattle.std.proofs.Common.{not, ◌∙◌, sym, rules}
use Rattle.std.specs.Str.{bytes_eq}
use Rattle.std.proofs.lemmas.Fn.{filter_same}
use Rattle.fp_small.specs.Config.{name_of}
use Rattle.fp_small.specs.declared.state.RemoteRow.{RemoteRow}
use Rattle.fp_small.proofs.Ordered.{removed-filter}
use Rattle.fp_small.proofs.ordering.remove_remote.Goals as goal

pub returns : goal.returns
returns c = filter_same _ (λ (y : RemoteRow). not (bytes_eq y.name c.args.name.now)) _ (λ x b f' k. search rules) c.args.remotes.now.items c.retain.new.self.items c.retain.ensures.filtered ∙ sym (removed-filter name_of c.args.remotes.now.items c.args.name.now)
