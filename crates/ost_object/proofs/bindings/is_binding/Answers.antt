use Rattle.std.proofs.Common.{◌≡◌, List, ℕ, sym, ap, ◌∙◌, bytes_eq, rules}
use Rattle.ost_model.specs.Binding.{binding_name}
use Rattle.ost_object.specs.Views.{text_at}
use Rattle.ost_object.proofs.Kept.{named-key}
use Rattle.ost_object.proofs.bindings.is_binding.Goals as goal

pub returns : goal.returns
returns c =
    let named : c.eq.result ≡ bytes_eq (text_at c.args.key.now) binding_name = search rules in
    named ∙ named-key c.args.key.now
