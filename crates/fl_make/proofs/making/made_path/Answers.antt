use Rattle.std.proofs.Common.{◌≡◌, List, ℕ, true, sym, subst}
use Rattle.fp_host.specs.Paths.{is_element}
use Rattle.ost_refs.proofs.Elements.{element_remote}
use Rattle.fl_make.proofs.making.made_path.Goals as goal

pub child-requires-2 : goal.child-requires-2
child-requires-2 c = subst (λ (text : List ℕ). is_element text ≡ true) (sym c.as_str.ensures.text) (element_remote c.args.remote.now c.as_str.ensures.good)
