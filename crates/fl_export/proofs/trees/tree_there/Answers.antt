use Rattle.std.proofs.Common.{◌≡◌, List, ℕ, Option, sym, subst}
use Rattle.std.specs.Prelude.{IfOk, option_and_then, option_map}
use Rattle.ost_model.specs.Order.{tree_at}
use Rattle.ost_object.specs.Views.{tree_view}
use Rattle.fl_export.proofs.trees.tree_there.Goals as goal

pub returns-in-Some-clause-tells : goal.returns-in-Some-clause-tells
returns-in-Some-clause-tells g c have s =
    subst (λ (d : Option (List ℕ)). IfOk c.read_tree.result (λ tree. option_map tree_view tree ≡ option_and_then (tree_at have) d)) (sym c.in-Some.is) (c.read_tree.ensures.tells have s)
