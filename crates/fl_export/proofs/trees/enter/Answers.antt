use Rattle.std.proofs.Common.{◌≡◌, ℕ, List, Option, subst}
use Rattle.std.specs.Prelude.{IfOk, option_and_then, option_map}
use Rattle.ost_model.specs.Order.{tree_at}
use Rattle.ost_object.specs.Views.{tree_view}
use Rattle.fl_export.proofs.trees.enter.Goals as goal

pub returns-clause-tells : goal.returns-clause-tells
returns-clause-tells g c have s =
    subst (λ (d : Option (List ℕ)). IfOk c.tree_there.result (λ found. option_map tree_view found ≡ option_and_then (tree_at have) d)) c.digest_below-digest.ensures (c.tree_there.ensures.tells have s)
