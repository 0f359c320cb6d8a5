-- A store that was pruned.
use Rattle.std.specs.Prelude.{ℕ, List}
use Rattle.fp_host.specs.View.{View}
use Rattle.fp_small.specs.Places.{repo}
use Rattle.ost_prune.specs.Prune.{WasPruned}
use Rattle.ost_prune.specs.Texts.{AreWhole}

-- If no commit to keep has a fault, the objects that none of them uses were pruned
pub record IsPruned (keep : List (List ℕ)) (u w : View) : Type 0 where
  pub was : AreWhole repo keep u → (number : ℕ) × WasPruned repo keep number u w
