-- The children of a container, one by one.
use Rattle.std.proofs.Common.{◌≡◌, suc, Bool, false, List, [], ◌∷◌, length, ap, refl}
use Rattle.std.proofs.lemmas.Bool.{and_right}
use Rattle.gv_value.specs.Shape.{Shape}
use Rattle.gv_value.specs.Tree.{Tree}
use Rattle.gv_value.specs.Spelling.{each_fits}
use Rattle.gv_value.specs.Plans.{plan_shape, plan_shapes}
use Rattle.gv_value.specs.declared.plan.Plan.{Plan}
use Rattle.gv_value.specs.declared.value.GvValue.{GvValue}
use Rattle.gv_value.specs.Views.{plain, plains}

pub counts-differ : (one : Shape → Tree → Bool) (ps : List Plan) (vs : List GvValue) → (length ps ≡ length vs → ⊥) → each_fits one (plan_shapes ps) (plains vs) ≡ false
counts-differ one [] [] h = absurd (h refl)
counts-differ one [] (v ∷ vs) h = refl
counts-differ one (p ∷ ps) [] h = refl
counts-differ one (p ∷ ps) (v ∷ vs) h = and_right (one (plan_shape p) (plain v)) (each_fits one (plan_shapes ps) (plains vs)) (counts-differ one ps vs (λ e. h (ap suc e)))
