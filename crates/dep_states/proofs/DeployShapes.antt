-- What is no `deploy`.
use Rattle.std.proofs.Common.{◌≡◌, ◌⊎◌, inl, inr, ◌<◌, ◌≤◌, List, [], ◌∷◌, None, refl, length, arith}
use Rattle.gv_value.specs.declared.value.GvValue.{GvValue}
use Rattle.gv_value.specs.Tree.{tuple, just}
use Rattle.gv_value.specs.Views.{plains}
use Rattle.dep_states.specs.Deploy.{deploy_in, previous_in}

-- tuples of another number of members

pub no_deploy : (vs : List GvValue) → (length vs < 4) ⊎ (5 ≤ length vs) → deploy_in (tuple (plains vs)) ≡ None
no_deploy [] h = refl
no_deploy (a ∷ []) h = refl
no_deploy (a ∷ b ∷ []) h = refl
no_deploy (a ∷ b ∷ c ∷ []) h = refl
no_deploy (a ∷ b ∷ c ∷ d ∷ []) h = absurd (elim h [ inl less ↦ omega (arith, less) | inr more ↦ omega (arith, more) ])
no_deploy (a ∷ b ∷ c ∷ d ∷ e ∷ vs) h = refl

pub no_previous : (vs : List GvValue) → (length vs < 2) ⊎ (3 ≤ length vs) → previous_in (just (tuple (plains vs))) ≡ None
no_previous [] h = refl
no_previous (a ∷ []) h = refl
no_previous (a ∷ b ∷ []) h = absurd (elim h [ inl less ↦ omega (arith, less) | inr more ↦ omega (arith, more) ])
no_previous (a ∷ b ∷ c ∷ vs) h = refl
