-- Lists in which nothing comes twice.
use Rattle.std.proofs.Common.{inl, inr, List, [], ◌∷◌, ◌++◌, sym, subst}
use Rattle.ost_model.specs.Order.{In, IsOnce}
use Rattle.ost_model.proofs.Members.{in_last, in_cases}

pub in_push : {A : Type 0} (os : List A) (o p : A) → In os p → In (os ++ o ∷ []) p
in_push [] o p has = absurd has
in_push (x ∷ os) o p (inl is) = inl is
in_push (x ∷ os) o p (inr has) = inr (in_push os o p has)

pub once_push : {A : Type 0} (os : List A) (o : A) → IsOnce os → (In os o → ⊥) → IsOnce (os ++ o ∷ [])
once_push [] o once new = (λ none. none, tt)
once_push (x ∷ os) o once new = (
  λ has. elim (in_cases os o x has) [ inl h ↦ once.0 h | inr is ↦ new (inl (sym is)) ],
  once_push os o once.1 (λ h. new (inr h)),
)

pub once_front : {A : Type 0} (os : List A) (o : A) → IsOnce (os ++ o ∷ []) → IsOnce os × (In os o → ⊥)
once_front [] o once = (tt, λ none. none)
once_front (x ∷ os) o once =
    let rest = once_front os o once.1 in (
      (λ has. once.0 (in_push os o x has), rest.0),
      λ has. elim has [ inl is ↦ once.0 (subst (In (os ++ o ∷ [])) (sym is) (in_last os o)) | inr h ↦ rest.1 h ],
    )
