-- The next of the elements that are left.
use Rattle.std.proofs.Common.{◌≡◌, ℕ, List, ◌∷◌, Option, Some, option_map, Result, Ok, subst}
use denote.Ref.{Bor}
use Rattle.gv_decode.specs.declared.stepping.Elements.{Elements}
use Rattle.gv_decode.specs.Stepped.{elements_left, Steps, GoesOn, AreFewer}

abbrev Step : Type 0
Step = Option (Bor (List ℕ) × Elements)

pub step-is : (o : Step) (child : Bor (List ℕ)) (others : Elements) (left : Option (List (List ℕ))) → o ≡ Some (child, others) → Steps (Ok o) left → left ≡ option_map (λ cs. child.now ∷ cs) (elements_left others)
step-is o child others left is h = subst (λ (s : Step). Steps (Ok s) left) is h

pub goes-on : (o : Step) (child : Bor (List ℕ)) (others elements : Elements) → o ≡ Some (child, others) → GoesOn (Ok o) elements → AreFewer child others elements
goes-on o child others elements is h = subst (λ (s : Step). GoesOn (Ok s) elements) is h
