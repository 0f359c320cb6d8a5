-- The parts after a kind, by where the text is cut.
use Rattle.std.proofs.Common.{◌≡◌, ℕ, List, [], ◌∷◌, Option, Some, None, refl, ap, ◌∙◌, option_and_then}
use Rattle.fp_name.specs.declared.kind.RefKind.{RefKind}
use Rattle.fp_name.specs.Kinds.{kind_of}
use Rattle.fp_name.specs.Refs.{ref_with, remainder_kind, of_parts}
use Rattle.fp_name.proofs.Cuts.{HasTwo}

module _ (kind : RefKind) (parts : List (List ℕ)) where
  pub one_part : (only : List ℕ) → parts ≡ only ∷ [] → remainder_kind parts kind ≡ None
  one_part only e = rw e refl

  pub two_parts : (id only : List ℕ) (remainder : List (List ℕ)) → parts ≡ id ∷ remainder → remainder ≡ only ∷ [] → remainder_kind parts kind ≡ None
  two_parts id only remainder e f = rw (e, f) refl

  pub three_parts : (id arch branch : List ℕ) (remainder last : List (List ℕ)) → parts ≡ id ∷ remainder → remainder ≡ arch ∷ last → last ≡ branch ∷ [] → remainder_kind parts kind ≡ Some (ref_with kind id arch branch)
  three_parts id arch branch remainder last e f g = rw (e, f, g) refl

  pub more_parts : (id arch : List ℕ) (remainder last : List (List ℕ)) → parts ≡ id ∷ remainder → remainder ≡ arch ∷ last → HasTwo last → remainder_kind parts kind ≡ None
  more_parts id arch remainder last e f two = rw (e, f, two.3) refl

-- a kind's word in front
pub of_word : (word : List ℕ) (parts remainder : List (List ℕ)) → parts ≡ word ∷ remainder → of_parts parts ≡ option_and_then (remainder_kind remainder) (kind_of word)
of_word word parts remainder e = rw e refl

-- no part after the kind
remainder_none : (o : Option RefKind) → option_and_then (remainder_kind []) o ≡ None
remainder_none None = refl
remainder_none (Some kind) = refl

pub only_word : (word : List ℕ) (parts : List (List ℕ)) → parts ≡ word ∷ [] → of_parts parts ≡ None
only_word word parts e = rw e (remainder_none (kind_of word))

-- no kind in front
pub not_kind : (word : List ℕ) (parts remainder : List (List ℕ)) → parts ≡ word ∷ remainder → kind_of word ≡ None → of_parts parts ≡ None
not_kind word parts remainder e none = of_word word parts remainder e ∙ ap (option_and_then (remainder_kind remainder)) none
