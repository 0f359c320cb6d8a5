-- Lists of values, read one by one.
use Rattle.std.proofs.Common.{◌≡◌, ℕ, List, [], ◌∷◌, ◌++◌, Option, Some, None, refl, sym, ap, ◌∙◌, append_assoc}
use Rattle.std.specs.Prelude.{option_map, option_and_then}
use Rattle.gv_value.specs.declared.value.GvValue.{GvValue}
use Rattle.gv_value.specs.Tree.{Tree, byte_trees}
use Rattle.gv_value.specs.Views.{plain, plains}
use Rattle.ost_model.specs.Fields.{byte_in, each_of}

-- after what was read before
abbrev pub remainder : {A : Type 0} → List A → Option (List A) → Option (List A)
remainder before rest = option_map (λ others. before ++ others) rest

pub remainder_none : {A : Type 0} (rest : Option (List A)) → rest ≡ remainder [] rest
remainder_none None = refl
remainder_none (Some others) = refl

pub remainder_all : {A : Type 0} (before : List A) → remainder before (Some []) ≡ Some before
remainder_all before = ap Some (append_nil_of before)
  where
    append_nil_of : {A : Type 0} (xs : List A) → xs ++ [] ≡ xs
    append_nil_of [] = refl
    append_nil_of (x ∷ xs) = ap (λ l. x ∷ l) (append_nil_of xs)

pub remainder_one : {A : Type 0} (before : List A) (a : A) (rest : Option (List A)) → remainder before (option_map (λ others. a ∷ others) rest) ≡ remainder (before ++ a ∷ []) rest
remainder_one before a None = refl
remainder_one before a (Some others) = ap Some (sym (append_assoc before (a ∷ []) others))

-- one more is read
pub read_more : {A : Type 0} (one : Tree → Option A) (before : List A) (v : GvValue) (vs : List GvValue) (a : A) → one (plain v) ≡ Some a
    → remainder before (each_of one (plains (v ∷ vs))) ≡ remainder (before ++ a ∷ []) (each_of one (plains vs))
read_more one before v vs a is = ap (λ r. remainder before (option_and_then (λ b. option_map (λ others. b ∷ others) (each_of one (plains vs))) r)) is ∙ remainder_one before a (each_of one (plains vs))

-- one isn't read
pub read_no_more : {A : Type 0} (one : Tree → Option A) (before : List A) (v : GvValue) (vs : List GvValue) → one (plain v) ≡ None
    → remainder before (each_of one (plains (v ∷ vs))) ≡ None
read_no_more one before v vs is = ap (λ r. remainder before (option_and_then (λ b. option_map (λ others. b ∷ others) (each_of one (plains vs))) r)) is

-- bytes as values are those bytes
pub bytes_back : (bytes : List ℕ) → each_of byte_in (byte_trees bytes) ≡ Some bytes
bytes_back [] = refl
bytes_back (b ∷ bytes) = ap (option_map (λ others. b ∷ others)) (bytes_back bytes)
