-- The last entry of a name.
use Rattle.std.proofs.Common.{◌≡◌, ℕ, ◌≤◌, List, [], ◌∷◌, Option, Some, None, refl, ap, length, arith}
use Rattle.std.specs.Option.{option_or}
use Rattle.std.specs.Prelude.{option_and_then}
use Rattle.gv_value.specs.Tree.{Tree, array, byte_trees}
use Rattle.ost_model.specs.Fields.{text_in, each_of}
use Rattle.ost_model.specs.Binding.{texts_in, last_named, binding_name, binding_in}

-- what is found after, or what was found before
abbrev pub settled : Option Tree → Option (List (List ℕ)) → Option (List (List ℕ))
settled (Some v) before = texts_in v
settled None before = before

-- one entry more is found
pub settled_named : (remainder : Option Tree) (v : Tree) (before : Option (List (List ℕ))) → settled remainder (texts_in v) ≡ settled (option_or remainder (Some v)) before
settled_named None v before = refl
settled_named (Some w) v before = refl

-- and none
pub settled_other : (remainder : Option Tree) (before : Option (List (List ℕ))) → settled remainder before ≡ settled (option_or remainder None) before
settled_other None before = refl
settled_other (Some w) before = refl

pub settled_end : (found : Option Tree) → settled found None ≡ option_and_then texts_in found
settled_end None = refl
settled_end (Some v) = refl

pub no_texts_in : (bytes : List ℕ) → 1 ≤ length bytes → each_of text_in (byte_trees bytes) ≡ None
no_texts_in [] h = absurd (omega (arith, h))
no_texts_in (b ∷ bytes) h = refl

last_in_bytes : (name bytes : List ℕ) → last_named name (byte_trees bytes) ≡ None
last_in_bytes name [] = refl
last_in_bytes name (b ∷ bytes) = ap (λ found. option_or found None) (last_in_bytes name bytes)

-- bytes bind nothing
pub no_binding : (bytes : List ℕ) → binding_in (array (byte_trees bytes)) ≡ None
no_binding bytes = ap (option_and_then texts_in) (last_in_bytes binding_name bytes)
