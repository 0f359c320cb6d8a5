-- An index: a map from names to their places in a list.
use Rattle.std.specs.Prelude.{◌≡◌, ℕ, List, Option}
use Rattle.std.specs.BTreeMap as tree
use Rattle.std.specs.BTreeMap.{BTreeMap}
use Rattle.std.specs.Cmp.Lexicographic.{slice_cmp}
use Rattle.std.specs.List.{position}
use Rattle.std.specs.Ordering.{nat_cmp}
use Rattle.std.specs.Str.{bytes_eq}
use denote.Ref.{Bor}

-- An index of names
abbrev pub Places : Type 0
Places = BTreeMap (Bor (List ℕ)) ℕ

-- The place of a name; nothing if the index doesn't have the name
abbrev pub place_in : Places → List ℕ → Option ℕ
place_in places name = tree.get_by (λ k. slice_cmp nat_cmp name k.now) places

-- The index has exactly the names of the list, each with the place of its first occurrence
pub record Indexes (places : Places) (names : List (List ℕ)) : Type 0 where
  pub at : (name : List ℕ) → place_in places name ≡ position (λ n. bytes_eq n name) names
