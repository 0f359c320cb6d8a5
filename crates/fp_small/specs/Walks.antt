-- Paths below a directory, level by level, and their texts.
use Rattle.std.specs.Prelude.{◌≡◌, ◌≢◌, ℕ, zero, suc, List, [], ◌∷◌, Contains}
use Rattle.fp_host.specs.Paths.{Elements, absent, path_text, elements_of}
use Rattle.fp_host.specs.View.{View}

-- The path exists directly in one of the directories
abbrev pub IsBelow : List Elements → View → Elements → Type 0
IsBelow folders v [] = ⊥
IsBelow folders v (x ∷ up) = Contains folders up × (v.names (x ∷ up) ≢ absent)

-- The path `q` is this number of levels below `folder`, and it and each path between them exist
abbrev pub IsLevel : ℕ → Elements → View → Elements → Type 0
IsLevel zero folder v q = q ≡ folder
IsLevel (suc n) folder v [] = ⊥
IsLevel (suc n) folder v (x ∷ up) = IsLevel n folder v up × (v.names (x ∷ up) ≢ absent)

-- The text is that of the path, and it parses to the path
pub record IsTextOf (text : List ℕ) (q : Elements) : Type 0 where
  pub is : text ≡ path_text q
  pub back : elements_of text ≡ q
