-- The words of a line, as they are shown.
use Rattle.std.proofs.Common.{◌≡◌, ℕ, List, [], ◌∷◌, ◌++◌, append_assoc, map, ap, sym, ◌∙◌}
use Rattle.std.specs.Str.Lossy.{utf8_lossy}

-- one more word
pub one_shown : (before now : List (List ℕ)) (word : List ℕ) (more left all : List (List ℕ)) → now ≡ before ++ utf8_lossy word ∷ [] → left ≡ word ∷ more → before ++ map utf8_lossy left ≡ all → now ++ map utf8_lossy more ≡ all
one_shown before now word more left all is cut reads =
    ap (λ (l : List (List ℕ)). l ++ map utf8_lossy more) is
    ∙ append_assoc before (utf8_lossy word ∷ []) (map utf8_lossy more)
    ∙ ap (λ (l : List (List ℕ)). before ++ map utf8_lossy l) (sym cut) ∙ reads
