-- The text of a link, from its parts.
use Rattle.std.proofs.Common.{◌≡◌, ℕ, ◌≤◌, ◌==◌, ◌&&◌, List, [], ◌∷◌, length, Bool, true, false, not, refl, ◌∙◌, arith}
use Rattle.std.specs.List.{list_all}
use Rattle.std.specs.Str.{is_utf8}
use Rattle.std.proofs.lemmas.Bool.{le-leb, false≢true}
use Rattle.fp_host.specs.Paths.{is_link_text}

pub link_text_is : (text : List ℕ) (b : Bool) → 1 ≤ length text → length text ≤ 4095 → is_utf8 text ≡ true
    → b ≡ list_all (λ b. not (b == 0)) text → b ≡ is_link_text text
link_text_is text b low high utf8 is =
    rw (le-leb 1 (length text) low, le-leb (length text) 4095 high, utf8) (is ∙ and_true (list_all (λ b. not (b == 0)) text))
  where
    and_true : (a : Bool) → a ≡ (a && true)
    and_true true = refl
    and_true false = refl

pub not_short : (text : List ℕ) → false ≡ (length text == 0) → 1 ≤ length text
not_short [] f = absurd (false≢true f)
not_short (b ∷ rest) f = omega arith
