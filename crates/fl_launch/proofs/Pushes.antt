-- Texts that are pushed one after another.
use Rattle.std.proofs.Common.{◌≡◌, ◌++◌, ℕ, List, append_assoc, ap, ◌∙◌}

onto : (o p t a rest : List ℕ) → p ≡ o ++ a → t ≡ p ++ rest → t ≡ o ++ (a ++ rest)
onto o p t a rest h k = k ∙ ap (λ (x : List ℕ). x ++ rest) h ∙ append_assoc o a rest

pub four : (o p q s t a b d e : List ℕ) → p ≡ o ++ a → q ≡ p ++ b → s ≡ q ++ d → t ≡ s ++ e → t ≡ o ++ (a ++ (b ++ (d ++ e)))
four o p q s t a b d e h k l m = onto o p t a (b ++ (d ++ e)) h (onto p q t b (d ++ e) k (onto q s t d e l m))
