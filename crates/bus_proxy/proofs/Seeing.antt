-- The names that may be seen, one name more.
use Rattle.std.proofs.Common.{◌≡◌, ℕ, Bool, true, false, cond, List, [], ◌∷◌, ◌++◌, Option, Some, None, refl, sym, ap, ◌∙◌}
use Rattle.std.specs.List.{filter}
use Rattle.std.proofs.lemmas.List.{append-nil}

push_cond : (b : Bool) (y : List ℕ) (before after more : List (List ℕ)) → after ≡ before ++ more → cond b (y ∷ after) after ≡ cond b (y ∷ before) before ++ more
push_cond true y before after more e = ap (λ (l : List (List ℕ)). y ∷ l) e
push_cond false y before after more e = e

filter_push : (test : List ℕ → Bool) (names : List (List ℕ)) (name : List ℕ) → filter test (names ++ name ∷ []) ≡ filter test names ++ cond (test name) (name ∷ []) []
filter_push test [] name = refl
filter_push test (y ∷ names) name = push_cond (test y) y _ _ _ (filter_push test names name)

pub one_seen : (test : List ℕ → Bool) (seen names : List (List ℕ)) (name : List ℕ) → seen ≡ filter test names → test name ≡ true → seen ++ name ∷ [] ≡ filter test (names ++ name ∷ [])
one_seen test seen names name e is =
    ap (λ (l : List (List ℕ)). l ++ name ∷ []) e
    ∙ sym (filter_push test names name ∙ ap (λ (b : Bool). filter test names ++ cond b (name ∷ []) []) is)

pub one_unseen : (test : List ℕ → Bool) (seen names : List (List ℕ)) (name : List ℕ) → seen ≡ filter test names → test name ≡ false → seen ≡ filter test (names ++ name ∷ [])
one_unseen test seen names name e is =
    e
    ∙ sym (filter_push test names name ∙ ap (λ (b : Bool). filter test names ++ cond b (name ∷ []) []) is ∙ append-nil (filter test names))
