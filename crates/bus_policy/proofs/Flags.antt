-- Flags, one for each rule, of which some are raised.
use Rattle.std.proofs.Common.{◌≡◌, ◌+◌, ◌<◌, ℕ, zero, suc, Bool, true, false, List, [], ◌∷◌, ◌++◌, length, get_or, take, add-one, refl, sym, ap, ◌∙◌, arith, cond}
use Rattle.std.specs.Prelude.{◌||◌, replicate, map}
use Rattle.std.proofs.Math.ListN.{set}
use Rattle.bus_policy.specs.declared.policy.PolicyRule.{PolicyRule}
use Rattle.bus_policy.specs.Watching.{or_each}

pub length-or_each : (test : PolicyRule → Bool) (rules : List PolicyRule) (flags : List Bool) → length (or_each test rules flags) ≡ length flags
length-or_each test [] flags = refl
length-or_each test (r ∷ rules) [] = refl
length-or_each test (r ∷ rules) (f ∷ flags) = ap suc (length-or_each test rules flags)

-- a flag more
raised : Bool → List Bool → ℕ → List Bool
raised b flags i = cond b (set flags i true) flags

raised_cons : (b f : Bool) (flags : List Bool) (i : ℕ) → cond b (set (f ∷ flags) (suc i) true) (f ∷ flags) ≡ f ∷ cond b (set flags i true) flags
raised_cons true f flags i = refl
raised_cons false f flags i = refl

first_raised : (b f : Bool) (flags : List Bool) → (b || f) ∷ flags ≡ cond b (set (f ∷ flags) 0 true) (f ∷ flags)
first_raised true f flags = refl
first_raised false f flags = refl

none_raised : (b : Bool) (i : ℕ) → [] ≡ cond b (set [] i true) []
none_raised true i = refl
none_raised false i = refl

pub or_step : (test : PolicyRule → Bool) (rules : List PolicyRule) (flags : List Bool) (i : ℕ) (d : PolicyRule) → i < length rules
    → or_each test (take (suc i) rules) flags ≡ cond (test (get_or rules i d)) (set (or_each test (take i rules) flags) i true) (or_each test (take i rules) flags)
or_step test [] flags i d lt = absurd (omega arith)
or_step test (r ∷ rules) [] zero d lt = none_raised (test r) 0
or_step test (r ∷ rules) [] (suc i) d lt = none_raised (test (get_or rules i d)) (suc i)
or_step test (r ∷ rules) (f ∷ flags) zero d lt = first_raised (test r) f flags
or_step test (r ∷ rules) (f ∷ flags) (suc i) d lt =
    ap (λ (l : List Bool). (test r || f) ∷ l) (or_step test rules flags i d (omega arith))
    ∙ sym (raised_cons (test (get_or rules i d)) (test r || f) (or_each test (take i rules) flags) i)

pub map_none : (rules : List PolicyRule) → replicate (length rules) false ≡ map (λ rule. false) rules
map_none [] = refl
map_none (r ∷ rules) = ap (λ (l : List Bool). false ∷ l) (map_none rules)

pub or_next : (test : PolicyRule → Bool) (rules : List PolicyRule) (flags now next : List Bool) (i : ℕ) (b : Bool) (rule : PolicyRule) → i < length rules → rule ≡ get_or rules i rule → b ≡ test rule
    → now ≡ or_each test (take i rules) flags → next ≡ cond b (set now i true) now → next ≡ or_each test (take (i + 1) rules) flags
or_next test rules flags now next i b rule lt is b_is now_is next_is =
    next_is
    ∙ ap (λ (l : List Bool). cond b (set l i true) l) now_is
    ∙ ap (λ (c : Bool). cond c (set (or_each test (take i rules) flags) i true) (or_each test (take i rules) flags)) (b_is ∙ ap test is)
    ∙ sym (or_step test rules flags i rule lt)
    ∙ ap (λ (n : ℕ). or_each test (take n rules) flags) (sym (add-one i))

replicate-push : (n : ℕ) → replicate (suc n) false ≡ replicate n false ++ false ∷ []
replicate-push zero = refl
replicate-push (suc n) = ap (λ (l : List Bool). false ∷ l) (replicate-push n)

pub replicate-next : (n : ℕ) → replicate n false ++ false ∷ [] ≡ replicate (n + 1) false
replicate-next n = sym (ap (λ (m : ℕ). replicate m false) (add-one n) ∙ replicate-push n)
