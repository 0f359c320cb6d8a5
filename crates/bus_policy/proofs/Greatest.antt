-- Levels as numbers: which is the greatest.
use Rattle.std.proofs.Common.{◌≡◌, ◌+◌, ◌<◌, ◌≤◌, List, ℕ, length, get_or, drop, add-one, refl, sym, ap, ◌∙◌}
use Rattle.std.proofs.Math.Seq.{drop-cons}
use Rattle.std.proofs.lemmas.List.{drop_all}
use Rattle.bus_policy.specs.declared.policy.PolicyRule.{PolicyRule}
use Rattle.bus_policy.specs.declared.level.Level.{Level}
use Rattle.bus_policy.specs.declared.level.Level.TheVariants as level
use Rattle.bus_policy.specs.Levels.{greater, level_by, rules_level}

pub greater_assoc : (a b c : Level) → greater (greater a b) c ≡ greater a (greater b c)
greater_assoc level.None level.None level.None = refl
greater_assoc level.None level.None level.See = refl
greater_assoc level.None level.None level.Talk = refl
greater_assoc level.None level.None level.Own = refl
greater_assoc level.None level.See level.None = refl
greater_assoc level.None level.See level.See = refl
greater_assoc level.None level.See level.Talk = refl
greater_assoc level.None level.See level.Own = refl
greater_assoc level.None level.Talk level.None = refl
greater_assoc level.None level.Talk level.See = refl
greater_assoc level.None level.Talk level.Talk = refl
greater_assoc level.None level.Talk level.Own = refl
greater_assoc level.None level.Own level.None = refl
greater_assoc level.None level.Own level.See = refl
greater_assoc level.None level.Own level.Talk = refl
greater_assoc level.None level.Own level.Own = refl
greater_assoc level.See level.None level.None = refl
greater_assoc level.See level.None level.See = refl
greater_assoc level.See level.None level.Talk = refl
greater_assoc level.See level.None level.Own = refl
greater_assoc level.See level.See level.None = refl
greater_assoc level.See level.See level.See = refl
greater_assoc level.See level.See level.Talk = refl
greater_assoc level.See level.See level.Own = refl
greater_assoc level.See level.Talk level.None = refl
greater_assoc level.See level.Talk level.See = refl
greater_assoc level.See level.Talk level.Talk = refl
greater_assoc level.See level.Talk level.Own = refl
greater_assoc level.See level.Own level.None = refl
greater_assoc level.See level.Own level.See = refl
greater_assoc level.See level.Own level.Talk = refl
greater_assoc level.See level.Own level.Own = refl
greater_assoc level.Talk level.None level.None = refl
greater_assoc level.Talk level.None level.See = refl
greater_assoc level.Talk level.None level.Talk = refl
greater_assoc level.Talk level.None level.Own = refl
greater_assoc level.Talk level.See level.None = refl
greater_assoc level.Talk level.See level.See = refl
greater_assoc level.Talk level.See level.Talk = refl
greater_assoc level.Talk level.See level.Own = refl
greater_assoc level.Talk level.Talk level.None = refl
greater_assoc level.Talk level.Talk level.See = refl
greater_assoc level.Talk level.Talk level.Talk = refl
greater_assoc level.Talk level.Talk level.Own = refl
greater_assoc level.Talk level.Own level.None = refl
greater_assoc level.Talk level.Own level.See = refl
greater_assoc level.Talk level.Own level.Talk = refl
greater_assoc level.Talk level.Own level.Own = refl
greater_assoc level.Own level.None level.None = refl
greater_assoc level.Own level.None level.See = refl
greater_assoc level.Own level.None level.Talk = refl
greater_assoc level.Own level.None level.Own = refl
greater_assoc level.Own level.See level.None = refl
greater_assoc level.Own level.See level.See = refl
greater_assoc level.Own level.See level.Talk = refl
greater_assoc level.Own level.See level.Own = refl
greater_assoc level.Own level.Talk level.None = refl
greater_assoc level.Own level.Talk level.See = refl
greater_assoc level.Own level.Talk level.Talk = refl
greater_assoc level.Own level.Talk level.Own = refl
greater_assoc level.Own level.Own level.None = refl
greater_assoc level.Own level.Own level.See = refl
greater_assoc level.Own level.Own level.Talk = refl
greater_assoc level.Own level.Own level.Own = refl

pub greater_none : (a : Level) → greater level.None a ≡ a
greater_none level.None = refl
greater_none level.See = refl
greater_none level.Talk = refl
greater_none level.Own = refl

pub none_greater : (a : Level) → greater a level.None ≡ a
none_greater level.None = refl
none_greater level.See = refl
none_greater level.Talk = refl
none_greater level.Own = refl

-- a rule more
pub rules_step : (rules : List PolicyRule) (name : List ℕ) (i : ℕ) (l x : Level) (rule : PolicyRule) → i < length rules → rule ≡ get_or rules i rule → x ≡ level_by rule name
    → greater (greater l x) (rules_level (drop (i + 1) rules) name) ≡ greater l (rules_level (drop i rules) name)
rules_step rules name i l x rule lt is level_is =
    greater_assoc l x (rules_level (drop (i + 1) rules) name)
    ∙ ap (λ (y : Level). greater l (greater y (rules_level (drop (i + 1) rules) name))) (level_is ∙ ap (λ (r : PolicyRule). level_by r name) is)
    ∙ ap (λ (n : ℕ). greater l (greater (level_by (get_or rules i rule) name) (rules_level (drop n rules) name))) (add-one i)
    ∙ ap (λ (rs : List PolicyRule). greater l (rules_level rs name)) (sym (drop-cons rules i rule lt))

pub rules_end : (rules : List PolicyRule) (name : List ℕ) (i : ℕ) (l : Level) → length rules ≤ i → greater l (rules_level (drop i rules) name) ≡ l
rules_end rules name i l le = ap (λ (rs : List PolicyRule). greater l (rules_level rs name)) (drop_all i rules le) ∙ none_greater l

pub rules_next : (rules : List PolicyRule) (name : List ℕ) (i : ℕ) (l x y : Level) (rule : PolicyRule) → i < length rules → rule ≡ get_or rules i rule → x ≡ level_by rule name → y ≡ greater l x
    → greater l (rules_level (drop i rules) name) ≡ rules_level rules name → greater y (rules_level (drop (i + 1) rules) name) ≡ rules_level rules name
rules_next rules name i l x y rule lt is level_is next so_far =
    ap (λ (z : Level). greater z (rules_level (drop (i + 1) rules) name)) next ∙ rules_step rules name i l x rule lt is level_is ∙ so_far

pub greater_comm : (a b : Level) → greater a b ≡ greater b a
greater_comm level.None level.None = refl
greater_comm level.None level.See = refl
greater_comm level.None level.Talk = refl
greater_comm level.None level.Own = refl
greater_comm level.See level.None = refl
greater_comm level.See level.See = refl
greater_comm level.See level.Talk = refl
greater_comm level.See level.Own = refl
greater_comm level.Talk level.None = refl
greater_comm level.Talk level.See = refl
greater_comm level.Talk level.Talk = refl
greater_comm level.Talk level.Own = refl
greater_comm level.Own level.None = refl
greater_comm level.Own level.See = refl
greater_comm level.Own level.Talk = refl
greater_comm level.Own level.Own = refl
