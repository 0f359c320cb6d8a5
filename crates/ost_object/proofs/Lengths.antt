-- How long the digests of a commit are.
use Rattle.std.proofs.Common.{◌≡◌, ℕ, Bool, true, false, ◌||◌, List, [], ◌∷◌, length, Option, None, refl, ap, ◌∙◌}
use Rattle.std.specs.Prelude.{◌==◌}
use Rattle.fp_base.specs.declared.rule.Rule.{Rule}
use Rattle.fp_base.specs.declared.rule.Rule.TheVariants as rules
use Rattle.ost_model.specs.Fields.{CommitView}
use Rattle.ost_model.specs.Readers.{is_long, first_broken, commit_breaks}

or_true : (a b : Bool) → b ≡ true → a || b ≡ true
or_true true b is = refl
or_true false b is = is

pub or_long : (digest : List ℕ) → is_long digest ≡ true → length digest == 0 || is_long digest ≡ true
or_long digest long = or_true (length digest == 0) (is_long digest) long

abbrev broken_if : Bool → Bool → Bool → Option Rule
broken_if p t m = first_broken ((p, rules.Parent) ∷ ((t, rules.Tree) ∷ ((m, rules.Meta) ∷ [])))

pub unbroken : (y : CommitView) → length y.parent == 0 || is_long y.parent ≡ true → is_long y.tree ≡ true → is_long y.meta ≡ true → commit_breaks y ≡ None
unbroken y ep et em = ap (λ (b : Bool). broken_if b (is_long y.tree) (is_long y.meta)) ep ∙ ap (λ (b : Bool). broken_if true b (is_long y.meta)) et ∙ ap (λ (b : Bool). broken_if true true b) em
