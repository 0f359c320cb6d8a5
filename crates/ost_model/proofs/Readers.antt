-- What was read without breaking a rule.
use Rattle.std.proofs.Common.{Some, Err, Result, Ok, ◌≡◌, None, Bool, false, true, List, refl, ◌∷◌, Option}
use Rattle.fp_base.specs.declared.rule.Rule.{Rule}
use Rattle.ost_model.specs.Readers.{if_read, first_broken, kept}

pub read_some : {A : Type 0} (r : Result A Rule) (a : A) → if_read r ≡ Some a → r ≡ Ok a
read_some (Ok b) a e = cc e
read_some (Err rule) a e = absurd (cc e)

pub passed : (b : Bool) (rule : Rule) (tests : List (Bool × Rule)) → first_broken ((b, rule) ∷ tests) ≡ None → (b ≡ true) × (first_broken tests ≡ None)
passed true rule tests none = (refl, none)
passed false rule tests none = absurd (cc none)

pub kept_ok : {A : Type 0} (r : Option Rule) (a b : A) → kept r a ≡ Ok b → (r ≡ None) × (a ≡ b)
kept_ok None a b e = (refl, cc e)
kept_ok (Some rule) a b e = absurd (cc e)
