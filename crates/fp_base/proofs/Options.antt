-- What an option or a result tells.
use Rattle.std.specs.Prelude.{is_some, IfOk}
use Rattle.std.specs.Option.{option_or}
use Rattle.std.proofs.Common.{None, Some, ◌≡◌, Option, sym, false, refl, true, not, cond, Bool, Ok, Err, Result}
use Rattle.std.proofs.lemmas.Bool.{false≢true}

pub some_none : {A : Type 0} {x : A} → Some x ≡ None → ⊥
some_none e = cc

pub none_some : {A : Type 0} {x : A} → None ≡ Some x → ⊥
none_some e = cc

pub none_if_not_some : {A : Type 0} (o : Option A) → is_some o ≡ false → o ≡ None
none_if_not_some (Some x) e = absurd (false≢true (sym e))
none_if_not_some None e = refl

pub none_by_test : {A : Type 0} (f : Option A) → not (is_some f) ≡ true → f ≡ None
none_by_test None e = refl
none_by_test (Some f) e = absurd (cc e)

pub guarded : {A : Type 0} (b : Bool) (o : Option A) (y : A) → cond b o None ≡ Some y → (b ≡ true) × (o ≡ Some y)
guarded true o y e = (refl, e)
guarded false o y e = absurd cc

pub first_none : {A : Type 0} (a b : Option A) → option_or a b ≡ None → a ≡ None
first_none None b none = refl
first_none (Some x) b none = absurd (cc none)

pub second_none : {A : Type 0} (a b : Option A) → option_or a b ≡ None → b ≡ None
second_none None b none = none
second_none (Some x) b none = absurd (cc none)

pub or_alone : {A : Type 0} (o : Option A) → option_or o None ≡ o
or_alone None = refl
or_alone (Some a) = refl

pub or_assoc : {A : Type 0} (a b c : Option A) → option_or (option_or a b) c ≡ option_or a (option_or b c)
or_assoc None b c = refl
or_assoc (Some x) b c = refl

pub if_ok_to : {T E : Type 0} {P Q : T → Type 0} (r : Result T E) → ((t : T) → P t → Q t) → IfOk r P → IfOk r Q
if_ok_to (Ok t) step is = step t is
if_ok_to (Err e) step is = is
