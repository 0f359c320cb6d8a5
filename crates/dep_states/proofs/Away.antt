-- What is seen where nothing is.
use Rattle.std.specs.Prelude.{if◌then◌else◌}
use Rattle.std.proofs.Common.{List, refl, ℕ, ◌≡◌, Bool, false, true, None, Some, Option, ap}
use Rattle.fp_host.specs.Outcome.{gone}
use Rattle.dep_states.specs.Shown.{override_at, away, Seen, seen_of, there}
use Rattle.dep_states.proofs.Single.{there_is}

pub override_away : (name : List ℕ) → override_at name gone ≡ away
unfolding override_at
override_away name = refl

pub layer_away : {A : Type 0} (b : Bool) (x : Seen A) → x ≡ away → if b then x else away ≡ away
layer_away true x e = e
layer_away false x e = refl

pub if_away : {A : Type 0} (b : Bool) → if◌then◌else◌ {A = Seen A} b away away ≡ away
if_away true = refl
if_away false = refl

pub seen_there : {A : Type 0} {a : A} (o : Option A) → seen_of o ≡ there a → o ≡ Some a
seen_there None e = absurd (cc e)
seen_there (Some b) e = ap Some (there_is e)
