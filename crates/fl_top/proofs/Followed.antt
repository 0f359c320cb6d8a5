-- One answer after another.
use Rattle.std.proofs.Common.{◌≡◌, ◌++◌, Option, Some, None, ap, sym, ◌∙◌}
use Rattle.fp_small.specs.declared.refusal.Refusal.{Refusal}
use Rattle.fl_change.specs.Answer.{Answer, continued, followed}

-- the first is refused
pub refused_is : (a b : Answer) (r : Refusal) → a.refusal ≡ Some r → followed a b ≡ a
refused_is a b r is = ap (λ (o : Option Refusal). continued a.pieces o b) is ∙ ap (λ (o : Option Refusal). record { pieces = a.pieces; refusal = o }) (sym is)

-- it isn't
pub done_is : (a b : Answer) → a.refusal ≡ None → followed a b ≡ record { pieces = a.pieces ++ b.pieces; refusal = b.refusal }
done_is a b none = ap (λ (o : Option Refusal). continued a.pieces o b) none
