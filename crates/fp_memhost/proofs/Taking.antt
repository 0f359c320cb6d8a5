-- What is taken from a source.
use Rattle.std.proofs.Common.{◌≡◌, ◌≢◌, ◌<◌, ℕ, List, [], ◌∷◌, length, take, drop, min, Some, refl, sym, ◌∙◌, subst, arith}
use Rattle.fp_host.specs.Remote.{Takes, TakesOf}
use Rattle.fp_host.specs.declared.source.Taken.{Taken}
use Rattle.fp_host.specs.declared.source.Taken.TheVariants.{Took, End, Failed}

takes_by : (left after into : List ℕ) (taken : Taken) → TakesOf left into taken after → Takes (Some left) (Some after) into taken
takes_by left after into taken how = record {
  told = λ l is. let same : left ≡ l = cc is in (after, refl, subst (λ (k : List ℕ). TakesOf k into taken after) same how);
  untold = λ a is. (left, refl);
}

empty_from : (left : List ℕ) (room step : ℕ) → min (min (length left) room) step ≡ 0 → 0 < room → step ≢ 0 → left ≡ []
empty_from [] room step none some steps = refl
empty_from (b ∷ rest) room step none some steps = absurd (omega (arith, none))

pub takes_some : (left after into : List ℕ) (n room step : ℕ) → n ≡ min (min (length left) room) step → length into ≡ room → step ≢ 0 → take n into ≡ take n left → after ≡ drop n left → Takes (Some left) (Some after) into (Took n)
takes_some left after into n room step is len steps same rest = takes_by left after into (Took n) (omega arith, same, rest, λ none some. empty_from left room step (sym is ∙ none) (omega arith) steps)

pub takes_none : (left into : List ℕ) → left ≡ [] → Takes (Some left) (Some left) into End
takes_none left into none = takes_by left left into End (none, none)

pub takes_failed : (left into : List ℕ) → Takes (Some left) (Some left) into Failed
takes_failed left into = takes_by left left into Failed tt
