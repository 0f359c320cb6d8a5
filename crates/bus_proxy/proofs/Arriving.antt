-- Messages as events, and counts.
use Rattle.std.proofs.Common.{◌≡◌, ℕ, zero, suc, ◌+◌, ◌<◌, ◌≤◌, min, List, [], ◌∷◌, ◌++◌, length, Option, Some, refl, sym, ap, ◌∙◌, append_assoc, arith, inl, inr}
use Rattle.std.specs.Prelude.{map, reverse}
use Rattle.std.proofs.lemmas.List.{length-append, length-reverse, length-map, reverse-append}
use Rattle.fp_base.specs.declared.frame_rule.FrameRule.{FrameRule}
use Rattle.fp_base.specs.declared.side.Side.{Side}
use Rattle.bus_stream.specs.Stream.{Message}
use Rattle.bus_policy.specs.Events.{Event}
use Rattle.bus_proxy.specs.Arrivals.{End, event_of, arrived, counted}

abbrev pub ended_at : Side → ℕ → FrameRule → Option End
ended_at side index rule = Some (side, index, rule)

-- the first message is the earliest event
pub arrived-cons : (side : Side) (m : Message) (later : List Message) → arrived side (m ∷ later) ≡ arrived side later ++ event_of side m ∷ []
arrived-cons side m later = reverse-append (event_of side m ∷ []) (map (event_of side) later)

pub arrived_remainder : (side : Side) (m : Message) (later : List Message) (taken : List Event) → arrived side (m ∷ later) ++ taken ≡ arrived side later ++ event_of side m ∷ taken
arrived_remainder side m later taken =
    ap (λ (l : List Event). l ++ taken) (arrived-cons side m later) ∙ append_assoc (arrived side later) (event_of side m ∷ []) taken

none_of : (l : List Message) → length l ≡ 0 → l ≡ []
none_of [] e = refl
none_of (m ∷ l) e = absurd (omega arith)

-- none arrived where there is nothing more than before
pub none_arrived : (side : Side) (l : List Message) (taken : List Event) → arrived side l ++ taken ≡ taken → l ≡ []
none_arrived side l taken e =
    none_of l (omega (
      arith,
      ap (λ (x : List Event). length x) e,
      length-append (arrived side l) taken,
      length-reverse (map (event_of side) l),
      length-map l (event_of side),
    ))

min_again : (n : ℕ) → counted (counted n + 1) ≡ counted (n + 1)
min_again n = grind arith

pub counted-push : (given : List Message) (m : Message) → counted (counted (length given) + 1) ≡ counted (length (given ++ m ∷ []))
counted-push given m = min_again (length given) ∙ ap counted (sym (length-append given (m ∷ [])))
