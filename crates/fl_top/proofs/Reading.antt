-- What has been read of the input.
use Rattle.std.proofs.Common.{◌≡◌, ◌≤◌, ◌<◌, ◌+◌, ℕ, Bool, false, List, [], ◌++◌, length, Option, Some, Result, Ok, Err, refl, ap, sym, ◌∙◌, subst, arith}
use Rattle.std.specs.Prelude.{IsErrAnd, IfErr}
use Rattle.std.proofs.lemmas.List.{append-nil, length-append}
use Rattle.fp_host.proofs.Cause.{Rose-later}
use Rattle.fl_top.specs.declared.input.InputEnd.{InputEnd}
use Rattle.fl_top.specs.declared.input.InputEnd.TheVariants.{TooLong, Fault, NoMemory}
use Rattle.fl_top.specs.Input.{input_most, IsWhole, IsTaken, IsTooLong, InputStops, Adds, StepStops}

-- what was read and what is left are what was there
pub record Reads (start now : Option (List ℕ)) (bytes : List ℕ) : Type 0 where
  pub told : (all : List ℕ) → start ≡ Some all → (rest : List ℕ) × (now ≡ Some rest) × (bytes ++ rest ≡ all)

pub nothing_yet : (start : Option (List ℕ)) (bytes : List ℕ) → bytes ≡ [] → Reads start start bytes
nothing_yet start bytes none = record { told = λ all is. (all, is, rw none refl) }

pub reads_more : (start now next : Option (List ℕ)) (before after : List ℕ) (more : Bool) → Reads start now before → Adds now next before after more → Reads start next after
reads_more start now next before after more r a = record {
  told = λ all is.
      let one = r.told all is in
      let two = a.told one.0 one.1 in
      (two.0, two.1, two.2 ∙ one.2);
}

pub whole : (start now next : Option (List ℕ)) (before after : List ℕ) (more : Bool) → Reads start now before → Adds now next before after more → more ≡ false → length before ≤ input_most → IsWhole start after
whole start now next before after more r a end few all is =
    let one = r.told all is in
    let two = a.told one.0 one.1 in
    let all_of : after ≡ all = sym (append-nil after) ∙ ap (λ (rest : List ℕ). after ++ rest) (sym (two.3 end)) ∙ two.2 ∙ one.2 in
    (all_of, subst (λ (xs : List ℕ). length xs ≤ input_most) (sym (a.same end) ∙ all_of) few)

pub taken : (start now next : Option (List ℕ)) (before after : List ℕ) (more : Bool) → Reads start now before → Adds now next before after more → more ≡ false → IsTaken start next
taken start now next before after more r a end all is =
    let one = r.told all is in
    let two = a.told one.0 one.1 in
    two.1 ∙ ap (λ (l : List ℕ). Some l) (two.3 end)

pub too_long : (start next : Option (List ℕ)) (after : List ℕ) → Reads start next after → input_most < length after → IsTooLong start
too_long start next after r long all is =
    let one = r.told all is in
    let sum : length after + length one.0 ≡ length all = sym (length-append after one.0) ∙ ap length one.2 in
    omega arith

-- a step's stop is a stop of the whole
pub stops_later : (start : Option (List ℕ)) (first before now : ℕ) (e : InputEnd) → first ≤ before → StepStops before now e → InputStops start first now e
stops_later start first before now TooLong le h = absurd h
stops_later start first before now Fault le h = Rose-later first before now le h
stops_later start first before now NoMemory le h = tt

pub err_stops : {T : Type 0} (r : Result T InputEnd) (e : InputEnd) (start : Option (List ℕ)) (first before now : ℕ) → IsErrAnd r (λ end. end ≡ e) → first ≤ before → StepStops before now e → IfErr r (InputStops start first now)
err_stops (Ok x) e start first before now is le h = tt
err_stops (Err d) e start first before now is le h = subst (InputStops start first now) (sym is) (stops_later start first before now e le h)

pub few_yet : (bytes : List ℕ) → bytes ≡ [] → length bytes ≤ input_most
few_yet bytes none = rw none (omega arith)

pub not_after : (a b c : ℕ) → a ≤ b → b ≤ c → a ≤ c
not_after a b c h g = omega arith
