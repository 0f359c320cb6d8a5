-- The effect of a call that prints.
use Rattle.std.specs.Prelude.{◌≡◌, ◌⊎◌, ◌++◌, ℕ, List, Result, Ok, Err}
use Rattle.fp_host.specs.Paths.{Elements}
use Rattle.fp_host.specs.View.{View}
use Rattle.fp_host.specs.Outcome.{Follows, Nothing, shows}
use Rattle.fl_change.specs.Changes.{IsUntouched}
use Rattle.fp_host.specs.declared.host.HostEnd.{HostEnd}
use Rattle.fp_host.specs.declared.host.HostEnd.TheVariants.{Fault, NoMemory}

-- Nothing changes, except that the text may have been printed
pub record Says (text : List ℕ) (v w : View) : Type 0 where
  pub printed : (w.printed ≡ v.printed) ⊎ (w.printed ≡ v.printed ++ text)
  pub follows : Follows Nothing v w
  pub untouched : IsUntouched v w
  pub shown : (q : Elements) → shows w q ≡ shows v q

-- The text was printed, and nothing else changed
pub record WasSaid (text : List ℕ) (v w : View) : Type 0 where
  pub printed : w.printed ≡ v.printed ++ text
  pub follows : Follows Nothing v w
  pub untouched : IsUntouched v w
  pub shown : (q : Elements) → shows w q ≡ shows v q

-- The result of a call that prints the text: printed, or a fault of the host, or memory ran out and
-- nothing changed
abbrev pub SaidBy : List ℕ → Result (Unit {0}) HostEnd → View → View → Type 0
SaidBy text (Ok u) v w = WasSaid text v w
SaidBy text (Err Fault) v w = Unit {0}
SaidBy text (Err NoMemory) v w = w ≡ v

-- The exit status of a command that prints this text: `status` if it was printed, 3 if the host
-- failed, and 6 if memory ran out and nothing changed
abbrev pub Refuses : List ℕ → ℕ → ℕ → View → View → Type 0
Refuses text status result v w =
    ((result ≡ status) × WasSaid text v w) ⊎ ((result ≡ 3) ⊎ ((result ≡ 6) × (w ≡ v)))
