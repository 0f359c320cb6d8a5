-- The clauses of a contract about a call over a host, for a function with the bound `H: Host`. They
-- constrain only hosts that report their content.
use Rattle.fp_host.specs.View.{View}
use Rattle.fp_host.specs.Moments as moments
use Rattle.fp_host.specs.Frame as frame
use Rattle.fp_host.specs.Causes.{IsCaused, IsCounted}
use Rattle.fp_host.specs.declared.host.Host.{Ghosts}

-- The view at each moment of the call relates by `R` to the view before the call
abbrev pub AtEachMoment : {H : Type 0} → Ghosts H → H → H → (View → View → Type 0) → Type 0
AtEachMoment g old new R = moments.Always R (g.moments old) (g.moments new)

-- The view at the return relates by `R` to the view before the call
abbrev pub AtReturn : {H : Type 0} → Ghosts H → H → H → (View → View → Type 0) → Type 0
AtReturn g old new R = frame.AtEnd R (g.moments old) (g.moments new)

-- Over a view that meets the condition `Can`, the result is `Faulted` only if the host's count of
-- faults rose
abbrev pub FailsOnly : {H : Type 0} → Ghosts H → H → H → (View → Type 0) → Type 0 → Type 0
FailsOnly g old new Can Faulted = IsCaused Faulted (g.moments old) Can (g.faults old) (g.faults new)

-- The call changes nothing at any moment
abbrev pub ChangesNothing : {H : Type 0} → Ghosts H → H → H → Type 0
ChangesNothing g old new = frame.Unchanged (g.moments old) (g.moments new)

-- The result is `Faulted` only if the host's count of faults rose, whatever the view
abbrev pub FailsAlone : {H : Type 0} → Ghosts H → H → H → Type 0 → Type 0
FailsAlone g old new Faulted = IsCounted Faulted (g.moments old) (g.faults old) (g.faults new)
