-- The sources of a walk's objects.
use Rattle.std.specs.Prelude.{Option}
use Rattle.fp_host.specs.Moments.{Moments}
use Rattle.fp_host.specs.Remote.{Holdings}
use Rattle.ost_model.specs.Objects.{Have}
use Rattle.ost_model.specs.Remotes.{Supplies}
use Rattle.ost_walk.specs.declared.places.Places.{Places}

-- Holds if the host and the remotes report their content, and `have` is the objects at these places
abbrev pub SuppliesAt : Places → Option Moments → Option Holdings → Have → Type 0
SuppliesAt places told holdings have = Supplies places.root places.url told holdings have
