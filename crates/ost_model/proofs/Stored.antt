-- What a host stores, where it only looks.
use Rattle.std.proofs.Common.{Option, sym, ◌∙◌, ap}
use Rattle.fp_host.specs.Frame.{Unchanged}
use Rattle.fp_host.specs.Moments.{Moments}
use Rattle.fp_host.specs.Outcome.{shows}
use Rattle.fp_host.specs.Paths.{Elements}
use Rattle.fp_host.specs.View.{View}
use Rattle.ost_model.specs.Objects.{Have, store}
use Rattle.ost_model.specs.Remotes.{Stores}

-- a host that only looks goes on to store the same
pub still_stored : {root : Elements} {a b : Option Moments} {have : Have} → Unchanged a b → Stores root a have → Stores root b have
still_stored {root = root} still s =
    let n = still.goes.told s.moments s.told_is in
    record { moments = n.0; told_is = n.1; is = s.is ∙ ap (λ (v : View). store root (shows v)) (sym n.3.0) }
