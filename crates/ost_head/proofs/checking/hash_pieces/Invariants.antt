use Rattle.std.proofs.Common.{◌-◌, ◌≡◌, ◌≤◌, ℕ, List, length, take, Some}
use Rattle.fp_base.specs.declared.object.ObjKind.TheVariants as kinds
use Rattle.fp_host.specs.Frame.{Unchanged}
use Rattle.fp_host.specs.Moments.{Moments}
use Rattle.fp_host.specs.Outcome.{shows}
use Rattle.ost_model.specs.declared.object.Object.TheVariants as objects
use Rattle.ost_model.specs.Objects.{store}
use Rattle.ost_head.specs.Pieces.{TakesIn}
use Rattle.ost_head.proofs.checking.hash_pieces.Given as goal

abbrev pub invariant-loop-at : goal.invariant-loop-at
invariant-loop-at g l = record {
  low : l.at ≤ l.size;
  room : length l.buffer ≡ length l.fn.buffer;
  still : Unchanged (g.H.Host.moments l.fn.host) (g.H.Host.moments l.host);
  hashed : (m : Moments) → g.H.Host.moments l.fn.host ≡ Some m → (mode : ℕ) (content : List ℕ) → store l.root (shows m.now) l.digest kinds.File ≡ Some (objects.File mode content) → length content ≡ l.size → TakesIn (take l.at content) l.fn.hasher l.hasher;
  later : g.H.Host.faults l.fn.host ≤ g.H.Host.faults l.host;
}

abbrev pub decreases-loop-at : goal.decreases-loop-at
decreases-loop-at g l = l.size - l.at
