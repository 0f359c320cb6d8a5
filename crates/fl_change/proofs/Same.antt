-- Images that have the same at each path are the same, and so is all that is said of them.
use Rattle.std.proofs.Common.{◌≡◌, ◌⊎◌, inl, inr, sym, subst}
use Rattle.fp_host.specs.Paths.{Elements}
use Rattle.fp_host.specs.View.{View}
use Rattle.fp_host.specs.Outcome.{Disk, Follows, Nothing}
use Rattle.fp_small.specs.declared.state.State.{State}
use Rattle.dep_states.specs.Shown.{Shows}
use Rattle.dep_states.specs.Sound.{Sound, Opens}
use Rattle.dep_states.specs.Settled.{Settled}
use Rattle.fp_small.specs.declared.op.Op.{Op}
use Rattle.fl_change.specs.Performs.{IsNearlySettled}

pub unmoved : {disk before : Disk} → ((p : Elements) → (disk p ≡ before p) ⊎ Nothing p (disk p)) → (p : Elements) → disk p ≡ before p
unmoved each p = elim (each p) [ inl same ↦ same | inr given ↦ absurd given ]

same_disk : (disk before : Disk) → ((p : Elements) → disk p ≡ before p) → disk ≡ before
same_disk disk before same = λ k q. (same q) k

pub same_shown : {disk before : Disk} {s : State} → ((p : Elements) → disk p ≡ before p) → Shows before s → Shows disk s
same_shown {disk = disk} {before = before} {s = s} same shown = subst (λ d. Shows d s) (sym (same_disk disk before same)) shown

pub same_sound : {disk before : Disk} → ((p : Elements) → disk p ≡ before p) → Sound before → Sound disk
same_sound {disk = disk} {before = before} same sound = subst Sound (sym (same_disk disk before same)) sound

pub same_settled : {disk before : Disk} → ((p : Elements) → disk p ≡ before p) → Settled before → Settled disk
same_settled {disk = disk} {before = before} same settled = subst Settled (sym (same_disk disk before same)) settled

pub same_rest : {op : Op} {disk before : Disk} → ((p : Elements) → disk p ≡ before p) → IsNearlySettled op before → IsNearlySettled op disk
same_rest {op = op} {disk = disk} {before = before} same rest = subst (IsNearlySettled op) (sym (same_disk disk before same)) rest

pub same_opens : {v w : View} {s : State} → Follows Nothing v w → Opens s v → Opens s w
same_opens follows opens = record {
  shown = λ disk left. let from = follows.from disk left in same_shown (unmoved from.2) (opens.shown from.0 from.1);
  sound = λ disk left. let from = follows.from disk left in same_sound (unmoved from.2) (opens.sound from.0 from.1);
}
