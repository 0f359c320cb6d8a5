-- An installation after a sync.
use Rattle.std.proofs.Common.{◌≡◌, Ok, Err, IsErr, IsErrAnd, refl, sym, ◌∙◌, ap, subst, Result}
use Rattle.fp_host.specs.Paths.{Elements}
use Rattle.fp_host.specs.View.{View, IsTree}
use Rattle.fp_host.specs.Calls.{syncs, done, Step}
use Rattle.fp_host.specs.Outcome.{Disk, Leaves, IsSettled, spot_of, shows}
use Rattle.fp_host.proofs.Follow.{follows_sync}
use Rattle.fp_host.proofs.Kept.{tree_sync}
use Rattle.fp_host.proofs.Settled.{at_tree, settled_disk}
use Rattle.fp_small.specs.declared.state.State.{State}
use Rattle.dep_states.specs.Shown.{Shows}
use Rattle.dep_states.specs.Sound.{IsSound, Opens}
use Rattle.dep_states.proofs.Good.{shown_good}
use Rattle.dep_states.proofs.Law.{shows_same, frame_sound, spares_nothing}
use Rattle.dep_open.specs.Open.{IsOpened, Reads, Opened}
use Rattle.dep_open.specs.Ends.{open_end}
use Rattle.dep_open.specs.declared.open_end.OpenEnd.{OpenEnd}
use Rattle.dep_open.specs.declared.open_end.OpenEnd.TheVariants.{Damaged, Fault, NoMemory}
use Rattle.fp_host.specs.declared.host.HostEnd.{HostEnd}
use Rattle.fp_host.specs.declared.host.HostEnd.TheVariants as host

pub synced : (v : View) → IsSettled (done syncs v)
synced v = record { earlier = λ q. refl; dirty = λ id. refl }

-- what every stop leaves after a sync is what stood before it
stands : (v : View) → IsTree v → (disk : Disk) → Leaves (done syncs v) disk → (q : Elements) → disk q ≡ shows v q
stands v tree disk left q = settled_disk (done syncs v) (tree_sync v tree) (synced v) disk left q ∙ ap (spot_of v.files) (sym (at_tree v tree q))

opens_synced : (v : View) (s : State) → IsTree v → Shows (shows v) s → IsSound v → Opens s (done syncs v)
opens_synced v s tree shown sound = record {
  shown = λ disk left. shows_same (shows v) disk (λ p fixed. stands v tree disk left p) shown;
  sound = (frame_sound (spares_nothing v) (follows_sync v) sound).sound;
}

opened : (v : View) (s : State) → IsTree v → Shows (shows v) s → IsOpened s v (done syncs v)
opened v s tree shown = record { shown = shown; good = (shown_good (shows v) s shown).settings; settled = synced v; opens = λ sound. opens_synced v s tree shown sound }

pub opened_ok : (s t : State) (u v w : View) → t ≡ s → IsTree v → v ≡ u → Reads u (Ok s) → Step syncs (Ok tt) v w → IsOpened t u w
opened_ok s t u v w same tree is reads step =
    subst (λ r. IsOpened r u w) (sym same) (subst (λ x. IsOpened s x w) is (subst (IsOpened s v) (sym step.how.1) (opened v s tree (subst (λ x. Shows (shows x) s) (sym is) reads))))

-- a host's end tells nothing of the state
pub ended : (r : Result State OpenEnd) (e : HostEnd) (u w : View) → IsErr r → IsErrAnd r (λ end. end ≡ open_end e) → Opened r u w
ended (Ok s) e u w err is = absurd (cc err)
ended (Err (Damaged p)) host.Fault u w err is = cc is
ended (Err (Damaged p)) host.NoMemory u w err is = cc is
ended (Err Fault) e u w err is = tt
ended (Err NoMemory) e u w err is = tt
