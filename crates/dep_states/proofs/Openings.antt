-- Views in which an installation can be opened.
use Rattle.std.proofs.Common.{◌≡◌, inl, sym, inr, length, ◌≤◌, ◌∙◌}
use Rattle.fp_host.specs.Paths.{Elements}
use Rattle.fp_host.specs.View.{View, IsTree}
use Rattle.fp_host.specs.Outcome.{Disk, IsSettled, shows, gone, Spot, Follows}
use Rattle.fp_small.specs.declared.state.State.{State}
use Rattle.dep_states.specs.Shown.{Shows}
use Rattle.dep_states.specs.Sound.{Sound, Opens}
use Rattle.dep_states.proofs.Law.{shows_same, sound_same}
use Rattle.dep_states.proofs.Sparing.{settled_opens}

pub shown_opens : {s : State} (v : View) (e : Disk) → IsTree v → IsSettled v → ((p : Elements) → shows v p ≡ e p) → Shows e s → Sound e → Opens s v
shown_opens v e tree settled same shown sound =
    settled_opens tree settled (shows_same e (shows v) (λ p f. same p) shown) (sound_same e (shows v) (λ p f. same p) (λ p. inl (same p)) sound)

-- what is too deep was gone before
pub short_follows : {s : State} {G : Elements → Spot → Type 0} {u w : View} → ((q : Elements) (spot : Spot) → G q spot → spot ≡ gone) → Opens s u → Follows G u w → Follows (λ q spot. G q spot × (length q ≤ 128)) u w
short_follows goes opens follows = record {
  from = λ disk left. let b = follows.from disk left in (
    b.0,
    b.1,
    λ p. elim (b.2 p) [
      | inl same ↦ inl same
      | inr given ↦ elim (((opens.sound b.0 b.1).kinds p).short) [
        | inl none ↦ inl (goes p (disk p) given ∙ sym none)
        | inr short ↦ inr (given, short)
      ]
    ],
  );
}
