-- Calls that leave alone what something depends on.
use Rattle.std.proofs.Common.{◌≡◌, ◌⊎◌, ◌∙◌, inl, inr}
use Rattle.fp_host.specs.Paths.{Elements}
use Rattle.fp_host.specs.View.{View}
use Rattle.fp_host.specs.Outcome.{Spot, Disk, Leaves, Follows}

-- What is read of a disk depends on its fixed paths alone, which may themselves depend on the disk. Where nothing
-- is given to a fixed path of any outcome from before, each outcome since reads as those from before do.
pub frame : {X : Type 0} (f : Disk → X) (F : Disk → Elements → Type 0) (G : Elements → Spot → Type 0) {u w : View}
    → ((i j : Disk) → ((p : Elements) → F i p → j p ≡ i p) → f j ≡ f i)
    → ((before : Disk) → Leaves u before → (p : Elements) (spot : Spot) → F before p → G p spot → ⊥)
    → Follows G u w → (s : X) → ((disk : Disk) → Leaves u disk → f disk ≡ s) → (disk : Disk) → Leaves w disk → f disk ≡ s
frame f F G local avoids follows s all disk left =
    let b = follows.from disk left in
    local b.0 disk (λ p fixed. elim (b.2 p) [ inl same ↦ same | inr given ↦ absurd (avoids b.0 b.1 p (disk p) fixed given) ]) ∙ all b.0 b.1

-- the same for a property that also bears what G gives
pub frame_sound : (Sound : Disk → Type 0) (F : Disk → Elements → Type 0) (G : Elements → Spot → Type 0) {u w : View}
    → ((i j : Disk) → ((p : Elements) → F i p → j p ≡ i p) → ((p : Elements) → (j p ≡ i p) ⊎ G p (j p)) → Sound i → Sound j)
    → ((before : Disk) → Leaves u before → (p : Elements) (spot : Spot) → F before p → G p spot → ⊥)
    → Follows G u w → ((disk : Disk) → Leaves u disk → Sound disk) → (disk : Disk) → Leaves w disk → Sound disk
frame_sound Sound F G bears avoids follows all disk left =
    let b = follows.from disk left in
    bears b.0 disk (λ p fixed. elim (b.2 p) [ inl same ↦ same | inr given ↦ absurd (avoids b.0 b.1 p (disk p) fixed given) ]) b.2 (all b.0 b.1)
