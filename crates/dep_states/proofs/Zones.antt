-- What may stand in a zone.
use Rattle.std.specs.Prelude.{if◌then◌else◌}
use Rattle.std.proofs.Common.{Bool, false, true, ◌≡◌, None, Some, Option, inr, ℕ, inl, refl, ◌≢◌, ◌⊎◌}
use Rattle.fp_host.specs.Paths.{Elements, file, link, absent, dir, Slot}
use Rattle.fp_host.specs.Outcome.{Spot, spot_of, holding}
use Rattle.fp_host.specs.View.{Inode}
use Rattle.dep_states.specs.Zones.{Zone, anything, Fits, IsFolderOrGone}

pub fits_if : (b : Bool) (z : Zone) (p : Elements) (spot : Spot) → Fits z p spot → Fits (if b then z else anything) p spot
fits_if true z p spot f = f
fits_if false z p spot f = tt

pub unless_any : (b : Bool) (z : Zone) (p : Elements) (spot : Spot) → b ≡ true → Fits (if b then z else anything) p spot → Fits z p spot
unless_any true z p spot e fits = fits
unless_any false z p spot e fits = absurd (cc e)

pub free_of : (files : ℕ → Option Inode) (e : Slot) → ((id : ℕ) → e ≡ file id → files id ≢ None) → IsFolderOrGone (spot_of files e) → (e ≡ absent) ⊎ (e ≡ dir)
free_of files absent known fits = inl refl
free_of files dir known fits = inr refl
free_of files (link text) known fits = absurd fits
free_of files (file id) known fits = absurd (held (files id) (known id refl) fits)
  where
    held : (row : Option Inode) → row ≢ None → IsFolderOrGone (holding id row) → ⊥
    held None some f = some refl
    held (Some x) some f = f
