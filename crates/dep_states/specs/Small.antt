-- Two images that differ only in the files of the settings, or in one override.
use Rattle.std.specs.Prelude.{◌≡◌, ◌≢◌, ◌⊎◌, ℕ, List, map, true}
use Rattle.fp_host.specs.Paths.{Elements}
use Rattle.fp_host.specs.Reads.{is_ascending}
use Rattle.fp_small.specs.declared.state.State.{State}
use Rattle.dep_states.specs.Names.{config}
use Rattle.dep_states.specs.Shown.{at_name, override_key, setup_of}
use Rattle.dep_states.specs.Sound.{IsOld}

-- The path is one of the three files of the settings
abbrev pub IsSetting : Elements → Type 0
IsSetting p = (p ≡ config) ⊎ IsOld p

-- The state `t` equals `s` except for the override with this name
pub record IsLayered (s : State) (layer : List ℕ) (t : State) : Type 0 where
  pub setup : setup_of t ≡ setup_of s
  pub refs : t.refs ≡ s.refs
  pub others : (name : List ℕ) → name ≢ layer → at_name override_key t.overrides name
      ≡ at_name override_key s.overrides name
  pub ascend : is_ascending (map override_key t.overrides) ≡ true
