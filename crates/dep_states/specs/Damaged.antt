-- The damaged paths of an image, because of which it shows no state, and the first of them.
use Rattle.std.specs.Prelude.{◌≡◌, ◌≢◌, ◌⊎◌, ℕ, List, true, Result, Ok, Err}
use Rattle.fp_host.specs.Paths.{Elements, path_text}
use Rattle.fp_host.specs.Outcome.{gone, Disk}
use Rattle.fp_name.specs.Refs.{Ref}
use Rattle.fp_small.specs.Order.{comes_before}
use Rattle.fp_small.specs.declared.state.State.{State}
use Rattle.dep_states.specs.Names.{config, remotes_conf, pins_file, override_path, active}
use Rattle.dep_states.specs.Shown.{bad, remotes_at, pins_at, settings_seen, ref_seen, override_seen, Shows}

-- The file at this path can't be read. A ref that can't be read is damaged at its `active`, also if
-- its `deploy` is at fault.
pub data Damages (disk : Disk) (p : Elements) : Type 0 where
  bad_config : disk config ≢ gone → settings_seen disk ≡ bad → p ≡ config → Damages disk p
  bad_remotes : disk config ≡ gone → remotes_at (disk remotes_conf) ≡ bad → p ≡ remotes_conf
      → Damages disk p
  bad_pins : disk config ≡ gone → pins_at (disk pins_file) ≡ bad → p ≡ pins_file → Damages disk p
  bad_ref : (name : Ref) → ref_seen disk name ≡ bad → p ≡ active name → Damages disk p
  bad_override : (name : List ℕ) → override_seen disk name ≡ bad → p ≡ override_path name
      → Damages disk p

-- The path is the first damaged one by the bytes of its text. A slash follows a directory's name in
-- the texts of the paths below it, so `a-b/x` comes before `a/x`, though `a` comes before `a-b`.
pub record IsFirstDamaged (disk : Disk) (p : Elements) : Type 0 where
  pub damages : Damages disk p
  pub first : (q : Elements) → Damages disk q → (q ≡ p)
      ⊎ (comes_before (path_text p) (path_text q) ≡ true)

-- Opening the image gives this result: the state that it shows, or the first damaged path
abbrev pub Gives : Disk → Result State Elements → Type 0
Gives disk (Ok s) = Shows disk s
Gives disk (Err p) = IsFirstDamaged disk p
