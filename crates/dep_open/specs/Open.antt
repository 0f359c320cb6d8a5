-- Opening an installation.
use Rattle.std.specs.Prelude.{◌≡◌, List, Option, Some, None, Result, Ok, Err}
use Rattle.fp_host.specs.Paths.{Elements, Slot}
use Rattle.fp_host.specs.View.{View}
use Rattle.fp_host.specs.Outcome.{Disk, shows, IsSettled}
use Rattle.fp_small.specs.Config.{IsSettings}
use Rattle.fp_small.specs.declared.state.State.{State}
use Rattle.fp_small.specs.declared.state.RefRow.{RefRow}
use Rattle.fp_small.specs.declared.state.OverrideRow.{OverrideRow}
use Rattle.dep_states.specs.declared.setup.Setup.{Setup}
use Rattle.dep_states.specs.Shown.{Shows, settings_of}
use Rattle.dep_states.specs.Damaged.{IsFirstDamaged}
use Rattle.dep_states.specs.Sound.{IsSound, Opens}
use Rattle.dep_open.specs.declared.part.Part.{Part}
use Rattle.dep_open.specs.declared.open_end.OpenEnd.{OpenEnd}
use Rattle.dep_open.specs.declared.open_end.OpenEnd.TheVariants.{Damaged, Fault, NoMemory}
use Rattle.dep_open.specs.Parts.{lesser}

-- The image shows no state
abbrev pub NotShown : Disk → Type 0
NotShown disk = (s : State) → Shows disk s → ⊥

-- The path is the first damaged one of the present image, by the bytes of its text
abbrev pub IsDamagedAt : View → Elements → Type 0
IsDamagedAt v p = IsFirstDamaged (shows v) p

-- If `u` shows no state, nothing changes
abbrev pub StaysUnread : View → View → Type 0
StaysUnread u w = NotShown (shows u) → w ≡ u

-- The result of reading the present image: the state that it shows, or the first damaged path
abbrev pub Reads : View → Result State OpenEnd → Type 0
Reads v (Ok s) = Shows (shows v) s
Reads v (Err (Damaged p)) = IsDamagedAt v p
Reads v (Err Fault) = Unit {0}
Reads v (Err NoMemory) = Unit {0}

-- ---- the state of its parts

-- The state with this setup, these refs and these overrides
abbrev pub state_of_parts : Setup → List RefRow → List OverrideRow → State
state_of_parts setup refs overrides = record {
  layout = setup.layout;
  refs = refs;
  remotes = setup.settings.remotes;
  pins = setup.settings.pins;
  overrides = overrides;
}

-- The first of three damaged paths by the bytes of their texts, if any
abbrev pub first_damaged : Option Elements → Option Elements → Option Elements → Option Elements
first_damaged a b c = lesser (lesser a b) c

-- The result of joining the parts: their state, if none is damaged, else the first damaged path
abbrev pub IsJoined : Part Setup → Part (List RefRow) → Part (List OverrideRow)
    → Result State OpenEnd → Type 0
IsJoined a b c (Ok s) =
    (first_damaged a.damaged b.damaged c.damaged ≡ None)
    × (s ≡ state_of_parts a.found b.found c.found)
IsJoined a b c (Err (Damaged p)) = first_damaged a.damaged b.damaged c.damaged ≡ Some p
IsJoined a b c (Err Fault) = ⊥
IsJoined a b c (Err NoMemory) = ⊥

-- ---- opening

-- The installation was opened with this state, from `u` to `w`: nothing waits for a sync, and if
-- `u` was sound, each crash leaves this state and a sound installation
pub record IsOpened (s : State) (u w : View) : Type 0 where
  pub shown : Shows (shows u) s
  pub good : IsSettings (settings_of s)
  pub settled : IsSettled w
  pub opens : IsSound u → Opens s w

-- The result of opening: the state, or the first damaged path of the image at the start
abbrev pub Opened : Result State OpenEnd → View → View → Type 0
Opened (Ok s) u w = IsOpened s u w
Opened (Err (Damaged p)) u w = IsDamagedAt u p
Opened (Err Fault) u w = Unit {0}
Opened (Err NoMemory) u w = Unit {0}
