-- Retiring a ref: the removal of its `active`.
use Rattle.std.specs.Prelude.{◌≡◌, ◌≢◌, ◌⊎◌, ℕ, true, None, Contains}
use Rattle.fp_host.specs.Paths.{Elements, Slot, absent}
use Rattle.fp_host.specs.View.{View}
use Rattle.fp_host.specs.Outcome.{Spot, gone, IsSettled}
use Rattle.fp_name.specs.Refs.{Ref, is_ref}
use Rattle.fp_small.specs.declared.state.State.{State}
use Rattle.dep_states.specs.After.{row_at}
use Rattle.dep_states.specs.Names.{active}
use Rattle.dep_states.specs.Sound.{Opens}
use Rattle.dep_states.specs.Switch.{OpensEither}
use Rattle.dep_switch.specs.Rows.{without_row}
use Rattle.dep_switch.specs.declared.retiring.RetirePlan.{RetirePlan}

-- A crash may newly show nothing at the ref's `active`
abbrev pub RetiresAt : Ref → Elements → Spot → Type 0
RetiresAt name p spot = (p ≡ active name) × (spot ≡ gone)

-- The plan is for this ref
pub record IsPlanOf (asked : Ref) (plan : RetirePlan) : Type 0 where
  pub name : plan.name ≡ asked
  pub good : is_ref asked ≡ true
  pub link : plan.link ≡ active asked

-- The plan is for a deployed ref, and each crash leaves the state and a sound installation
pub record CanRetire (s : State) (plan : RetirePlan) (v : View) : Type 0 where
  pub opens : Opens s v
  pub planned : IsPlanOf plan.name plan
  pub there : row_at s plan.name ≢ None

-- The retirement at each moment: each crash leaves the old state or the one without the ref, and a
-- sound installation. No file changes, remembered entries stay remembered, and nothing is printed.
pub record Retires (s : State) (plan : RetirePlan) (u w : View) : Type 0 where
  pub either : IsPlanOf plan.name plan → Opens s u → OpensEither s (without_row s plan.name) w
  pub names : (q : Elements) → (w.names q ≡ u.names q) ⊎ ((q ≡ plan.link) × (w.names q ≡ absent))
  pub puts : (x : Elements × Slot) → Contains w.stood x
      → Contains u.stood x ⊎ ((x.0 ≡ plan.link) × (x.1 ≡ absent))
  pub files : (id : ℕ) → w.files id ≡ u.files id
  pub stood : (x : Elements × Slot) → Contains u.stood x → Contains w.stood x
  pub printed : w.printed ≡ u.printed

-- The ref was retired: each crash leaves the state without it, and nothing waits for a sync
pub record WasRetired (s : State) (plan : RetirePlan) (u w : View) : Type 0 where
  pub opens : IsPlanOf plan.name plan → Opens s u → Opens (without_row s plan.name) w
  pub settled : IsSettled w
