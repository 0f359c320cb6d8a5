-- Operations that bring no commit.
use Rattle.std.specs.Prelude.{◌≡◌}
use Rattle.fp_host.specs.View.{View}
use Rattle.fp_host.specs.Outcome.{IsSettled}
use Rattle.fp_small.specs.Places.{repo}
use Rattle.ost_store.specs.Created.{Creates, NoObject}
use Rattle.fp_small.specs.declared.state.State.{State}
use Rattle.fp_small.specs.declared.op.Op.{Op}
use Rattle.dep_states.specs.After.{state_after, plain, May, IsOnConfig, IsGood}
use Rattle.dep_states.specs.Lasting.{IsLasting, SharesAs}
use Rattle.dep_states.specs.Sound.{Opens}
use Rattle.op_change.specs.Deploys.{Does, SameObjects}
use Rattle.op_change.specs.Applied.{Brings, IsShort, MayChange, HasSettings}

-- The operation brings no commit, the state allows it, and the state can be written
pub record MayPlainly (s : State) (op : Op) : Type 0 where
  pub may : May s op
  pub good : IsGood s
  pub short : IsShort op
  pub brings_none : Brings op → ⊥

-- The operation at each moment: every crash leaves the previous state or the new one
abbrev pub DoesPlainly : State → Op → View → View → Type 0
DoesPlainly s op = Does s (state_after s (plain op)) (MayChange s op)

-- The operation succeeded: every crash leaves exactly the present content, and the new state if
-- every crash left the state `s` before. The store has the same objects, each new file that has
-- bytes was put at a path where it lasts, and no object was made. An operation on the settings left
-- `config` with their text.
pub record WasDonePlainly (s : State) (op : Op) (u w : View) : Type 0 where
  pub opens : Opens s u → Opens (state_after s (plain op)) w
  pub settled : IsSettled w
  pub objects : SameObjects u w
  pub shares : SharesAs IsLasting u w
  pub creates : Creates repo NoObject u w
  pub settings : IsOnConfig op → HasSettings (state_after s (plain op)) u w

-- Memory ran out: if every crash left the state `s` before, it still does, and an operation on the
-- settings changed nothing
pub record IsStarvedPlainly (s : State) (op : Op) (u w : View) : Type 0 where
  pub opens : Opens s u → Opens s w
  pub settings : IsOnConfig op → w ≡ u
