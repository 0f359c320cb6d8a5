-- Making room for a commit: clearing `repo/tmp`, and the commit's directory unless it is kept.
use Rattle.std.specs.Prelude.{◌≡◌, ◌⊎◌, Bool, false}
use Rattle.fp_host.specs.Paths.{Elements, Slot}
use Rattle.fp_host.specs.View.{View}
use Rattle.fp_host.specs.Outcome.{Spot}
use Rattle.fp_small.specs.Clear.{GoneBelow, GoneWithin, AbsentBelow, AbsentWithin, IsEmptied, IsCleared, CanEmpty, CanClear}

-- A crash may leave nothing below the path `t`, and unless `kept`, nothing at and below the path
-- `f`
abbrev pub RoomAt : Elements → Elements → Bool → Elements → Spot → Type 0
RoomAt t f kept q spot = GoneBelow t q spot ⊎ ((kept ≡ false) × GoneWithin f q spot)

-- The names below `t` may become absent, and unless `kept`, the name `f` and those below it
abbrev pub RoomName : Elements → Elements → Bool → Elements → Slot → Type 0
RoomName t f kept q e = AbsentBelow t q e ⊎ ((kept ≡ false) × AbsentWithin f q e)

-- Each path below `t` is absent, and unless `kept`, so are `f` and each path below it
pub record HasRoom (t f : Elements) (kept : Bool) (w : View) : Type 0 where
  pub emptied : IsEmptied t w
  pub cleared : kept ≡ false → IsCleared f w

-- Everything below `t` can be cleared, and unless `kept`, also `f` and everything below it
pub record CanMakeRoom (t f : Elements) (kept : Bool) (v : View) : Type 0 where
  pub work : CanEmpty t v
  pub folder : kept ≡ false → CanClear f v
