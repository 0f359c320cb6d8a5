-- The objects that operations make in the store.
use Rattle.std.specs.Prelude.{◌≡◌, ℕ, List, [], ◌∷◌, true, None, map}
use Rattle.fp_host.specs.Remote.{Holdings}
use Rattle.fp_host.specs.View.{View}
use Rattle.fp_name.specs.Hex.{is_digest}
use Rattle.fp_base.specs.declared.object.ObjKind.{ObjKind}
use Rattle.fp_small.specs.Files.{KeepsFiles}
use Rattle.fp_small.specs.Places.{repo}
use Rattle.fp_small.specs.declared.op.Op.{Op}
use Rattle.ost_model.specs.Objects.{Have}
use Rattle.ost_model.specs.Order.{In, order}
use Rattle.ost_store.specs.Created.{Creates, NoObject}
use Rattle.ost_walk.specs.Steps.{place_name}
use Rattle.dep_states.specs.After.{Done}
use Rattle.dep_states.specs.Effects.{Effect, effect_of, brings, writes}
use Rattle.fl_change.specs.World.{World, supplied, world_after}

-- The object is in the commit's order by the objects of `supply`, and `own` doesn't have it
pub record Lacks (supply own : Have) (commit : List ℕ) (o : List ℕ × ObjKind) : Type 0 where
  pub digits : is_digest o.0 ≡ true
  pub ordered : In (map place_name (order supply commit)) o
  pub lacked : own o.0 o.1 ≡ None

-- The effect brings a commit that has the object by the objects of `from`, and `own` doesn't have
-- it
abbrev pub LacksBy : Have → Have → Effect → List ℕ × ObjKind → Type 0
LacksBy from own (brings name remote commit) o = Lacks from own commit o
LacksBy from own (writes write) o = ⊥

-- The operation lacks the object: it brings a commit that has it, and the world doesn't have it
abbrev pub LacksFor : Holdings → World → Op → List ℕ × ObjKind → Type 0
LacksFor held x op o = LacksBy (supplied held x op) x.have (effect_of op) o

-- From `u` to `w`, the operations make objects one after another, each exactly those that it lacks
-- in the world that the previous ones leave. After the last operation, no object is made.
abbrev pub CreatesInTurn : Holdings → World → List Done → View → View → Type 0
CreatesInTurn held x [] u w = Creates repo NoObject u w
CreatesInTurn held x (done ∷ rest) u w =
    (v : View) × KeepsFiles u v × KeepsFiles v w × Creates repo (LacksFor held x done.op) u v
    × CreatesInTurn held (world_after held x done) rest v w
