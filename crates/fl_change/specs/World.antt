-- Worlds, on which commands work: the state of the installation, and the objects that it has.
use Rattle.std.specs.Prelude.{ℕ, List, [], ◌∷◌, Bool, ◌&&◌, None, if◌then◌else◌}
use Rattle.std.specs.List.{list_any}
use Rattle.std.specs.Str.{bytes_eq}
use Rattle.fp_base.specs.Objects.{is_kind}
use Rattle.fp_host.specs.Outcome.{Disk, shows}
use Rattle.fp_host.specs.Remote.{Holdings}
use Rattle.fp_host.specs.View.{View}
use Rattle.fp_base.specs.declared.object.ObjKind.{ObjKind}
use Rattle.fp_small.specs.Places.{repo}
use Rattle.fp_small.specs.declared.state.State.{State}
use Rattle.fp_small.specs.declared.op.Op.{Op}
use Rattle.ost_model.specs.Objects.{Have, store, supply}
use Rattle.ost_model.specs.Order.{Place, order}
use Rattle.ost_model.specs.Remotes.{remote}
use Rattle.dep_states.specs.After.{Done, state_after}
use Rattle.dep_tidy.specs.Kept.{kept_of}
use Rattle.dep_states.specs.Effects.{Effect, effect_of, brings, writes}
use Rattle.op_change.specs.Applied.{url_of}

-- ---- the objects that commits use

-- Tests whether the place of an order has this object
abbrev pub is_at : List ℕ → ObjKind → Place → Bool
is_at d kind p = bytes_eq p.digest d && is_kind p.kind kind

-- The commits that a state keeps: of each ref its commit and its previous one
abbrev pub kept_commits : State → List (List ℕ)
kept_commits s = kept_of s.refs

-- Tests whether the object is in the order of a commit that the state keeps
abbrev pub is_used : State → Have → List ℕ → ObjKind → Bool
is_used s have d kind =
    list_any (λ commit. list_any (is_at d kind) (order have commit)) (kept_commits s)

-- The objects of `have` that the commits of the state use
unfoldable pub used_of : State → Have → Have
used_of s have d kind = if is_used s have d kind then have d kind else None

-- ---- worlds

-- The state of an installation, and the objects that its commits use
pub record World : Type 0 where
  pub state : State
  pub have : Have

-- The world of a state and the objects of a store. An object that no kept commit uses counts as
-- absent, since tidying prunes it before the first operation.
abbrev pub world : State → Have → World
world s have = record { state = s; have = used_of s have }

-- The world of an image that shows this state
abbrev pub world_in : State → Disk → World
world_in s disk = world s (store repo disk)

-- The world of the present content of a view that shows this state
abbrev pub world_at : State → View → World
world_at s v = world_in s (shows v)

-- ---- what operations make of a world

-- The objects that an effect starts with: those of the world, and if it brings a commit, those of
-- its remote where the world has none
abbrev pub supplied_by : Holdings → World → Effect → Have
supplied_by held x (brings name origin commit) =
    supply x.have (remote held (url_of x.state origin))
supplied_by held x (writes write) = x.have

-- The objects that an operation starts with: those of the world, and if it brings a commit, those
-- of its remote where the world has none
abbrev pub supplied : Holdings → World → Op → Have
supplied held x op = supplied_by held x (effect_of op)

-- The world after an operation: the new state, with those of the objects that its commits use
abbrev pub world_after : Holdings → World → Done → World
world_after held x done = world (state_after x.state done) (supplied held x done.op)

-- The world after operations, one after another
abbrev pub worlds_after : Holdings → World → List Done → World
worlds_after held x [] = x
worlds_after held x (done ∷ more) = worlds_after held (world_after held x done) more
