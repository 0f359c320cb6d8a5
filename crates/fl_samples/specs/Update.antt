-- An update of the sample installation's application.
use Rattle.std.specs.Prelude.{ℕ, List, [], ◌∷◌, codes}
use Rattle.fp_small.specs.Places.{repo}
use Rattle.ost_model.specs.Objects.{store}
use Rattle.dep_states.specs.After.{Done}
use Rattle.fl_change.specs.World.{World, world}
use Rattle.fl_samples.specs.Image.{whole_disk, whole_state}
use Rattle.fl_samples.specs.Operations.{onward}

-- The words of the command
abbrev pub update_words : List (List ℕ)
update_words = codes "update" ∷ codes "app/o.x.A/x86_64/s" ∷ []

-- The state and the objects of the image
abbrev pub whole_world : World
whole_world = world whole_state (store repo whole_disk)

-- The operation, with the time of the commit that it brings
abbrev pub moved_on : Done
moved_on = record { op = onward; timestamp = 3 }
