-- The view of the small installation opens as its state.
use Rattle.std.proofs.Common.{◌≡◌, true, refl}
use Rattle.std.specs.List.{list_all}
use Rattle.std.specs.Str.{is_utf8, chars}
use lib.Utf8.{encode}
use Rattle.fp_host.specs.Paths.{Elements}
use Rattle.fp_host.specs.View.{View, IsTree}
use Rattle.fp_host.specs.Outcome.{IsSettled, shows}
use Rattle.dep_states.specs.Sound.{Opens, IsSound}
use Rattle.dep_states.proofs.Openings.{shown_opens}
use Rattle.dep_states.proofs.Usual.{opens_sound}
use Rattle.fl_samples.specs.Image.{whole_rows, whole_disk, whole_state}
use Rattle.fl_samples.specs.Views.{file_among, view_of}
use Rattle.fl_samples.proofs.Trees.{has_parent, is_own, IsForest, forest_tree, forest_settled, forest_shows}
use Rattle.fl_samples.proofs.WholeShown.{whole_shows, whole_sound}

parents : list_all (λ r. has_parent whole_rows r.0) whole_rows ≡ true
parents = refl

own : list_all (λ r. is_own (file_among whole_rows) r.1) whole_rows ≡ true
unfolding is_utf8 chars encode
own = refl

pub whole_forest : IsForest whole_rows
whole_forest = record { root = refl; parents = parents; own = own }

pub whole_tree : IsTree (view_of whole_rows)
whole_tree = forest_tree whole_forest

pub whole_quiet : IsSettled (view_of whole_rows)
whole_quiet = forest_settled whole_forest

pub whole_seen : (p : Elements) → shows (view_of whole_rows) p ≡ whole_disk p
whole_seen = forest_shows whole_forest

-- wherever just this stands
pub any_opens : (v : View) → IsTree v → IsSettled v → ((p : Elements) → shows v p ≡ whole_disk p) → Opens whole_state v
any_opens v tree settled same = shown_opens v whole_disk tree settled same whole_shows whole_sound

pub whole_opens : Opens whole_state (view_of whole_rows)
whole_opens = any_opens (view_of whole_rows) whole_tree whole_quiet whole_seen

pub whole_is_sound : IsSound (view_of whole_rows)
whole_is_sound = opens_sound whole_opens
