-- Operations that may be done on the small installation.
use Rattle.std.proofs.Common.{◌≡◌, ◌∷◌, refl}
use Rattle.fp_base.proofs.Texts.{bytes_eq-false}
use Rattle.fp_small.specs.declared.op.Op.TheVariants.{Migrate}
use Rattle.dep_states.specs.After.{May, IsGood, after_op}
use Rattle.dep_states.proofs.Good.{shown_good}
use Rattle.fl_samples.specs.Image.{app_row, whole_disk, whole_state}
use Rattle.fl_samples.specs.Objects as objects
use Rattle.fl_samples.specs.Operations.{back, onward, away, back_row, onward_row, runtime_rows, with_rows, old_state}
use Rattle.fl_samples.proofs.WholeShown.{whole_shows}

pub may_go_back : May whole_state back
may_go_back = record { layout = refl; allows = (app_row, refl, (record { commit = objects.old_commit.digest; timestamp = 1 }, refl, refl)) }

pub may_go_on : May whole_state onward
may_go_on = record { layout = refl; allows = ((app_row, refl, bytes_eq-false objects.app_commit.digest objects.new_commit.digest refl), refl, refl) }

pub may_go_away : May whole_state away
may_go_away = record { layout = refl; allows = λ e. cc }

pub goes_back : after_op whole_state 0 back ≡ with_rows (back_row ∷ runtime_rows)
goes_back = refl

pub goes_on : after_op whole_state 3 onward ≡ with_rows (onward_row ∷ runtime_rows)
goes_on = refl

pub goes_away : after_op whole_state 0 away ≡ with_rows runtime_rows
goes_away = refl

pub whole_good : IsGood whole_state
whole_good = shown_good whole_disk whole_state whole_shows

pub may_migrate : May old_state Migrate
may_migrate = record { layout = refl; allows = tt }

pub migrates : after_op old_state 0 Migrate ≡ whole_state
migrates = refl
