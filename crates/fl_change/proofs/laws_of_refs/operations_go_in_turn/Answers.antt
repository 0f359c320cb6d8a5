use Rattle.std.proofs.Common.{◌≡◌, ◌∷◌, refl, subst}
use Rattle.dep_states.specs.After.{Done}
use Rattle.fl_change.specs.Premises.{after_piece, done_piece}
use Rattle.fl_change.specs.Refs.{ops_over}
use Rattle.fl_change.specs.World.{world_after}
use Rattle.fl_change.proofs.laws_of_refs.operations_go_in_turn.Goals as goal

pub returns-clause-none : goal.returns-clause-none
returns-clause-none c held x = refl

pub returns-clause-done : goal.returns-clause-done
returns-clause-done c held x op more d does =
    subst (λ (e : Done). ops_over (op ∷ more) held x ≡ after_piece (done_piece e) (ops_over more held (world_after held x e))) does.is
    (rw does.accepted refl)

pub returns-clause-refused : goal.returns-clause-refused
returns-clause-refused c held x op more refusal is = rw is refl
