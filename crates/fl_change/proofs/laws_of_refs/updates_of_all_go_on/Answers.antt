use Rattle.std.proofs.Common.{◌≡◌, ◌∷◌, refl, subst}
use Rattle.dep_states.specs.After.{Done}
use Rattle.fl_change.specs.Premises.{after_piece, done_piece, targets_over}
use Rattle.fl_change.specs.World.{world_after}
use Rattle.fl_change.proofs.laws_of_refs.updates_of_all_go_on.Goals as goal

pub returns-clause-begins : goal.returns-clause-begins
returns-clause-begins c held x = refl

pub returns-clause-none : goal.returns-clause-none
returns-clause-none c held x = refl

pub returns-clause-skips : goal.returns-clause-skips
returns-clause-skips c held x name more is = rw is refl

pub returns-clause-stays : goal.returns-clause-stays
returns-clause-stays c held x name more is = rw is refl

pub returns-clause-brings : goal.returns-clause-brings
returns-clause-brings c held x name more op d is does =
    subst (λ (e : Done). targets_over (name ∷ more) held x ≡ after_piece (done_piece e) (targets_over more held (world_after held x e))) does.is
    (rw (is, does.accepted) refl)

pub returns-clause-refused : goal.returns-clause-refused
returns-clause-refused c held x name more refusal is = rw is refl
