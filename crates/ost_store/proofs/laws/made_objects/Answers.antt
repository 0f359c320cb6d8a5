use Rattle.ost_store.proofs.Creating.{creates_refl, creates_on, creates_off, created_is_put, put_is_some, not_two, none_made}
use Rattle.ost_store.proofs.laws.made_objects.Goals as goal

pub returns-clause-none : goal.returns-clause-none
returns-clause-none c = λ root v. creates_refl

pub returns-clause-on : goal.returns-clause-on
returns-clause-on c = λ root os u v w first second before after.
    creates_on first second before after

pub returns-clause-off : goal.returns-clause-off
returns-clause-off c = λ root os u v w first second before after.
    creates_off first second before after

pub returns-clause-created : goal.returns-clause-created
returns-clause-created c = created_is_put

pub returns-clause-some : goal.returns-clause-some
returns-clause-some c = put_is_some

pub returns-clause-twice : goal.returns-clause-twice
returns-clause-twice c = not_two

pub returns-clause-lacking : goal.returns-clause-lacking
returns-clause-lacking c = none_made
