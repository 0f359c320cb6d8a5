use Rattle.fl_words.proofs.Beginnings.{on_to_form, from_form}
use Rattle.fl_words.proofs.laws.usage_is_of_forms_begun.Goals as goal

pub returns-clause-told : goal.returns-clause-told
returns-clause-told c = on_to_form

pub returns-clause-only : goal.returns-clause-only
returns-clause-only c words more n form within is = from_form words more n form is
