use Rattle.dep_switch.proofs.laws.what_is_staged_can_be_switched.Goals as goal

pub returns : goal.returns
returns c = λ s row staged u w leads can was. record { old = s; row = row; leads = leads; ready = was.staged can }
