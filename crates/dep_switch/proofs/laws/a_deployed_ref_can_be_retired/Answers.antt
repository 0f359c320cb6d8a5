use Rattle.dep_switch.proofs.laws.a_deployed_ref_can_be_retired.Goals as goal

pub returns : goal.returns
returns c = λ s v plan planned opens there. record { opens = opens; planned = planned; there = there }
