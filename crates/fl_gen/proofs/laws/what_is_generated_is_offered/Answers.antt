use Rattle.fl_gen.proofs.Offering.{runtimes, applications}
use Rattle.fl_gen.proofs.laws.what_is_generated_is_offered.Goals as goal

pub returns-clause-runtimes : goal.returns-clause-runtimes
returns-clause-runtimes c = runtimes c.exports_are_offers.ensures.offered c.exports_are_offers.ensures.objects

pub returns-clause-applications : goal.returns-clause-applications
returns-clause-applications c = applications c.exports_are_offers.ensures.offered c.exports_are_offers.ensures.objects
