use Rattle.ost_description.proofs.ReadBack.{reads_back, stops_remainder}
use Rattle.ost_description.proofs.laws.written_descriptions_read_back.Goals as goal

pub returns-clause-reads : goal.returns-clause-reads
returns-clause-reads c = reads_back

pub returns-clause-stops : goal.returns-clause-stops
returns-clause-stops c = stops_remainder
