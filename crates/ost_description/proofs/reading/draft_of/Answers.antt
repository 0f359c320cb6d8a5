use Rattle.std.proofs.Common.{rules}
use Rattle.ost_description.proofs.Headings.{draft_is}
use Rattle.ost_description.proofs.reading.draft_of.Goals as goal

pub returns-clause-reads : goal.returns-clause-reads
returns-clause-reads c = search (rules, draft_is)
