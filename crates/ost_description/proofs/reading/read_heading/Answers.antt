use Rattle.std.proofs.Common.{rules}
use Rattle.ost_description.proofs.Headings.{bad_time, bad_subject, good_heading}
use Rattle.ost_description.proofs.reading.read_heading.Goals as goal

pub returns-in_default-clause-bad : goal.returns-in_default-clause-bad
returns-in_default-clause-bad c = bad_time c.args.bytes.now (search rules)

pub returns-in_default-subject_line-clause-bad : goal.returns-in_default-subject_line-clause-bad
returns-in_default-subject_line-clause-bad c = bad_subject c.args.bytes.now c.in-Some.rest.now c.in-Some.timestamp (search rules) (search rules)

pub returns-clause-reads : goal.returns-clause-reads
returns-clause-reads c = good_heading c.args.bytes.now c.in-Some.rest.now c.in-Some-subject_line.rest.now c.in-Some-subject_line.subject.now c.in-Some.timestamp (search rules) (search rules)
