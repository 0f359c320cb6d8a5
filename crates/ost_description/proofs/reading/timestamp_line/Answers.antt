use Rattle.std.proofs.Common.{◌≡◌, None, rules}
use Rattle.fp_base.proofs.Lines.{remainder_is_shorter}
use Rattle.ost_description.specs.Descriptions.{timestamp_in, first_by, pieces}
use Rattle.ost_description.proofs.LineLemmas.{no_line, bad_first, good_first}
use Rattle.ost_description.proofs.reading.timestamp_line.Goals as goal

pub returns-in_err-line-clause-line : goal.returns-in_err-line-clause-line
returns-in_err-line-clause-line c =
    let none : first_by timestamp_in (pieces c.args.bytes.now) ≡ None = no_line timestamp_in c.args.bytes.now (search rules) in
    rw none (search rules)

pub returns-in_err-timestamp_of-clause-line : goal.returns-in_err-timestamp_of-clause-line
returns-in_err-timestamp_of-clause-line c =
    let none : first_by timestamp_in (pieces c.args.bytes.now) ≡ None =
    bad_first timestamp_in c.args.bytes.now c.in_ok-line.line.now c.in_ok-line.rest.now (search rules) (search rules) in
    rw none (search rules)

pub returns-clause-line : goal.returns-clause-line
returns-clause-line c = good_first timestamp_in c.in_ok-timestamp_of.field-0 c.args.bytes.now c.in_ok-line.line.now c.in_ok-line.rest.now (search rules) (search rules)

pub returns-clause-shorter : goal.returns-clause-shorter
returns-clause-shorter c = remainder_is_shorter c.args.bytes.now c.in_ok-line.line.now c.in_ok-line.rest.now (search rules)
