use Rattle.std.proofs.Common.{arith}
use Rattle.ost_commit.specs.Refusals.{first_refused}
use Rattle.ost_description.specs.Descriptions.{described, checked_description}
use Rattle.ost_description.proofs.Judging.{as_read, fault_of, read_fault, number_within}
use Rattle.ost_description.proofs.committing.commit_description.Goals as goal

pub refusal-requires : goal.refusal-requires
refusal-requires g c =
    let rows = c.in_ok-draft.draft.description.rows in
    let tree = c.in_ok-draft.draft.description in
    let fault = fault_of c.as_slice-rows.result.now rows c.args.name.now c.as_str.result.now tree.subject tree.timestamp c.in-Err.error c.as_slice-rows.ensures c.as_str.ensures c.in-Err.ensures.error in
    record {
      small = λ number e. (
          let within = number_within rows c.args.name.now tree.subject tree.timestamp c.in-Err.error number fault e in
          omega (arith, within, c.in_ok-draft.ensures.few, c.type_inv.bytes));
    }

pub returns-clause-error : goal.returns-clause-error
returns-clause-error g c =
    let d = c.in_ok-draft.draft.description in
    let fault = fault_of c.as_slice-rows.result.now d.rows c.args.name.now c.as_str.result.now d.subject d.timestamp c.in-Err.error c.as_slice-rows.ensures c.as_str.ensures c.in-Err.ensures.error in
    as_read c.args.name.now (described c.args.bytes.now) (checked_description d c.in_ok-draft.draft.unformed (first_refused d.rows)) c.refusal.result c.in_ok-draft.ensures.reads (c.refusal.ensures d c.args.name.now fault)

pub returns-in_err-draft-clause-error : goal.returns-in_err-draft-clause-error
returns-in_err-draft-clause-error g c =
    read_fault c.from_residual.result c.in_err-draft.field-0.0 c.args.name.now c.args.bytes.now c.from_residual.ensures.1 c.in_err-draft.ensures.bad
