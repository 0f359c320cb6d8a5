use Rattle.std.proofs.Common.{lit<, Some, None, sym}
use Rattle.std.specs.List.{slice_split}
use Rattle.fp_name.specs.Bytes.{is_slash}
use Rattle.fp_name.proofs.Cuts.{cuts_once, contains_true, contains_false}
use Rattle.fp_name.proofs.FourParts.{one_part, two_parts, three_parts, more_parts}
use Rattle.fp_name.proofs.parts.parts_remainder.Goals as goal

pub returns-in_err-id : goal.returns-in_err-id
returns-in_err-id c =
    let text = c.args.text.now in
    rw c.from_residual.ensures (sym (one_part c.args.kind (slice_split is_slash text) text (cuts_once 47 text None c.in_err-id.ensures.cases (lit< tt))))

pub returns-in_err-arch : goal.returns-in_err-arch
returns-in_err-arch c =
    let text = c.args.text.now in
    let rest = c.in_ok-id.rest.now in
    let first = cuts_once 47 text (Some (c.in_ok-id.id, c.in_ok-id.rest)) c.in_ok-id.ensures.cases (lit< tt) in
    let second = cuts_once 47 rest None c.in_err-arch.ensures.cases (lit< tt) in
    rw c.from_residual-in_err-arch.ensures (sym (two_parts c.args.kind (slice_split is_slash text) c.in_ok-id.id.now rest (slice_split is_slash rest) first.0 second))

pub returns-then-contains : goal.returns-then-contains
returns-then-contains c =
    let text = c.args.text.now in
    let rest = c.in_ok-id.rest.now in
    let branch = c.in_ok-arch.branch.now in
    let first = cuts_once 47 text (Some (c.in_ok-id.id, c.in_ok-id.rest)) c.in_ok-id.ensures.cases (lit< tt) in
    let second = cuts_once 47 rest (Some (c.in_ok-arch.arch, c.in_ok-arch.branch)) c.in_ok-arch.ensures.cases (lit< tt) in
    let third = contains_true 47 branch c.contains.result c.contains.ensures.cases (lit< tt) c.if-contains.true in
    sym (more_parts c.args.kind (slice_split is_slash text) c.in_ok-id.id.now c.in_ok-arch.arch.now (slice_split is_slash rest) (slice_split is_slash branch) first.0 second.0 third)

pub returns : goal.returns
returns c =
    let text = c.args.text.now in
    let rest = c.in_ok-id.rest.now in
    let branch = c.in_ok-arch.branch.now in
    let first = cuts_once 47 text (Some (c.in_ok-id.id, c.in_ok-id.rest)) c.in_ok-id.ensures.cases (lit< tt) in
    let second = cuts_once 47 rest (Some (c.in_ok-arch.arch, c.in_ok-arch.branch)) c.in_ok-arch.ensures.cases (lit< tt) in
    let third = contains_false 47 branch c.contains.result c.contains.ensures.cases (lit< tt) c.if-contains.false in
    sym (three_parts c.args.kind (slice_split is_slash text) c.in_ok-id.id.now c.in_ok-arch.arch.now branch (slice_split is_slash rest) (slice_split is_slash branch) first.0 second.0 third)
