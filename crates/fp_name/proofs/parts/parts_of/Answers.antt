use Rattle.std.proofs.Common.{lit<, Some, None, sym, ◌∙◌, ap, option_and_then}
use Rattle.std.specs.List.{slice_split}
use Rattle.fp_name.specs.Bytes.{is_slash}
use Rattle.fp_name.specs.Refs.{remainder_kind}
use Rattle.fp_name.proofs.Cuts.{cuts_once}
use Rattle.fp_name.proofs.FourParts.{of_word, only_word, not_kind}
use Rattle.fp_name.proofs.parts.parts_of.Goals as goal

pub returns-in_err-word : goal.returns-in_err-word
returns-in_err-word c =
    let text = c.args.text.now in
    rw c.from_residual.ensures (sym (only_word text (slice_split is_slash text) (cuts_once 47 text None c.in_err-word.ensures.cases (lit< tt))))

pub returns-in_err-kind : goal.returns-in_err-kind
returns-in_err-kind c =
    let text = c.args.text.now in
    let rest = c.in_ok-word.rest.now in
    let first = cuts_once 47 text (Some (c.in_ok-word.word, c.in_ok-word.rest)) c.in_ok-word.ensures.cases (lit< tt) in
    rw c.from_residual-in_err-kind.ensures (sym (not_kind c.in_ok-word.word.now (slice_split is_slash text) (slice_split is_slash rest) first.0 (sym c.in_err-kind.ensures)))

pub returns : goal.returns
returns c =
    let text = c.args.text.now in
    let rest = c.in_ok-word.rest.now in
    let first = cuts_once 47 text (Some (c.in_ok-word.word, c.in_ok-word.rest)) c.in_ok-word.ensures.cases (lit< tt) in
    c.parts_remainder.ensures ∙ sym (of_word c.in_ok-word.word.now (slice_split is_slash text) (slice_split is_slash rest) first.0 ∙ ap (option_and_then (remainder_kind (slice_split is_slash rest))) (sym c.in_ok-kind.ensures))
