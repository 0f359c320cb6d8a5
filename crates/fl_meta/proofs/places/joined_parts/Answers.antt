use Rattle.std.proofs.Common.{◌++◌, ap, ◌∙◌}
use Rattle.std.specs.List.{slice_split}
use Rattle.fl_meta.specs.Places.{is_slash, parts_text, without_ends}
use Rattle.fl_meta.proofs.Normal.{normal-cut, normal-whole}
use Rattle.fl_meta.proofs.Searches.{no_slash, first_slash}
use Rattle.fl_meta.proofs.places.joined_parts.Goals as goal

pub returns-in_ok-push_parts-in-Some : goal.returns-in_ok-push_parts-in-Some
returns-in_ok-push_parts-in-Some c =
    let first = c.in-Some.first in
    let rest = c.in-Some.rest in
    let cut = first_slash c.args.text.now (first, rest) c.in-Some.ensures.cases in
    ap without_ends (c.in_ok-push_parts-in-Some.ensures ∙ ap (λ l. l ++ parts_text (slice_split is_slash rest.now)) c.in_ok-out-in-Some.ensures.ok) ∙ normal-cut c.args.text.now first.now rest.now cut.0 cut.1

pub returns-in_ok-from_str-in-None : goal.returns-in_ok-from_str-in-None
returns-in_ok-from_str-in-None c =
    ap without_ends c.in_ok-from_str-in-None.ensures.ok ∙ normal-whole c.args.text.now (no_slash c.args.text.now c.in-None.ensures.cases)
