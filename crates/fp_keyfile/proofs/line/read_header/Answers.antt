use Rattle.std.proofs.Common.{◌≡◌, ◌&&◌, false, Some, None, sym, ap, ◌∙◌, lit<}
use Rattle.std.specs.List.{list_all}
use Rattle.std.proofs.lemmas.Bool.{and_left, and_right}
use Rattle.fp_keyfile.specs.Grammar.{is_blank, is_name}
use Rattle.fp_keyfile.specs.Lines.{header_at}
use Rattle.fp_keyfile.proofs.Cuts.{split_once_is, header_found, header_refused}
use Rattle.fp_keyfile.proofs.line.read_header.Goals as goal
use Rattle.fp_keyfile.proofs.line.read_header.Goals.{else-is_group_name-via-then-is_group_name+else-are_blank, else-is_group_name-via-else-is_group_name}

pub returns-in_default : goal.returns-in_default
returns-in_default c = sym (ap header_at (split_once_is 93 c.args.text.now None c.in_default.ensures.cases (lit< tt)))

pub returns-then-are_blank : goal.returns-then-are_blank
returns-then-are_blank c =
    let name = c.in-Some.name in
    let rest = c.in-Some.rest in
    let cut = split_once_is 93 c.args.text.now (Some (name, rest)) c.in-Some.ensures.cases (lit< tt) in
    let blank = ap (list_all is_blank) (sym c.as_bytes.ensures.value) ∙ sym c.are_blank.ensures ∙ c.if-are_blank.true in
    header_found c.args.text.now name.now rest.now cut (sym c.is_group_name.ensures ∙ c.if-is_group_name.true) blank

pub returns-else-is_group_name : goal.returns-else-is_group_name
returns-else-is_group_name c =
    let name = c.in-Some.name in
    let rest = c.in-Some.rest in
    let cut = split_once_is 93 c.args.text.now (Some (name, rest)) c.in-Some.ensures.cases (lit< tt) in
    let bad : (is_name name.now && list_all is_blank rest.now) ≡ false =
    elim c.else-is_group_name.branch [
      | else-is_group_name-via-then-is_group_name+else-are_blank w ↦ and_right (is_name name.now) (list_all is_blank rest.now) (ap (list_all is_blank) (sym w.as_bytes.ensures.value) ∙ sym w.are_blank.ensures ∙ w.if-are_blank.false)
      | else-is_group_name-via-else-is_group_name w ↦ and_left (is_name name.now) (list_all is_blank rest.now) (sym c.is_group_name.ensures ∙ w.if-is_group_name.false)
    ] in
    header_refused c.args.text.now name.now rest.now cut bad
