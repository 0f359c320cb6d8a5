use Rattle.std.proofs.Common.{rules, ◌≡◌, length, false, eqb, None, Some, arith}
use Rattle.std.proofs.lemmas.Str.Pattern.{split_parts}
use Rattle.bus_rules.proofs.Spelling.{plain, signed, no_front}
use Rattle.bus_rules.proofs.reading.rule.Goals as goal

pub returns-in_err-members : goal.returns-in_err-members
returns-in_err-members c =
    let misses = split_parts 64 c.args.text.now None c.in_default.ensures.cases (omega arith) in
    rw c.from_residual.ensures (λ r is. let p = plain r c.args.text.now misses is in c.in_err-members.ensures p.members p.names)

pub returns-in_err-objects : goal.returns-in_err-objects
returns-in_err-objects c =
    let front = c.in-Some.front in
    let path = c.in-Some.path in
    let parts = split_parts 64 c.args.text.now (Some (front, path)) c.in-Some.ensures.cases (omega arith) in
    rw c.from_residual-in_err-objects.ensures (λ r is. let s = signed r c.args.text.now front.now path.now parts.0 parts.1 is in c.in_err-objects.ensures s.objects s.names)

pub returns-in_err-members-2 : goal.returns-in_err-members-2
returns-in_err-members-2 c =
    let front = c.in-Some.front in
    let path = c.in-Some.path in
    let parts = split_parts 64 c.args.text.now (Some (front, path)) c.in-Some.ensures.cases (omega arith) in
    let some : eqb (length front.now) 0 ≡ false = search rules in
    rw c.from_residual-in_err-members-2.ensures (λ r is. no_front r front.now path.now (signed r c.args.text.now front.now path.now parts.0 parts.1 is) some c.in_err-members-2.ensures)
