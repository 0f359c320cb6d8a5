use Rattle.std.proofs.Common.{rules, ◌≡◌, ◌<◌, ◌≤◌, length, ◌∙◌, sym, true, false, get_or}
use Rattle.std.specs.Prelude.{nat_eq}
use Rattle.std.specs.List.{starts_with}
use Rattle.bus_rules.proofs.Below.{within-under, not_begun, begun_whole, begun_more}
use Rattle.bus_rules.proofs.within.is_at_or_under.Goals as goal

pub returns-then-not-starts_with : goal.returns-then-not-starts_with
returns-then-not-starts_with c =
    let separator = c.args.separator in
    let path = c.args.text.now in
    let above = c.args.above.now in
    let begins : starts_with nat_eq path above ≡ false = sym c.starts_with.ensures.value ∙ c.if-not-starts_with.true in
    sym (within-under separator path above ∙ not_begun separator path above begins)

pub returns-in-Some : goal.returns-in-Some
returns-in-Some c =
    let separator = c.args.separator in
    let path = c.args.text.now in
    let above = c.args.above.now in
    let begins : starts_with nat_eq path above ≡ true = sym c.starts_with.ensures.value ∙ c.if-not-starts_with.false in
    let longer : length above < length path = search rules in
    let next : get_or path (length above) 0 ≡ c.in-Some.next.now = search rules in
    sym (within-under separator path above ∙ begun_more separator path above c.in-Some.next.now begins longer next)

pub returns-in-None : goal.returns-in-None
returns-in-None c =
    let separator = c.args.separator in
    let path = c.args.text.now in
    let above = c.args.above.now in
    let begins : starts_with nat_eq path above ≡ true = sym c.starts_with.ensures.value ∙ c.if-not-starts_with.false in
    let whole : length path ≤ length above = search rules in
    sym (within-under separator path above ∙ begun_whole separator path above begins whole)
