use Rattle.std.proofs.Common.{◌∙◌, subst}
use Rattle.dep_open.specs.Parts.{seen_in, Adds}
use Rattle.dep_open.proofs.FindingRefs.{good_adds}
use Rattle.dep_open.proofs.refs.add_ref.Goals as goal

pub returns-clause-good : goal.returns-clause-good
returns-clause-good g c =
    good_adds c.in-Some.name c.in_ok-active.active (seen_in c.in_ok-seen.seen) c.args.rows.now.entries c.add.new.rows.entries c.args.damaged.now c.add.new.damaged c.in_ok-seen.ensures.good
    (subst (λ k. Adds k c.in_ok-active.active (seen_in c.in_ok-seen.seen) c.args.rows.now.entries c.args.damaged.now c.add.new.rows.entries c.add.new.damaged) (c.as_str.ensures ∙ c.in_ok-key.ensures.text) c.in_ok-add.ensures)
