use Rattle.std.proofs.Common.{◌∙◌}
use Rattle.fl_export.proofs.InOrder.{partly_next}
use Rattle.fl_export.proofs.listing.by_path.Goals as goal

pub loop-row-preserved : goal.loop-row-preserved
loop-row-preserved c =
    partly_next c.args.rows.items c.loop-row.rows.items c.pop.new.self.items c.in-Some.row c.in_ok-path.path c.loop-row.keyed.entries c.insert.new.self.entries c.loop-row.invariant c.in-Some.ensures.items (c.in_ok-path.ensures.ok ∙ c.text.ensures.text) c.in_ok-insert.ensures.entries

pub loop-row-preserved-in_ok-insert : goal.loop-row-preserved-in_ok-insert
loop-row-preserved-in_ok-insert c =
    partly_next c.args.rows.items c.loop-row.rows.items c.pop.new.self.items c.in-Some.row c.in_ok-path.path c.loop-row.keyed.entries c.insert.new.self.entries c.loop-row.invariant c.in-Some.ensures.items (c.in_ok-path.ensures.ok ∙ c.text.ensures.text) c.in_ok-insert.ensures.entries

pub loop-row-preserved-in_ok-insert-2 : goal.loop-row-preserved-in_ok-insert-2
loop-row-preserved-in_ok-insert-2 c =
    partly_next c.args.rows.items c.loop-row.rows.items c.pop.new.self.items c.in-Some.row c.in_ok-path.path c.loop-row.keyed.entries c.insert.new.self.entries c.loop-row.invariant c.in-Some.ensures.items (c.in_ok-path.ensures.ok ∙ c.text.ensures.text) c.in_ok-insert.ensures.entries
