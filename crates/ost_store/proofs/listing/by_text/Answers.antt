use Rattle.std.proofs.Common.{◌∙◌, ap}
use Rattle.fp_host.specs.Paths.{elements_of}
use Rattle.ost_store.proofs.Sorted.{next_keyed}
use Rattle.ost_store.proofs.listing.by_text.Goals as goal

pub loop-path-preserved-in_ok-insert : goal.loop-path-preserved-in_ok-insert
loop-path-preserved-in_ok-insert c =
    next_keyed c.loop-path.yielded c.in-Some.path c.loop-path.keyed.entries c.insert.new.self.entries c.in_ok-text.text c.loop-path.invariant
    (record { is = c.in_ok-text.ensures.ok ∙ c.text.ensures.text; back = ap elements_of c.in_ok-text.ensures.ok ∙ c.text.ensures.back }) c.in_ok-insert.ensures.entries

pub loop-path-preserved : goal.loop-path-preserved
loop-path-preserved c =
    next_keyed c.loop-path.yielded c.in-Some.path c.loop-path.keyed.entries c.insert.new.self.entries c.in_ok-text.text c.loop-path.invariant
    (record { is = c.in_ok-text.ensures.ok ∙ c.text.ensures.text; back = ap elements_of c.in_ok-text.ensures.ok ∙ c.text.ensures.back }) c.in_ok-insert.ensures.entries
