use Rattle.std.proofs.Common.{◌∙◌, ap, refl, sym, subst}
use Rattle.fp_host.specs.View.{IsTree}
use Rattle.fp_memhost.specs.Images.{opened}
use Rattle.fp_memhost.specs.Start.{empty_view}
use Rattle.fp_memhost.proofs.Beginning.{begins}
use Rattle.fp_memhost.proofs.Opened.{opened_empty}
use Rattle.fp_memhost.proofs.Quiet.{empty_tree}
use Rattle.fp_memhost.proofs.mem.MemHost.new.Goals as goal

pub new-history-requires-clause-tree : goal.new-history-requires-clause-tree
new-history-requires-clause-tree c = subst IsTree (sym (opened_empty (record { names = c.from_vec.result; files = c.from_vec-2.result }) (c.from_vec.ensures ∙ c.new.ensures.items) (c.from_vec-2.ensures ∙ c.new-2.ensures.items))) empty_tree

pub new-history-requires-clause-same : goal.new-history-requires-clause-same
new-history-requires-clause-same c = c.in_ok-empty.ensures ∙ sym (opened_empty (record { names = c.from_vec.result; files = c.from_vec-2.result }) (c.from_vec.ensures ∙ c.new.ensures.items) (c.from_vec-2.ensures ∙ c.new-2.ensures.items))

pub returns : goal.returns
returns c = begins empty_view (record { history = c.new-history.result; failing = c.new-3.result; faults = 0; starved = 0 })
    (ap opened c.new-history.ensures.start ∙ opened_empty (record { names = c.from_vec.result; files = c.from_vec-2.result }) (c.from_vec.ensures ∙ c.new.ensures.items) (c.from_vec-2.ensures ∙ c.new-2.ensures.items))
    c.new-history.ensures.log c.new-history.ensures.calls c.new-3.ensures.items refl refl
