use Rattle.std.proofs.Common.{List, map, ap, sym, ◌∙◌}
use Rattle.fp_host.specs.Paths.{Elements, path_text}
use Rattle.fp_host.specs.Reads.{is_ascending}
use Rattle.ost_store.proofs.Sorted.{found_in_order, keyed_in_order}
use Rattle.ost_store.proofs.listing.in_order.Goals as goal

pub returns-then-are_ascending : goal.returns-then-are_ascending
returns-then-are_ascending c =
    found_in_order c.args.paths.items c.from_vec.result c.from_vec.ensures
    (sym c.if-are_ascending.true ∙ c.are_ascending.ensures ∙ ap (λ (l : List Elements). is_ascending (map path_text l)) c.deref.ensures.value)

pub returns : goal.returns
returns c = keyed_in_order c.args.paths.items c.in_ok-keyed.keyed.entries c.from_vec-2.result c.in_ok-keyed.ensures (c.from_vec-2.ensures ∙ c.in_ok-values_in_order.ensures.items) c.in_ok-values_in_order.ensures.ordered
