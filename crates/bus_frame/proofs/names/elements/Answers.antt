use Rattle.std.proofs.Common.{eqb, rules, tests}
use Rattle.std.proofs.lemmas.Iterator.Search.{all_from_yields_List}
use Rattle.std.proofs.lemmas.Iterator.Splits.{YieldsList-from_slice_split}
use Rattle.bus_frame.specs.Names.{is_element}
use Rattle.bus_frame.proofs.names.elements.Goals as goal

pub returns : goal.returns
returns c =
    all_from_yields_List (is_element c.args.alphabet) _ _ _ c.all.ensures.ran
    (YieldsList-from_slice_split _ (λ x. eqb x c.args.separator) c.args.bytes.now c.split.ensures.rest c.split.ensures.done c.split.ensures.closure (λ x b q k. search (rules, tests)))
    (λ x b q k. search (rules, tests))
