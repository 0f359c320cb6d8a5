use Rattle.std.proofs.Common.{rules}
use Rattle.std.proofs.lemmas.Cmp.{nat_list_cmp_total}
use Rattle.std.proofs.lemmas.List.Sorted.{ranks_by, answers_always}
use Rattle.fp_small.specs.Order.{comes_before}
use Rattle.fl_extension.specs.Points.{name_of}
use Rattle.fl_extension.proofs.Sorting.{sort_is}
use Rattle.fl_extension.proofs.reading.sort_by_name.Goals as goal

pub returns : goal.returns
returns c =
    sort_is name_of _ _ c.requires c.sort_unstable_by.ensures.permutation
    (c.sort_unstable_by.ensures.sorted (λ x y. comes_before (name_of x) (name_of y)) (ranks_by nat_list_cmp_total name_of) (answers_always _ _ _ (λ f a r g h. search rules)))
