use Rattle.std.proofs.Common.{List, ℕ, rules}
use Rattle.std.proofs.lemmas.List.{map-id}
use Rattle.std.proofs.lemmas.Cmp.{nat_list_cmp_total}
use Rattle.std.proofs.lemmas.List.Sorted.{ranks_by, answers_always}
use Rattle.fp_small.specs.Order.{comes_before}
use Rattle.fl_extension.proofs.Sorting.{sort_is}
use Rattle.fl_installed.proofs.info.sort_names.Goals as goal

pub returns : goal.returns
returns c =
    let name : List ℕ → List ℕ = λ n. n in
    sort_is name _ _ (rw map-id c.requires) c.sort_unstable_by.ensures.permutation
    (c.sort_unstable_by.ensures.sorted (λ x y. comes_before x y) (ranks_by nat_list_cmp_total name) (answers_always _ _ _ (λ f a r g h. search rules)))
