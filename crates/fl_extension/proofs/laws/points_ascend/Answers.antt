use Rattle.std.proofs.Common.{flat_map}
use Rattle.std.proofs.lemmas.List.Sorted.{IsPermutation-sym, Contains-permutation}
use Rattle.fp_small.specs.Order.{sorted_by}
use Rattle.fp_small.proofs.Ordered.{is_ascending-sorted_by}
use Rattle.fp_small.proofs.Sorted.{permuted_by}
use Rattle.fl_extension.specs.Points.{name_of, point_of, points_of}
use Rattle.fl_extension.proofs.Groups.{points_distinct}
use Rattle.fl_extension.proofs.Sorting.{same_list}
use Rattle.fl_extension.proofs.laws.points_ascend.Goals as goal

pub returns-clause-ascending : goal.returns-clause-ascending
unfolding points_of
returns-clause-ascending c = λ file r good. is_ascending-sorted_by name_of (flat_map (point_of r) file) (points_distinct r file good)

pub returns-clause-each : goal.returns-clause-each
unfolding points_of
returns-clause-each c = λ file r p.
    let all = flat_map (point_of r) file in
    let moved = permuted_by name_of all in
    (Contains-permutation (sorted_by name_of all) all p (IsPermutation-sym all (sorted_by name_of all) moved), Contains-permutation all (sorted_by name_of all) p moved)

pub returns-clause-alone : goal.returns-clause-alone
unfolding points_of
returns-clause-alone c = λ file r points good up same.
    let all = flat_map (point_of r) file in
    let moved = permuted_by name_of all in
    same_list name_of points (sorted_by name_of all) up (is_ascending-sorted_by name_of all (points_distinct r file good))
    (λ z has. Contains-permutation all (sorted_by name_of all) z moved ((same z).0 has))
    (λ z has. (same z).1 (Contains-permutation (sorted_by name_of all) all z (IsPermutation-sym all (sorted_by name_of all) moved) has))
