use Rattle.std.proofs.Common.{◌≡◌, ◌<◌, ◌≤◌, [], length, drop, sym, ap, ◌∙◌, rules, arith}
use Rattle.std.specs.Ordering.{nat_cmp}
use Rattle.std.specs.Cmp.Lexicographic.{slice_cmp}
use Rattle.std.specs.declared.cmp.Ordering.TheVariants.{Less, Equal, Greater}
use Rattle.ost_model.specs.Readers.{shares}
use Rattle.ost_object.specs.Views.{names_of_files, names_of_dirs}
use Rattle.ost_object.proofs.Merging.{merge_less, merge_greater, merge_equal, none_shared, past_end}
use Rattle.ost_object.proofs.tree_rules.share_a_name.Goals as goal

pub returns-in-Equal : goal.returns-in-Equal
returns-in-Equal c =
    let low_i : c.loop-i.i < length c.args.files.now = search rules in
    let low_j : c.loop-i.j < length c.args.dirs.now = search rules in
    let is : slice_cmp nat_cmp c.index-files-i.result.name c.index-dirs-j.result.name ≡ Equal = search rules in
    merge_equal c.args.files.now c.args.dirs.now c.loop-i.i c.loop-i.j c.index-files-i.result c.index-dirs-j.result low_i low_j c.index-files-i.is c.index-dirs-j.is is
    ∙ c.loop-i.invariant.same

pub loop-i-preserved-in-Less : goal.loop-i-preserved-in-Less
loop-i-preserved-in-Less c =
    let low_i : c.loop-i.i < length c.args.files.now = search rules in
    let low_j : c.loop-i.j < length c.args.dirs.now = search rules in
    let is : slice_cmp nat_cmp c.index-files-i.result.name c.index-dirs-j.result.name ≡ Less = search rules in
    record {
      files = omega (arith, low_i);
      dirs = c.loop-i.invariant.dirs;
      same = merge_less c.args.files.now c.args.dirs.now c.loop-i.i c.loop-i.j c.index-files-i.result c.index-dirs-j.result low_i low_j c.index-files-i.is c.index-dirs-j.is c.requires.dirs is
          ∙ c.loop-i.invariant.same;
    }

pub loop-i-preserved : goal.loop-i-preserved
loop-i-preserved c =
    let low_i : c.loop-i.i < length c.args.files.now = search rules in
    let low_j : c.loop-i.j < length c.args.dirs.now = search rules in
    let is : slice_cmp nat_cmp c.index-files-i.result.name c.index-dirs-j.result.name ≡ Greater = search rules in
    record {
      files = c.loop-i.invariant.files;
      dirs = omega (arith, low_j);
      same = merge_greater c.args.files.now c.args.dirs.now c.loop-i.i c.loop-i.j c.index-files-i.result c.index-dirs-j.result low_i low_j c.index-files-i.is c.index-dirs-j.is c.requires.files is
          ∙ c.loop-i.invariant.same;
    }

pub returns-else-j-dirs : goal.returns-else-j-dirs
returns-else-j-dirs c =
    let end : length c.args.dirs.now ≤ c.loop-i.j = search rules in
    let none : drop c.loop-i.j c.args.dirs.now ≡ [] = past_end c.args.dirs.now c.loop-i.j end in
    sym (none_shared (names_of_files (drop c.loop-i.i c.args.files.now))) ∙ ap (λ l. shares (names_of_files (drop c.loop-i.i c.args.files.now)) (names_of_dirs l)) (sym none) ∙ c.loop-i.invariant.same
