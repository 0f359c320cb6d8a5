use Rattle.std.proofs.Common.{◌≡◌, ◌≤◌, ◌<◌, ◌+◌, List, suc, length, refl, sym, ◌∙◌, ap, subst, arith}
use Rattle.std.specs.Prelude.{slice_set}
use Rattle.std.proofs.lemmas.List.{length-set}
use Rattle.fp_base.specs.declared.object.ObjKind.TheVariants as kinds
use Rattle.ost_commit.specs.Trees.{AddsTree, names_of, places_in}
use Rattle.ost_commit.proofs.Places.{at_within}
use Rattle.ost_commit.proofs.Keys.{distinct}
use Rattle.ost_model.specs.declared.limits.TheConstants.{MOST_OBJECTS}
use Rattle.ost_commit.specs.declared.directories.Done.{Done}
use Rattle.ost_commit.specs.Entries.{tree_rows}
use Rattle.ost_commit.specs.Sizes.{IsUnwritten, IsLargeDirectory}
use Rattle.ost_commit.proofs.Sizes.{large_directory}
use Rattle.ost_commit.proofs.Holding.{usable_none, fault_for, err_at}
use Rattle.ost_commit.proofs.Written.{AllWritten, are_among, left_next, last_at, written_next, root_written}
use Rattle.ost_commit.proofs.Weights.{HasRoom, room_first, room_next, places_few, popped_long}
use Rattle.ost_commit.proofs.directories.dirtrees_of.Goals as goal

pub loop-folder-init : goal.loop-folder-init
loop-folder-init c = record {
  left = λ i f a. a;
  few = let n = length c.args.folders.items in let same : n ≤ n = omega arith in same;
  long = omega (arith, c.in_ok-done.ensures.len, c.len.ensures, c.args.folders.ok.0, c.in_ok-done.done.ok.0);
  usable = usable_none kinds.DirTree c.new-trees.result.entries c.new-trees.ensures.empty;
  room = let by = c.requires.gathered in room_first by.rows by.said c.args.folders.items by.gathers c.in_ok-done.done.items (length c.args.folders.items) (let n = length c.args.folders.items in let same : n ≤ n = omega arith in same);
  written = λ rows said g digests i f a low. absurd (omega (arith, low, at_within c.args.folders.items i f a));
}

pub add_dirtree-requires-clause-among : goal.add_dirtree-requires-clause-among
add_dirtree-requires-clause-among c =
    let by = c.requires.gathered in
    let after = c.pop.new.self.items in
    let f = c.in-Some.folder in
    are_among by.rows by.said c.args.folders.items by.gathers c.args.contents.now by.digests (length after) f (last_at c.args.folders.items c.loop-folder.folders.items after f c.in-Some.ensures.items c.loop-folder.invariant.left)
    (distinct f.children.entries c.len-count.ensures.ordered) (length c.deref.result.now) (let same = ap length c.deref.ensures.value in let long = c.loop-folder.invariant.long in omega (arith, same, long))

pub add_dirtree-requires-clause-few : goal.add_dirtree-requires-clause-few
add_dirtree-requires-clause-few c =
    let by = c.requires.gathered in
    let all = c.args.folders.items in
    let before = c.loop-folder.folders.items in
    let after = c.pop.new.self.items in
    let f = c.in-Some.folder in
    let ds = c.loop-folder.done.items in
    let f_at = last_at all before after f c.in-Some.ensures.items c.loop-folder.invariant.left in
    let long : length before ≡ suc (length after) = popped_long before after f c.in-Some.ensures.items in
    let few = places_few by.rows by.said all by.gathers ds (length after) f f_at (distinct f.children.entries c.len-count.ensures.ordered) (subst (HasRoom all ds) long c.loop-folder.invariant.room) c.requires.few in
    subst (λ (l : List Done). 2 + places_in l f.children.entries < MOST_OBJECTS) (sym c.deref.ensures.value) few

pub loop-folder-preserved : goal.loop-folder-preserved
loop-folder-preserved c =
    let all = c.args.folders.items in
    let before = c.loop-folder.folders.items in
    let after = c.pop.new.self.items in
    let f = c.in-Some.folder in
    let ds = c.loop-folder.done.items in
    let d = c.in_ok-done-2.field-0 in
    let left = c.loop-folder.invariant.left in
    let at : c.len-at.result ≡ length after = omega (arith, c.len-at.ensures, c.pop.new.self.ok.0) in
    let adds : AddsTree c.args.contents.now c.args.meta ds f.children.entries c.loop-folder.trees.entries c.add_dirtree.new.trees.entries d =
    subst (λ l. AddsTree c.args.contents.now c.args.meta l f.children.entries c.loop-folder.trees.entries c.add_dirtree.new.trees.entries d) c.deref.ensures.value c.in_ok-done-2.ensures.adds in
    record {
      left = left_next all before after f c.in-Some.ensures.items left;
      few = let within = at_within all (length after) f (last_at all before after f c.in-Some.ensures.items left) in omega (arith, within);
      long = length-set ds c.len-at.result d ∙ c.loop-folder.invariant.long;
      usable = c.in_ok-done-2.ensures.usable;
      room =
          let by = c.requires.gathered in
          let f_at = last_at all before after f c.in-Some.ensures.items left in
          let long : length before ≡ suc (length after) = popped_long before after f c.in-Some.ensures.items in
          subst (λ n. HasRoom all (slice_set ds n d) (length after)) (sym at)
          (room_next by.rows by.said all by.gathers ds (length after) f f_at (distinct f.children.entries c.len-count.ensures.ordered)
          (subst (HasRoom all ds) long c.loop-folder.invariant.room) d adds.places c.loop-folder.invariant.long);
      written = subst (λ n. AllWritten all c.args.contents.now c.args.meta c.add_dirtree.new.trees.entries (slice_set ds n d) (length after)) (sym at)
          (written_next all before after f c.in-Some.ensures.items left c.args.contents.now c.args.meta c.loop-folder.trees.entries c.add_dirtree.new.trees.entries ds d c.loop-folder.invariant.long
          (distinct f.children.entries c.len-count.ensures.ordered) adds c.loop-folder.invariant.written);
    }

pub returns-clause-written : goal.returns-clause-written
returns-clause-written c rows said g digests =
    let none : length c.loop-folder.folders.items ≡ 0 = omega (arith, c.in_default.ensures.cases.0, c.loop-folder.folders.ok.0) in
    root_written rows said c.args.folders.items c.args.contents.now c.args.meta (record { trees = c.loop-folder.trees; root = c.index.result.now.tree }) c.loop-folder.done.items g digests
    (subst (AllWritten c.args.folders.items c.args.contents.now c.args.meta c.loop-folder.trees.entries c.loop-folder.done.items) none c.loop-folder.invariant.written)
    c.loop-folder.invariant.long c.index.result.now c.index.ensures refl

pub returns-in_err-done-2-clause-error : goal.returns-in_err-done-2-clause-error
returns-in_err-done-2-clause-error c =
    let all = c.args.folders.items in
    let before = c.loop-folder.folders.items in
    let after = c.pop.new.self.items in
    let f = c.in-Some.folder in
    let names = names_of c.args.contents.now c.args.meta c.deref.result.now in
    let f_at = last_at all before after f c.in-Some.ensures.items c.loop-folder.invariant.left in
    let e = c.in_err-done-2.field-0.0 in
    err_at c.from_residual-in_err-done-2.result e _ c.from_residual-in_err-done-2.ensures.1 (λ rows said g. fault_for (IsUnwritten (tree_rows names f.children.entries)) (IsLargeDirectory rows said) e
    (large_directory rows said all (length after) f names g c.requires.few f_at c.len-count.ensures.ordered) c.in_err-done-2.ensures.error)
