use Rattle.std.proofs.Common.{◌≡◌, ◌<◌, drop, sym, ◌∙◌, ap, subst, arith, length-drop, true}
use Rattle.ost_commit.specs.Refusals.{is_content}
use Rattle.ost_commit.specs.Folders.{with_above, FolderAt, Enters, Entered}
use Rattle.ost_commit.proofs.Descending.{next_up, names_few, reached_drop, content_drop, reached_end}
use Rattle.ost_commit.proofs.tree.Tree.folder_above.Goals as goal

pub enter-requires-clause-gathered : goal.enter-requires-clause-gathered
enter-requires-clause-gathered c =
    let by = c.requires.gathered in
    record {
      rows = by.rows;
      said = with_above by.said (drop c.loop-up.up c.args.path.now);
      gathers = (c.loop-up.invariant.reached by.rows by.said by.gathers).gathers;
    }

pub enter-requires-clause-at : goal.enter-requires-clause-at
enter-requires-clause-at c =
    let by = c.requires.gathered in
    let up = next_up c.loop-up.up c.args.path.now c.loop-up-test.true c.loop-up.invariant.bound in
    let is : drop 1 c.in_ok-folder.field-0 ≡ drop c.loop-up.up c.args.path.now = ap (drop 1) (c.in_ok-folder.ensures ∙ up.1) in
    subst (FolderAt c.loop-up.self.folders.items c.loop-up.folder) (sym is) (c.loop-up.invariant.reached by.rows by.said by.gathers).at

pub enter-requires-clause-few : goal.enter-requires-clause-few
enter-requires-clause-few c =
    let by = c.requires.gathered in
    let names = (c.loop-up.invariant.reached by.rows by.said by.gathers).names in
    let few = names_few by.said (drop c.loop-up.up c.args.path.now) in
    let long = length-drop c.loop-up.up c.args.path.now in
    omega (arith, names, few, long, c.requires.short, c.requires.few)

pub loop-up-preserved : goal.loop-up-preserved
loop-up-preserved c =
    let u = c.loop-up.up in
    let path = c.args.path.now in
    let low : 1 < u = c.loop-up-test.true in
    record {
      reached = λ rows said g.
          let r = c.loop-up.invariant.reached rows said g in
          let entered = subst (Enters rows (with_above said (drop u path)) c.in_ok-folder.field-0 c.loop-up.self c.enter.new.self) c.in-Some.is (c.in_ok-below.ensures rows (with_above said (drop u path)) r.gathers) in
          reached_drop rows said u path c.args.self.now c.loop-up.self c.enter.new.self c.loop-up.folder c.in-Some.below low c.loop-up.invariant.bound r
          (subst (λ p. Entered rows (with_above said (drop u path)) p c.loop-up.self c.enter.new.self c.in-Some.below) c.in_ok-folder.ensures entered);
      bound = let bound = c.loop-up.invariant.bound in omega (arith, bound);
      begun = λ e. absurd (omega (arith, e, low));
    }

pub returns-in-None : goal.returns-in-None
returns-in-None c rows said g =
    let u = c.loop-up.up in
    let path = c.args.path.now in
    let r = c.loop-up.invariant.reached rows said g in
    let stands = subst (Enters rows (with_above said (drop u path)) c.in_ok-folder.field-0 c.loop-up.self c.enter.new.self) c.in-None.is (c.in_ok-below.ensures rows (with_above said (drop u path)) r.gathers) in
    content_drop rows said u path g.tree.root c.loop-up-test.true c.loop-up.invariant.bound (subst (λ p. is_content (with_above said (drop u path) p) ≡ true) c.in_ok-folder.ensures stands)

pub returns : goal.returns
returns c rows said g =
    reached_end rows said c.loop-up.up c.args.path.now c.args.self.now c.loop-up.self c.loop-up.folder c.loop-up-test.false c.loop-up.invariant.begun (c.loop-up.invariant.reached rows said g)
