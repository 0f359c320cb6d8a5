use Rattle.std.proofs.Common.{◌≡◌, Bool, true, false, leb, drop, refl, sym, ◌∙◌, ap, subst, arith, length-drop}
use Rattle.std.specs.Prelude.{◌&&◌}
use Rattle.ost_commit.specs.declared.limits.TheConstants.{MOST_NAMES}
use Rattle.ost_commit.specs.Rows.{row_path}
use Rattle.ost_commit.specs.Refusals.{is_good_row, is_clear}
use Rattle.ost_commit.specs.Folders.{with_above, Reaches}
use Rattle.ost_commit.proofs.Descending.{names_few, takes_none, takes_row, clear_from, good_short}
use Rattle.ost_commit.proofs.tree.Tree.take.Goals as goal

and_false : (t x : Bool) → t ≡ false → t ≡ (t && x)
and_false true x e = absurd (cc e)
and_false false x e = refl

pub returns-in_default : goal.returns-in_default
returns-in_default c rows said g at =
    let reaches = subst (Reaches rows said c.path.result.now c.args.self.now c.folder_above.new.self) c.in_default.is (c.in_ok-folder.ensures rows said g) in
    takes_none rows said c.args.row.now c.args.self.now c.folder_above.new.self (subst (λ p. is_clear said p ≡ false) c.path.ensures reaches)

pub put_row-requires-clause-gathered : goal.put_row-requires-clause-gathered
put_row-requires-clause-gathered c =
    let by = c.requires.gathered in
    let r = subst (Reaches by.rows by.said c.path.result.now c.args.self.now c.folder_above.new.self) c.in-Some.is (c.in_ok-folder.ensures by.rows by.said by.gathers) in
    record { rows = by.rows; said = with_above by.said (drop 1 c.path.result.now); gathers = r.gathers }

pub put_row-requires-clause-at : goal.put_row-requires-clause-at
put_row-requires-clause-at c =
    let by = c.requires.gathered in
    let r = subst (Reaches by.rows by.said (row_path c.args.row.now) c.args.self.now c.folder_above.new.self) c.in-Some.is
    (subst (λ p. Reaches by.rows by.said p c.args.self.now c.folder_above.new.self c.in_ok-folder.field-0) c.path.ensures (c.in_ok-folder.ensures by.rows by.said by.gathers)) in
    r.at

pub put_row-requires-clause-few : goal.put_row-requires-clause-few
put_row-requires-clause-few c =
    let by = c.requires.gathered in
    let good : is_good_row c.args.row.now ≡ true = sym c.is_good.ensures ∙ c.if-not-is_good.false in
    let short = good_short c.args.row.now good in
    let r = subst (Reaches by.rows by.said (row_path c.args.row.now) c.args.self.now c.folder_above.new.self) c.in-Some.is
    (subst (λ p. Reaches by.rows by.said p c.args.self.now c.folder_above.new.self c.in_ok-folder.field-0) c.path.ensures (c.in_ok-folder.ensures by.rows by.said by.gathers)) in
    let names = r.names in
    let few = names_few by.said (drop 1 (row_path c.args.row.now)) in
    let long = length-drop 1 (row_path c.args.row.now) in
    omega (arith, names, few, long, short, c.requires.few)

pub returns-then-taken : goal.returns-then-taken
returns-then-taken c rows said g at =
    let good : is_good_row c.args.row.now ≡ true = sym c.is_good.ensures ∙ c.if-not-is_good.false in
    let r = subst (Reaches rows said (row_path c.args.row.now) c.args.self.now c.folder_above.new.self) c.in-Some.is
    (subst (λ p. Reaches rows said p c.args.self.now c.folder_above.new.self c.in_ok-folder.field-0) c.path.ensures (c.in_ok-folder.ensures rows said g)) in
    takes_row rows said c.args.row.now c.args.self.now c.folder_above.new.self c.put_row.new.self c.in-Some.folder c.in_ok-taken.taken (leb c.put_row.new.self.names MOST_NAMES) g good
    (clear_from said (row_path c.args.row.now) r.clear r.above) r (c.in_ok-taken.ensures rows (with_above said (drop 1 (row_path c.args.row.now))) r.gathers at)
    (sym (ap (λ t. t && leb c.put_row.new.self.names MOST_NAMES) c.if-taken.true))

pub returns-else-taken : goal.returns-else-taken
returns-else-taken c rows said g at =
    let good : is_good_row c.args.row.now ≡ true = sym c.is_good.ensures ∙ c.if-not-is_good.false in
    let r = subst (Reaches rows said (row_path c.args.row.now) c.args.self.now c.folder_above.new.self) c.in-Some.is
    (subst (λ p. Reaches rows said p c.args.self.now c.folder_above.new.self c.in_ok-folder.field-0) c.path.ensures (c.in_ok-folder.ensures rows said g)) in
    takes_row rows said c.args.row.now c.args.self.now c.folder_above.new.self c.put_row.new.self c.in-Some.folder c.in_ok-taken.taken c.in_ok-taken.taken g good
    (clear_from said (row_path c.args.row.now) r.clear r.above) r (c.in_ok-taken.ensures rows (with_above said (drop 1 (row_path c.args.row.now))) r.gathers at)
    (and_false c.in_ok-taken.taken (leb c.put_row.new.self.names MOST_NAMES) c.if-taken.false)
