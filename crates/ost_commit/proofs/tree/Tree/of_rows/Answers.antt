use Rattle.std.proofs.Common.{◌≡◌, ◌+◌, ◌<◌, ◌∷◌, ◌++◌, ℕ, List, [], suc, take, drop, length, get_or, sym, ◌∙◌, ap, subst, arith, add-one, length-take, drop-cons, Some}
use Rattle.std.proofs.lemmas.List.{take_more}
use Rattle.ost_commit.specs.declared.row.TreeRow.{TreeRow}
use Rattle.ost_commit.specs.Rows.{says}
use Rattle.ost_commit.specs.Refusals.{refused_remainder, first_refused}
use Rattle.ost_commit.specs.Folders.{Gathers}
use Rattle.ost_commit.proofs.Places.{at_from}
use Rattle.ost_commit.proofs.Taking.{next_row, refused_row, next_gathers}
use Rattle.ost_commit.proofs.Descending.{few_taken}
use Rattle.ost_commit.proofs.tree.Tree.of_rows.Goals as goal

-- the rows before a place, the row of the place, and the rest
rest_at : (rows : List TreeRow) (i : ℕ) (r : TreeRow) → i < length rows → r ≡ get_or rows i r → drop i rows ≡ r ∷ drop (i + 1) rows
rest_at rows i r low is = drop-cons rows i r low ∙ (ap (λ x. x ∷ drop (suc i) rows) (sym is) ∙ ap (λ n. r ∷ drop n rows) (sym (add-one i)))

before_at : (rows : List TreeRow) (i : ℕ) (r : TreeRow) → i < length rows → r ≡ get_or rows i r → take (i + 1) rows ≡ take i rows ++ r ∷ []
before_at rows i r low is = take_more rows i r low ∙ ap (λ x. take i rows ++ x ∷ []) (sym is)

pub loop-at-init : goal.loop-at-init
loop-at-init c = record {
  gathers = c.in_ok-tree.ensures.gathers c.args.rows.now;
  refused = ap (λ n. refused_remainder [] n c.args.rows.now) c.in_ok-tree.ensures.names;
  few = let none = c.in_ok-tree.ensures.names in omega (arith, none);
  counted = let alone = c.in_ok-tree.ensures.alone in omega (arith, alone);
  folders = let one = c.in_ok-tree.ensures.one in omega (arith, one);
}

pub returns-then-not-branch-clause-refused : goal.returns-then-not-branch-clause-refused
returns-then-not-branch-clause-refused c =
    let rows = c.args.rows.now in
    let i = c.loop-at.at in
    let r = c.index-rows-at.result in
    let low : i < length rows = c.loop-at-test.true in
    let takes = c.in_ok-take.ensures rows (says (take i rows)) c.loop-at.invariant.gathers (at_from rows i r low (sym c.index-rows-at.is)) in
    let many : length (take i rows) ≡ i = let long = length-take i rows in omega (arith, long, low) in
    refused_row (take i rows) (drop (i + 1) rows) r c.loop-at.tree.names (first_refused rows) (sym takes.is ∙ c.if-not-branch.true)
    (sym (ap (refused_remainder (take i rows) c.loop-at.tree.names) (rest_at rows i r low c.index-rows-at.is)) ∙ c.loop-at.invariant.refused) ∙ ap (λ n. Some (n + 1)) many

pub loop-at-preserved : goal.loop-at-preserved
loop-at-preserved c =
    let rows = c.args.rows.now in
    let i = c.loop-at.at in
    let r = c.index-rows-at.result in
    let low : i < length rows = c.loop-at-test.true in
    let takes = c.in_ok-take.ensures rows (says (take i rows)) c.loop-at.invariant.gathers (at_from rows i r low (sym c.index-rows-at.is)) in
    let taken = sym takes.is ∙ c.if-not-branch.false in
    let before = before_at rows i r low c.index-rows-at.is in
    record {
      gathers = subst (λ l. Gathers rows (says l) c.take.new.self.folders.items) (sym before) (next_gathers rows (take i rows) r c.take.new.self.folders.items (takes.gathers c.if-not-branch.false));
      refused = subst (λ l. refused_remainder l c.take.new.self.names (drop (i + 1) rows) ≡ first_refused rows) (sym before)
          (next_row (take i rows) (drop (i + 1) rows) r c.loop-at.tree.names c.take.new.self.names (first_refused rows) taken (takes.names c.if-not-branch.false)
          (sym (ap (refused_remainder (take i rows) c.loop-at.tree.names) (rest_at rows i r low c.index-rows-at.is)) ∙ c.loop-at.invariant.refused));
      few = let few = few_taken (says (take i rows)) c.loop-at.tree.names r taken in let names = takes.names c.if-not-branch.false in omega (arith, few, names);
      counted = let counts = (takes.counts c.if-not-branch.false).names in let before = c.loop-at.invariant.counted in omega (arith, counts, before);
      folders = let counts = (takes.counts c.if-not-branch.false).folders in let before = c.loop-at.invariant.folders in omega (arith, counts, before);
    }
