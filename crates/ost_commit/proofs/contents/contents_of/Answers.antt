use Rattle.std.proofs.Common.{◌≡◌, ◌+◌, ◌∷◌, ◌++◌, [], true, take, sym, ◌∙◌, ap, subst, arith}
use Rattle.std.proofs.lemmas.List.{take_more}
use Rattle.ost_commit.specs.declared.row.TreeRow.{TreeRow}
use Rattle.ost_commit.specs.Refusals.{is_good_row}
use Rattle.ost_commit.specs.Digests.{IsDigestOf}
use Rattle.ost_commit.specs.Tables.{AreContents}
use Rattle.ost_commit.proofs.Places.{at_from}
use Rattle.ost_commit.proofs.Having.{digests_many}
use Rattle.ost_commit.proofs.Holding.{all_at, digest_of_row, any_get}
use Rattle.ost_commit.proofs.contents.contents_of.Goals as goal

pub bounds-digests-at : goal.bounds-digests-at
bounds-digests-at c = let many = digests_many c.args.rows.now c.args.digests.now c.requires.digests in let low = c.loop-at-test.true in omega (arith, many, low)

pub add_row-requires-clause-good : goal.add_row-requires-clause-good
add_row-requires-clause-good c = all_at (λ (r : TreeRow). is_good_row r ≡ true) c.args.rows.now c.loop-at.at c.index-rows-at.result c.requires.good (at_from c.args.rows.now c.loop-at.at c.index-rows-at.result c.loop-at-test.true (sym c.index-rows-at.is))

pub add_row-requires-clause-digest : goal.add_row-requires-clause-digest
add_row-requires-clause-digest c =
    let many = digests_many c.args.rows.now c.args.digests.now c.requires.digests in
    let low = c.loop-at-test.true in
    let read = any_get c.args.digests.now c.loop-at.at c.index-digests-at.result (omega (arith, many, low)) c.index-digests-at.is in
    subst (IsDigestOf c.index-rows-at.result) (sym read)
    (digest_of_row c.args.rows.now c.args.digests.now c.loop-at.at c.index-rows-at.result c.requires.digests (at_from c.args.rows.now c.loop-at.at c.index-rows-at.result c.loop-at-test.true (sym c.index-rows-at.is)))

pub loop-at-preserved : goal.loop-at-preserved
loop-at-preserved c =
    let rows = c.args.rows.now in
    let i = c.loop-at.at in
    let r = c.index-rows-at.result in
    let before : take (i + 1) rows ≡ take i rows ++ r ∷ [] = take_more rows i r c.loop-at-test.true ∙ ap (λ x. take i rows ++ x ∷ []) (sym c.index-rows-at.is) in
    subst (λ l. AreContents l c.add_row.new.contents.entries) (sym before) (c.in_ok-add_row.ensures.adds (take i rows) c.loop-at.invariant)
