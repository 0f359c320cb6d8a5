use Rattle.std.proofs.Common.{◌≡◌, ◌+◌, ◌∷◌, ◌++◌, [], take, sym, ◌∙◌, ap, subst}
use Rattle.std.proofs.lemmas.List.{take_more, map-append}
use Rattle.par_digest.specs.Digests.{item_digest, item_digests}
use Rattle.ost_commit.specs.Digests.{AreDigests}
use Rattle.ost_commit.proofs.Having.{digests_push}
use Rattle.ost_commit.proofs.contents.items_of.Goals as goal

pub loop-row-preserved : goal.loop-row-preserved
loop-row-preserved c =
    let rows = c.args.rows.now in
    let i = c.loop-row.row-index in
    let r = c.row-item.result in
    let before : take (i + 1) rows ≡ take i rows ++ r ∷ [] = take_more rows i r c.loop-row-test.true ∙ ap (λ x. take i rows ++ x ∷ []) (sym c.row-item.is) in
    let items : item_digests c.push.new.self.items ≡ item_digests c.loop-row.items.items ++ item_digest c.in_ok-item_of.field-0 ∷ [] =
    ap item_digests c.in_ok-push.ensures.items ∙ map-append item_digest c.loop-row.items.items (c.in_ok-item_of.field-0 ∷ []) in
    subst (λ l. AreDigests l (item_digests c.push.new.self.items)) (sym before)
    (subst (AreDigests (take i rows ++ r ∷ [])) (sym items)
    (digests_push (take i rows) (item_digests c.loop-row.items.items) r (item_digest c.in_ok-item_of.field-0) c.loop-row.invariant c.in_ok-item_of.ensures))
