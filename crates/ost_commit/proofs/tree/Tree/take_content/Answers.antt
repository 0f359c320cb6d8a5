use Rattle.std.proofs.Common.{◌≡◌, ◌∷◌, true, false, drop, sym, ◌∙◌, ap, subst}
use Rattle.std.specs.Prelude.{is_some}
use Rattle.fp_host.specs.Paths.{is_element}
use Rattle.ost_commit.specs.Rows.{put_by}
use Rattle.ost_commit.specs.Folders.{TakesContent}
use Rattle.ost_commit.proofs.Places.{at_within}
use Rattle.ost_commit.proofs.Taking.{again_taken, first_taken}
use Rattle.ost_commit.proofs.tree.Tree.take_content.Goals as goal

pub child-requires : goal.child-requires
child-requires c = at_within c.args.self.now.folders.items c.args.folder c.requires.at.folder c.requires.at.at

pub put-requires-clause-within : goal.put-requires-clause-within
put-requires-clause-within c = at_within c.args.self.now.folders.items c.args.folder c.requires.at.folder c.requires.at.at

pub returns-then-is_some : goal.returns-then-is_some
returns-then-is_some c rows said r g at_row is =
    let at = c.requires.at in
    let x = c.in_ok-name.name in
    let path : c.args.path.now ≡ x ∷ at.folder.path = c.in-Some.ensures.name ∙ (ap (λ z. z ∷ drop 1 c.args.path.now) (sym c.in_ok-name.ensures) ∙ ap (λ q. x ∷ q) (sym at.is)) in
    subst (λ p. TakesContent rows said p (put_by r) c.args.self.now c.args.self.now false) (sym path)
    (again_taken rows said c.args.self.now g c.args.folder at.folder at.at x (put_by r) (sym (ap is_some (c.child.ensures at.folder at.at)) ∙ (sym c.is_some.ensures ∙ c.if-is_some.true)))

pub returns : goal.returns
returns c rows said r g at_row is =
    let at = c.requires.at in
    let x = c.in_ok-name.name in
    let name : x ≡ c.in-Some.name.now = c.in_ok-name.ensures in
    let path : c.args.path.now ≡ x ∷ at.folder.path = c.in-Some.ensures.name ∙ (ap (λ z. z ∷ drop 1 c.args.path.now) (sym name) ∙ ap (λ q. x ∷ q) (sym at.is)) in
    let puts = c.in_ok-put.ensures.folders at.folder at.at in
    subst (λ p. TakesContent rows said p (put_by r) c.args.self.now c.put.new.self true) (sym path)
    (first_taken rows said c.args.self.now g c.args.folder at.folder at.at x r c.args.row puts.0 c.put.new.self
    (sym (ap is_some (c.child.ensures at.folder at.at)) ∙ (sym c.is_some.ensures ∙ c.if-is_some.false))
    (subst (λ z. is_element z ≡ true) (sym name) c.in-Some.ensures.good) puts.1 at_row is puts.2 c.in_ok-put.ensures.names)
