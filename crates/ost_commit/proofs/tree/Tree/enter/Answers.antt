use Rattle.std.proofs.Common.{◌≡◌, ◌≤◌, ◌∷◌, ◌++◌, [], length, sym, ◌∙◌, ap, subst, arith}
use Rattle.fp_host.specs.Paths.{Elements}
use Rattle.ost_commit.specs.declared.tree.Child.TheVariants as child
use Rattle.ost_commit.specs.declared.tree.Folder.{Folder}
use Rattle.ost_commit.specs.Folders.{Entered, Enters, HasNew, folder_place}
use Rattle.ost_commit.proofs.Places.{at_within}
use Rattle.ost_commit.proofs.Taking.{entered_known, entered_new}
use Rattle.ost_commit.proofs.tree.Tree.enter.Goals as goal

pub child-requires : goal.child-requires
child-requires c = at_within c.args.self.now.folders.items c.args.folder c.requires.at.folder c.requires.at.at

pub put-requires-clause-within : goal.put-requires-clause-within
put-requires-clause-within c = at_within c.args.self.now.folders.items c.args.folder c.requires.at.folder c.requires.at.at

pub returns-in-Some : goal.returns-in-Some
returns-in-Some c rows said g =
    let at = c.requires.at in
    let old = c.args.self.now in
    let path : c.args.path ≡ c.in_ok-name.name ∷ at.folder.path = c.in_ok-name.ensures.name ∙ ap (λ q. c.in_ok-name.name ∷ q) (sym at.is) in
    subst (Enters rows said c.args.path old old) (sym c.folder.ensures)
    (subst (λ p. Enters rows said p old old (folder_place c.in-Some.child)) (sym path)
    (entered_known rows said old g c.args.folder at.folder at.at c.in_ok-name.name c.in-Some.child (sym (c.in-Some.ensures at.folder at.at))))

pub returns-in_ok-push-in-None : goal.returns-in_ok-push-in-None
returns-in_ok-push-in-None c rows said g =
    let at = c.requires.at in
    let old = c.args.self.now in
    let x = c.in_ok-name.name in
    let path : c.args.path ≡ x ∷ at.folder.path = c.in_ok-name.ensures.name ∙ ap (λ q. x ∷ q) (sym at.is) in
    let puts = c.in_ok-put-in-None.ensures.folders at.folder at.at in
    let h : Folder = record { path = c.args.path; children = c.new.result } in
    let n : c.len-below.result ≡ length old.folders.items = omega (arith, c.len-below.ensures, old.folders.ok.0) in
    subst (λ p. Entered rows said p old (record { folders = c.push.new.self; names = c.put.new.self.names }) c.len-below.result) (sym path)
    (subst (λ j. Entered rows said (x ∷ at.folder.path) old (record { folders = c.push.new.self; names = c.put.new.self.names }) j) (sym n)
    (entered_new rows said old g c.args.folder at.folder at.at x puts.0 h (record { folders = c.push.new.self; names = c.put.new.self.names })
    (sym (c.in-None.ensures at.folder at.at)) c.in_ok-name.ensures.element (subst (λ (p : Elements). length p ≤ 64) path c.requires.short)
    (subst (λ j. HasNew at.folder puts.0 x (child.Folder j)) n puts.1) path c.new.ensures.empty
    (c.in_ok-push-in-None.ensures.items ∙ ap (λ l. l ++ h ∷ []) puts.2) c.in_ok-put-in-None.ensures.names))
