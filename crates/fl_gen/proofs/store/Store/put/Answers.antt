use Rattle.std.proofs.Common.{List, [], ◌∷◌, sym, ◌∙◌, ap, subst}
use Rattle.std.proofs.lemmas.Result.{on_ok_weaker}
use Rattle.fl_gen.specs.declared.store.Row.{Row}
use Rattle.fl_gen.specs.Keeping.{Adds, leaf_spot, row_at}
use Rattle.fl_gen.proofs.Entries.{adds_pushed, adds_again}
use Rattle.fl_gen.proofs.store.Store.put.Goals as goal

pub returns-in-Some : goal.returns-in-Some
returns-in-Some c =
    let rows = c.args.self.now.rows.items in
    let is = sym (ap (λ (l : List Row). row_at l c.args.path) c.deref.ensures.value) ∙ sym c.in-Some.ensures in
    on_ok_weaker c.agree.result (adds_again rows c.args.path (leaf_spot c.args.leaf) c.in-Some.there.now is) c.agree.ensures

pub returns-in_ok-push-in-None : goal.returns-in_ok-push-in-None
returns-in_ok-push-in-None c =
    let rows = c.args.self.now.rows.items in
    let row : Row = record { path = c.args.path; leaf = c.args.leaf } in
    let none = sym (ap (λ (l : List Row). row_at l c.args.path) c.deref.ensures.value) ∙ sym c.in-None.ensures in
    subst (Adds ((row.path, leaf_spot row.leaf) ∷ []) rows) (sym c.in_ok-push-in-None.ensures.items) (adds_pushed rows row none)
