use Rattle.std.proofs.Common.{◌≡◌, ◌≤◌, ◌+◌, ℕ, List, length, Bool, true, false, refl, ◌∙◌, ap, arith, Some}
use Rattle.std.specs.Prelude.{if◌then◌else◌, is_some}
use Rattle.std.specs.Str.{bytes_eq}
use Rattle.std.proofs.lemmas.Map.Text.{is_eq-slice_cmp}
use Rattle.ost_commit.specs.declared.tree.Child.{Child}
use Rattle.ost_commit.specs.declared.tree.Folder.{Folder}
use Rattle.ost_commit.specs.Folders.{child_in}
use Rattle.ost_commit.proofs.Places.{at_get}
use Rattle.ost_commit.proofs.tree.Tree.put.Goals as goal

one_more : (new old entries : List (List ℕ × Child)) (there : Bool) → length new ≡ length old + (if there then 0 else 1) → length old ≡ length entries → length new ≤ length entries + 1
one_more new old entries true is same = omega (arith, is, same)
one_more new old entries false is same = omega (arith, is, same)

pub returns : goal.returns
returns c = record {
  folders = λ f at.
      let is = c.index_mut-folder.ensures.value ∙ at_get c.args.self.now.folders.items c.args.folder f c.index_mut-folder.result.now at in
      let g : Folder = record { path = c.index_mut-folder.result.now.path; children = c.insert.new.self } in (
        g,
        record {
          path = ap (λ (h : Folder). h.path) is;
          children = λ y. c.in_ok-insert.ensures.updates.0 y
              ∙ (ap (λ b. if b then Some c.args.child else child_in c.index_mut-folder.result.now.children.entries y) (is_eq-slice_cmp c.args.name y)
              ∙ ap (λ (h : Folder). if bytes_eq c.args.name y then Some c.args.child else child_in h.children.entries y) is);
          few = let same = ap (λ (h : Folder). length h.children.entries) is in one_more c.insert.new.self.entries c.index_mut-folder.result.now.children.entries f.children.entries (is_some c.in_ok-insert.field-0) c.in_ok-insert.ensures.len same;
        },
        refl,
      );
  names = refl;
}
