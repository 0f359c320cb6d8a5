-- How many names and directories there are, as rows are taken.
use Rattle.std.proofs.Common.{◌≡◌, ◌<◌, ◌≤◌, ◌+◌, ℕ, zero, suc, List, [], ◌∷◌, ◌++◌, length, refl, sym, ◌∙◌, ap, arith, length-append}
use Rattle.std.specs.Prelude.{slice_set}
use Rattle.std.proofs.lemmas.List.{length-set}
use Rattle.ost_commit.specs.declared.tree.Child.{Child}
use Rattle.ost_commit.specs.declared.tree.Folder.{Folder}
use Rattle.ost_commit.specs.declared.tree.Tree.{Tree}
use Rattle.ost_commit.specs.Folders.{At, names_in, Counts, AreFew}

pub counts_same : (tree : Tree) → Counts tree tree
counts_same tree = record { names = omega arith; folders = omega arith }

pub counts_both : (old mid new : Tree) → Counts old mid → Counts mid new → Counts old new
counts_both old mid new a b = record { names = omega (arith, a.names, b.names); folders = omega (arith, a.folders, b.folders) }

names_set : (folders : List Folder) (i : ℕ) (f g : Folder) → At folders i f → length g.children.entries ≤ length f.children.entries + 1 → names_in (slice_set folders i g) ≤ names_in folders + 1
names_set [] i f g at few = absurd at
names_set (h ∷ folders) zero f g at few = let same = ap (λ (x : Folder). length x.children.entries) at in omega (arith, same, few)
names_set (h ∷ folders) (suc i) f g at few = let more = names_set folders i f g at few in omega (arith, more)

names_more : (a b : List Folder) → names_in (a ++ b) ≡ names_in a + names_in b
names_more [] b = omega arith
names_more (f ∷ a) b = let more = names_more a b in omega (arith, more)

module _ (old new : Tree) (i : ℕ) (f g : Folder) (at : At old.folders.items i f) (few : length g.children.entries ≤ length f.children.entries + 1) (names : new.names ≡ old.names + 1) where
  -- a name came
  pub counts_name : new.folders.items ≡ slice_set old.folders.items i g → Counts old new
  counts_name is =
      let set = names_set old.folders.items i f g at few in
      let same = ap names_in is in
      let long = ap length is in
      let kept = length-set old.folders.items i g in
      record { names = omega (arith, set, same, names); folders = omega (arith, long, kept, names) }

  -- a name came, and its directory
  pub counts_folder : (h : Folder) → h.children.entries ≡ [] → new.folders.items ≡ slice_set old.folders.items i g ++ h ∷ [] → Counts old new
  counts_folder h empty is =
      let set = names_set old.folders.items i f g at few in
      let same = ap names_in is in
      let more = names_more (slice_set old.folders.items i g) (h ∷ []) in
      let none = ap length empty in
      let long = ap length is in
      let both = length-append (slice_set old.folders.items i g) (h ∷ []) in
      let kept = length-set old.folders.items i g in
      record { names = omega (arith, set, same, more, none, names); folders = omega (arith, long, both, kept, names) }
