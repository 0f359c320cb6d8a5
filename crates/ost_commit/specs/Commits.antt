-- The commit of a tree.
use Rattle.std.specs.Prelude.{ℕ, List, []}
use Rattle.gv_value.specs.declared.basic.Basic.TheVariants as basics
use Rattle.gv_value.specs.Shape.{Shape}
use Rattle.gv_value.specs.Tree.{Tree, no_trees, tree}
use Rattle.fp_name.specs.Refs.{Ref, ref_text}
use Rattle.ost_model.specs.Fields.{CommitView, text_value}
use Rattle.ost_model.specs.Binding.{binding_name}

-- The value of type `as` with one text
abbrev pub one_text : List ℕ → Tree
one_text text = Tree.array (tree (text_value text) no_trees)

-- The list with the ref, as a variant of type `as`
abbrev pub refs_of : Ref → Tree
refs_of r = Tree.variant (Shape.array (Shape.basic basics.Str)) (one_text (ref_text r))

-- The entry `ostree.ref-binding` with the ref
abbrev pub binding_entry_of : Ref → Tree
binding_entry_of r = Tree.entry (text_value binding_name) (refs_of r)

-- The metadata of a commit that is bound to the ref: the only entry is `ostree.ref-binding`
abbrev pub bound_to : Ref → Tree
bound_to r = Tree.array (tree (binding_entry_of r) no_trees)

-- The commit of a tree: it has no parent, no related objects and no body
abbrev pub commit_of_tree : Ref → List ℕ → ℕ → List ℕ → List ℕ → CommitView
commit_of_tree r subject timestamp root meta = record {
  metadata = bound_to r;
  parent = [];
  related = Tree.array no_trees;
  subject = subject;
  body = [];
  timestamp = timestamp;
  tree = root;
  meta = meta;
}
