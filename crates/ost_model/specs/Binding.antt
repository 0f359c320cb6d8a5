-- The refs that a commit is bound to (OSTree, `ostree.ref-binding`).
use Rattle.std.specs.Prelude.{ℕ, Bool, true, false, List, Option, Some, None, option_and_then, if◌then◌else◌}
use Rattle.std.specs.Option.{option_or}
use Rattle.std.specs.Str.{bytes_eq}
use Rattle.gv_value.specs.declared.basic.Basic.TheVariants as basics
use Rattle.gv_value.specs.Shape.{Shape}
use Rattle.gv_value.specs.Tree.{Tree, Trees, no_trees, tree}
use Rattle.ost_model.specs.declared.limits.TheConstants.{REF_BINDING}
use Rattle.ost_model.specs.Fields.{text_in, items_in, each_of}

-- Tests whether there is a text, and it is this name
abbrev pub same_text : List ℕ → Option (List ℕ) → Bool
same_text name None = false
same_text name (Some text) = bytes_eq text name

-- Tests whether a key is of type `s` and is this name
abbrev pub is_named : List ℕ → Tree → Bool
is_named name key = same_text name (text_in key)

-- The value of a dictionary entry, if its key is this name
abbrev pub named_in : List ℕ → Tree → Option Tree
named_in name (Tree.entry key v) = if is_named name key then Some v else None
named_in name _ = None

-- The value of the last entry whose key is this name
abbrev pub last_named : List ℕ → Trees → Option Tree
last_named name no_trees = None
last_named name (tree v vs) = option_or (last_named name vs) (named_in name v)

-- Tests whether a type is `s`
abbrev pub is_text : Shape → Bool
is_text (Shape.basic basics.Str) = true
is_text _ = false

-- Tests whether a type is `as`
abbrev pub are_texts : Shape → Bool
are_texts (Shape.array t) = is_text t
are_texts _ = false

-- The texts of a variant of type `as`
abbrev pub texts_in : Tree → Option (List (List ℕ))
texts_in (Tree.variant t v) =
    if are_texts t then option_and_then (each_of text_in) (items_in v) else None
texts_in _ = None

-- The key `ostree.ref-binding`
abbrev pub binding_name : List ℕ
binding_name = REF_BINDING.now

-- The refs in a commit's metadata: the value of the last entry `ostree.ref-binding`, if it has the
-- type `as`
abbrev pub binding_in : Tree → Option (List (List ℕ))
binding_in (Tree.array vs) = option_and_then texts_in (last_named binding_name vs)
binding_in _ = None
