-- Worked rows: the definitions, computed.
use Rattle.std.proofs.Common.{◌≡◌, List, [], ◌∷◌, Some, None, refl, codes, true, false, pos, negsuc}
use Rattle.std.specs.Str.{is_utf8, chars}
use lib.Utf8.{encode}
use Rattle.gv_value.specs.declared.basic.Basic.TheVariants as basics
use Rattle.gv_value.specs.Shape.{Shape, Shapes, no_shapes, shape}
use Rattle.gv_value.specs.Tree.{Content, Tree, Trees, no_trees, tree}
use Rattle.gv_value.specs.TypeText.{type_of, type_text}
use Rattle.gv_value.specs.Spelling.{spelling, fits}
use Rattle.gv_value.specs.Reading.{value_of}

abbrev si : Shape
si = Shape.tuple (shape (Shape.basic basics.Str) (shape (Shape.basic basics.Int32) no_shapes))

abbrev foo : Tree
foo = Tree.tuple (tree (Tree.leaf basics.Str (Content.text (codes "foo"))) (tree (Tree.leaf basics.Int32 (Content.integer (negsuc 0))) no_trees))

si_text : type_of (codes "(si)") ≡ Some si
si_text = refl

foo_fits : fits si foo ≡ true
unfolding is_utf8 chars encode
foo_fits = refl

foo_spelled : spelling foo si ≡ 0x66 ∷ 0x6f ∷ 0x6f ∷ 0 ∷ 0xff ∷ 0xff ∷ 0xff ∷ 0xff ∷ 4 ∷ []
foo_spelled = refl

foo_read : value_of si (0x66 ∷ 0x6f ∷ 0x6f ∷ 0 ∷ 0xff ∷ 0xff ∷ 0xff ∷ 0xff ∷ 4 ∷ []) ≡ Some foo
unfolding is_utf8 chars encode
foo_read = refl

foo_cut : value_of si (0x66 ∷ 0x6f ∷ 0x6f ∷ 0 ∷ 0xff ∷ 0xff ∷ 0xff ∷ 0xff ∷ 3 ∷ []) ≡ None
foo_cut = refl
