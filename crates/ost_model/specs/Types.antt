-- The GVariant types of the metadata objects (OSTree, `ostree-core.h`).
use Rattle.gv_value.specs.declared.basic.Basic.TheVariants as basics
use Rattle.gv_value.specs.Shape.{Shape, basic, variant, array, tuple, entry, no_shapes, shape}
use Rattle.ost_model.specs.Contents.{number_shape, bytes_shape, attributes_shape}

-- The type `s`
abbrev pub text_shape : Shape
text_shape = basic basics.Str

-- The type `t`
abbrev pub time_shape : Shape
time_shape = basic basics.Uint64

-- The type `a{sv}`
abbrev pub dictionary_shape : Shape
dictionary_shape = array (entry text_shape variant)

-- The type `a(say)`: names with a digest each
abbrev pub related_shape : Shape
related_shape = array (tuple (shape text_shape (shape bytes_shape no_shapes)))

-- The type `a(sayay)`: names with two digests each
abbrev pub dirs_shape : Shape
dirs_shape = array (tuple (shape text_shape (shape bytes_shape (shape bytes_shape no_shapes))))

-- The type of a commit, `(a{sv}aya(say)sstayay)`: metadata, parent, related objects, subject, body,
-- timestamp, root dirtree, root dirmeta
abbrev pub commit_shape : Shape
commit_shape = tuple (shape dictionary_shape
    (shape bytes_shape (shape related_shape (shape text_shape (shape text_shape
    (shape time_shape (shape bytes_shape (shape bytes_shape no_shapes))))))))

-- The type of a dirtree, `(a(say)a(sayay))`: files, directories
abbrev pub tree_shape : Shape
tree_shape = tuple (shape related_shape (shape dirs_shape no_shapes))

-- The type of a dirmeta, `(uuua(ayay))`: user, group, mode, extended attributes
abbrev pub meta_shape : Shape
meta_shape = tuple (shape number_shape
    (shape number_shape (shape number_shape (shape attributes_shape no_shapes))))
