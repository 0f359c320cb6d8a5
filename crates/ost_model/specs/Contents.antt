-- The digests of objects (OSTree, "Anatomy of an OSTree repository"): SHA-256 (FIPS 180-4) of a
-- metadata object's bytes, or of the header and content of a file or symlink. A digest has 32
-- bytes.
use Rattle.std.specs.Prelude.{ℕ, ◌+◌, Bool, ◌==◌, bit_and, List, [], ◌++◌, length}
use Rattle.std.specs.Int.{w32, to_be_bytes}
use Rattle.sha2.specs.Sha256.{sha256}
use Rattle.gv_value.specs.declared.basic.Basic.TheVariants as basics
use Rattle.gv_value.specs.Bytes.{le_value, zeros}
use Rattle.gv_value.specs.Shape.{Shape, no_shapes, shape}
use Rattle.gv_value.specs.Tree.{Content, Tree, no_trees, tree}
use Rattle.gv_value.specs.Spelling.{spelling}
use Rattle.ost_model.specs.declared.limits.TheConstants.{STORED_BITS, REGULAR_MODE, LINK_MODE}

-- The type `u`
abbrev pub number_shape : Shape
number_shape = Shape.basic basics.Uint32

-- A number as a value of type `u`. OSTree stores it in big-endian order, so GVariant, whose numbers
-- are little-endian, has its bytes reversed.
abbrev pub big_endian : ℕ → Tree
big_endian n = Tree.leaf basics.Uint32 (Content.number (le_value (to_be_bytes w32 n)))

-- The type `ay`
abbrev pub bytes_shape : Shape
bytes_shape = Shape.array (Shape.basic basics.Byte)

-- The type of extended attributes, `a(ayay)`: their names and values
abbrev pub attributes_shape : Shape
attributes_shape = Shape.array (Shape.tuple (shape bytes_shape (shape bytes_shape no_shapes)))

-- The type of a file header, `(uuuusa(ayay))`: user, group, mode, device, the text of a symlink,
-- extended attributes
abbrev pub header_shape : Shape
header_shape =
    Shape.tuple (shape number_shape (shape number_shape (shape number_shape (shape number_shape
    (shape (Shape.basic basics.Str) (shape attributes_shape no_shapes))))))

-- The file header with this mode and text of a symlink; all else is 0 or empty
abbrev pub header_value : ℕ → List ℕ → Tree
header_value mode text =
    Tree.tuple (tree (big_endian 0)
    (tree (big_endian 0) (tree (big_endian mode) (tree (big_endian 0)
    (tree (Tree.leaf basics.Str (Content.text text)) (tree (Tree.array no_trees) no_trees))))))

-- A header after its length, which is four bytes in big-endian order, and four zero bytes
abbrev pub with_length : List ℕ → List ℕ
with_length header = to_be_bytes w32 (length header) ++ (zeros 4 ++ header)

-- The bytes of the header with this mode and text, after its length
abbrev pub header_bytes : ℕ → List ℕ → List ℕ
header_bytes mode text = with_length (spelling (header_value mode text) header_shape)

-- Tests whether permission bits are good for a file or a directory: they are within 0775 (octal)
abbrev pub is_permission : ℕ → Bool
is_permission bits = bit_and bits STORED_BITS == bits

-- The header of a file with these permission bits, after its length: the mode is 0100000 (octal)
-- and the bits, and the text is empty
unfoldable pub header : ℕ → List ℕ
header bits = header_bytes (REGULAR_MODE + bits) []

-- The header of a symlink with this text, after its length: the mode is 0120777 (octal)
unfoldable pub link_header : List ℕ → List ℕ
link_header target = header_bytes LINK_MODE target

-- The digest of a file with these permission bits and bytes
unfoldable pub file_digest : ℕ → List ℕ → List ℕ
file_digest bits bytes = sha256 (header bits ++ bytes)

-- The digest of a symlink, which has a header and no content
unfoldable pub link_digest : List ℕ → List ℕ
link_digest target = sha256 (link_header target)

-- The digest of a metadata object
unfoldable pub meta_digest : List ℕ → List ℕ
meta_digest bytes = sha256 bytes
