-- The value that `Parts` represent.
use Rattle.std.specs.Prelude.{◌≡◌, ℕ, ◌^◌, ◌<◌, true, ⊤, FitsSigned, List, length}
use Rattle.std.specs.Int.{byte_len}
use Rattle.std.specs.Str.{is_utf8}
use Rattle.gv_value.specs.declared.basic.Basic.{Basic}
use Rattle.gv_value.specs.declared.parts.Content.{Content as Held}
use Rattle.gv_value.specs.declared.parts.Content.TheVariants as held
use Rattle.gv_value.specs.declared.parts.Parts.{Parts}
use Rattle.gv_value.specs.declared.parts.Parts.TheVariants as parts
use Rattle.gv_value.specs.Basics.{Form, form_of}
use Rattle.gv_value.specs.Bytes.{AllBelow}
use Rattle.gv_value.specs.Tree.{Content, Tree, byte_trees}
use Rattle.gv_value.specs.Views.{shape_of, plain, plains}

-- The content that a `Content` of the code represents
abbrev pub content_of : Held → Content
content_of (held.Truth b) = Content.truth b
content_of (held.Number n) = Content.number n
content_of (held.Integer z) = Content.integer z
content_of (held.Eight eight) = Content.eight eight.now
content_of (held.Text text) = Content.text text.now

-- The value that `Parts` represent
abbrev pub part_tree : Parts → Tree
part_tree (parts.Basic b content) = Tree.leaf b (content_of content)
part_tree (parts.Variant t v) = Tree.variant (shape_of t.now) (plain v.now)
part_tree (parts.Array vs) = Tree.array (plains vs.now)
part_tree parts.Nothing = Tree.nothing
part_tree (parts.Just v) = Tree.just (plain v.now)
part_tree (parts.Tuple vs) = Tree.tuple (plains vs.now)
part_tree (parts.Entry a b) = Tree.entry (plain a.now) (plain b.now)
part_tree (parts.Bytes bytes) = Tree.array (byte_trees bytes.now)

-- The content is one that a basic value of this form can have in memory: integers are in range,
-- texts are UTF-8, and a double has eight bytes
abbrev pub IsHeldContent : Form → Held → Type 0
IsHeldContent Form.truth (held.Truth b) = ⊤
IsHeldContent (Form.unsigned w) (held.Number n) = n < 256 ^ byte_len w
IsHeldContent (Form.signed w) (held.Integer z) = FitsSigned w z
IsHeldContent Form.double (held.Eight eight) = (length eight.now ≡ 8) × AllBelow 256 eight.now
IsHeldContent (Form.text kind) (held.Text text) = is_utf8 text.now ≡ true
IsHeldContent _ _ = ⊥

-- The parts are those of a value that can be in memory: a basic value has a content of its form
abbrev pub IsHeld : Parts → Type 0
IsHeld (parts.Basic b content) = IsHeldContent (form_of b) content
IsHeld (parts.Bytes bytes) = AllBelow 256 bytes.now
IsHeld _ = ⊤
