-- Type strings as words.
use Rattle.std.specs.Prelude.{ℕ, List, Bool}
use Rattle.std.specs.Option.{is_some}
use Rattle.gv_value.specs.TypeText.{type_of}

-- Tests whether the text is the type string of one GVariant type, nested at most 64 deep
unfoldable pub is_type_text : List ℕ → Bool
is_type_text text = is_some (type_of text)
