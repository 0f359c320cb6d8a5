-- The basic types, and the serialised forms of their values (GVariant specification, "Serialisation
-- of base types").
use Rattle.std.specs.Int.{Width, w8, w16, w32, w64}
use Rattle.gv_value.specs.declared.basic.Basic.{Basic}
use Rattle.gv_value.specs.declared.basic.Basic.TheVariants as basics

-- The three kinds of text
pub data TextKind : Type 0 where
  string : TextKind
  object_path : TextKind
  signature : TextKind

-- A form in which the values of a basic type are serialised: a boolean, an integer of a width, a
-- double or a text
pub data Form : Type 0 where
  truth : Form
  unsigned : Width → Form
  signed : Width → Form
  double : Form
  text : TextKind → Form

-- The form in which the values of a basic type are serialised
abbrev pub form_of : Basic → Form
form_of basics.Bool = truth
form_of basics.Byte = unsigned w8
form_of basics.Int16 = signed w16
form_of basics.Uint16 = unsigned w16
form_of basics.Int32 = signed w32
form_of basics.Uint32 = unsigned w32
form_of basics.Int64 = signed w64
form_of basics.Uint64 = unsigned w64
form_of basics.Handle = signed w32
form_of basics.Double = double
form_of basics.Str = text string
form_of basics.ObjectPath = text object_path
form_of basics.Signature = text signature
