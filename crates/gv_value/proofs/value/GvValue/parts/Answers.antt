use Rattle.std.proofs.lemmas.Str.{is_utf8-from_IsUtf8}
use Rattle.gv_value.proofs.value.GvValue.parts.Goals as goal

pub returns-in-Str-clause-held : goal.returns-in-Str-clause-held
returns-in-Str-clause-held c = is_utf8-from_IsUtf8 _ c.as_str.utf8

pub returns-in-ObjectPath-clause-held : goal.returns-in-ObjectPath-clause-held
returns-in-ObjectPath-clause-held c = is_utf8-from_IsUtf8 _ c.as_str-in-ObjectPath.utf8

pub returns-in-Signature-clause-held : goal.returns-in-Signature-clause-held
returns-in-Signature-clause-held c = is_utf8-from_IsUtf8 _ c.as_str-in-Signature.utf8
