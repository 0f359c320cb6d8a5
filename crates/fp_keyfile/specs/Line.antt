-- A parsed line, as the code represents it.
use Rattle.std.specs.Prelude.{Result, Ok, Err}
use Rattle.fp_base.specs.declared.key_rule.KeyRule.{KeyRule}
use Rattle.fp_keyfile.specs.declared.line.Line.{Line}
use Rattle.fp_keyfile.specs.declared.line.Line.TheVariants as lines
use Rattle.fp_keyfile.specs.Lines.{Statement, nothing, header, entry}

-- The statement that a parsed line represents
abbrev pub statement : Line → Statement
statement lines.Nothing = nothing
statement (lines.Header name) = header name.now
statement (lines.Entry key value) = entry key.now value.now

-- The result of parsing a line, with its statement
abbrev pub said : Result Line KeyRule → Result Statement KeyRule
said (Ok line) = Ok (statement line)
said (Err rule) = Err rule
