use Rattle.fl_lines.proofs.Unescaped.{escaped_printable, escaped_injective}
use Rattle.fl_lines.proofs.laws.escapes_tell_texts.Goals as goal

pub returns-clause-printable : goal.returns-clause-printable
returns-clause-printable c = escaped_printable

pub returns-clause-apart : goal.returns-clause-apart
returns-clause-apart c = escaped_injective
