-- Overrides: one mention for each permission. Each mention can be written.
use Rattle.std.specs.Prelude.{List}
use Rattle.std.specs.List.{AllByRecursion}
use Rattle.fl_meta.specs.declared.permission.Mention.{Mention}
use Rattle.fl_override.specs.Written.{CanWrite}

-- Each of the mentions can be written
abbrev pub AllCanWrite : List Mention → Type 0
AllCanWrite mentions = AllByRecursion CanWrite mentions
