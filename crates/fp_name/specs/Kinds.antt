-- The two kinds of refs and their words.
use Rattle.std.specs.Prelude.{ℕ, List, Option, Some, None, codes, if◌then◌else◌}
use Rattle.std.specs.Str.{bytes_eq}
use Rattle.fp_name.specs.declared.kind.RefKind.{RefKind}
use Rattle.fp_name.specs.declared.kind.RefKind.TheVariants.{App, Runtime}

-- The first part of the kind's refs: `app` or `runtime`
abbrev pub kind_word : RefKind → List ℕ
kind_word App = codes "app"
kind_word Runtime = codes "runtime"

-- The kind with this word; nothing for any word but `app` and `runtime`
abbrev pub kind_of : List ℕ → Option RefKind
kind_of word = if bytes_eq word (codes "app") then Some App
    else (if bytes_eq word (codes "runtime") then Some Runtime else None)
