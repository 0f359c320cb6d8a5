-- Tests for the kinds of a command's work.
use Rattle.std.specs.Prelude.{Bool, true, false}
use Rattle.fl_words.specs.Words.{Work, altering, looking, checking, making}

-- Tests whether the work may change the installation's state
abbrev pub is_altering : Work → Bool
is_altering altering = true
is_altering _ = false

-- Tests whether the work only prints: a look or a check of the store
abbrev pub is_looking : Work → Bool
is_looking looking = true
is_looking checking = true
is_looking _ = false

-- Tests whether the work is a check of each object of the store
abbrev pub is_checking : Work → Bool
is_checking checking = true
is_checking _ = false

-- Tests whether the work is the export of a ref, which makes a remote
abbrev pub is_making : Work → Bool
is_making (making remote name) = true
is_making _ = false
