-- The grammar of a key file's parts, after the Desktop Entry Specification, "Basic format of the
-- file".
use Rattle.std.specs.Prelude.{ℕ, Bool, false, not, ◌&&◌, ◌||◌, List, [], ◌∷◌, length, nat_lt, ◌==◌}
use Rattle.std.specs.List.{list_all}
use Rattle.fp_base.specs.Parts.{is_control}

-- Tests whether a byte is a space or a tab
abbrev pub is_blank : ℕ → Bool
is_blank b = b == 32 || b == 9

-- Tests whether a byte is a carriage return
abbrev pub is_return : ℕ → Bool
is_return b = b == 13

-- Tests whether the first byte passes the test; false if there is none
abbrev pub begins_so : (ℕ → Bool) → List ℕ → Bool
begins_so p [] = false
begins_so p (b ∷ bs) = p b

-- Tests whether the last byte passes the test; false if there is none
abbrev pub ends_so : (ℕ → Bool) → List ℕ → Bool
ends_so p [] = false
ends_so p (b ∷ []) = p b
ends_so p (b ∷ c ∷ bs) = ends_so p (c ∷ bs)

-- Tests whether a byte may be in a group's name: it is none of `[`, `]` and the control characters
abbrev pub is_name_byte : ℕ → Bool
is_name_byte b = not (b == 91) && not (b == 93) && not (is_control b)

-- Tests whether bytes may be a group's name: there is at least one, and each may be in a name
abbrev pub is_name : List ℕ → Bool
is_name bs = not (length bs == 0) && list_all is_name_byte bs

-- Tests whether a byte may be in a key: it is neither `=` nor a control character
abbrev pub is_key_byte : ℕ → Bool
is_key_byte b = not (b == 61) && not (is_control b)

-- Tests whether a byte may not begin a key: it is `[`, `#`, a space or a tab
abbrev pub begins_no_key : ℕ → Bool
begins_no_key b = b == 91 || b == 35 || is_blank b

-- Tests whether bytes may be a key: there is at least one, each may be in a key, the first may
-- begin a key, and the last is neither a space nor a tab
abbrev pub is_key : List ℕ → Bool
is_key bs = not (length bs == 0) && not (begins_so begins_no_key bs) && list_all is_key_byte bs
    && not (ends_so is_blank bs)

-- Tests whether a byte may be in a value: it is neither a newline nor zero
abbrev pub is_value_byte : ℕ → Bool
is_value_byte b = not (b == 10) && not (b == 0)

-- Tests whether bytes may be a value: each may be in a value, the first is neither a space nor a
-- tab, and the last isn't a carriage return
abbrev pub is_value : List ℕ → Bool
is_value bs = list_all is_value_byte bs && not (begins_so is_blank bs) && not (ends_so is_return bs)
