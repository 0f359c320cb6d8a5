-- Selection of a desktop file's exported pairs, by their keys.
use Rattle.std.specs.Prelude.{ℕ, Bool, false, ◌||◌, ◌&&◌, ◌==◌, ◌-◌, not, nat_eq, List, length, take, codes, Option, Some, None, if◌then◌else◌}
use Rattle.std.specs.List.{list_all, starts_with, ends_with}
use Rattle.std.specs.Char.{is_ascii_alphanumeric}
use Rattle.std.specs.Str.{bytes_eq}
use Rattle.fp_keyfile.specs.Lines.{split_at}

-- Tests whether a byte may be in a key's name: an ASCII letter, a digit or `-`
abbrev pub is_name_byte : ℕ → Bool
is_name_byte c = is_ascii_alphanumeric c || c == 45

-- Tests whether a byte may be in a locale: an ASCII letter, a digit or one of `-`, `_`, `.` and `@`
abbrev pub is_locale_byte : ℕ → Bool
is_locale_byte c = is_name_byte c || (c == 95 || (c == 46 || c == 64))

-- Tests whether a text is a key without a locale
abbrev pub is_name : List ℕ → Bool
is_name text = not (length text == 0) && list_all is_name_byte text

-- Tests whether a text is a locale
abbrev pub is_locale : List ℕ → Bool
is_locale text = not (length text == 0) && list_all is_locale_byte text

-- Tests whether a text is a locale followed by `]`
unfoldable pub is_locale_end : List ℕ → Bool
is_locale_end text = if ends_with nat_eq text (codes "]")
    then is_locale (take (length text - 1) text) else false

-- Tests whether a key, given with its parts before and after its first `[`, is NAME or NAME[LOCALE]
abbrev pub is_plain_at : List ℕ → Option (List ℕ × List ℕ) → Bool
is_plain_at key None = is_name key
is_plain_at key (Some parts) = is_name parts.0 && is_locale_end parts.1

-- Tests whether a key is NAME or NAME[LOCALE]
abbrev pub is_plain : List ℕ → Bool
is_plain key = is_plain_at key (split_at 91 key)

-- Tests whether a desktop would run the key's value outside the sandbox, or take it as the ID of
-- the application that the file belongs to
abbrev pub is_foreign : List ℕ → Bool
is_foreign key = bytes_eq key (codes "X-GNOME-Bugzilla-ExtraInfoScript")
    || bytes_eq key (codes "X-Flatpak")

-- Tests whether the key sets the directory in which the command is started, or makes a desktop
-- start a D-Bus service instead
abbrev pub is_misleading : List ℕ → Bool
is_misleading key = bytes_eq key (codes "Path") || bytes_eq key (codes "DBusActivatable")

-- Tests whether the key is `TryExec`, or `Exec` or `TryExec` with a locale
abbrev pub is_other_command : List ℕ → Bool
is_other_command key = bytes_eq key (codes "TryExec")
    || (starts_with nat_eq key (codes "Exec[") || starts_with nat_eq key (codes "TryExec["))

-- Tests whether pairs with this key are left out
abbrev pub is_left_out : List ℕ → Bool
is_left_out key =
    is_foreign key || (is_misleading key || (is_other_command key || not (is_plain key)))
