-- The number of an exercise's applications, as a word.
use Rattle.std.specs.Prelude.{ℕ, List, Bool, ◌&&◌, nat_le, decimal}
use Rattle.std.specs.Str.{bytes_eq}
use Rattle.std.specs.Str.Parse.{digits_value}
use Rattle.fl_words.specs.declared.limits.TheConstants.{MOST_APPS}

-- Tests whether the number is from 1 to MOST_APPS
abbrev pub is_app_count : ℕ → Bool
is_app_count n = nat_le 1 n && nat_le n MOST_APPS

-- The number that the decimal digits of the text stand for
abbrev pub count_at : List ℕ → ℕ
count_at text = digits_value 10 text

-- Tests whether the text is the decimal form of a number from 1 to MOST_APPS, without a leading
-- zero or a sign
unfoldable pub is_count_text : List ℕ → Bool
is_count_text text = is_app_count (count_at text) && bytes_eq text (decimal (count_at text))
