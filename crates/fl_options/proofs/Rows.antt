-- Worked options, closed by computing.
use Rattle.std.proofs.Common.{◌≡◌, true, false, List, [], ◌∷◌, ◌++◌, refl, ap}
use Rattle.std.specs.Prelude.{codes, not, ◌==◌, length}
use lib.Utf8.{encode}
use Rattle.std.specs.Str.{is_utf8, chars}
use Rattle.fp_keyfile.specs.Lines.{line_says}
use Rattle.fp_keyfile.specs.KeyFile.{file_of, with_pair, with_group}
use Rattle.fl_meta.specs.declared.permission.Mention.{Mention}
use Rattle.fl_meta.specs.declared.permission.PermList.TheVariants as lists
use Rattle.fl_meta.specs.declared.permission.Value.TheVariants as values
use Rattle.fl_meta.specs.Places.{normal}
use Rattle.fl_meta.specs.Entries.{access_at, mention_of, mentions_in, list_mentions}
use Rattle.fl_meta.specs.Mentions.{file_mentions, group_mentions, pair_mentions}
use Rattle.fl_options.specs.Options.{is_given, lines_with, option_lines, option_layer, is_option}

share_ipc : option_layer (codes "--share=ipc") ≡ mention_of lists.Shared (codes "ipc") values.On ∷ []
unfolding option_layer option_lines is_utf8 chars encode lines_with is_given file_of line_says with_pair with_group file_mentions group_mentions pair_mentions list_mentions mentions_in
share_ipc = refl

pub some_option : is_option (codes "--share=ipc") ≡ true
some_option = ap (λ (l : List Mention). not (length l == 0)) share_ipc

-- ---- names that end in backslashes

pub open_place : is_option (codes "--filesystem=/a" ++ 92 ∷ []) ≡ false
unfolding option_layer option_lines is_utf8 chars encode lines_with is_given file_of line_says with_pair with_group file_mentions group_mentions pair_mentions list_mentions mentions_in access_at normal
open_place = refl

pub open_denial : is_option (codes "--nofilesystem=/a" ++ 92 ∷ []) ≡ false
unfolding option_layer option_lines is_utf8 chars encode lines_with is_given file_of line_says with_pair with_group file_mentions group_mentions pair_mentions list_mentions mentions_in access_at normal
open_denial = refl

pub open_name : is_option (codes "--persist=a" ++ 92 ∷ 92 ∷ 92 ∷ []) ≡ false
unfolding option_layer option_lines is_utf8 chars encode lines_with is_given file_of line_says with_pair with_group file_mentions group_mentions pair_mentions list_mentions mentions_in
open_name = refl

pub closed_name : option_layer (codes "--persist=a" ++ 92 ∷ 92 ∷ []) ≡ mention_of lists.Persistent (codes "a" ++ 92 ∷ 92 ∷ []) values.On ∷ []
unfolding option_layer option_lines is_utf8 chars encode lines_with is_given file_of line_says with_pair with_group file_mentions group_mentions pair_mentions list_mentions mentions_in
closed_name = refl
