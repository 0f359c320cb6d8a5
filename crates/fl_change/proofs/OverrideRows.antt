-- Worked overrides, closed by computing.
use Rattle.std.proofs.Common.{◌≡◌, [], ◌∷◌, refl}
use Rattle.std.specs.Prelude.{codes}
use lib.Utf8.{encode}
use Rattle.std.specs.Str.{is_utf8, chars}
use Rattle.fp_keyfile.specs.Lines.{line_says}
use Rattle.fp_keyfile.specs.KeyFile.{file_of, text_of, with_pair, with_group}
use Rattle.fl_meta.specs.declared.permission.PermList.TheVariants as lists
use Rattle.fl_meta.specs.declared.permission.Value.TheVariants as values
use Rattle.fl_meta.specs.Entries.{mention_of, mentions_in, list_mentions}
use Rattle.fl_meta.specs.Mentions.{file_mentions, group_mentions, pair_mentions}
use Rattle.fl_context.specs.Latest.{merged_onto, merged}
use Rattle.fl_override.specs.Written.{list_text, context_pairs, named_pairs, file_with}
use Rattle.fl_options.specs.Options.{is_given, is_variable, lines_with, option_lines, option_layer}
use Rattle.fl_change.specs.Overrides.{changed_file}

unshared : option_layer (codes "--unshare=network") ≡ mention_of lists.Shared (codes "network") values.Off ∷ []
unfolding option_layer option_lines is_utf8 chars encode lines_with is_given file_of line_says with_pair with_group file_mentions group_mentions pair_mentions list_mentions mentions_in
unshared = refl

first_value : option_layer (codes "--env=A=1") ≡ mention_of lists.Environment (codes "A") (values.Text (codes "1")) ∷ []
unfolding option_layer option_lines is_utf8 chars encode lines_with is_variable file_of line_says with_pair with_group file_mentions group_mentions pair_mentions
first_value = refl

second_value : option_layer (codes "--env=A=2") ≡ mention_of lists.Environment (codes "A") (values.Text (codes "2")) ∷ []
unfolding option_layer option_lines is_utf8 chars encode lines_with is_variable file_of line_says with_pair with_group file_mentions group_mentions pair_mentions
second_value = refl

pub network_denied : text_of (changed_file [] (codes "--unshare=network" ∷ [])) ≡ codes "[Context]\nshared=!network;\n"
unfolding changed_file merged merged_onto file_mentions file_with context_pairs list_text named_pairs text_of
network_denied = rw unshared refl

pub last_variable : text_of (changed_file [] (codes "--env=A=1" ∷ codes "--env=A=2" ∷ [])) ≡ codes "[Environment]\nA=2\n"
unfolding changed_file merged merged_onto file_mentions file_with context_pairs list_text named_pairs text_of
last_variable = rw (first_value, second_value) refl
