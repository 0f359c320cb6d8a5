-- Worked descriptions, closed by computing: what they describe, and each rule broken once.
use Rattle.std.proofs.Common.{◌≡◌, [], ◌∷◌, Ok, Err, refl}
use Rattle.std.specs.Prelude.{codes}
use Rattle.std.specs.Str.{is_utf8, chars}
use Rattle.hex.specs.Hex.{decode_pairs}
use lib.Utf8.{encode}
use Rattle.ost_commit.specs.declared.row.TreeRow.TheVariants as row
use Rattle.ost_description.specs.Parts.{number_in, mode_in, content_in, path_in, text_in}
use Rattle.fp_base.specs.Parts.{parts_at, hex_in}
use Rattle.ost_description.specs.Descriptions.{timestamp_in, subject_in, folder_in, file_in, link_in, row_in, described}

-- no rows, at the beginning of 1970
no_rows : described (codes "timestamp 0\nsubject s\n") ≡ Ok (record { timestamp = 0; subject = codes "s"; rows = [] })
unfolding described timestamp_in subject_in parts_at number_in text_in is_utf8 chars encode
no_rows = refl

each_kind : described (codes "timestamp 18446744073709551615\nsubject \ndir a\nfile a/b 755 00ff\nfile c 644 -\nlink a/d ../x y\n") ≡ Ok (record { timestamp = 18446744073709551615; subject = []; rows = row.Dir (codes "a" ∷ []) ∷ row.File (codes "b" ∷ codes "a" ∷ []) 0x1ED (0 ∷ 255 ∷ []) ∷ row.File (codes "c" ∷ []) 0x1A4 [] ∷ row.Link (codes "d" ∷ codes "a" ∷ []) (codes "../x y") ∷ [] })
unfolding described timestamp_in subject_in folder_in file_in link_in row_in parts_at number_in mode_in hex_in content_in path_in text_in decode_pairs is_utf8 chars encode
each_kind = refl

-- ---- the first line that is bad

no_bytes : described (codes "") ≡ Err 1
unfolding described timestamp_in subject_in folder_in file_in link_in row_in parts_at number_in mode_in hex_in content_in path_in text_in decode_pairs is_utf8 chars encode
no_bytes = refl

timestamp_alone : described (codes "timestamp 0\n") ≡ Err 2
unfolding described timestamp_in subject_in folder_in file_in link_in row_in parts_at number_in mode_in hex_in content_in path_in text_in decode_pairs is_utf8 chars encode
timestamp_alone = refl

another_second_line : described (codes "timestamp 0\nblob x\n") ≡ Err 2
unfolding described timestamp_in subject_in folder_in file_in link_in row_in parts_at number_in mode_in hex_in content_in path_in text_in decode_pairs is_utf8 chars encode
another_second_line = refl

another_first_line : described (codes "subject s\ntimestamp 0\n") ≡ Err 1
unfolding described timestamp_in subject_in folder_in file_in link_in row_in parts_at number_in mode_in hex_in content_in path_in text_in decode_pairs is_utf8 chars encode
another_first_line = refl

no_number : described (codes "timestamp \nsubject s\n") ≡ Err 1
unfolding described timestamp_in subject_in folder_in file_in link_in row_in parts_at number_in mode_in hex_in content_in path_in text_in decode_pairs is_utf8 chars encode
no_number = refl

leading_zero : described (codes "timestamp 01\nsubject s\n") ≡ Err 1
unfolding described timestamp_in subject_in folder_in file_in link_in row_in parts_at number_in mode_in hex_in content_in path_in text_in decode_pairs is_utf8 chars encode
leading_zero = refl

signed_number : described (codes "timestamp +1\nsubject s\n") ≡ Err 1
unfolding described timestamp_in subject_in folder_in file_in link_in row_in parts_at number_in mode_in hex_in content_in path_in text_in decode_pairs is_utf8 chars encode
signed_number = refl

number_too_large : described (codes "timestamp 18446744073709551616\nsubject s\n") ≡ Err 1
unfolding described timestamp_in subject_in folder_in file_in link_in row_in parts_at number_in mode_in hex_in content_in path_in text_in decode_pairs is_utf8 chars encode
number_too_large = refl

control_in_subject : described (codes "timestamp 0\nsubject a\tb\n") ≡ Err 2
unfolding described timestamp_in subject_in folder_in file_in link_in row_in parts_at number_in mode_in hex_in content_in path_in text_in decode_pairs is_utf8 chars encode
control_in_subject = refl

subject_without_space : described (codes "timestamp 0\nsubject\n") ≡ Err 2
unfolding described timestamp_in subject_in folder_in file_in link_in row_in parts_at number_in mode_in hex_in content_in path_in text_in decode_pairs is_utf8 chars encode
subject_without_space = refl

no_newline : described (codes "timestamp 0\nsubject s") ≡ Err 2
unfolding described timestamp_in subject_in folder_in file_in link_in row_in parts_at number_in mode_in hex_in content_in path_in text_in decode_pairs is_utf8 chars encode
no_newline = refl

empty_line : described (codes "timestamp 0\nsubject s\n\n") ≡ Err 3
unfolding described timestamp_in subject_in folder_in file_in link_in row_in parts_at number_in mode_in hex_in content_in path_in text_in decode_pairs is_utf8 chars encode
empty_line = refl

unknown_word : described (codes "timestamp 0\nsubject s\ndirs a\n") ≡ Err 3
unfolding described timestamp_in subject_in folder_in file_in link_in row_in parts_at number_in mode_in hex_in content_in path_in text_in decode_pairs is_utf8 chars encode
unknown_word = refl

last_without_newline : described (codes "timestamp 0\nsubject s\ndir a\ndir b") ≡ Err 4
unfolding described timestamp_in subject_in folder_in file_in link_in row_in parts_at number_in mode_in hex_in content_in path_in text_in decode_pairs is_utf8 chars encode
last_without_newline = refl

space_in_path : described (codes "timestamp 0\nsubject s\ndir a b\n") ≡ Err 3
unfolding described timestamp_in subject_in folder_in file_in link_in row_in parts_at number_in mode_in hex_in content_in path_in text_in decode_pairs is_utf8 chars encode
space_in_path = refl

path_of_root : described (codes "timestamp 0\nsubject s\ndir \n") ≡ Err 3
unfolding described timestamp_in subject_in folder_in file_in link_in row_in parts_at number_in mode_in hex_in content_in path_in text_in decode_pairs is_utf8 chars encode
path_of_root = refl

empty_element : described (codes "timestamp 0\nsubject s\ndir a//b\n") ≡ Err 3
unfolding described timestamp_in subject_in folder_in file_in link_in row_in parts_at number_in mode_in hex_in content_in path_in text_in decode_pairs is_utf8 chars encode
empty_element = refl

dots : described (codes "timestamp 0\nsubject s\ndir a/..\n") ≡ Err 3
unfolding described timestamp_in subject_in folder_in file_in link_in row_in parts_at number_in mode_in hex_in content_in path_in text_in decode_pairs is_utf8 chars encode
dots = refl

no_mode : described (codes "timestamp 0\nsubject s\nfile a\n") ≡ Err 3
unfolding described timestamp_in subject_in folder_in file_in link_in row_in parts_at number_in mode_in hex_in content_in path_in text_in decode_pairs is_utf8 chars encode
no_mode = refl

two_digits : described (codes "timestamp 0\nsubject s\nfile a 44 -\n") ≡ Err 3
unfolding described timestamp_in subject_in folder_in file_in link_in row_in parts_at number_in mode_in hex_in content_in path_in text_in decode_pairs is_utf8 chars encode
two_digits = refl

no_octal_digit : described (codes "timestamp 0\nsubject s\nfile a 648 -\n") ≡ Err 3
unfolding described timestamp_in subject_in folder_in file_in link_in row_in parts_at number_in mode_in hex_in content_in path_in text_in decode_pairs is_utf8 chars encode
no_octal_digit = refl

mode_past_775 : described (codes "timestamp 0\nsubject s\nfile a 646 -\n") ≡ Err 3
unfolding described timestamp_in subject_in folder_in file_in link_in row_in parts_at number_in mode_in hex_in content_in path_in text_in decode_pairs is_utf8 chars encode
mode_past_775 = refl

no_bytes_said : described (codes "timestamp 0\nsubject s\nfile a 644 \n") ≡ Err 3
unfolding described timestamp_in subject_in folder_in file_in link_in row_in parts_at number_in mode_in hex_in content_in path_in text_in decode_pairs is_utf8 chars encode
no_bytes_said = refl

upper_case : described (codes "timestamp 0\nsubject s\nfile a 644 FF\n") ≡ Err 3
unfolding described timestamp_in subject_in folder_in file_in link_in row_in parts_at number_in mode_in hex_in content_in path_in text_in decode_pairs is_utf8 chars encode
upper_case = refl

odd_digits : described (codes "timestamp 0\nsubject s\nfile a 644 f\n") ≡ Err 3
unfolding described timestamp_in subject_in folder_in file_in link_in row_in parts_at number_in mode_in hex_in content_in path_in text_in decode_pairs is_utf8 chars encode
odd_digits = refl

no_target : described (codes "timestamp 0\nsubject s\nlink a\n") ≡ Err 3
unfolding described timestamp_in subject_in folder_in file_in link_in row_in parts_at number_in mode_in hex_in content_in path_in text_in decode_pairs is_utf8 chars encode
no_target = refl

empty_target : described (codes "timestamp 0\nsubject s\nlink a \n") ≡ Err 3
unfolding described timestamp_in subject_in folder_in file_in link_in row_in parts_at number_in mode_in hex_in content_in path_in text_in decode_pairs is_utf8 chars encode
empty_target = refl

there_already : described (codes "timestamp 0\nsubject s\nlink a x\nfile a 644 -\n") ≡ Err 4
unfolding described timestamp_in subject_in folder_in file_in link_in row_in parts_at number_in mode_in hex_in content_in path_in text_in decode_pairs is_utf8 chars encode
there_already = refl

link_above : described (codes "timestamp 0\nsubject s\nlink a x\nfile a/b 644 -\n") ≡ Err 4
unfolding described timestamp_in subject_in folder_in file_in link_in row_in parts_at number_in mode_in hex_in content_in path_in text_in decode_pairs is_utf8 chars encode
link_above = refl

folder_over_link : described (codes "timestamp 0\nsubject s\ndir b\nlink a x\ndir a\n") ≡ Err 5
unfolding described timestamp_in subject_in folder_in file_in link_in row_in parts_at number_in mode_in hex_in content_in path_in text_in decode_pairs is_utf8 chars encode
folder_over_link = refl

row_before_form : described (codes "timestamp 0\nsubject s\nlink a x\nlink a x\nbad\n") ≡ Err 4
unfolding described timestamp_in subject_in folder_in file_in link_in row_in parts_at number_in mode_in hex_in content_in path_in text_in decode_pairs is_utf8 chars encode
row_before_form = refl

form_before_row : described (codes "timestamp 0\nsubject s\nlink a x\nbad\nlink a x\n") ≡ Err 4
unfolding described timestamp_in subject_in folder_in file_in link_in row_in parts_at number_in mode_in hex_in content_in path_in text_in decode_pairs is_utf8 chars encode
form_before_row = refl
