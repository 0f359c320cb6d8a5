-- The line of a mount is that of a pair of a key file.
use Rattle.std.proofs.Common.{◌≡◌, ◌<◌, ℕ, Bool, true, false, not, ◌&&◌, leb, List, [], ◌∷◌, ◌++◌, codes, Ok, refl, sym, ap, ◌∙◌, arith, lit<, append_assoc}
use Rattle.std.specs.List.{list_all}
use Rattle.std.specs.Str.{is_utf8}
use Rattle.std.proofs.lemmas.Bool.{and_parts, and_from}
use Rattle.std.proofs.lemmas.Bool.Decides.{nat_tests}
use Rattle.std.proofs.lemmas.List.Folds.{list_all-append}
use Rattle.std.proofs.lemmas.Str.{IsUtf8-from_ascii, is_utf8-from_IsUtf8}
use Rattle.std.proofs.lemmas.Str.Ascii.{IsAscii-from_all}
use Rattle.fp_keyfile.specs.declared.group.Pair.{Pair}
use Rattle.fp_keyfile.specs.Grammar.{is_blank, is_return, begins_so, ends_so, is_key_byte, is_key, is_value_byte, is_value}
use Rattle.fp_keyfile.specs.Lines.{entry, line_says}
use Rattle.fp_keyfile.proofs.Good.{IsGoodPair, good_pair_from}
use Rattle.fp_keyfile.proofs.Texts.{utf8_joined}
use Rattle.fp_keyfile.proofs.Written.{entry_line-says}
use Rattle.fp_name.specs.Bytes.{is_dotted}
use Rattle.fp_name.specs.Grammar.{is_id, is_arch, is_branch}
use Rattle.fp_name.specs.Kinds.{kind_word}
use Rattle.fp_name.specs.Refs.{Ref, is_ref, ref_text, ref_with}
use Rattle.fp_name.specs.declared.kind.RefKind.{RefKind}
use Rattle.fp_name.specs.declared.kind.RefKind.TheVariants.{App, Runtime}
use Rattle.fp_name.proofs.Bytes.{list_all-wider, All-from_list_all, dotted_id, dotted_arch, dotted_branch}
use Rattle.fl_extension.specs.Points.{is_directory}
use Rattle.fl_extension.proofs.Seen.{directory_key}
use Rattle.fl_override.proofs.Reading.{utf8_ascii}
use Rattle.fl_launch.specs.Groups.{MountReadsBack}
use Rattle.fl_launch.proofs.Values.{value_dark, utf8_dark, ref_dark}

-- ---- the line

line_reads : (front directory : List ℕ) (r : Ref) → list_all is_key_byte front ≡ true → is_utf8 (47 ∷ front) ≡ true → is_directory directory ≡ true → is_utf8 directory ≡ true → is_ref r ≡ true
    → line_says ((47 ∷ (front ++ 47 ∷ directory)) ++ 61 ∷ ref_text r) ≡ Ok (entry (47 ∷ (front ++ 47 ∷ directory)) (ref_text r))
line_reads front directory r bytes ascii is text good =
    let key = 47 ∷ (front ++ 47 ∷ directory) in
    let wider : list_all is_key_byte (front ++ 47 ∷ []) ≡ true = list_all-append is_key_byte front (47 ∷ []) ∙ and_from (list_all is_key_byte front) true bytes refl in
    let good_key : is_key key ≡ true = ap (λ (l : List ℕ). is_key (47 ∷ l)) (sym (append_assoc front (47 ∷ []) directory)) ∙ directory_key (front ++ 47 ∷ []) directory wider is in
    let pair : IsGoodPair (record { key = key; value = ref_text r }) = record { key = good_key; value = value_dark (ref_text r) (ref_dark r good).text; key_text = utf8_joined (47 ∷ front) 47 directory (lit< tt) ascii text; value_text = utf8_dark (ref_text r) (ref_dark r good).text } in
    entry_line-says key (ref_text r) (good_pair_from (record { key = key; value = ref_text r }) pair) pair

pub app_reads_back : MountReadsBack (codes "/app/")
app_reads_back directory r is text good = line_reads (codes "app") directory r refl (utf8_ascii _ refl) is text good

pub runtime_reads_back : MountReadsBack (codes "/usr/")
runtime_reads_back directory r is text good = line_reads (codes "usr") directory r refl (utf8_ascii _ refl) is text good
