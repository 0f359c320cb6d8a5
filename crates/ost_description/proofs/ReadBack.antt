-- Written descriptions read back.
use Rattle.std.proofs.Common.{◌≡◌, ℕ, ◌+◌, ◌<◌, ◌^◌, Bool, true, false, List, [], ◌∷◌, ◌++◌, length, Some, None, Option, refl, sym, ap, ◌∙◌, arith, append_assoc}
use Rattle.std.specs.Prelude.{◌==◌, ◌/◌, ◌%◌, not, nat_le, codes, decimal, option_map, is_some, if◌then◌else◌}
use Rattle.std.specs.Char.{is_ascii_digit}
use Rattle.std.specs.List.{AllByRecursion, list_all, list_any}
use Rattle.std.specs.Str.{bytes_eq, is_utf8}
use Rattle.std.proofs.lemmas.List.{append-nil}
use Rattle.std.proofs.lemmas.List.Folds.{list_any-append}
use Rattle.std.proofs.lemmas.Bool.{and_parts, or_from, ne_eqb, false≢true}
use Rattle.std.proofs.lemmas.Fmt.{decimal_is_IsNumeral}
use Rattle.hex.specs.Hex.{IsBytes, encode_lower}
use Rattle.fp_host.specs.Paths.{Elements, path_text}
use Rattle.ost_commit.specs.declared.row.TreeRow.{TreeRow}
use Rattle.ost_commit.specs.declared.row.TreeRow.TheVariants as row
use Rattle.ost_commit.specs.Refusals.{first_refused}
use Rattle.ost_description.specs.declared.description.Description.{Description}
use Rattle.ost_description.specs.declared.limits.TheConstants.{MOST_SUBJECT_BYTES}
use Rattle.fp_base.specs.Steps.{◌>>=◌, where_it}
use Rattle.ost_description.specs.Parts.{number_in, mode_in, content_in, path_in, text_in, is_subject}
use Rattle.fp_base.specs.Parts.{is_control}
use Rattle.fp_base.specs.Parts.{parts_at, is_lower_digit}
use Rattle.ost_description.specs.Descriptions.{timestamp_in, subject_in, folder_in, file_in, link_in, row_in, pieces, row_before, rows_in, unformed_in, first_by, checked_description, with_rows, described}
use Rattle.ost_description.specs.Writing.{is_newline, mode_text, content_text, row_text, rows_text, with_newline, description_text, IsWritablePath, IsWritableFile, IsWritableLink, IsWritableRow, IsWritable}
use Rattle.ost_description.proofs.Cuts.{pieces_of, parts_of}
use Rattle.ost_description.proofs.LineLemmas.{first_cons, rows_cons, unformed_cons, some_pieces}
use Rattle.ost_description.proofs.PartLemmas.{own}
use Rattle.ost_description.proofs.PartTexts.{number_back, mode_back, content_back, text_back, path_back, lower}
use Rattle.ost_description.proofs.Headings.{good_heading, draft_is}

-- ---- no newline within a line

no_newline_by : (p : ℕ → Bool) → p 10 ≡ false → (xs : List ℕ) → list_all p xs ≡ true → list_any is_newline xs ≡ false
no_newline_by p none [] e = refl
no_newline_by p none (x ∷ xs) e =
    let parts = and_parts (p x) (list_all p xs) e in
    or_from (is_newline x) (list_any is_newline xs)
    (ne_eqb x 10 (λ (is : x ≡ 10). false≢true (sym none ∙ (ap p (sym is) ∙ parts.0))))
    (no_newline_by p none xs parts.1)

decimal_line : (n : ℕ) → n < 2 ^ 64 → list_any is_newline (decimal n) ≡ false
decimal_line n small = no_newline_by is_ascii_digit refl (decimal n) (own.from (decimal n) (decimal_is_IsNumeral n small).0.1)

subject_line : (s : List ℕ) → is_subject s ≡ true → list_any is_newline s ≡ false
subject_line s e = no_newline_by (λ b. not (is_control b)) refl s (and_parts (nat_le (length s) MOST_SUBJECT_BYTES) (list_all (λ b. not (is_control b)) s) e).1

content_line : (bytes : List ℕ) → IsBytes bytes → list_any is_newline (content_text bytes) ≡ false
content_line [] good = refl
content_line (b ∷ bs) good = no_newline_by is_lower_digit refl (encode_lower (b ∷ bs)) (lower (b ∷ bs) good)

-- no such byte is among the digits of permission bits
none_in_mode : (mode c : ℕ) → c < 48 → list_any (λ b. b == c) (mode_text mode) ≡ false
none_in_mode mode c small =
    let none : (x : ℕ) → (48 + x == c) ≡ false = λ x. ne_eqb (48 + x) c (λ (e : 48 + x ≡ c). absurd (omega arith)) in
    or_from (48 + mode / 64 == c) _ (none (mode / 64)) (or_from (48 + mode / 8 % 8 == c) _ (none (mode / 8 % 8)) (or_from (48 + mode % 8 == c) _ (none (mode % 8)) refl))

-- two parts with a byte between them
joined_line : (xs ys : List ℕ) (c : ℕ) → is_newline c ≡ false → list_any is_newline xs ≡ false → list_any is_newline ys ≡ false → list_any is_newline (xs ++ c ∷ ys) ≡ false
joined_line xs ys c k e f = list_any-append is_newline xs (c ∷ ys) ∙ or_from (list_any is_newline xs) _ e (or_from (is_newline c) _ k f)

row_line : (r : TreeRow) → IsWritableRow r → list_any is_newline (row_text r) ≡ false
row_line (row.Dir path) w = w.no_newline
row_line (row.File path mode bytes) w =
    joined_line (path_text path) _ 32 refl w.path_good.no_newline
    (joined_line (mode_text mode) (content_text bytes) 32 refl (none_in_mode mode 10 (omega arith)) (content_line bytes w.bytes_good))
row_line (row.Link path target) w = joined_line (path_text path) target 32 refl w.path_good.no_newline w.no_newline

-- ---- one line

by_word : List ℕ × List ℕ → Option TreeRow
by_word parts =
    if bytes_eq parts.0 (codes "dir") then folder_in parts.1
    else (if bytes_eq parts.0 (codes "file") then file_in parts.1
    else (if bytes_eq parts.0 (codes "link") then link_in parts.1
    else None))

row_by : (line : List ℕ) (parts : List ℕ × List ℕ) → parts_at 32 line ≡ Some parts → row_in line ≡ by_word parts
unfolding row_in by_word
row_by line parts e = ap (λ (o : Option (List ℕ × List ℕ)). o >>= by_word) e

folder_back : (path : Elements) → IsWritablePath path → folder_in (path_text path) ≡ Some (row.Dir path)
unfolding folder_in
folder_back path w = ap (option_map row.Dir) (path_back path w)

file_back : (path : Elements) (mode : ℕ) (bytes : List ℕ) → IsWritableFile path mode bytes
    → file_in (path_text path ++ (32 ∷ (mode_text mode ++ (32 ∷ content_text bytes)))) ≡ Some (row.File path mode bytes)
unfolding file_in
file_back path mode bytes w =
    let rest = mode_text mode ++ (32 ∷ content_text bytes) in
    let parts = parts_of 32 (path_text path) rest w.path_good.no_space in
    let more = parts_of 32 (mode_text mode) (content_text bytes) (none_in_mode mode 32 (omega arith)) in
    ap (λ (o : Option (List ℕ × List ℕ)). o >>= λ first. parts_at 32 first.1 >>= λ second. path_in first.0 >>= λ p. mode_in second.0 >>= λ m. content_in second.1 >>= λ b. Some (row.File p m b)) parts
    ∙ ap (λ (o : Option (List ℕ × List ℕ)). o >>= λ second. path_in (path_text path) >>= λ p. mode_in second.0 >>= λ m. content_in second.1 >>= λ b. Some (row.File p m b)) more
    ∙ ap (λ (o : Option Elements). o >>= λ p. mode_in (mode_text mode) >>= λ m. content_in (content_text bytes) >>= λ b. Some (row.File p m b)) (path_back path w.path_good)
    ∙ ap (λ (o : Option ℕ). o >>= λ m. content_in (content_text bytes) >>= λ b. Some (row.File path m b)) (mode_back mode w.mode_small)
    ∙ ap (λ (o : Option (List ℕ)). o >>= λ b. Some (row.File path mode b)) (content_back bytes w.bytes_good)

link_back : (path : Elements) (target : List ℕ) → IsWritableLink path target → link_in (path_text path ++ (32 ∷ target)) ≡ Some (row.Link path target)
unfolding link_in
link_back path target w =
    ap (λ (o : Option (List ℕ × List ℕ)). o >>= λ parts. path_in parts.0 >>= λ p. text_in parts.1 >>= λ t. Some (row.Link p t)) (parts_of 32 (path_text path) target w.path_good.no_space)
    ∙ ap (λ (o : Option Elements). o >>= λ p. text_in target >>= λ t. Some (row.Link p t)) (path_back path w.path_good)
    ∙ ap (λ (o : Option (List ℕ)). o >>= λ t. Some (row.Link path t)) (text_back target w.utf8)

row_back : (r : TreeRow) → IsWritableRow r → row_in (row_text r) ≡ Some r
unfolding by_word
row_back (row.Dir path) w = row_by (row_text (row.Dir path)) _ (parts_of 32 (codes "dir") (path_text path) refl) ∙ folder_back path w
row_back (row.File path mode bytes) w = row_by (row_text (row.File path mode bytes)) _ (parts_of 32 (codes "file") _ refl) ∙ file_back path mode bytes w
row_back (row.Link path target) w = row_by (row_text (row.Link path target)) _ (parts_of 32 (codes "link") _ refl) ∙ link_back path target w

time_back : (t : ℕ) → t < 2 ^ 64 → timestamp_in (codes "timestamp " ++ decimal t) ≡ Some t
unfolding timestamp_in
time_back t small =
    ap (λ (o : Option (List ℕ × List ℕ)). (o >>= λ parts. where_it (bytes_eq parts.0 (codes "timestamp")) parts.1) >>= number_in) (parts_of 32 (codes "timestamp") (decimal t) refl)
    ∙ number_back t small

subject_back : (s : List ℕ) → is_utf8 s ≡ true → is_subject s ≡ true → subject_in (codes "subject " ++ s) ≡ Some s
unfolding subject_in
subject_back s u e =
    ap (λ (o : Option (List ℕ × List ℕ)). (o >>= λ parts. where_it (bytes_eq parts.0 (codes "subject")) parts.1) >>= λ rest. text_in rest >>= λ text. where_it (is_subject text) text)
    (parts_of 32 (codes "subject") s refl)
    ∙ ap (λ (o : Option (List ℕ)). o >>= λ text. where_it (is_subject text) text) (text_back s u)
    ∙ ap (λ (b : Bool). where_it b s) e

-- ---- lines

first_back : {A : Type 0} (read : List ℕ → Option A) (line rest : List ℕ) (x : A) → list_any is_newline line ≡ false → read line ≡ Some x
    → first_by read (pieces (line ++ 10 ∷ rest)) ≡ Some (x, pieces rest)
first_back read line rest x none e =
    ap (first_by read) (pieces_of line rest none) ∙ first_cons read line (pieces rest) (some_pieces rest) ∙ ap (option_map (λ y. (y, pieces rest))) e

row_then : (line rest : List ℕ) (o : Option TreeRow) → list_any is_newline line ≡ false → row_in line ≡ o → rows_in (pieces (line ++ 10 ∷ rest)) ≡ row_before o (rows_in (pieces rest))
row_then line rest o none e =
    ap rows_in (pieces_of line rest none) ∙ rows_cons line (pieces rest) (some_pieces rest) ∙ ap (λ (p : Option TreeRow). row_before p (rows_in (pieces rest))) e

unformed_then : (number : ℕ) (line rest : List ℕ) (o : Option TreeRow) → list_any is_newline line ≡ false → row_in line ≡ o
    → unformed_in number (pieces (line ++ 10 ∷ rest)) ≡ (if is_some o then unformed_in (number + 1) (pieces rest) else Some number)
unformed_then number line rest o none e =
    ap (unformed_in number) (pieces_of line rest none) ∙ unformed_cons number line (pieces rest) (some_pieces rest)
    ∙ ap (λ (p : Option TreeRow). if is_some p then unformed_in (number + 1) (pieces rest) else Some number) e

regroup : (line more tail : List ℕ) → (with_newline line ++ more) ++ tail ≡ line ++ 10 ∷ (more ++ tail)
regroup line more tail = ap (λ (l : List ℕ). l ++ tail) (append_assoc line (10 ∷ []) more) ∙ append_assoc line (10 ∷ more) tail

rows_back : (rs : List TreeRow) (tail : List ℕ) → AllByRecursion IsWritableRow rs → rows_in (pieces (rows_text rs ++ tail)) ≡ rs ++ rows_in (pieces tail)
rows_back [] tail w = refl
rows_back (r ∷ rs) tail w =
    ap (λ (l : List ℕ). rows_in (pieces l)) (regroup (row_text r) (rows_text rs) tail)
    ∙ row_then (row_text r) (rows_text rs ++ tail) (Some r) (row_line r w.0) (row_back r w.0) ∙ ap (λ (l : List TreeRow). r ∷ l) (rows_back rs tail w.1)

unformed_back : (number : ℕ) (rs : List TreeRow) (tail : List ℕ) → AllByRecursion IsWritableRow rs → unformed_in number (pieces (rows_text rs ++ tail)) ≡ unformed_in (number + length rs) (pieces tail)
unformed_back number [] tail w = ap (λ (n : ℕ). unformed_in n (pieces tail)) (let e : number ≡ number + 0 = omega arith in e)
unformed_back number (r ∷ rs) tail w =
    ap (λ (l : List ℕ). unformed_in number (pieces l)) (regroup (row_text r) (rows_text rs) tail)
    ∙ unformed_then number (row_text r) (rows_text rs ++ tail) (Some r) (row_line r w.0) (row_back r w.0) ∙ unformed_back (number + 1) rs tail w.1
    ∙ ap (λ (n : ℕ). unformed_in n (pieces tail)) (let e : number + 1 + length rs ≡ number + length (r ∷ rs) = omega arith in e)

-- ---- the whole

heading_back : (d : Description) (tail : List ℕ) → IsWritable d → described (description_text d ++ tail) ≡ with_rows d.timestamp d.subject (pieces (rows_text d.rows ++ tail))
heading_back d tail w =
    let time = codes "timestamp " ++ decimal d.timestamp in
    let subject = codes "subject " ++ d.subject in
    let rest = rows_text d.rows ++ tail in
    let whole : description_text d ++ tail ≡ time ++ 10 ∷ (subject ++ 10 ∷ rest) =
    ap (λ (l : List ℕ). l ++ tail) (append_assoc (with_newline time) (with_newline subject) (rows_text d.rows))
    ∙ regroup time (with_newline subject ++ rows_text d.rows) tail
    ∙ ap (λ (l : List ℕ). time ++ 10 ∷ l) (regroup subject (rows_text d.rows) tail) in
    ap described whole
    ∙ good_heading (time ++ 10 ∷ (subject ++ 10 ∷ rest)) (subject ++ 10 ∷ rest) rest d.subject d.timestamp
    (first_back timestamp_in time (subject ++ 10 ∷ rest) d.timestamp (decimal_line d.timestamp w.timestamp) (time_back d.timestamp w.timestamp))
    (first_back subject_in subject rest d.subject (subject_line d.subject w.subject) (subject_back d.subject w.utf8 w.subject))

pub reads_back : (d : Description) → IsWritable d → described (description_text d) ≡ checked_description d None (first_refused d.rows)
reads_back d w =
    let P = pieces (rows_text d.rows ++ []) in
    ap described (sym (append-nil (description_text d))) ∙ heading_back d [] w
    ∙ draft_is d.timestamp d.subject P d.rows None (sym (rows_back d.rows [] w.rows ∙ append-nil d.rows)) (sym (unformed_back 3 d.rows [] w.rows))

pub stops_remainder : (d : Description) (line rest : List ℕ) → IsWritable d → list_any is_newline line ≡ false → row_in line ≡ None
    → described (description_text d ++ (line ++ 10 ∷ rest)) ≡ checked_description d (Some (length d.rows + 3)) (first_refused d.rows)
stops_remainder d line rest w none bad =
    let tail = line ++ 10 ∷ rest in
    let rows : rows_in (pieces (rows_text d.rows ++ tail)) ≡ d.rows =
    rows_back d.rows tail w.rows ∙ ap (λ (l : List TreeRow). d.rows ++ l) (row_then line rest None none bad) ∙ append-nil d.rows in
    let unformed : unformed_in 3 (pieces (rows_text d.rows ++ tail)) ≡ Some (length d.rows + 3) =
    unformed_back 3 d.rows tail w.rows ∙ unformed_then (3 + length d.rows) line rest None none bad ∙ ap Some (let e : 3 + length d.rows ≡ length d.rows + 3 = omega arith in e) in
    heading_back d tail w ∙ draft_is d.timestamp d.subject (pieces (rows_text d.rows ++ tail)) d.rows (Some (length d.rows + 3)) (sym rows) (sym unformed)
