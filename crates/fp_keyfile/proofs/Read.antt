-- What bytes read as is a file that can be written, and what is written reads back.
use Rattle.std.proofs.Common.{◌≡◌, ℕ, suc, true, false, not, ◌||◌, eqb, List, [], ◌∷◌, ◌++◌, map, Option, Some, None, Result, Ok, Err, refl, sym, ap, ◌∙◌, inl, inr, append_assoc}
use Rattle.std.specs.Prelude.{IfOk}
use Rattle.std.specs.List.{list_all, list_any, flat_map, AllByRecursion}
use Rattle.std.specs.Str.{is_utf8, bytes_eq}
use Rattle.std.proofs.lemmas.Bool.{cases_Bool, and_parts, or_parts, or_from, not-true}
use Rattle.std.proofs.lemmas.List.{append-nil}
use Rattle.std.proofs.lemmas.List.Folds.{list_any-append}
use Rattle.fp_keyfile.specs.declared.group.Pair.{Pair}
use Rattle.fp_keyfile.specs.declared.group.Group.{Group}
use Rattle.fp_base.specs.declared.key_rule.KeyRule.{KeyRule}
use Rattle.fp_keyfile.specs.declared.fault.KeyFault.{KeyFault}
use Rattle.fp_keyfile.specs.Grammar.{is_name}
use Rattle.fp_keyfile.specs.Lines.{in_front, byte_before, lines_of, Statement, nothing, header, entry, line_says}
use Rattle.fp_keyfile.specs.KeyFile.{names_of, keys_of, with_pair, Reading, beginning, with_entry, after_statement, after_line, go_on, file_from, file_of, pair_text, group_text, text_of, are_distinct, is_good_pair, is_good_group, is_good}
use Rattle.fp_keyfile.proofs.Good.{good_parts, good_group_parts, good_pair_parts, good-with_group, good-with_pair}
use Rattle.fp_keyfile.proofs.Says.{SaysGood, good_line_says}
use Rattle.fp_keyfile.proofs.Changes.{with_key_new, with_group_new, with_pair_last}
use Rattle.fp_keyfile.proofs.Written

-- ---- what is read is good

-- a line that has no newline
abbrev pub IsLine : List ℕ → Type 0
IsLine line = list_any (λ b. eqb b 10) line ≡ false

are_lines-in_front : (b : ℕ) (lines : List (List ℕ)) → eqb b 10 ≡ false → AllByRecursion IsLine lines → AllByRecursion IsLine (in_front b lines)
are_lines-in_front b [] e h = (rw e refl, tt)
are_lines-in_front b (line ∷ lines) e h = (rw (e, h.0) refl, h.1)

are_lines-byte_before : (b : ℕ) (lines : List (List ℕ)) → AllByRecursion IsLine lines → AllByRecursion IsLine (byte_before b lines)
are_lines-byte_before b lines h =
    elim (cases_Bool (eqb b 10)) [
      | inl e ↦ rw e (refl, h)
      | inr e ↦ rw e (are_lines-in_front b lines e h)
    ]

are_lines : (bytes : List ℕ) → AllByRecursion IsLine (lines_of bytes)
are_lines [] = tt
are_lines (b ∷ bytes) = are_lines-byte_before b (lines_of bytes) (are_lines bytes)

-- the group to which pairs belong has a name that can be written
abbrev pub IsGoodName : Option (List ℕ) → Type 0
IsGoodName None = Unit {0}
IsGoodName (Some name) = (is_name name ≡ true) × (is_utf8 name ≡ true)

pub record IsGoodReading (so_far : Reading) : Type 0 where
  pub file : is_good so_far.file ≡ true
  pub group : IsGoodName so_far.group

abbrev pub LeavesGood : Result Reading KeyRule → Type 0
LeavesGood (Ok so_far) = IsGoodReading so_far
LeavesGood (Err rule) = Unit {0}

good_with_entry : (so_far : Reading) (group : Option (List ℕ)) (key value : List ℕ) → is_good so_far.file ≡ true → so_far.group ≡ group → IsGoodName group → is_good_pair (record { key = key; value = value }) ≡ true → LeavesGood (with_entry so_far group key value)
good_with_entry so_far None key value h same name pair = tt
good_with_entry so_far (Some name) key value h same good pair =
    record { file = good-with_pair so_far.file name key value h good.0 good.1 pair; group = rw same good }

good_after_statement : (so_far : Reading) (said : Result Statement KeyRule) → IsGoodReading so_far → SaysGood said → LeavesGood (after_statement so_far said)
good_after_statement so_far (Err rule) h s = tt
good_after_statement so_far (Ok nothing) h s = h
good_after_statement so_far (Ok (header name)) h s = record { file = good-with_group so_far.file name h.file s.0 s.1; group = s }
good_after_statement so_far (Ok (entry key value)) h s = good_with_entry so_far so_far.group key value h.file refl h.group s

abbrev pub ReadsGood : Result (List Group) KeyFault → Type 0
ReadsGood read = IfOk read (λ file. is_good file ≡ true)

good_go_on : (number : ℕ) (step : Result Reading KeyRule) (next : Reading → Result (List Group) KeyFault) → LeavesGood step → ((so_far : Reading) → IsGoodReading so_far → ReadsGood (next so_far)) → ReadsGood (go_on number step next)
good_go_on number (Err rule) next h goes = tt
good_go_on number (Ok so_far) next h goes = goes so_far h

good_file_from : (number : ℕ) (so_far : Reading) (lines : List (List ℕ)) → IsGoodReading so_far → AllByRecursion IsLine lines → ReadsGood (file_from number so_far lines)
good_file_from number so_far [] h lines = h.file
good_file_from number so_far (line ∷ lines) h are =
    good_go_on number (after_line so_far line) (λ next. file_from (suc number) next lines) (good_after_statement so_far (line_says line) h (good_line_says line are.0)) (λ next good. good_file_from (suc number) next lines good are.1)

good_nothing : is_good [] ≡ true
unfolding is_good
good_nothing = refl

pub good_file_of : (bytes : List ℕ) → IfOk (file_of bytes) (λ file. is_good file ≡ true)
unfolding file_of
good_file_of bytes = good_file_from 1 beginning (lines_of bytes) (record { file = good_nothing; group = tt }) (are_lines bytes)

-- ---- what is written reads back

-- the lines that are written
abbrev pub pair_line : Pair → List ℕ
pair_line p = Written.entry_line p.key p.value

abbrev pub lines_with : List Group → List (List ℕ)
lines_with [] = []
lines_with (g ∷ file) = Written.header_line g.name ∷ (map pair_line g.pairs ++ lines_with file)

lines_of-pairs : (pairs : List Pair) (rest : List ℕ) → list_all is_good_pair pairs ≡ true → lines_of (flat_map pair_text pairs ++ rest) ≡ map pair_line pairs ++ lines_of rest
lines_of-pairs [] rest h = refl
lines_of-pairs (p ∷ pairs) rest h =
    let a = and_parts (is_good_pair p) (list_all is_good_pair pairs) h in
    let g = good_pair_parts p a.0 in
    let k = Written.IsKeyText-from p.key g.key in
    let v = Written.IsValueText-from p.value g.value in
    let more = flat_map pair_text pairs ++ rest in
    let none : list_any (λ b. eqb b 10) (pair_line p) ≡ false = Written.none_in_entry 10 p.key p.value refl refl refl k.bytes v.bytes in
    let regrouped : flat_map pair_text (p ∷ pairs) ++ rest ≡ pair_line p ++ (10 ∷ more) = simp append_assoc in
    ap lines_of regrouped ∙ Written.lines_of-line (pair_line p) more none ∙ ap (λ (ls : List (List ℕ)). pair_line p ∷ ls) (lines_of-pairs pairs rest a.1)

lines_of-text : (file : List Group) → list_all is_good_group file ≡ true → lines_of (flat_map group_text file) ≡ lines_with file
lines_of-text [] h = refl
lines_of-text (g ∷ file) h =
    let a = and_parts (is_good_group g) (list_all is_good_group file) h in
    let good = good_group_parts g a.0 in
    let more = flat_map group_text file in
    let none : list_any (λ b. eqb b 10) (Written.header_line g.name) ≡ false = Written.none_in_header 10 g.name refl refl refl (Written.name_bytes g.name good.name) in
    let regrouped : flat_map group_text (g ∷ file) ≡ Written.header_line g.name ++ (10 ∷ (flat_map pair_text g.pairs ++ more)) = simp append_assoc in
    ap lines_of regrouped ∙ Written.lines_of-line (Written.header_line g.name) (flat_map pair_text g.pairs ++ more) none
    ∙ ap (λ (ls : List (List ℕ)). Written.header_line g.name ∷ ls) (lines_of-pairs g.pairs more good.pairs ∙ ap (λ (ls : List (List ℕ)). map pair_line g.pairs ++ ls) (lines_of-text file a.1))

-- a name that comes after others without doubles isn't among them
distinct_before : (xs : List (List ℕ)) (y : List ℕ) (ys : List (List ℕ)) → are_distinct (xs ++ (y ∷ ys)) ≡ true → list_any (λ x. bytes_eq x y) xs ≡ false
distinct_before [] y ys h = refl
distinct_before (x ∷ xs) y ys h =
    let a = and_parts (not (list_any (bytes_eq x) (xs ++ (y ∷ ys)))) (are_distinct (xs ++ (y ∷ ys))) h in
    let none : (list_any (bytes_eq x) xs || (bytes_eq x y || list_any (bytes_eq x) ys)) ≡ false = sym (list_any-append (bytes_eq x) xs (y ∷ ys)) ∙ not-true _ a.0 in
    let b = or_parts (list_any (bytes_eq x) xs) (bytes_eq x y || list_any (bytes_eq x) ys) none in
    let c = or_parts (bytes_eq x y) (list_any (bytes_eq x) ys) b.1 in
    or_from (bytes_eq x y) (list_any (λ x. bytes_eq x y) xs) c.0 (distinct_before xs y ys a.1)

-- the file so far, whose last group has these pairs
abbrev pub within : List Group → List ℕ → List Pair → Reading
within file name pairs = record { file = file ++ (record { name = name; pairs = pairs } ∷ []); group = Some name }

pub map_keys-append : (ps qs : List Pair) → keys_of (ps ++ qs) ≡ keys_of ps ++ keys_of qs
map_keys-append [] qs = refl
map_keys-append (p ∷ ps) qs = ap (λ (ks : List (List ℕ)). p.key ∷ ks) (map_keys-append ps qs)

map_names-append : (fs gs : List Group) → names_of (fs ++ gs) ≡ names_of fs ++ names_of gs
map_names-append [] gs = refl
map_names-append (f ∷ fs) gs = ap (λ (ns : List (List ℕ)). f.name ∷ ns) (map_names-append fs gs)

reads_pairs : (file : List Group) (name : List ℕ) (ps qs : List Pair) (lines : List (List ℕ)) (end : List Group) → list_any (λ n. bytes_eq n name) (names_of file) ≡ false → are_distinct (keys_of (ps ++ qs)) ≡ true → list_all is_good_pair qs ≡ true
    → ((number : ℕ) → file_from number (within file name (ps ++ qs)) lines ≡ Ok end) → (number : ℕ) → file_from number (within file name ps) (map pair_line qs ++ lines) ≡ Ok end
reads_pairs file name ps [] lines end absent distinct good goes number = ap (λ (w : List Pair). file_from number (within file name w) lines) (sym (append-nil ps)) ∙ goes number
reads_pairs file name ps (q ∷ qs) lines end absent distinct good goes number =
    let a = and_parts (is_good_pair q) (list_all is_good_pair qs) good in
    let said : line_says (pair_line q) ≡ Ok (entry q.key q.value) = Written.entry_line-says q.key q.value a.0 (good_pair_parts q a.0) in
    let new : list_any (λ k. bytes_eq k q.key) (keys_of ps) ≡ false = distinct_before (keys_of ps) q.key (keys_of qs) (ap are_distinct (sym (map_keys-append ps (q ∷ qs))) ∙ distinct) in
    let put : with_pair (file ++ (record { name = name; pairs = ps } ∷ [])) name q.key q.value ≡ file ++ (record { name = name; pairs = ps ++ (q ∷ []) } ∷ []) = with_pair_last file name ps q.key q.value absent ∙ ap (λ (w : List Pair). file ++ (record { name = name; pairs = w } ∷ [])) (with_key_new ps q.key q.value new) in
    let step : after_line (within file name ps) (pair_line q) ≡ Ok (within file name (ps ++ (q ∷ []))) = ap (after_statement (within file name ps)) said ∙ ap (λ (f : List Group). Ok (record { file = f; group = Some name })) put in
    let same : (ps ++ (q ∷ [])) ++ qs ≡ ps ++ (q ∷ qs) = append_assoc ps (q ∷ []) qs in
    let rest = reads_pairs file name (ps ++ (q ∷ [])) qs lines end absent (ap (λ (w : List Pair). are_distinct (keys_of w)) same ∙ distinct) a.1 (λ n. ap (λ (w : List Pair). file_from n (within file name w) lines) same ∙ goes n) (suc number) in
    ap (λ (s : Result Reading KeyRule). go_on number s (λ next. file_from (suc number) next (map pair_line qs ++ lines))) step ∙ rest

reads_groups : (done : List Group) (group : Option (List ℕ)) (file : List Group) → list_all is_good_group file ≡ true → are_distinct (names_of (done ++ file)) ≡ true → (number : ℕ) → file_from number (record { file = done; group = group }) (lines_with file) ≡ Ok (done ++ file)
reads_groups done group [] good distinct number = ap (λ (w : List Group). Ok w) (sym (append-nil done))
reads_groups done group (g ∷ file) good distinct number =
    let a = and_parts (is_good_group g) (list_all is_good_group file) good in
    let h = good_group_parts g a.0 in
    let said : line_says (Written.header_line g.name) ≡ Ok (header g.name) = Written.header_line-says g.name h.name h.name_text in
    let new : list_any (λ n. bytes_eq n g.name) (names_of done) ≡ false = distinct_before (names_of done) g.name (names_of file) (ap are_distinct (sym (map_names-append done (g ∷ file))) ∙ distinct) in
    let step : after_line (record { file = done; group = group }) (Written.header_line g.name) ≡ Ok (within done g.name []) = ap (after_statement (record { file = done; group = group })) said ∙ ap (λ (f : List Group). Ok (record { file = f; group = Some g.name })) (with_group_new done g.name new) in
    let same : (done ++ (g ∷ [])) ++ file ≡ done ++ (g ∷ file) = append_assoc done (g ∷ []) file in
    let rest = reads_pairs done g.name [] g.pairs (lines_with file) (done ++ (g ∷ file)) new h.keys h.pairs (λ n. reads_groups (done ++ (g ∷ [])) (Some g.name) file a.1 (ap (λ (w : List Group). are_distinct (names_of w)) same ∙ distinct) n ∙ ap (λ (w : List Group). Ok w) same) (suc number) in
    ap (λ (s : Result Reading KeyRule). go_on number s (λ next. file_from (suc number) next (map pair_line g.pairs ++ lines_with file))) step ∙ rest

pub file_of-text_of : (file : List Group) → is_good file ≡ true → file_of (text_of file) ≡ Ok file
unfolding file_of text_of
file_of-text_of file h =
    let a = good_parts file h in
    ap (file_from 1 beginning) (lines_of-text file a.groups) ∙ reads_groups [] None file a.groups a.names 1
