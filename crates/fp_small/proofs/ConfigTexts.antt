-- The text of a `config` reads back.
use Rattle.std.proofs.Common.{◌≡◌, ⊎_elim, ℕ, ◌+◌, ◌-◌, ◌<◌, Bool, true, false, not, ◌&&◌, ◌||◌, eqb, leb, List, [], ◌∷◌, ◌++◌, length, map, take, drop, codes, Option, Some, None, refl, sym, ap, ◌∙◌, arith, length-append, append-nil}
use Rattle.std.specs.List.{list_all, list_any, filter_map, slice_split, join_with_byte}
use Rattle.std.specs.Option.{option_and_then, is_some}
use Rattle.std.specs.Char.{is_ascii_graphic}
use Rattle.std.specs.Str.{is_utf8, bytes_eq}
use Rattle.std.proofs.lemmas.Bool.{and_parts, and_from, or_cases, or_left, or_right, or_from, or_parts, not-true, not_from_false, ne_eqb, false≢true, both_ways, false_from_ne_true, le-leb}
use Rattle.std.proofs.lemmas.Bool.Decides.{nat_tests}
use Rattle.std.proofs.lemmas.List.{drop-drop, take-append-drop, drop-append-le, take-append-le, take_all, drop_all}
use Rattle.std.proofs.lemmas.List.Elements.{filter_map-append}
use Rattle.std.proofs.lemmas.List.Folds.{list_all-append}
use Rattle.std.proofs.lemmas.Slice.Eq.{bytes_eq-Decides}
use Rattle.std.proofs.lemmas.Str.{IsUtf8-from_ascii, is_utf8-from_IsUtf8}
use Rattle.std.proofs.lemmas.Str.Ascii.{IsAscii-from_all}
use Rattle.fp_host.specs.Reads.{comes_first, is_ascending}
use Rattle.fp_name.specs.Bytes.{is_dotted, is_slash}
use Rattle.fp_name.specs.Grammar.{is_remote_name, is_url, is_id, is_arch, is_branch}
use Rattle.fp_name.specs.Kinds.{kind_word}
use Rattle.fp_name.specs.Refs.{Ref, ref_text, parts_of}
use Rattle.fp_name.specs.Pins.{is_star, is_pin, are_pin_parts}
use Rattle.fp_name.specs.declared.kind.RefKind.{RefKind}
use Rattle.fp_name.specs.declared.kind.RefKind.TheVariants.{App, Runtime}
use Rattle.fp_name.proofs.Bytes.{list_all-wider, All-from_list_all, dotted_id, dotted_arch, dotted_branch, dotted_remote_name, graphic_ascii}
use Rattle.fp_name.proofs.Refs.{parts_are}
use Rattle.std.proofs.lemmas.List.Splits.{join_with_byte-slice_split}
use Rattle.fp_base.proofs.Texts.{bytes_eq-true}
use Rattle.fp_keyfile.specs.declared.group.Group.{Group}
use Rattle.fp_keyfile.specs.Grammar.{is_blank, is_return, begins_so, ends_so, is_name_byte, is_name, is_key_byte, begins_no_key, is_key, is_value_byte, is_value}
use Rattle.fp_keyfile.specs.KeyFile.{names_of, keys_of, keys_at, group_at, are_distinct, is_good_pair, is_good_group, is_good}
use Rattle.fp_keyfile.proofs.Good.{good_pair_from, good_group_from, good_from}
use Rattle.fp_keyfile.proofs.Read.{file_of-text_of}
use Rattle.fp_small.specs.declared.state.RemoteRow.{RemoteRow}
use Rattle.fp_small.specs.declared.config.Settings.{Settings}
use Rattle.fp_small.specs.Order.{comes_before, sorted_by}
use Rattle.fp_small.specs.Config.{name_of, is_layout, is_pin_pair, is_pins, remote_front, is_quoted, quoted_name, row_of, remote_of, is_part, remotes_in, pins_in, is_config, settings_of, config_of, is_row, IsSettings, layout_group, remote_group, pin_pair, pins_groups, config_file, config_text}
use Rattle.fp_small.proofs.Ordered.{bytes_eq-differ, before_on, before_differs, sorted_by-ascending}
use Rattle.fp_small.proofs.ConfigReads.{config_is}

-- ---- bytes

utf8_by : (p : ℕ → Bool) (text : List ℕ) → ((c : ℕ) → p c ≡ true → c < 128) → list_all p text ≡ true → is_utf8 text ≡ true
utf8_by p text ascii h = is_utf8-from_IsUtf8 text (IsUtf8-from_ascii text (IsAscii-from_all text (All-from_list_all p (λ b. b < 128) ascii text h)))

begins_by : (p q : ℕ → Bool) (text : List ℕ) → ((c : ℕ) → p c ≡ true → q c ≡ false) → list_all p text ≡ true → begins_so q text ≡ false
begins_by p q [] none h = refl
begins_by p q (c ∷ cs) none h = none c (and_parts (p c) (list_all p cs) h).0

pub ends_by : (p q : ℕ → Bool) (text : List ℕ) → ((c : ℕ) → p c ≡ true → q c ≡ false) → list_all p text ≡ true → ends_so q text ≡ false
ends_by p q [] none h = refl
ends_by p q (c ∷ []) none h = none c (and_parts (p c) true h).0
ends_by p q (c ∷ d ∷ cs) none h = ends_by p q (d ∷ cs) none (and_parts (p c) (list_all p (d ∷ cs)) h).1

-- ---- the bytes of a url

url_bytes : (url : List ℕ) → is_url url ≡ true → list_all is_ascii_graphic url ≡ true
unfolding is_url
url_bytes url h =
    let a = and_parts (leb (length url) 1024) (bytes_eq (take 8 url) (codes "file:///") && list_all is_ascii_graphic (drop 8 url)) h in
    let b = and_parts (bytes_eq (take 8 url) (codes "file:///")) (list_all is_ascii_graphic (drop 8 url)) a.1 in
    let front : list_all is_ascii_graphic (take 8 url) ≡ true = ap (list_all is_ascii_graphic) (bytes_eq-true (take 8 url) (codes "file:///") b.0) in
    ap (list_all is_ascii_graphic) (sym (take-append-drop 8 url)) ∙ list_all-append is_ascii_graphic (take 8 url) (drop 8 url) ∙ and_from (list_all is_ascii_graphic (take 8 url)) (list_all is_ascii_graphic (drop 8 url)) front b.1

graphic_value : (c : ℕ) → is_ascii_graphic c ≡ true → is_value_byte c ≡ true
graphic_value c h = grind (arith, nat_tests)

graphic_blank : (c : ℕ) → is_ascii_graphic c ≡ true → is_blank c ≡ false
graphic_blank c h = grind (arith, nat_tests)

graphic_return : (c : ℕ) → is_ascii_graphic c ≡ true → is_return c ≡ false
graphic_return c h = grind (arith, nat_tests)

url_value : (url : List ℕ) → is_url url ≡ true → is_value url ≡ true
url_value url h =
    let bytes = url_bytes url h in
    rw (list_all-wider is_ascii_graphic is_value_byte graphic_value url bytes, begins_by is_ascii_graphic is_blank url graphic_blank bytes, ends_by is_ascii_graphic is_return url graphic_return bytes) refl

url_text : (url : List ℕ) → is_url url ≡ true → is_utf8 url ≡ true
url_text url h = utf8_by is_ascii_graphic url graphic_ascii (url_bytes url h)

-- ---- the bytes of a header

is_header_byte : ℕ → Bool
is_header_byte c = is_dotted c || eqb c 32 || eqb c 34

header_ascii : (c : ℕ) → is_header_byte c ≡ true → c < 128
unfolding is_header_byte
header_ascii c h = grind (arith, nat_tests)

header_byte : (c : ℕ) → is_header_byte c ≡ true → is_name_byte c ≡ true
unfolding is_header_byte
header_byte c h = grind (arith, nat_tests)

dotted_header : (c : ℕ) → is_dotted c ≡ true → is_header_byte c ≡ true
unfolding is_header_byte
dotted_header c h = or_left (is_dotted c || eqb c 32) (eqb c 34) (or_left (is_dotted c) (eqb c 32) h)

header_of : List ℕ → List ℕ
header_of name = remote_front ++ (name ++ codes "\"")

header_bytes : (name : List ℕ) → is_remote_name name ≡ true → list_all is_header_byte (header_of name) ≡ true
unfolding is_header_byte header_of
header_bytes name h = list_all-append is_header_byte name (codes "\"") ∙ and_from (list_all is_header_byte name) true (list_all-wider is_dotted is_header_byte dotted_header name (dotted_remote_name name h)) refl

header_name : (name : List ℕ) → is_remote_name name ≡ true → is_name (header_of name) ≡ true
unfolding header_of
header_name name h =
    and_from (not (eqb (length (header_of name)) 0)) (list_all is_name_byte (header_of name)) (not_from_false (eqb (length (header_of name)) 0) (ne_eqb (length (header_of name)) 0 (λ e. omega (arith, e)))) (list_all-wider is_header_byte is_name_byte header_byte (header_of name) (header_bytes name h))

header_text : (name : List ℕ) → is_remote_name name ≡ true → is_utf8 (header_of name) ≡ true
header_text name h = utf8_by is_header_byte (header_of name) header_ascii (header_bytes name h)

-- ---- the bytes of a pattern

is_pin_byte : ℕ → Bool
is_pin_byte c = is_dotted c || eqb c 47 || eqb c 42

pin_ascii : (c : ℕ) → is_pin_byte c ≡ true → c < 128
unfolding is_pin_byte
pin_ascii c h = grind (arith, nat_tests)

pin_key : (c : ℕ) → is_pin_byte c ≡ true → is_key_byte c ≡ true
unfolding is_pin_byte
pin_key c h = grind (arith, nat_tests)

pin_start : (c : ℕ) → is_pin_byte c ≡ true → begins_no_key c ≡ false
unfolding is_pin_byte
pin_start c h = grind (arith, nat_tests)

pin_blank : (c : ℕ) → is_pin_byte c ≡ true → is_blank c ≡ false
unfolding is_pin_byte
pin_blank c h = grind (arith, nat_tests)

dotted_pin : (c : ℕ) → is_dotted c ≡ true → is_pin_byte c ≡ true
unfolding is_pin_byte
dotted_pin c h = or_left (is_dotted c || eqb c 47) (eqb c 42) (or_left (is_dotted c) (eqb c 47) h)

star_bytes : (part : List ℕ) → is_star part ≡ true → list_all is_pin_byte part ≡ true
unfolding is_pin_byte
star_bytes part h = ap (list_all is_pin_byte) (bytes_eq-true part (codes "*") h)

part_bytes : (passes : List ℕ → Bool) (part : List ℕ) → (passes part ≡ true → list_all is_dotted part ≡ true) → (is_star part || passes part) ≡ true → list_all is_pin_byte part ≡ true
part_bytes passes part dotted h =
    ⊎_elim (star_bytes part) (λ good. list_all-wider is_dotted is_pin_byte dotted_pin part (dotted good)) (or_cases (is_star part) (passes part) h)

kind_bytes : (kind : RefKind) → list_all is_pin_byte (kind_word kind) ≡ true
unfolding is_pin_byte
kind_bytes App = refl
kind_bytes Runtime = refl

joined_bytes : (r : Ref) → list_all is_pin_byte r.id ≡ true → list_all is_pin_byte r.arch ≡ true → list_all is_pin_byte r.branch ≡ true → list_all is_pin_byte (ref_text r) ≡ true
unfolding is_pin_byte
joined_bytes r id arch branch =
    simp (list_all-append, kind_bytes r.kind, id, arch, branch)

pin_bytes_by : (pin : List ℕ) (o : Option Ref) → parts_of pin ≡ o → are_pin_parts o ≡ true → list_all is_pin_byte pin ≡ true
pin_bytes_by pin None e h = absurd (false≢true h)
pin_bytes_by pin (Some p) e h =
    let first = and_parts (is_star p.id || is_id p.id) ((is_star p.arch || is_arch p.arch) && (is_star p.branch || is_branch p.branch)) h in
    let others = and_parts (is_star p.arch || is_arch p.arch) (is_star p.branch || is_branch p.branch) first.1 in
    let whole : pin ≡ ref_text p = sym (join_with_byte-slice_split 47 pin) ∙ ap (join_with_byte 47) (parts_are (slice_split is_slash pin) p e) in
    ap (list_all is_pin_byte) whole ∙ joined_bytes p (part_bytes is_id p.id (dotted_id p.id) first.0) (part_bytes is_arch p.arch (dotted_arch p.arch) others.0) (part_bytes is_branch p.branch (dotted_branch p.branch) others.1)

pin_bytes : (pin : List ℕ) → is_pin pin ≡ true → list_all is_pin_byte pin ≡ true
unfolding is_pin
pin_bytes pin h = pin_bytes_by pin (parts_of pin) refl h

some_bytes : (pin : List ℕ) → is_pin pin ≡ true → eqb (length pin) 0 ≡ false
unfolding is_pin
some_bytes [] h = absurd (false≢true h)
some_bytes (c ∷ cs) h = grind (arith, nat_tests)

pin_is_key : (pin : List ℕ) → is_pin pin ≡ true → is_key pin ≡ true
pin_is_key pin h =
    let bytes = pin_bytes pin h in
    rw (some_bytes pin h, begins_by is_pin_byte begins_no_key pin pin_start bytes, list_all-wider is_pin_byte is_key_byte pin_key pin bytes, ends_by is_pin_byte is_blank pin pin_blank bytes) refl

pin_text : (pin : List ℕ) → is_pin pin ≡ true → is_utf8 pin ≡ true
pin_text pin h = utf8_by is_pin_byte pin pin_ascii (pin_bytes pin h)

-- ---- names that ascend are distinct

apart_remainder : (x : List ℕ) (xs : List (List ℕ)) → comes_first x xs ≡ true → is_ascending xs ≡ true → list_any (bytes_eq x) xs ≡ false
apart_remainder x [] first h = refl
apart_remainder x (y ∷ ys) first h =
    let a = and_parts (comes_first y ys) (is_ascending ys) h in
    or_from (bytes_eq x y) (list_any (bytes_eq x) ys) (bytes_eq-differ y x (before_differs x y first)) (apart_remainder x ys (next ys first a.0) a.1)
  where
    next : (zs : List (List ℕ)) → comes_before x y ≡ true → comes_first y zs ≡ true → comes_first x zs ≡ true
    next [] b f = refl
    next (z ∷ zs) b f = before_on x y z b f

pub distinct-ascending : (xs : List (List ℕ)) → is_ascending xs ≡ true → are_distinct xs ≡ true
distinct-ascending [] h = refl
distinct-ascending (x ∷ xs) h =
    let a = and_parts (comes_first x xs) (is_ascending xs) h in
    and_from (not (list_any (bytes_eq x) xs)) (are_distinct xs) (not_from_false (list_any (bytes_eq x) xs) (apart_remainder x xs a.0 a.1)) (distinct-ascending xs a.1)

-- ---- the name in a header that is written

quoted_back : (name : List ℕ) → quoted_name (header_of name) ≡ Some name
unfolding header_of
quoted_back name =
    let long : length (header_of name) ≡ length name + 9 = omega (arith, length-append name (codes "\"")) in
    let less : length (header_of name) - 9 ≡ length name = omega (arith, long) in
    let last : drop (length (header_of name) - 1) (header_of name) ≡ codes "\"" =
    ap (λ (k : ℕ). drop k (header_of name)) (let e : length (header_of name) - 1 ≡ 8 + length name = omega (arith, long) in e) ∙ sym (drop-drop (length name) 8 (header_of name)) ∙ drop-append-le (length name) name (codes "\"") (omega arith) ∙ ap (λ (y : List ℕ). y ++ codes "\"") (drop_all (length name) name (omega arith)) in
    let front : take (length (header_of name) - 9) (drop 8 (header_of name)) ≡ name =
    ap (λ (k : ℕ). take k (name ++ codes "\"")) less ∙ take-append-le (length name) name (codes "\"") (omega arith) ∙ take_all (length name) name (omega arith) in
    let e : is_quoted (header_of name) ≡ true = and_from (leb 9 (length (header_of name)) && true) (bytes_eq (drop (length (header_of name) - 1) (header_of name)) (codes "\"")) (and_from (leb 9 (length (header_of name))) true (le-leb 9 (length (header_of name)) (omega (arith, long))) refl) (ap (λ (y : List ℕ). bytes_eq y (codes "\"")) last) in
    rw e (ap (λ (n : List ℕ). Some n) front)

remote_back : (row : RemoteRow) → is_row row ≡ true → remote_of (remote_group row) ≡ Some row
unfolding remote_of header_of
remote_back row h =
    let a = and_parts (is_remote_name row.name) (is_url row.url) h in
    ap (option_and_then (λ name. row_of name (remote_group row).pairs)) (quoted_back row.name) ∙ (rw (a.0, a.1) refl)

rows_back : (rows : List RemoteRow) → list_all is_row rows ≡ true → filter_map remote_of (map remote_group rows) ≡ rows
rows_back [] h = refl
rows_back (row ∷ rows) h =
    let a = and_parts (is_row row) (list_all is_row rows) h in
    rw (remote_back row a.0) (ap (λ (rs : List RemoteRow). row ∷ rs) (rows_back rows a.1))

no_remote_in_pins : (pins : List (List ℕ)) → filter_map remote_of (pins_groups pins) ≡ []
unfolding remote_of
no_remote_in_pins [] = refl
no_remote_in_pins (pin ∷ pins) = refl

layout_no_remote : remote_of layout_group ≡ None
unfolding remote_of
layout_no_remote = refl

remotes_back : (s : Settings) → IsSettings s → remotes_in (config_file s) ≡ s.remotes
remotes_back s h = rw layout_no_remote (filter_map-append remote_of (map remote_group s.remotes) (pins_groups s.pins) ∙ ap (λ (rs : List RemoteRow). rs ++ filter_map remote_of (pins_groups s.pins)) (rows_back s.remotes h.rows) ∙ ap (λ (rs : List RemoteRow). s.remotes ++ rs) (no_remote_in_pins s.pins) ∙ append-nil s.remotes)

-- ---- the pins that are written

keys_back : (pins : List (List ℕ)) → keys_of (map pin_pair pins) ≡ pins
keys_back [] = refl
keys_back (pin ∷ pins) = ap (λ (ps : List (List ℕ)). pin ∷ ps) (keys_back pins)

pins_remainder : (rows : List RemoteRow) (file : List Group) → group_at (map remote_group rows ++ file) (codes "pins") ≡ group_at file (codes "pins")
pins_remainder [] file = refl
pins_remainder (row ∷ rows) file = pins_remainder rows file

keys_here : (pins : List (List ℕ)) → keys_at (pins_groups pins) (codes "pins") ≡ pins
unfolding keys_at
keys_here [] = refl
keys_here (pin ∷ pins) = keys_back (pin ∷ pins)

pins_back : (s : Settings) → pins_in (config_file s) ≡ s.pins
unfolding keys_at
pins_back s = rw (pins_remainder s.remotes (pins_groups s.pins)) (keys_here s.pins)

-- ---- each part is one

pin_pairs : (pins : List (List ℕ)) → list_all is_pin pins ≡ true → list_all is_pin_pair (map pin_pair pins) ≡ true
pin_pairs [] h = refl
pin_pairs (pin ∷ pins) h =
    let a = and_parts (is_pin pin) (list_all is_pin pins) h in
    and_from (is_pin pin && true) (list_all is_pin_pair (map pin_pair pins)) (and_from (is_pin pin) true a.0 refl) (pin_pairs pins a.1)

remotes_are_parts : (rows : List RemoteRow) → list_all is_row rows ≡ true → list_all is_part (map remote_group rows) ≡ true
remotes_are_parts [] h = refl
remotes_are_parts (row ∷ rows) h =
    let a = and_parts (is_row row) (list_all is_row rows) h in
    and_from (is_part (remote_group row)) (list_all is_part (map remote_group rows)) (or_right (is_layout (remote_group row) || is_pins (remote_group row)) (is_some (remote_of (remote_group row))) (ap is_some (remote_back row a.0))) (remotes_are_parts rows a.1)

pins_are_parts : (pins : List (List ℕ)) → list_all is_pin pins ≡ true → list_all is_part (pins_groups pins) ≡ true
pins_are_parts [] h = refl
pins_are_parts (pin ∷ pins) h =
    let g : Group = record { name = codes "pins"; pairs = map pin_pair (pin ∷ pins) } in
    and_from (is_part g) true (or_left (is_layout g || is_pins g) (is_some (remote_of g)) (or_right (is_layout g) (is_pins g) (pin_pairs (pin ∷ pins) h))) refl

parts_written : (s : Settings) → IsSettings s → list_all is_part (config_file s) ≡ true
parts_written s h = list_all-append is_part (map remote_group s.remotes) (pins_groups s.pins) ∙ and_from (list_all is_part (map remote_group s.remotes)) (list_all is_part (pins_groups s.pins)) (remotes_are_parts s.remotes h.rows) (pins_are_parts s.pins h.patterns)

config_written : (s : Settings) → IsSettings s → is_config (config_file s) ≡ true
unfolding is_config
config_written s h =
    and_from (list_any is_layout (config_file s) && list_all is_part (config_file s) && leb (length (remotes_in (config_file s))) 256) (leb (length (pins_in (config_file s))) 1024)
    (and_from (list_any is_layout (config_file s) && list_all is_part (config_file s)) (leb (length (remotes_in (config_file s))) 256) (parts_written s h) (ap (λ (rows : List RemoteRow). leb (length rows) 256) (remotes_back s h) ∙ le-leb (length s.remotes) 256 h.few_remotes))
    (ap (λ (pins : List (List ℕ)). leb (length pins) 1024) (pins_back s) ∙ le-leb (length s.pins) 1024 h.few_pins)

map-itself : (xs : List (List ℕ)) → map (λ x. x) xs ≡ xs
map-itself [] = refl
map-itself (x ∷ xs) = ap (λ (ys : List (List ℕ)). x ∷ ys) (map-itself xs)

some_settings : (remotes more : List RemoteRow) (pins others : List (List ℕ)) → remotes ≡ more → pins ≡ others → Some (let s : Settings = record { remotes = remotes; pins = pins } in s) ≡ Some (record { remotes = more; pins = others })
some_settings remotes more pins others r p = ap (λ (rows : List RemoteRow). Some (let s : Settings = record { remotes = rows; pins = pins } in s)) r ∙ ap (λ (ps : List (List ℕ)). Some (let s : Settings = record { remotes = more; pins = ps } in s)) p

settings_written : (s : Settings) → IsSettings s → settings_of (config_file s) ≡ Some s
settings_written s h =
    rw (config_written s h) (some_settings _ s.remotes _ s.pins
    (ap (sorted_by name_of) (remotes_back s h) ∙ sorted_by-ascending name_of s.remotes h.remotes_ascend)
    (ap (sorted_by (λ (pin : List ℕ). pin)) (pins_back s) ∙ sorted_by-ascending (λ (pin : List ℕ). pin) s.pins (ap is_ascending (map-itself s.pins) ∙ h.pins_ascend)))

-- ---- the file can be written

layout_good : is_good_group layout_group ≡ true
layout_good = good_group_from layout_group (record {
  name = refl;
  name_text = utf8_by is_dotted (codes "installation") (λ c h. grind (arith, nat_tests)) refl;
  pairs = and_from (is_good_pair (record { key = codes "layout"; value = codes "2" })) true (good_pair_from (record { key = codes "layout"; value = codes "2" }) (record {
    key = refl;
    value = refl;
    key_text = utf8_by is_dotted (codes "layout") (λ c h. grind (arith, nat_tests)) refl;
    value_text = utf8_by is_dotted (codes "2") (λ c h. grind (arith, nat_tests)) refl;
  })) refl;
  keys = refl;
})

remote_good : (row : RemoteRow) → is_row row ≡ true → is_good_group (remote_group row) ≡ true
unfolding header_of
remote_good row h =
    let a = and_parts (is_remote_name row.name) (is_url row.url) h in
    good_group_from (remote_group row) (record {
      name = header_name row.name a.0;
      name_text = header_text row.name a.0;
      pairs = and_from (is_good_pair (record { key = codes "url"; value = row.url })) true (good_pair_from (record { key = codes "url"; value = row.url }) (record {
        key = refl;
        value = url_value row.url a.1;
        key_text = utf8_by is_dotted (codes "url") (λ c h. grind (arith, nat_tests)) refl;
        value_text = url_text row.url a.1;
      })) refl;
      keys = refl;
    })

remotes_good : (rows : List RemoteRow) → list_all is_row rows ≡ true → list_all is_good_group (map remote_group rows) ≡ true
remotes_good [] h = refl
remotes_good (row ∷ rows) h =
    let a = and_parts (is_row row) (list_all is_row rows) h in
    and_from (is_good_group (remote_group row)) (list_all is_good_group (map remote_group rows)) (remote_good row a.0) (remotes_good rows a.1)

pin_pairs_good : (pins : List (List ℕ)) → list_all is_pin pins ≡ true → list_all is_good_pair (map pin_pair pins) ≡ true
pin_pairs_good [] h = refl
pin_pairs_good (pin ∷ pins) h =
    let a = and_parts (is_pin pin) (list_all is_pin pins) h in
    and_from (is_good_pair (pin_pair pin)) (list_all is_good_pair (map pin_pair pins)) (good_pair_from (pin_pair pin) (record {
      key = pin_is_key pin a.0;
      value = refl;
      key_text = pin_text pin a.0;
      value_text = utf8_by is_dotted (codes "true") (λ c h. grind (arith, nat_tests)) refl;
    })) (pin_pairs_good pins a.1)

pins_groups_good : (pins : List (List ℕ)) → list_all is_pin pins ≡ true → is_ascending pins ≡ true → list_all is_good_group (pins_groups pins) ≡ true
pins_groups_good [] h asc = refl
pins_groups_good (pin ∷ pins) h asc =
    let g : Group = record { name = codes "pins"; pairs = map pin_pair (pin ∷ pins) } in
    and_from (is_good_group g) true (good_group_from g (record {
      name = refl;
      name_text = utf8_by is_dotted (codes "pins") (λ c h. grind (arith, nat_tests)) refl;
      pairs = pin_pairs_good (pin ∷ pins) h;
      keys = ap are_distinct (keys_back (pin ∷ pins)) ∙ distinct-ascending (pin ∷ pins) asc;
    })) refl

-- no header is the name of the pins
no_pins_among : (name : List ℕ) (pins : List (List ℕ)) → list_any (bytes_eq (header_of name)) (names_of (pins_groups pins)) ≡ false
unfolding header_of
no_pins_among name [] = refl
no_pins_among name (pin ∷ pins) = refl

some_name : {x y : List ℕ} → Some x ≡ Some y → x ≡ y
some_name e = cc

header_differs : (n m : List ℕ) → bytes_eq n m ≡ false → bytes_eq (header_of n) (header_of m) ≡ false
header_differs n m h = false_from_ne_true (bytes_eq (header_of n) (header_of m)) (λ t. both_ways (bytes_eq n m) h ((bytes_eq-Decides n m).1 (some_name (sym (quoted_back n) ∙ ap quoted_name (bytes_eq-true (header_of n) (header_of m) t) ∙ quoted_back m))))

header_apart : (name : List ℕ) (rows : List RemoteRow) (pins : List (List ℕ)) → list_any (bytes_eq name) (map name_of rows) ≡ false → list_any (bytes_eq (header_of name)) (names_of (map remote_group rows ++ pins_groups pins)) ≡ false
unfolding header_of
header_apart name [] pins h = no_pins_among name pins
header_apart name (row ∷ rows) pins h =
    let a = or_parts (bytes_eq name row.name) (list_any (bytes_eq name) (map name_of rows)) h in
    or_from (bytes_eq (header_of name) (header_of row.name)) (list_any (bytes_eq (header_of name)) (names_of (map remote_group rows ++ pins_groups pins))) (header_differs name row.name a.0) (header_apart name rows pins a.1)

names_apart : (rows : List RemoteRow) (pins : List (List ℕ)) → are_distinct (map name_of rows) ≡ true → are_distinct (names_of (map remote_group rows ++ pins_groups pins)) ≡ true
unfolding header_of
names_apart [] [] h = refl
names_apart [] (pin ∷ pins) h = refl
names_apart (row ∷ rows) pins h =
    let a = and_parts (not (list_any (bytes_eq row.name) (map name_of rows))) (are_distinct (map name_of rows)) h in
    let rest = names_of (map remote_group rows ++ pins_groups pins) in
    and_from (not (list_any (bytes_eq (header_of row.name)) rest)) (are_distinct rest) (not_from_false (list_any (bytes_eq (header_of row.name)) rest) (header_apart row.name rows pins (not-true (list_any (bytes_eq row.name) (map name_of rows)) a.0))) (names_apart rows pins a.1)

layout_apart : (rows : List RemoteRow) (pins : List (List ℕ)) → list_any (bytes_eq (codes "installation")) (names_of (map remote_group rows ++ pins_groups pins)) ≡ false
layout_apart [] [] = refl
layout_apart [] (pin ∷ pins) = refl
layout_apart (row ∷ rows) pins = layout_apart rows pins

pub good_written : (s : Settings) → IsSettings s → is_good (config_file s) ≡ true
good_written s h = good_from (config_file s) (record {
  groups = and_from (is_good_group layout_group) (list_all is_good_group (map remote_group s.remotes ++ pins_groups s.pins)) layout_good
      (list_all-append is_good_group (map remote_group s.remotes) (pins_groups s.pins) ∙ and_from (list_all is_good_group (map remote_group s.remotes)) (list_all is_good_group (pins_groups s.pins)) (remotes_good s.remotes h.rows) (pins_groups_good s.pins h.patterns h.pins_ascend));
  names = and_from (not (list_any (bytes_eq (codes "installation")) (names_of (map remote_group s.remotes ++ pins_groups s.pins)))) (are_distinct (names_of (map remote_group s.remotes ++ pins_groups s.pins))) (not_from_false (list_any (bytes_eq (codes "installation")) (names_of (map remote_group s.remotes ++ pins_groups s.pins))) (layout_apart s.remotes s.pins)) (names_apart s.remotes s.pins (distinct-ascending (map name_of s.remotes) h.remotes_ascend));
})

-- ---- and reads back

pub written_back : (s : Settings) → IsSettings s → config_of (config_text s) ≡ Some s
unfolding config_text
written_back s h = config_is (config_text s) (config_file s) (file_of-text_of (config_file s) (good_written s h)) ∙ settings_written s h
