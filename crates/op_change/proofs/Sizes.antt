-- A `config` that is written is short enough to be read.
use Rattle.std.proofs.Common.{◌≡◌, ◌≤◌, ◌+◌, ◌*◌, ℕ, Bool, true, ◌&&◌, ◌||◌, leb, List, [], ◌∷◌, ◌++◌, length, map, flat_map, codes, Option, Some, None, refl, sym, ap, ◌∙◌, subst, arith, length-append, ⊎_elim}
use Rattle.std.specs.List.{slice_split, join_with_byte, list_all}
use Rattle.std.proofs.lemmas.Bool.{and_parts, or_cases, leb-true, false≢true}
use Rattle.std.proofs.lemmas.Slice.Eq.{bytes_eq-Decides}
use Rattle.std.proofs.lemmas.List.Splits.{join_with_byte-slice_split}
use Rattle.fp_name.specs.Bytes.{is_slash}
use Rattle.fp_name.specs.Grammar.{is_id, is_arch, is_branch, is_remote_name, is_url}
use Rattle.fp_name.specs.Kinds.{kind_word}
use Rattle.fp_name.specs.Refs.{Ref, ref_text, parts_of}
use Rattle.fp_name.specs.Pins.{is_star, are_pin_parts, is_pin}
use Rattle.fp_name.proofs.Refs.{parts_are}
use Rattle.fp_name.proofs.Lengths.{id_short, arch_short, branch_short, word_short, remote_short}
use Rattle.fp_keyfile.specs.declared.group.Pair.{Pair}
use Rattle.fp_keyfile.specs.declared.group.Group.{Group}
use Rattle.fp_keyfile.specs.KeyFile.{pair_text, group_text, text_of}
use Rattle.fp_small.specs.Config.{config_text, layout_group, remote_group, remote_front, pin_pair, pins_groups, is_row, IsSettings}
use Rattle.fp_small.specs.declared.config.Settings.{Settings}
use Rattle.fp_small.specs.declared.state.RemoteRow.{RemoteRow}
use Rattle.dep_states.specs.Shown.{config_most}

-- ---- patterns

star_short : (part : List ℕ) → is_star part ≡ true → length part ≤ 255
star_short part h = subst (λ p. length p ≤ 255) (sym ((bytes_eq-Decides part (codes "*")).0 h)) (omega arith)

part_short : (passes : List ℕ → Bool) (part : List ℕ) → (passes part ≡ true → length part ≤ 255) → (is_star part || passes part) ≡ true → length part ≤ 255
part_short passes part short h = ⊎_elim (star_short part) short (or_cases (is_star part) (passes part) h)

joined : (k i a b : List ℕ) → length (k ++ (47 ∷ (i ++ (47 ∷ (a ++ (47 ∷ b)))))) ≡ length k + length i + length a + length b + 3
joined k i a b = omega (arith, length-append k (47 ∷ (i ++ (47 ∷ (a ++ (47 ∷ b))))), length-append i (47 ∷ (a ++ (47 ∷ b))), length-append a (47 ∷ b))

pin_short_by : (text : List ℕ) (o : Option Ref) → parts_of text ≡ o → are_pin_parts o ≡ true → length text ≤ 775
pin_short_by text None e h = absurd (false≢true h)
pin_short_by text (Some p) e h =
    let first = and_parts (is_star p.id || is_id p.id) ((is_star p.arch || is_arch p.arch) && (is_star p.branch || is_branch p.branch)) h in
    let others = and_parts (is_star p.arch || is_arch p.arch) (is_star p.branch || is_branch p.branch) first.1 in
    let whole : text ≡ ref_text p = sym (join_with_byte-slice_split 47 text) ∙ ap (join_with_byte 47) (parts_are (slice_split is_slash text) p e) in
    omega (arith, ap length whole ∙ joined (kind_word p.kind) p.id p.arch p.branch, word_short p.kind, part_short is_id p.id (id_short p.id) first.0, part_short is_arch p.arch (arch_short p.arch) others.0, part_short is_branch p.branch (branch_short p.branch) others.1)

pin_short : (text : List ℕ) → is_pin text ≡ true → length text ≤ 775
unfolding is_pin
pin_short text h = pin_short_by text (parts_of text) refl h

url_short : (text : List ℕ) → is_url text ≡ true → length text ≤ 1024
unfolding is_url
url_short text h = leb-true (length text) 1024 (and_parts (leb (length text) 1024) _ h).0

-- ---- groups

pair_size : (p : Pair) → length (pair_text p) ≡ length p.key + length p.value + 2
pair_size p =
    let remainder : length (p.value ++ 10 ∷ []) ≡ length p.value + 1 = length-append p.value (10 ∷ []) in
    omega (arith, length-append p.key (61 ∷ (p.value ++ 10 ∷ [])), remainder)

group_size : (g : Group) → length (group_text g) ≡ length g.name + length (flat_map pair_text g.pairs) + 3
group_size g = omega (arith, length-append g.name (93 ∷ 10 ∷ flat_map pair_text g.pairs))

front_size : (a b : List Group) → length (flat_map group_text (a ++ b)) ≡ length (flat_map group_text a) + length (flat_map group_text b)
front_size [] b = omega arith
front_size (g ∷ a) b = omega (arith, length-append (group_text g) (flat_map group_text (a ++ b)), length-append (group_text g) (flat_map group_text a), front_size a b)

row_size : (row : RemoteRow) → is_row row ≡ true → length (group_text (remote_group row)) ≤ 1105
row_size row good =
    let parts = and_parts (is_remote_name row.name) (is_url row.url) good in
    let pair = pair_size (record { key = codes "url"; value = row.url }) in
    let only : length (flat_map pair_text (remote_group row).pairs) ≡ length (pair_text (record { key = codes "url"; value = row.url })) + 0 = length-append (pair_text (record { key = codes "url"; value = row.url })) [] in
    let name : length (remote_group row).name ≡ 8 + (length row.name + 1) = length-append remote_front (row.name ++ codes "\"") ∙ ap (λ n. 8 + n) (length-append row.name (codes "\"")) in
    omega (arith, group_size (remote_group row), pair, only, name, remote_short row.name parts.0, url_short row.url parts.1)

rows_size : (rows : List RemoteRow) → list_all is_row rows ≡ true → length (flat_map group_text (map remote_group rows)) ≤ length rows * 1105
rows_size [] good = omega arith
rows_size (row ∷ rows) good =
    let parts = and_parts (is_row row) (list_all is_row rows) good in
    omega (arith, length-append (group_text (remote_group row)) (flat_map group_text (map remote_group rows)), row_size row parts.0, rows_size rows parts.1)

pins_size : (pins : List (List ℕ)) → list_all is_pin pins ≡ true → length (flat_map pair_text (map pin_pair pins)) ≤ length pins * 781
pins_size [] good = omega arith
pins_size (pin ∷ pins) good =
    let parts = and_parts (is_pin pin) (list_all is_pin pins) good in
    omega (arith, length-append (pair_text (pin_pair pin)) (flat_map pair_text (map pin_pair pins)), pair_size (pin_pair pin), pin_short pin parts.0, pins_size pins parts.1)

pins_group_size : (pins : List (List ℕ)) → list_all is_pin pins ≡ true → length (flat_map group_text (pins_groups pins)) ≤ length pins * 781 + 7
pins_group_size [] good = omega arith
pins_group_size (pin ∷ pins) good =
    let g : Group = record { name = codes "pins"; pairs = map pin_pair (pin ∷ pins) } in
    omega (arith, length-append (group_text g) [], group_size g, pins_size (pin ∷ pins) good)

pub config_fits : (s : Settings) → IsSettings s → length (config_text s) ≤ config_most
unfolding config_text text_of
config_fits s good =
    omega (arith, length-append (group_text layout_group) (flat_map group_text (map remote_group s.remotes ++ pins_groups s.pins)), front_size (map remote_group s.remotes) (pins_groups s.pins), rows_size s.remotes good.rows, pins_group_size s.pins good.patterns, good.few_remotes, good.few_pins)
