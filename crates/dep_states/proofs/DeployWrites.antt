-- What is written as a `deploy` reads, and is short.
use Rattle.std.proofs.Common.{◌≡◌, ◌<◌, ◌≤◌, ◌+◌, ◌*◌, ◌^◌, ℕ, zero, suc, List, [], ◌∷◌, ◌++◌, length, Bool, true, false, not, ◌&&◌, ◌||◌, nat_lt, inl, inr, Option, Some, None, refl, sym, ◌∙◌, ap, subst, arith}
use Rattle.std.specs.Prelude.{if◌then◌else◌, option_and_then, flat_map, reverse, nat_le, ◌/◌, ◌%◌, ◌-◌, ◌==◌}
use Rattle.std.specs.List.{list_all}
use Rattle.std.specs.Str.{is_utf8}
use Rattle.std.proofs.lemmas.Bool.{cases_Bool, and_parts, and_from, ltb-true, lt-ltb, eqb-true}
use Rattle.std.proofs.lemmas.List.{length-append, length-reverse}
use Rattle.std.proofs.lemmas.Str.{is_utf8-from_IsUtf8}
use Rattle.fp_name.specs.Bytes.{is_dotted}
use Rattle.fp_name.specs.Grammar.{is_remote_name}
use Rattle.fp_name.specs.Hex.{is_byte, is_digest, digit, hex}
use Rattle.fp_name.proofs.Bytes.{dotted_remote_name, Utf8-from_dotted}
use Rattle.fp_name.proofs.HexTexts.{unhex-hex}
use Rattle.fp_name.proofs.Lengths.{remote_short, digest_long}
use Rattle.fp_small.specs.declared.state.Previous.{Previous}
use Rattle.gv_value.specs.declared.limits.TheConstants.{MOST_BYTES}
use Rattle.gv_value.specs.Basics.{string}
use Rattle.gv_value.specs.Bytes.{le_bytes, zeros}
use Rattle.gv_value.specs.Framing.{placed, width, framed}
use Rattle.gv_value.specs.Layout.{padding}
use Rattle.gv_value.specs.Shape.{Shape, Shapes, no_shapes, shape}
use Rattle.gv_value.specs.Spelled.{Spelled}
use Rattle.gv_value.specs.Spelling.{fits_within, fits, spelling}
use Rattle.gv_value.specs.Texts.{has_zero, is_text}
use Rattle.gv_value.specs.Tree.{Tree, no_trees, tree}
use Rattle.gv_value.proofs.Exact.{reads_values, spells_values}
use Rattle.gv_value.proofs.Lists.{length-zeros}
use Rattle.gv_value.proofs.Numbers.{length-le_bytes, length-offsets}
use Rattle.dep_states.specs.declared.deploy.DeployData.{DeployData}
use Rattle.dep_states.specs.Deploy.{deploy_shape, digest_in, previous_in, goes_back_to, deploy_from, deploy_in, deploy_of, time_tree, previous_tree, deploy_tree}
use Rattle.ost_model.specs.Types.{time_shape}
use Rattle.ost_model.specs.Fields.{text_value}
use Rattle.ost_model.specs.Types.{text_shape}
use Rattle.dep_states.specs.After.{IsGoodPrevious}
use Rattle.dep_states.specs.Shown.{small_most}
use Rattle.dep_states.proofs.Deploys.{IsRead}

-- ---- texts

no_zero : (text : List ℕ) → list_all is_dotted text ≡ true → has_zero text ≡ false
no_zero [] good = refl
no_zero (zero ∷ text) good = absurd (cc (and_parts (is_dotted 0) (list_all is_dotted text) good).0)
no_zero (suc c ∷ text) good = elim (cases_Bool (suc c == 0)) [
  | inl t ↦ absurd (omega (arith, eqb-true (suc c) 0 t))
  | inr f ↦ ap (λ b. b || has_zero text) f ∙ no_zero text (and_parts (is_dotted (suc c)) (list_all is_dotted text) good).1
]

text_good : (text : List ℕ) → list_all is_dotted text ≡ true → is_text string text ≡ true
text_good text good = and_from (is_utf8 text) (not (has_zero text)) (is_utf8-from_IsUtf8 text (Utf8-from_dotted text good)) (ap not (no_zero text good))

digit_dotted : (n : ℕ) → n < 16 → is_dotted (digit n) ≡ true
digit_dotted zero low = refl
digit_dotted (suc zero) low = refl
digit_dotted (suc (suc zero)) low = refl
digit_dotted (suc (suc (suc zero))) low = refl
digit_dotted (suc (suc (suc (suc zero)))) low = refl
digit_dotted (suc (suc (suc (suc (suc zero))))) low = refl
digit_dotted (suc (suc (suc (suc (suc (suc zero)))))) low = refl
digit_dotted (suc (suc (suc (suc (suc (suc (suc zero))))))) low = refl
digit_dotted (suc (suc (suc (suc (suc (suc (suc (suc zero)))))))) low = refl
digit_dotted (suc (suc (suc (suc (suc (suc (suc (suc (suc zero))))))))) low = refl
digit_dotted (suc (suc (suc (suc (suc (suc (suc (suc (suc (suc zero)))))))))) low = refl
digit_dotted (suc (suc (suc (suc (suc (suc (suc (suc (suc (suc (suc zero))))))))))) low = refl
digit_dotted (suc (suc (suc (suc (suc (suc (suc (suc (suc (suc (suc (suc zero)))))))))))) low = refl
digit_dotted (suc (suc (suc (suc (suc (suc (suc (suc (suc (suc (suc (suc (suc zero))))))))))))) low = refl
digit_dotted (suc (suc (suc (suc (suc (suc (suc (suc (suc (suc (suc (suc (suc (suc zero)))))))))))))) low = refl
digit_dotted (suc (suc (suc (suc (suc (suc (suc (suc (suc (suc (suc (suc (suc (suc (suc zero))))))))))))))) low = refl
digit_dotted (suc (suc (suc (suc (suc (suc (suc (suc (suc (suc (suc (suc (suc (suc (suc (suc n)))))))))))))))) low = absurd (omega (arith, low))

hex_dotted : (bytes : List ℕ) → list_all is_byte bytes ≡ true → list_all is_dotted (hex bytes) ≡ true
unfolding hex
hex_dotted [] good = refl
hex_dotted (b ∷ bytes) good =
    let parts = and_parts (is_byte b) (list_all is_byte bytes) good in
    let low : b < 256 = ltb-true b 256 parts.0 in
    let high_low : b / 16 < 16 = omega (arith, low) in
    let low_low : b % 16 < 16 = omega arith in
    and_from (is_dotted (digit (b / 16))) _ (digit_dotted (b / 16) high_low) (and_from (is_dotted (digit (b % 16))) (list_all is_dotted (hex bytes)) (digit_dotted (b % 16) low_low) (hex_dotted bytes parts.1))

digest_parts : (d : List ℕ) → is_digest d ≡ true → (length d ≡ 32) × (list_all is_byte d ≡ true)
digest_parts d good = let parts = and_parts (length d == 32) (list_all is_byte d) good in (eqb-true (length d) 32 parts.0, parts.1)

digest_text : (d : List ℕ) → is_digest d ≡ true → is_text string (hex d) ≡ true
digest_text d good = text_good (hex d) (hex_dotted d (digest_parts d good).1)

-- ---- it is of its type

all_four : (a b c d : Bool) → a ≡ true → b ≡ true → c ≡ true → d ≡ true → a && (b && (c && (d && true))) ≡ true
all_four true true true true ea eb ec ed = refl
all_four false b c d ea eb ec ed = absurd (cc ea)
all_four true false c d ea eb ec ed = absurd (cc eb)
all_four true true false d ea eb ec ed = absurd (cc ec)
all_four true true true false ea eb ec ed = absurd (cc ed)

both_true : (a b : Bool) → a ≡ true → b ≡ true → a && (b && true) ≡ true
both_true true true ea eb = refl
both_true false b ea eb = absurd (cc ea)
both_true true false ea eb = absurd (cc eb)

time_fits : (n : ℕ) → n < 2 ^ 64 → nat_lt n 18446744073709551616 ≡ true
time_fits n low = lt-ltb n 18446744073709551616 low

previous_shape : Shape
previous_shape = Shape.maybe (Shape.tuple (shape text_shape (shape time_shape no_shapes)))

previous_fits : (o : Option Previous) → IsGoodPrevious o → fits_within 63 previous_shape (previous_tree o) ≡ true
unfolding previous_shape
previous_fits None good = refl
previous_fits (Some p) good = both_true (is_text string (hex p.commit)) (nat_lt p.timestamp 18446744073709551616) (digest_text p.commit good.0) (time_fits p.timestamp good.1)

pub deploy_fits : (d : DeployData) → is_remote_name d.origin ≡ true → is_digest d.commit ≡ true → IsGoodPrevious d.previous → d.timestamp < 2 ^ 64 → fits deploy_shape (deploy_tree d) ≡ true
unfolding previous_shape
deploy_fits d origin commit previous time =
    all_four (is_text string d.origin) (is_text string (hex d.commit)) (nat_lt d.timestamp 18446744073709551616) (fits_within 63 previous_shape (previous_tree d.previous))
    (text_good d.origin (dotted_remote_name d.origin origin)) (digest_text d.commit commit) (time_fits d.timestamp time) (previous_fits d.previous previous)

-- ---- it says what it was made of

if_good : {A : Type 0} (b : Bool) (x y : A) → b ≡ true → (if b then x else y) ≡ x
if_good true x y e = refl
if_good false x y e = absurd (cc e)

if_bad : {A : Type 0} (b : Bool) (x y : A) → b ≡ false → (if b then x else y) ≡ y
if_bad false x y e = refl
if_bad true x y e = absurd (cc e)

previous_says : (o : Option Previous) → IsGoodPrevious o → previous_in (previous_tree o) ≡ Some o
previous_says None good = refl
previous_says (Some p) good = rw (unhex-hex p.commit good.0) refl

pub deploy_says : (d : DeployData) → is_remote_name d.origin ≡ true → is_digest d.commit ≡ true → IsGoodPrevious d.previous → goes_back_to d.commit d.previous ≡ false → deploy_in (deploy_tree d) ≡ Some d
deploy_says d origin commit previous moves =
    ap (λ o. deploy_from o (digest_in (text_value (hex d.commit))) (Some d.timestamp) (previous_in (previous_tree d.previous))) (if_good (is_remote_name d.origin) (Some d.origin) None origin)
    ∙ ap (λ c. deploy_from (Some d.origin) c (Some d.timestamp) (previous_in (previous_tree d.previous))) (unhex-hex d.commit commit)
    ∙ ap (λ p. deploy_from (Some d.origin) (Some d.commit) (Some d.timestamp) p) (previous_says d.previous previous)
    ∙ if_bad (goes_back_to d.commit d.previous) None (Some d) moves

-- ---- its bytes

padding_small : (n a : ℕ) → 0 < a → a ≤ 8 → padding n a < 8
padding_small n a some few = below (a - n % a)
  where
    below : (m : ℕ) → m % a < 8
    below m = let low : m % a < a = omega (arith, some) in omega (arith, low, few)

placed_length : (body child : List ℕ) (a : ℕ) → 0 < a → a ≤ 8 → length (placed body (a, child)) ≤ length body + length child + 7
placed_length body child a some few =
    let pad = padding_small (length body) a some few in
    let z = length-zeros (padding (length body) a) in
    let whole = length-append body (zeros (padding (length body) a) ++ child) in
    let end = length-append (zeros (padding (length body) a)) child in
    omega (arith, pad, z, whole, end)

width_small : (n k : ℕ) → width n k ≤ 8
width_small n k = go (nat_le (n + k) 0xFF) (nat_le (n + 2 * k) 0xFFFF) (nat_le (n + 4 * k) 0xFFFFFFFF)
  where
    go : (a b c : Bool) → (if a then 1 else (if b then 2 else (if c then 4 else 8))) ≤ 8
    go true b c = omega arith
    go false true c = omega arith
    go false false true = omega arith
    go false false false = omega arith

framed_length : (body offsets : List ℕ) → length (framed body offsets) ≤ length body + length offsets * 8
framed_length body offsets =
    let w = width_small (length body) (length offsets) in
    let o = length-offsets (width (length body) (length offsets)) offsets in
    let whole = length-append body (flat_map (le_bytes (width (length body) (length offsets))) offsets) in
    let bound : length offsets * width (length body) (length offsets) ≤ length offsets * 8 = times (length offsets) (width (length body) (length offsets)) w in
    omega (arith, o, whole, bound)
  where
    times : (k w : ℕ) → w ≤ 8 → k * w ≤ k * 8
    times zero w low = omega arith
    times (suc k) w low = let more = times k w low in omega (arith, more, low)

text_length : (text : List ℕ) → length (text ++ (0 ∷ [])) ≡ length text + 1
text_length text = length-append text (0 ∷ [])

abbrev inner_tree : List ℕ → ℕ → Tree
inner_tree text time = Tree.tuple (tree (text_value text) (tree (time_tree time) no_trees))

abbrev inner_shapes : Shapes
inner_shapes = shape text_shape (shape time_shape no_shapes)

one_offset : (e : ℕ) → length (reverse (e ∷ [])) ≡ 1
one_offset e = length-reverse (e ∷ [])

inner_length : (text : List ℕ) (time : ℕ) → length (spelling (inner_tree text time) (Shape.tuple inner_shapes)) ≤ length text + 31
inner_length text time =
    let first = placed [] (1, text ++ (0 ∷ [])) in
    let a = placed_length [] (text ++ (0 ∷ [])) 1 (omega arith) (omega arith) in
    let b = placed_length first (le_bytes 8 time) 8 (omega arith) (omega arith) in
    let offsets = reverse (length first ∷ []) in
    let f : length (spelling (inner_tree text time) (Shape.tuple inner_shapes)) ≤ length (placed first (8, le_bytes 8 time)) + length offsets * 8 = framed_length (placed first (8, le_bytes 8 time)) offsets in
    let o = one_offset (length first) in
    let t = text_length text in
    let n = length-le_bytes 8 time in
    omega (arith, a, b, f, o, t, n)

previous_length : (o : Option Previous) → IsGoodPrevious o → length (spelling (previous_tree o) previous_shape) ≤ 96
unfolding previous_shape
previous_length None good = omega arith
previous_length (Some p) good =
    let inner = inner_length (hex p.commit) p.timestamp in
    let h = digest_long p.commit good.0 in
    let whole : length (spelling (previous_tree (Some p)) previous_shape) ≡ length (spelling (inner_tree (hex p.commit) p.timestamp) (Shape.tuple inner_shapes)) + 1 = text_length (spelling (inner_tree (hex p.commit) p.timestamp) (Shape.tuple inner_shapes)) in
    omega (arith, inner, h, whole)

deploy_length : (d : DeployData) → IsRead d → length (spelling (deploy_tree d) deploy_shape) ≤ 400
unfolding previous_shape
deploy_length d read =
    let origin = d.origin ++ (0 ∷ []) in
    let commit = hex d.commit ++ (0 ∷ []) in
    let back = spelling (previous_tree d.previous) previous_shape in
    let one = placed [] (1, origin) in
    let two = placed one (1, commit) in
    let three = placed two (8, le_bytes 8 d.timestamp) in
    let four = placed three (8, back) in
    let offsets = reverse (length one ∷ length two ∷ []) in
    let whole : length (spelling (deploy_tree d) deploy_shape) ≤ length four + length offsets * 8 = framed_length four offsets in
    let a = placed_length [] origin 1 (omega arith) (omega arith) in
    let b = placed_length one commit 1 (omega arith) (omega arith) in
    let c = placed_length two (le_bytes 8 d.timestamp) 8 (omega arith) (omega arith) in
    let e = placed_length three back 8 (omega arith) (omega arith) in
    let o = length-reverse (length one ∷ length two ∷ []) in
    let origin_is = text_length d.origin in
    let origin_few = remote_short d.origin read.origin in
    let commit_is = text_length (hex d.commit) in
    let hex_is = digest_long d.commit read.commit in
    let n = length-le_bytes 8 d.timestamp in
    let back_is = previous_length d.previous read.previous in
    omega (arith, whole, a, b, c, e, o, origin_is, origin_few, commit_is, hex_is, n, back_is)

-- ---- what is written

module _ {of : Shape} {v : Tree} (d : DeployData) (shaped : of ≡ deploy_shape) (is : v ≡ deploy_tree d) (read : IsRead d) where
  pub written_fits : fits of v ≡ false → ⊥
  written_fits bad = cc (sym bad ∙ ap (λ t. fits t v) shaped ∙ ap (fits deploy_shape) is ∙ deploy_fits d read.origin read.commit read.previous read.time)

  pub written_short : MOST_BYTES < length (spelling v of) → ⊥
  written_short long = absurd (omega (arith, subst (λ t. MOST_BYTES < length (spelling v t)) shaped long, ap (λ x. length (spelling x deploy_shape)) is, deploy_length d read))

  spelled_here : (bytes : List ℕ) → Spelled of v bytes → Spelled deploy_shape (deploy_tree d) bytes
  spelled_here bytes spelled = subst (λ t. Spelled t (deploy_tree d) bytes) shaped (subst (λ x. Spelled of x bytes) is spelled)

  pub written_says : (bytes : List ℕ) → Spelled of v bytes → deploy_of bytes ≡ Some d
  unfolding deploy_of
  written_says bytes spelled =
      ap (λ r. option_and_then deploy_in r) ((reads_values deploy_shape (deploy_tree d) bytes).1 (spelled_here bytes spelled))
      ∙ deploy_says d read.origin read.commit read.previous read.moves

  pub written_small : (bytes : List ℕ) → Spelled of v bytes → length bytes ≤ small_most
  written_small bytes spelled =
      let spells = (spells_values deploy_shape (deploy_tree d) bytes).0 (spelled_here bytes spelled) in
      omega (arith, ap length spells.1, deploy_length d read)
