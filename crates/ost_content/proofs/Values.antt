-- Headers as values of GVariant.
use Rattle.std.proofs.Common.{◌≡◌, ℕ, ◌+◌, ◌^◌, ◌≤◌, ◌==◌, ◌&&◌, ◌||◌, Bool, true, false, not, leb, List, [], ◌∷◌, length, refl, sym, ap, ◌∙◌, arith}
use Rattle.std.specs.Prelude.{nat_lt, bit_and}
use Rattle.std.specs.List.{list_all}
use Rattle.std.specs.Str.{is_utf8, chars}
use lib.Utf8.{encode}
use Rattle.std.specs.Int.{w32, to_be_bytes}
use Rattle.std.proofs.lemmas.Bool.{and_parts, and_from, leb-true}
use Rattle.std.proofs.lemmas.Bool.Decides.{nat_tests}
use Rattle.std.proofs.lemmas.Nat.{and_le_r}
use Rattle.fp_host.specs.Paths.{is_link_text}
use Rattle.gv_value.specs.declared.limits.TheConstants.{MOST_BYTES}
use Rattle.gv_value.specs.Basics.{string}
use Rattle.gv_value.specs.Bytes.{le_value}
use Rattle.gv_value.specs.Framing.{width}
use Rattle.gv_value.specs.Spelled.{Spelled}
use Rattle.gv_value.specs.Spelling.{fits, spelling}
use Rattle.gv_value.specs.Texts.{is_text, has_zero}
use Rattle.gv_value.proofs.Exact.{spells_values}
use Rattle.ost_model.specs.Contents.{header_shape, header_value, is_permission, header, link_header}
use Rattle.ost_content.specs.Laws.{FilesHaveHeaders, LinksHaveHeaders}
use Rattle.ost_content.proofs.Spelled.{narrow, tuple_of, length-tuple}

-- four bytes are below 2 ^ 32
turned_fits : (n : ℕ) → nat_lt (le_value (to_be_bytes w32 n)) (256 ^ 4) ≡ true
turned_fits n = grind (arith, nat_tests)

header_fits : (mode : ℕ) (text : List ℕ) → is_text string text ≡ true → fits header_shape (header_value mode text) ≡ true
header_fits mode text good = rw (turned_fits mode, good) refl

length-spelling : (mode : ℕ) (text : List ℕ) → length text ≤ 4095 → length (spelling (header_value mode text) header_shape) ≤ MOST_BYTES
length-spelling mode text short =
    let e = ap length (tuple_of mode text) in
    let n = length-tuple (to_be_bytes w32 mode) text (width (17 + length text) 1) (17 + length text) refl in
    let w = narrow (17 + length text) (omega arith) in
    omega (arith, e, n, w)

spelled : (mode : ℕ) (text : List ℕ) → length text ≤ 4095 → is_text string text ≡ true →
    Spelled header_shape (header_value mode text) (spelling (header_value mode text) header_shape)
spelled mode text short good =
    (spells_values header_shape (header_value mode text) (spelling (header_value mode text) header_shape)).1
    (header_fits mode text good, refl, length-spelling mode text short)

-- ---- conditions

pub record LinkText (text : List ℕ) : Type 0 where
  pub short : length text ≤ 4095
  pub good : is_text string text ≡ true

no_zeros : (text : List ℕ) → list_all (λ b. not (b == 0)) text ≡ not (has_zero text)
no_zeros [] = refl
no_zeros (b ∷ text) = split (b == 0) (has_zero text) (list_all (λ b. not (b == 0)) text) (no_zeros text)
  where
    split : (x y z : Bool) → z ≡ not y → (not x && z) ≡ not (x || y)
    split true y z e = refl
    split false y z e = e

pub link_text : (text : List ℕ) → is_link_text text ≡ true → LinkText text
link_text text h =
    let front = and_parts (leb 1 (length text)) (leb (length text) 4095 && (list_all (λ b. not (b == 0)) text && is_utf8 text)) h in
    let rest = and_parts (leb (length text) 4095) (list_all (λ b. not (b == 0)) text && is_utf8 text) front.1 in
    let last = and_parts (list_all (λ b. not (b == 0)) text) (is_utf8 text) rest.1 in
    record {
      short = leb-true (length text) 4095 rest.0;
      good = and_from (is_utf8 text) (not (has_zero text)) last.1 (sym (no_zeros text) ∙ last.0);
    }

pub below_0775 : (bits : ℕ) → is_permission bits ≡ true → bits ≤ 0x1FD
below_0775 bits h =
    let same : bit_and bits 0x1FD ≡ bits = grind (arith, nat_tests) in
    let low = and_le_r bits 0x1FD in
    omega arith

-- ---- the laws

empty_text : is_text string [] ≡ true
unfolding is_utf8 chars encode
empty_text = refl

pub files_have_headers : FilesHaveHeaders
unfolding header
files_have_headers bits h = record {
  tuple = spelling (header_value (0x8000 + bits) []) header_shape;
  spelled = spelled (0x8000 + bits) [] (omega arith) empty_text;
  remainder = refl;
}

pub links_have_headers : LinksHaveHeaders
unfolding link_header
links_have_headers text h =
    let is = link_text text h in
    record { tuple = spelling (header_value 0xA1FF text) header_shape; spelled = spelled 0xA1FF text is.short is.good; remainder = refl }
