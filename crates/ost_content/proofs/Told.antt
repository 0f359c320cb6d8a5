-- What the bytes tell that SHA-256 is taken of.
use Rattle.std.proofs.Common.{◌≡◌, ℕ, ◌+◌, ◌/◌, ◌%◌, ◌<◌, ◌≤◌, List, [], ◌∷◌, ◌++◌, length, take, drop, refl, sym, ap, ◌∙◌, arith, append_assoc}
use Rattle.std.specs.Prelude.{slice_index}
use Rattle.std.specs.Int.{w32, to_be_bytes}
use Rattle.std.proofs.lemmas.Bool.Decides.{nat_tests}
use Rattle.std.proofs.lemmas.List.{take_at}
use Rattle.byteorder.specs.Endian.{little_bytes}
use Rattle.gv_value.specs.Bytes.{zeros}
use Rattle.gv_value.specs.Framing.{width}
use Rattle.ost_model.specs.Contents.{header, link_header}
use Rattle.ost_content.specs.Laws.{TellsFiles, TellsLinks, TellsKinds}
use Rattle.ost_content.proofs.Spelled.{narrow, file_header_is, link_header_is}
use Rattle.ost_content.proofs.Values.{link_text, below_0775}

abbrev byte : ℕ → List ℕ → ℕ
byte place bytes = slice_index bytes place

-- ---- files

abbrev of_file : ℕ → List ℕ → List ℕ
of_file bits bytes = ((to_be_bytes w32 18 ++ (zeros 12 ++ (to_be_bytes w32 (0x8000 + bits) ++ zeros 4))) ++ 0 ∷ 17 ∷ []) ++ bytes

file_is : (bits : ℕ) (bytes : List ℕ) → header bits ++ bytes ≡ of_file bits bytes
file_is bits bytes = ap (λ (h : List ℕ). h ++ bytes) (file_header_is bits)

same_bits : (a b : ℕ) → a ≤ 0x1FD → b ≤ 0x1FD → (0x8000 + a) / 256 % 256 ≡ (0x8000 + b) / 256 % 256 →
    (0x8000 + a) % 256 ≡ (0x8000 + b) % 256 → a ≡ b
same_bits a b low_a low_b high low = omega arith

pub tells_files : TellsFiles
tells_files a b xs ys good_a good_b e =
    let same : of_file a xs ≡ of_file b ys = sym (file_is a xs) ∙ e ∙ file_is b ys in
    let high : (0x8000 + a) / 256 % 256 ≡ (0x8000 + b) / 256 % 256 = ap (byte 18) same in
    let low : (0x8000 + a) % 256 ≡ (0x8000 + b) % 256 = ap (byte 19) same in
    let content : xs ≡ ys = ap (drop 26) same in
    (same_bits a b (below_0775 a good_a) (below_0775 b good_b) high low, content)

-- ---- links

abbrev of_link : List ℕ → List ℕ
of_link text = (((to_be_bytes w32 (16 + length text + 1 + width (16 + length text + 1) 1) ++ (zeros 12 ++ (to_be_bytes w32 0xA1FF ++ zeros 4))) ++ text) ++ 0 ∷ [])
    ++ take (width (16 + length text + 1) 1) (little_bytes 2 (16 + length text + 1))

link_is : (text : List ℕ) → length text ≤ 4095 → of_link text ≡ link_header text
link_is text short = link_header_is text (width (16 + length text + 1) 1) (16 + length text + 1) refl refl (narrow (16 + length text + 1) (omega arith))

-- a longer text makes a longer header
same_lengths : (m n : ℕ) → m ≤ 4095 → n ≤ 4095 → 16 + m + 1 + width (16 + m + 1) 1 ≡ 16 + n + 1 + width (16 + n + 1) 1 → m ≡ n
same_lengths m n low_m low_n e = grind (arith, nat_tests)

same_numbers : (m n : ℕ) → m < 65536 → n < 65536 → m / 256 % 256 ≡ n / 256 % 256 → m % 256 ≡ n % 256 → m ≡ n
same_numbers m n low_m low_n high low = omega arith

-- equal texts in front of others
same_fronts : (s t xs ys : List ℕ) → length s ≡ length t → s ++ xs ≡ t ++ ys → s ≡ t
same_fronts s t xs ys long e = sym (take_at s xs (length s) refl) ∙ ap (take (length s)) e ∙ take_at t ys (length s) (sym long)

pub tells_links : TellsLinks
tells_links s t good_s good_t e =
    let of_s = link_text s good_s in
    let of_t = link_text t good_t in
    let narrow_s = narrow (16 + length s + 1) (omega arith) in
    let narrow_t = narrow (16 + length t + 1) (omega arith) in
    let same : of_link s ≡ of_link t = link_is s of_s.short ∙ e ∙ sym (link_is t of_t.short) in
    let size_s : ℕ = 16 + length s + 1 + width (16 + length s + 1) 1 in
    let size_t : ℕ = 16 + length t + 1 + width (16 + length t + 1) 1 in
    let high : size_s / 256 % 256 ≡ size_t / 256 % 256 = ap (byte 2) same in
    let low : size_s % 256 ≡ size_t % 256 = ap (byte 3) same in
    let sizes : size_s ≡ size_t = same_numbers size_s size_t (omega arith) (omega arith) high low in
    let long = same_lengths (length s) (length t) of_s.short of_t.short sizes in
    let rest_s : List ℕ = take (width (16 + length s + 1) 1) (little_bytes 2 (16 + length s + 1)) in
    let rest_t : List ℕ = take (width (16 + length t + 1) 1) (little_bytes 2 (16 + length t + 1)) in
    let remainder : (s ++ 0 ∷ []) ++ rest_s ≡ (t ++ 0 ∷ []) ++ rest_t = ap (drop 24) same in
    same_fronts s t (0 ∷ rest_s) (0 ∷ rest_t) long (sym (append_assoc s (0 ∷ []) rest_s) ∙ remainder ∙ append_assoc t (0 ∷ []) rest_t)

-- ---- a file and a link

pub tells_kinds : TellsKinds
tells_kinds bits bytes text good_bits good_text = λ e.
    let low = below_0775 bits good_bits in
    let same : of_file bits bytes ≡ of_link text = sym (file_is bits bytes) ∙ e ∙ sym (link_is text (link_text text good_text).short) in
    let high : (0x8000 + bits) / 256 % 256 ≡ 0xA1 = ap (byte 18) same in
    absurd (omega arith)
