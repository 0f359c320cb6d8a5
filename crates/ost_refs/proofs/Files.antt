-- What the files of refs say.
use Rattle.std.proofs.Common.{◌≡◌, ◌<◌, ℕ, true, List, [], ◌∷◌, ◌++◌, length, take, drop, Option, Some, None, refl, sym, ◌∙◌, ap, arith, if◌then◌else◌, inl, inr}
use Rattle.std.specs.Str.{bytes_eq}
use Rattle.std.proofs.Math.Seq.{take-append_seam, drop-append_seam}
use Rattle.std.proofs.lemmas.List.{take-append-drop, length-drop}
use Rattle.std.proofs.lemmas.Bool.{cases_Bool, cases_lt, le-leb, lt-leb, false_from_ne_true}
use Rattle.std.proofs.lemmas.Slice.Eq.{bytes_eq-Decides}
use Rattle.fp_host.specs.Paths.{Elements}
use Rattle.fp_host.specs.View.{View}
use Rattle.fp_host.specs.Outcome.{Spot, gone, folder, holds, points, shows}
use Rattle.fp_name.specs.Hex.{hex, unhex, is_digest}
use Rattle.fp_name.proofs.HexTexts.{unhex-hex, unhex-some}
use Rattle.fp_name.proofs.Lengths.{digest_long}
use Rattle.fp_small.specs.Load.{Loads, loaded_of}
use Rattle.fp_small.specs.declared.loading.Loaded.{Loaded}
use Rattle.fp_small.specs.declared.loading.Loaded.TheVariants.{Bytes, Absent as NoFile, TooLong, NotFile}
use Rattle.ost_refs.specs.Files.{ref_bytes, ref_file, ref_in, said, ReadsRef}
use Rattle.ost_refs.specs.declared.place.RefFile.{RefFile}
use Rattle.ost_refs.specs.declared.place.RefFile.TheVariants.{Digest, Absent, Bad}

-- ---- written and read

file_ends : (digits : List ℕ) → length digits ≡ 64 → ref_file (digits ++ 10 ∷ []) ≡ said (unhex digits)
file_ends digits long =
    let front : take 64 (digits ++ 10 ∷ []) ≡ digits = ap (λ n. take n (digits ++ 10 ∷ [])) (sym long) ∙ take-append_seam digits (10 ∷ []) in
    let back : drop 64 (digits ++ 10 ∷ []) ≡ 10 ∷ [] = ap (λ n. drop n (digits ++ 10 ∷ [])) (sym long) ∙ drop-append_seam digits (10 ∷ []) in
    λ i. if bytes_eq (back i) (10 ∷ []) then said (unhex (front i)) else Bad

pub written : (d : List ℕ) → is_digest d ≡ true → ref_file (ref_bytes d) ≡ Digest d
written d good = file_ends (hex d) (digest_long d good) ∙ ap said (unhex-hex d good)

of_said : (o : Option (List ℕ)) (d : List ℕ) → said o ≡ Digest d → o ≡ Some d
of_said None d h = absurd (cc h)
of_said (Some e) d h = cc h

pub read : (bytes d : List ℕ) → ref_file bytes ≡ Digest d → (bytes ≡ ref_bytes d) × (is_digest d ≡ true)
read bytes d h = elim (cases_Bool (bytes_eq (drop 64 bytes) (10 ∷ []))) [
  | inl e ↦
      let some = unhex-some (take 64 bytes) d (of_said (unhex (take 64 bytes)) d (sym (ap (λ b. if b then said (unhex (take 64 bytes)) else Bad) e) ∙ h)) in
      let back : drop 64 bytes ≡ 10 ∷ [] = (bytes_eq-Decides (drop 64 bytes) (10 ∷ [])).0 e in
      (sym (take-append-drop 64 bytes) ∙ (λ i. some.0 i ++ back i), some.1)
  | inr e ↦ absurd (cc (sym (ap (λ b. if b then said (unhex (take 64 bytes)) else Bad) e) ∙ h))
]

-- ---- what is loaded

too_long : (bytes : List ℕ) → 65 < length bytes → ref_file bytes ≡ Bad
too_long bytes long =
    ap (λ b. if b then said (unhex (take 64 bytes)) else Bad) (false_from_ne_true (bytes_eq (drop 64 bytes) (10 ∷ [])) (λ e.
    let back : length (drop 64 bytes) ≡ 1 = ap length ((bytes_eq-Decides (drop 64 bytes) (10 ∷ [])).0 e) in
    absurd (omega (arith, length-drop 64 bytes, back, long))))

-- what is known of the ref by what was loaded
abbrev pub ref_loaded : Loaded → RefFile
ref_loaded (Bytes bytes) = ref_file bytes
ref_loaded NoFile = Absent
ref_loaded (TooLong size) = Bad
ref_loaded NotFile = Bad

loaded_spot : (spot : Spot) → ref_loaded (loaded_of 65 spot) ≡ ref_in spot
loaded_spot gone = refl
loaded_spot folder = refl
loaded_spot (points text) = refl
loaded_spot (holds id mode bytes) = elim (cases_lt 65 (length bytes)) [
  | inl long ↦ ap (λ b. ref_loaded (if b then Bytes bytes else TooLong (length bytes))) (lt-leb (length bytes) 65 long) ∙ sym (too_long bytes long)
  | inr short ↦ ap (λ b. ref_loaded (if b then Bytes bytes else TooLong (length bytes))) (le-leb (length bytes) 65 short)
]

pub reads_loaded : {p : Elements} {v : View} {loaded : Loaded} → Loads p 65 v loaded → ReadsRef p v (ref_loaded loaded)
reads_loaded {p = p} {v = v} loads = record { is = ap ref_loaded loads.is ∙ loaded_spot (shows v p) }

-- a file of less than 64 bytes says nothing
pub too_short : (bytes : List ℕ) → length bytes < 64 → ref_file bytes ≡ Bad
too_short bytes short =
    ap (λ b. if b then said (unhex (take 64 bytes)) else Bad) (false_from_ne_true (bytes_eq (drop 64 bytes) (10 ∷ [])) (λ e.
    let back : length (drop 64 bytes) ≡ 1 = ap length ((bytes_eq-Decides (drop 64 bytes) (10 ∷ [])).0 e) in
    absurd (omega (arith, length-drop 64 bytes, back, short))))
