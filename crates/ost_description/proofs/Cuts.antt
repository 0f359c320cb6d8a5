-- Texts that are cut where they were joined.
use Rattle.std.proofs.Common.{◌≡◌, ℕ, ◌+◌, ◌<◌, Bool, true, false, List, [], ◌∷◌, ◌++◌, length, take, drop, Some, None, refl, sym, ap, ◌∙◌, arith, cond, append_assoc, length-append}
use Rattle.std.specs.Prelude.{◌==◌, not, option_map, ltb}
use Rattle.std.specs.List.{All, list_any, position_or_len}
use Rattle.std.proofs.Math.Seq.{take-append_seam, drop-append_seam}
use Rattle.std.proofs.lemmas.Bool.{or_parts, lt-ltb, eq-eqb}
use Rattle.std.proofs.lemmas.List.Elements.{All-nil, All-cons}
use Rattle.std.proofs.lemmas.List.Splits.{slice_split_at}
use Rattle.fp_base.specs.Parts.{parts_at}
use Rattle.ost_description.specs.Descriptions.{pieces}
use Rattle.ost_description.specs.Writing.{is_newline}

none_pass : (p : ℕ → Bool) (xs : List ℕ) → list_any p xs ≡ false → All (λ x. p x ≡ false) xs
none_pass p [] e = All-nil (λ x. p x ≡ false)
none_pass p (x ∷ xs) e = let parts = or_parts (p x) (list_any p xs) e in All-cons (λ x. p x ≡ false) x xs parts.0 (none_pass p xs parts.1)

-- the line, and the pieces of what stands after its newline
pub pieces_of : (line rest : List ℕ) → list_any is_newline line ≡ false → pieces (line ++ 10 ∷ rest) ≡ line ∷ pieces rest
pieces_of line rest e = slice_split_at is_newline line 10 rest (none_pass is_newline line e) refl

first_place : (p : ℕ → Bool) (word : List ℕ) (y : ℕ) (rest : List ℕ) → list_any p word ≡ false → p y ≡ true → position_or_len p (word ++ y ∷ rest) ≡ length word
first_place p [] y rest e t = ap (λ (b : Bool). cond (not b) (1 + position_or_len p rest) 0) t
first_place p (x ∷ word) y rest e t =
    let parts = or_parts (p x) (list_any p word) e in
    let more = first_place p word y rest parts.1 t in
    let here : position_or_len p ((x ∷ word) ++ y ∷ rest) ≡ 1 + position_or_len p (word ++ y ∷ rest) =
    ap (λ (b : Bool). cond (not b) (1 + position_or_len p (word ++ y ∷ rest)) 0) parts.0 in
    omega (arith, more, here)

remainder : (word rest : List ℕ) (y : ℕ) → drop (length word + 1) (word ++ y ∷ rest) ≡ rest
remainder word rest y =
    let long : length (word ++ y ∷ []) ≡ length word + 1 = length-append word (y ∷ []) in
    ap (λ n. drop n (word ++ y ∷ rest)) (sym long) ∙ ap (drop (length (word ++ y ∷ []))) (sym (append_assoc word (y ∷ []) rest))
    ∙ drop-append_seam (word ++ y ∷ []) rest

abbrev cut_at : List ℕ → ℕ → List ℕ × List ℕ
cut_at bytes n = (take n bytes, drop (n + 1) bytes)

by_place : (bytes : List ℕ) (place n : ℕ) → place ≡ n → n < length bytes → option_map (cut_at bytes) (cond (ltb place (length bytes)) (Some place) None) ≡ Some (cut_at bytes n)
by_place bytes place n e l =
    ap (λ (m : ℕ). option_map (cut_at bytes) (cond (ltb m (length bytes)) (Some m) None)) e
    ∙ ap (λ (b : Bool). option_map (cut_at bytes) (cond b (Some n) None)) (lt-ltb n (length bytes) l)

-- a word, the byte that ends it, and what stands after
pub parts_of : (byte : ℕ) (word rest : List ℕ) → list_any (λ b. b == byte) word ≡ false → parts_at byte (word ++ byte ∷ rest) ≡ Some (word, rest)
unfolding parts_at
parts_of byte word rest e =
    by_place (word ++ byte ∷ rest) _ (length word) (first_place (λ b. b == byte) word byte rest e (eq-eqb byte byte refl))
    (omega (arith, length-append word (byte ∷ rest)))
    ∙ (λ i. Some (take-append_seam word (byte ∷ rest) i, remainder word rest byte i))
