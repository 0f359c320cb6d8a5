-- What the code's searches in a text give, in the words of the definitions.
use Rattle.std.proofs.Common.{◌≡◌, ◌≢◌, ◌<◌, ℕ, false, eqb, List, [], ◌∷◌, ◌++◌, length, get_or, take, drop, ◌+◌, ◌≤◌, Option, Some, None, MatchOption, refl, sym, ap, ◌∙◌, lit<}
use denote.Ref.{Bor}
use Rattle.std.specs.List.{All}
use Rattle.std.specs.Str.{NoCharPasses}
use Rattle.std.specs.Str.Pattern.{RFindsChar}
use Rattle.std.proofs.lemmas.Bool.{ne_eqb}
use Rattle.std.proofs.lemmas.List.{take-append-drop}
use Rattle.std.proofs.lemmas.List.Elements.{All-from_get_or}
use Rattle.std.proofs.lemmas.Str.Pattern.{NoCharPasses-char, drop_at_char, IsSplitOnceResult, split_parts}
use Rattle.fl_meta.specs.Places.{is_colon, is_slash}
use Rattle.fl_meta.specs.Entries.{is_off}

-- a text without the byte
lacks : (c : ℕ) (bs : List ℕ) → NoCharPasses (λ d. eqb d c) bs → c < 128 → All (λ b. eqb b c ≡ false) bs
lacks c bs h small = All-from_get_or (λ b. eqb b c ≡ false) bs 0 (λ i lt. ne_eqb (get_or bs i 0) c (NoCharPasses-char c bs i h small lt))

-- the clause of `rsplit_once` at a colon
abbrev pub IsLastCut : List ℕ → Option (Bor (List ℕ) × Bor (List ℕ)) → Type 0
IsLastCut bs r = MatchOption r (RFindsChar 58 bs None) (λ x. (i : ℕ) × (j : ℕ) × RFindsChar 58 bs (Some (i, j)) × (x.0.now ≡ take i bs) × (x.1.now ≡ drop j bs) × (i ≤ j) × (length x.0.now ≡ i) × (length x.1.now + j ≡ length bs))

pub record CutAt (text front word : List ℕ) : Type 0 where
  pub whole : All (λ b. is_colon b ≡ false) word
  pub text_is : text ≡ front ++ 58 ∷ word

pub no_cut : (bs : List ℕ) → IsLastCut bs None → All (λ b. is_colon b ≡ false) bs
no_cut bs h = lacks 58 bs h (lit< tt)

pub last_cut : (bs : List ℕ) (x : Bor (List ℕ) × Bor (List ℕ)) → IsLastCut bs (Some x) → CutAt bs x.0.now x.1.now
last_cut bs x (i, j, found, front, back, h, k, l) = record {
  whole = rw back (lacks 58 (drop j bs) found.0 (lit< tt));
  text_is = sym (take-append-drop i bs) ∙ rw (drop_at_char 58 bs i j found.1 (lit< tt), ← front, ← back) refl;
}

-- the clause of `split_once` at a `/`
pub no_slash : (bs : List ℕ) → IsSplitOnceResult 47 bs None → All (λ b. is_slash b ≡ false) bs
no_slash bs h = lacks 47 bs h (lit< tt)

pub first_slash : (bs : List ℕ) (x : Bor (List ℕ) × Bor (List ℕ)) → IsSplitOnceResult 47 bs (Some x) → (bs ≡ x.0.now ++ 47 ∷ x.1.now) × All (λ b. is_slash b ≡ false) x.0.now
first_slash bs x h =
    let parts = split_parts 47 bs (Some x) h (lit< tt) in
    (parts.0, All-from_get_or (λ b. is_slash b ≡ false) x.0.now 0 (λ i lt. ne_eqb (get_or x.0.now i 0) 47 (parts.1 i lt)))

-- `strip_prefix` at the mark
pub no_mark : (bs : List ℕ) → ((rest : List ℕ) → bs ≢ 33 ∷ rest) → is_off bs ≡ false
no_mark [] h = refl
no_mark (b ∷ bs) h = ne_eqb b 33 (λ e. h bs (ap (λ x. x ∷ bs) e))
