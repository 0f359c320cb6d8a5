-- How many applications an exercise has, as a word.
use Rattle.std.proofs.Common.{◌≡◌, ℕ, ◌≤◌, true, false, List, Result, Ok, Err, refl, sym, ap, ◌∙◌, subst, arith}
use Rattle.std.specs.Prelude.{codes, decimal, nat_le}
use Rattle.std.specs.Fmt.{digits}
use Rattle.std.specs.Str.{bytes_eq}
use Rattle.std.specs.Str.Parse.{ParsesUnsigned}
use Rattle.std.proofs.lemmas.Bool.{and_from, and_parts, leb-true, false_from_ne_true, false≢true}
use Rattle.std.proofs.lemmas.Fmt.{decimal_is_IsNumeral, parse-decimal}
use Rattle.std.proofs.lemmas.Slice.Eq.{bytes_eq-Decides}
use Rattle.fl_words.specs.declared.limits.TheConstants.{MOST_APPS}
use Rattle.fl_words.specs.Counts.{is_app_count, count_at, is_count_text}

-- ---- numbers from 1 to the most

pub within : (n : ℕ) → is_app_count n ≡ true → n ≤ MOST_APPS
within n good = leb-true n MOST_APPS (and_parts (nat_le 1 n) (nat_le n MOST_APPS) good).1

-- ---- as they are printed

back_of : (n : ℕ) → n ≤ MOST_APPS → count_at (decimal n) ≡ n
back_of n small = (decimal_is_IsNumeral n (omega (arith, small))).1

pub count_back : (n : ℕ) → is_app_count n ≡ true → count_at (decimal n) ≡ n
count_back n good = back_of n (within n good)

-- a word that is one
pub is_number : (text : List ℕ) → is_count_text text ≡ true → is_app_count (count_at text) ≡ true
unfolding is_count_text
is_number text good = (and_parts (is_app_count (count_at text)) (bytes_eq text (decimal (count_at text))) good).0

pub same_text : (text : List ℕ) → is_count_text text ≡ true → text ≡ decimal (count_at text)
unfolding is_count_text
same_text text good = (bytes_eq-Decides text (decimal (count_at text))).0 (and_parts (is_app_count (count_at text)) (bytes_eq text (decimal (count_at text))) good).1

-- and each number's text is
text_of : (text : List ℕ) (n : ℕ) → n ≡ count_at text → is_app_count n ≡ true → bytes_eq text (decimal n) ≡ true → is_count_text text ≡ true
unfolding is_count_text
text_of text n is good same =
    and_from (is_app_count (count_at text)) (bytes_eq text (decimal (count_at text))) (subst (λ (m : ℕ). is_app_count m ≡ true) is good) (subst (λ (m : ℕ). bytes_eq text (decimal m) ≡ true) is same)

pub printed : (text : List ℕ) (n : ℕ) → is_app_count n ≡ true → bytes_eq text (decimal n) ≡ true → n ≡ count_at text
printed text n good same = sym (count_back n good) ∙ ap count_at (sym ((bytes_eq-Decides text (decimal n)).0 same))

pub is_one : (text : List ℕ) (n : ℕ) → is_app_count n ≡ true → bytes_eq text (decimal n) ≡ true → is_count_text text ≡ true
is_one text n good same = text_of text n (printed text n good same) good same

pub decimal_fits : (n : ℕ) → is_app_count n ≡ true → is_count_text (decimal n) ≡ true
decimal_fits n good = is_one (decimal n) n good ((bytes_eq-Decides (decimal n) (decimal n)).1 refl)

-- ---- what parsing tells

parsed_as : {E : Type 0} (text : List ℕ) (r : Result ℕ E) → ParsesUnsigned 32 10 text r → is_count_text text ≡ true → r ≡ Ok (count_at text)
parsed_as text r parses good =
    let small = within (count_at text) (is_number text good) in
    parse-decimal 32 (count_at text) text r (omega (arith, small)) (omega (arith, small)) (same_text text good) parses

pub no_number : {E : Type 0} (text : List ℕ) (r : Result ℕ E) (e : E) → r ≡ Err e → ParsesUnsigned 32 10 text r → is_count_text text ≡ false
no_number text r e is parses = false_from_ne_true (is_count_text text) (λ good. let both : Err e ≡ Ok (count_at text) = sym is ∙ parsed_as text r parses good in cc both)

other_number : {E : Type 0} (text : List ℕ) (r : Result ℕ E) (n : ℕ) → r ≡ Ok n → ParsesUnsigned 32 10 text r → is_count_text text ≡ true → n ≡ count_at text
other_number text r n is parses good = let both : Ok n ≡ Ok (count_at text) = sym is ∙ parsed_as text r parses good in cc both

-- it isn't from 1 to the most
pub out_of_range : {E : Type 0} (text : List ℕ) (r : Result ℕ E) (n : ℕ) → r ≡ Ok n → ParsesUnsigned 32 10 text r → is_app_count n ≡ false → is_count_text text ≡ false
out_of_range text r n is parses none =
    false_from_ne_true (is_count_text text) (λ good. false≢true (sym none ∙ ap is_app_count (other_number text r n is parses good) ∙ is_number text good))

-- it isn't as it is printed
pub not_printed : {E : Type 0} (text : List ℕ) (r : Result ℕ E) (n : ℕ) → r ≡ Ok n → ParsesUnsigned 32 10 text r → bytes_eq text (decimal n) ≡ false → is_count_text text ≡ false
not_printed text r n is parses none =
    false_from_ne_true (is_count_text text) (λ good.
    let same : text ≡ decimal n = same_text text good ∙ ap decimal (sym (other_number text r n is parses good)) in
    false≢true (sym none ∙ (bytes_eq-Decides text (decimal n)).1 same))

-- ---- some number

pub one_is : is_count_text (codes "1") ≡ true
unfolding is_count_text digits
one_is = refl
