-- Bytes that are trimmed, cut and joined, and which of them are UTF-8.
use Rattle.std.proofs.Common.{◌≡◌, ℕ, suc, ◌+◌, ◌-◌, ◌<◌, ◌≤◌, Bool, true, false, eqb, List, [], ◌∷◌, ◌++◌, length, get_or, take, drop, Option, Some, None, refl, sym, ap, subst, ◌∙◌, inl, inr, append_assoc, arith}
use Rattle.std.specs.List.{list_all, list_any}
use Rattle.std.specs.Str.{is_utf8, IsUtf8}
use Rattle.std.proofs.lemmas.Bool.{cases_Bool, cases_eq, cases_lt, and_parts, and_from, or_parts, eqb-true}
use Rattle.std.proofs.lemmas.List.{take_at, drop_at, take_more, drop_more, drop_all, get_or_at, get_or-take, length-append, length-take-le, append-nil}
use Rattle.std.proofs.lemmas.Str.{IsUtf8-from_is_utf8, is_utf8-from_IsUtf8, IsUtf8-take, IsUtf8-drop, IsUtf8-append, IsUtf8-from_ascii, IsUtf8-nil, IsCharBoundary-before_ascii, IsCharBoundary-after_ascii}
use Rattle.std.proofs.lemmas.Str.Ascii.{IsAscii-cons, IsAscii-nil}
use Rattle.std.proofs.lemmas.Bool.Decides.{nat_tests}
use Rattle.fp_keyfile.specs.Grammar.{is_blank, begins_so, ends_so}
use Rattle.fp_keyfile.specs.Lines.{trimmed_front, before_trimmed, trimmed_end, with_first, split_at}

-- ---- the last byte

pub ends_so-append : (p : ℕ → Bool) (xs : List ℕ) (y : ℕ) (ys : List ℕ) → ends_so p (xs ++ (y ∷ ys)) ≡ ends_so p (y ∷ ys)
ends_so-append p [] y ys = refl
ends_so-append p (x ∷ []) y ys = refl
ends_so-append p (x ∷ z ∷ xs) y ys = ends_so-append p (z ∷ xs) y ys

pub ends_so-last : (p : ℕ → Bool) (bs : List ℕ) → 0 < length bs → ends_so p bs ≡ p (get_or bs (length bs - 1) 0)
ends_so-last p [] h = absurd (omega arith)
ends_so-last p (b ∷ []) h = refl
ends_so-last p (b ∷ c ∷ bs) h =
    let e : suc (suc (length bs)) - 1 ≡ suc (suc (length bs) - 1) = omega arith in
    rw e (ends_so-last p (c ∷ bs) (omega arith))

-- ---- what is trimmed

ends_so-before_trimmed : (p : ℕ → Bool) (b : ℕ) (bs : List ℕ) → ends_so p bs ≡ false → ends_so p (before_trimmed p b bs) ≡ false
ends_so-before_trimmed p b [] h = elim (cases_Bool (p b)) [ inl e ↦ rw e refl | inr e ↦ rw (e, e) refl ]
ends_so-before_trimmed p b (c ∷ bs) h = h

pub ends_so-trimmed_end : (p : ℕ → Bool) (bs : List ℕ) → ends_so p (trimmed_end p bs) ≡ false
ends_so-trimmed_end p [] = refl
ends_so-trimmed_end p (b ∷ bs) = ends_so-before_trimmed p b (trimmed_end p bs) (ends_so-trimmed_end p bs)

pub trimmed_end_same : (p : ℕ → Bool) (bs : List ℕ) → ends_so p bs ≡ false → trimmed_end p bs ≡ bs
trimmed_end_same p [] h = refl
trimmed_end_same p (b ∷ []) h = rw h refl
trimmed_end_same p (b ∷ c ∷ bs) h = ap (before_trimmed p b) (trimmed_end_same p (c ∷ bs) h)

trimmed_end-push : (p : ℕ → Bool) (bs : List ℕ) (b : ℕ) → p b ≡ true → trimmed_end p (bs ++ (b ∷ [])) ≡ trimmed_end p bs
trimmed_end-push p [] b h = rw h refl
trimmed_end-push p (c ∷ bs) b h = ap (before_trimmed p c) (trimmed_end-push p bs b h)

-- one byte less at the end, or at the front
pub trimmed_end-take : (p : ℕ → Bool) (bs : List ℕ) (n : ℕ) → 0 < n → n ≤ length bs → p (get_or bs (n - 1) 0) ≡ true → trimmed_end p (take (n - 1) bs) ≡ trimmed_end p (take n bs)
trimmed_end-take p bs n pos le h =
    let e : n - 1 + 1 ≡ n = omega arith in
    let more : take n bs ≡ take (n - 1) bs ++ (get_or bs (n - 1) 0 ∷ []) = ap (λ (k : ℕ). take k bs) (sym e) ∙ take_more bs (n - 1) 0 (omega arith) in
    rw more (sym (trimmed_end-push p (take (n - 1) bs) (get_or bs (n - 1) 0) h))

pub trimmed_end_stops : (p : ℕ → Bool) (bs : List ℕ) (n : ℕ) → n ≤ length bs → (0 < n → p (get_or bs (n - 1) 0) ≡ false) → trimmed_end p (take n bs) ≡ take n bs
trimmed_end_stops p bs n le h =
    elim (cases_eq n 0) [
      | inl z ↦ rw z refl
      | inr nz ↦
          let pos : 0 < n = omega arith in
          let len : length (take n bs) ≡ n = length-take-le n bs le in
          let last : get_or (take n bs) (length (take n bs) - 1) 0 ≡ get_or bs (n - 1) 0 = ap (λ (k : ℕ). get_or (take n bs) (k - 1) 0) len ∙ get_or-take n bs (n - 1) 0 (omega arith) in
          trimmed_end_same p (take n bs) (ends_so-last p (take n bs) (omega (arith, len)) ∙ ap p last ∙ h pos)
    ]

pub trimmed_front-drop : (p : ℕ → Bool) (bs : List ℕ) (n : ℕ) → n < length bs → p (get_or bs n 0) ≡ true → trimmed_front p (drop (n + 1) bs) ≡ trimmed_front p (drop n bs)
trimmed_front-drop p bs n lt h = rw (drop_more bs n 0 lt, h) refl

pub trimmed_front_stops : (p : ℕ → Bool) (bs : List ℕ) (n : ℕ) → (n < length bs → p (get_or bs n 0) ≡ false) → trimmed_front p (drop n bs) ≡ drop n bs
trimmed_front_stops p bs n h =
    elim (cases_lt n (length bs)) [
      | inl lt ↦ rw (drop_more bs n 0 lt, h lt) refl
      | inr le ↦ rw (drop_all n bs le) refl
    ]

-- xs is kept, and after it stand bytes that pass p
pub record EndsIn (p : ℕ → Bool) (xs kept : List ℕ) : Type 0 where
  pub back : List ℕ
  pub parts : xs ≡ kept ++ back
  pub passes : list_all p back ≡ true

EndsIn-before_trimmed : (p : ℕ → Bool) (b : ℕ) (bs kept : List ℕ) → EndsIn p bs kept → EndsIn p (b ∷ bs) (before_trimmed p b kept)
EndsIn-before_trimmed p b bs [] h =
    elim (cases_Bool (p b)) [
      | inl e ↦ rw e (record { back = b ∷ h.back; parts = ap (λ (w : List ℕ). b ∷ w) h.parts; passes = and_from (p b) (list_all p h.back) e h.passes })
      | inr e ↦ rw e (record { back = h.back; parts = ap (λ (w : List ℕ). b ∷ w) h.parts; passes = h.passes })
    ]
EndsIn-before_trimmed p b bs (c ∷ kept) h = record { back = h.back; parts = ap (λ (w : List ℕ). b ∷ w) h.parts; passes = h.passes }

pub EndsIn-trimmed_end : (p : ℕ → Bool) (bs : List ℕ) → EndsIn p bs (trimmed_end p bs)
EndsIn-trimmed_end p [] = record { back = []; parts = refl; passes = refl }
EndsIn-trimmed_end p (b ∷ bs) = EndsIn-before_trimmed p b bs (trimmed_end p bs) (EndsIn-trimmed_end p bs)

pub begins_so-trimmed_front : (p : ℕ → Bool) (bs : List ℕ) → begins_so p (trimmed_front p bs) ≡ false
begins_so-trimmed_front p [] = refl
begins_so-trimmed_front p (b ∷ bs) =
    elim (cases_Bool (p b)) [
      | inl e ↦ rw e (begins_so-trimmed_front p bs)
      | inr e ↦ rw (e, e) refl
    ]

pub trimmed_front_same : (p : ℕ → Bool) (bs : List ℕ) → begins_so p bs ≡ false → trimmed_front p bs ≡ bs
trimmed_front_same p [] h = refl
trimmed_front_same p (b ∷ bs) h = rw h refl

-- before what is kept stand bytes that pass p
pub record BeginsIn (p : ℕ → Bool) (xs kept : List ℕ) : Type 0 where
  pub front : List ℕ
  pub parts : xs ≡ front ++ kept
  pub passes : list_all p front ≡ true

pub BeginsIn-trimmed_front : (p : ℕ → Bool) (bs : List ℕ) → BeginsIn p bs (trimmed_front p bs)
BeginsIn-trimmed_front p [] = record { front = []; parts = refl; passes = refl }
BeginsIn-trimmed_front p (b ∷ bs) =
    elim (cases_Bool (p b)) [
      | inl e ↦
          let h = BeginsIn-trimmed_front p bs in
          rw e (record { front = b ∷ h.front; parts = ap (λ (w : List ℕ). b ∷ w) h.parts; passes = and_from (p b) (list_all p h.front) e h.passes })
      | inr e ↦ rw e (record { front = []; parts = refl; passes = refl })
    ]

-- ---- what is cut at a byte

-- the bytes are these two parts round the first c
pub record SplitsAt (c : ℕ) (bs : List ℕ) (parts : List ℕ × List ℕ) : Type 0 where
  pub whole : bs ≡ parts.0 ++ (c ∷ parts.1)
  pub first : list_any (λ b. eqb b c) parts.0 ≡ false

SplitsAt-with_first : (c b : ℕ) (bs : List ℕ) (found : Option (List ℕ × List ℕ)) (parts : List ℕ × List ℕ) → eqb b c ≡ false → ((ps : List ℕ × List ℕ) → found ≡ Some ps → SplitsAt c bs ps) → with_first b found ≡ Some parts → SplitsAt c (b ∷ bs) parts
SplitsAt-with_first c b bs None parts e h w = absurd cc
SplitsAt-with_first c b bs (Some ps) parts e h w =
    let s = h ps refl in
    let made : (b ∷ ps.0, ps.1) ≡ parts = some_same (b ∷ ps.0, ps.1) parts w in
    subst (SplitsAt c (b ∷ bs)) made (record { whole = ap (λ (x : List ℕ). b ∷ x) s.whole; first = rw (e, s.first) refl })
  where
    some_same : (x y : List ℕ × List ℕ) → Some x ≡ Some y → x ≡ y
    some_same x y e = cc

pub SplitsAt-split_at : (c : ℕ) (bs : List ℕ) (parts : List ℕ × List ℕ) → split_at c bs ≡ Some parts → SplitsAt c bs parts
SplitsAt-split_at c [] parts h = absurd cc
SplitsAt-split_at c (b ∷ bs) parts h =
    elim (cases_Bool (eqb b c)) [
      | inl e ↦
          let w : Some ([], bs) ≡ Some parts = rw e at h in
          let made : ([], bs) ≡ parts = some_same ([], bs) parts w in
          let same : b ≡ c = eqb-true b c e in
          subst (SplitsAt c (b ∷ bs)) made (record { whole = ap (λ (x : ℕ). x ∷ bs) same; first = refl })
      | inr e ↦
          let w : with_first b (split_at c bs) ≡ Some parts = rw e at h in
          SplitsAt-with_first c b bs (split_at c bs) parts e (SplitsAt-split_at c bs) w
    ]
  where
    some_same : (x y : List ℕ × List ℕ) → Some x ≡ Some y → x ≡ y
    some_same x y e = cc

eqb-same : (c : ℕ) → eqb c c ≡ true
eqb-same c = grind (arith, eqb-true)

pub split_at_found : (c : ℕ) (xs ys : List ℕ) → list_any (λ b. eqb b c) xs ≡ false → split_at c (xs ++ (c ∷ ys)) ≡ Some (xs, ys)
split_at_found c [] ys h = rw (eqb-same c) refl
split_at_found c (x ∷ xs) ys h =
    let a = or_parts (eqb x c) (list_any (λ b. eqb b c) xs) h in
    rw (a.0, split_at_found c xs ys a.1) refl

pub split_at_none : (c : ℕ) (bs : List ℕ) → list_any (λ b. eqb b c) bs ≡ false → split_at c bs ≡ None
split_at_none c [] h = refl
split_at_none c (b ∷ bs) h =
    let a = or_parts (eqb b c) (list_any (λ b. eqb b c) bs) h in
    rw (a.0, split_at_none c bs a.1) refl

-- ---- UTF-8

pub utf8_before : (xs : List ℕ) (c : ℕ) (ys : List ℕ) → c < 128 → is_utf8 (xs ++ (c ∷ ys)) ≡ true → is_utf8 xs ≡ true
utf8_before xs c ys lt h =
    let bs = xs ++ (c ∷ ys) in
    let u = IsUtf8-from_is_utf8 bs h in
    let at : get_or bs (length xs) 0 ≡ c = get_or_at xs c ys 0 (length xs) refl in
    let within : length xs < length bs = omega (arith, length-append xs (c ∷ ys)) in
    let boundary = IsCharBoundary-before_ascii bs (length xs) within (omega (arith, at)) in
    is_utf8-from_IsUtf8 xs (subst IsUtf8 (take_at xs (c ∷ ys) (length xs) refl) (IsUtf8-take bs (length xs) u boundary))

pub utf8_after : (xs : List ℕ) (c : ℕ) (ys : List ℕ) → c < 128 → is_utf8 (xs ++ (c ∷ ys)) ≡ true → is_utf8 ys ≡ true
utf8_after xs c ys lt h =
    let bs = xs ++ (c ∷ ys) in
    let u = IsUtf8-from_is_utf8 bs h in
    let at : get_or bs (length xs) 0 ≡ c = get_or_at xs c ys 0 (length xs) refl in
    let within : length xs < length bs = omega (arith, length-append xs (c ∷ ys)) in
    let boundary = IsCharBoundary-after_ascii bs (length xs) u within (omega (arith, at)) in
    let regrouped : (xs ++ (c ∷ [])) ++ ys ≡ bs = append_assoc xs (c ∷ []) ys in
    let rest : drop (length xs + 1) bs ≡ ys = rw (← regrouped) (drop_at (xs ++ (c ∷ [])) ys (length xs + 1) (length-append xs (c ∷ []))) in
    is_utf8-from_IsUtf8 ys (subst IsUtf8 rest (IsUtf8-drop bs (length xs + 1) u boundary))

pub utf8_joined : (xs : List ℕ) (c : ℕ) (ys : List ℕ) → c < 128 → is_utf8 xs ≡ true → is_utf8 ys ≡ true → is_utf8 (xs ++ (c ∷ ys)) ≡ true
utf8_joined xs c ys lt hx hy =
    let one : IsUtf8 (c ∷ []) = IsUtf8-from_ascii (c ∷ []) (IsAscii-cons c [] lt IsAscii-nil) in
    let rest : IsUtf8 (c ∷ ys) = IsUtf8-append (c ∷ []) ys one (IsUtf8-from_is_utf8 ys hy) in
    is_utf8-from_IsUtf8 (xs ++ (c ∷ ys)) (IsUtf8-append xs (c ∷ ys) (IsUtf8-from_is_utf8 xs hx) rest)

pub utf8_nil : is_utf8 [] ≡ true
utf8_nil = is_utf8-from_IsUtf8 [] IsUtf8-nil

-- bytes that pass p are ASCII
pub record IsAsciiTest (p : ℕ → Bool) : Type 0 where
  pub below : (b : ℕ) → p b ≡ true → b < 128

pub ascii_blank : IsAsciiTest is_blank
ascii_blank = record { below = λ b h. grind (arith, nat_tests) }

pub utf8_kept_end : (p : ℕ → Bool) (ascii : IsAsciiTest p) (xs kept : List ℕ) → EndsIn p xs kept → is_utf8 xs ≡ true → is_utf8 kept ≡ true
utf8_kept_end p ascii xs kept h u = by_back h.back h.passes (subst (λ (w : List ℕ). is_utf8 w ≡ true) h.parts u)
  where
    by_back : (back : List ℕ) → list_all p back ≡ true → is_utf8 (kept ++ back) ≡ true → is_utf8 kept ≡ true
    by_back [] passes v = rw append-nil at v
    by_back (b ∷ back) passes v = utf8_before kept b back (ascii.below b (and_parts (p b) (list_all p back) passes).0) v

pub utf8_kept_front : (p : ℕ → Bool) (ascii : IsAsciiTest p) (xs kept : List ℕ) → BeginsIn p xs kept → is_utf8 xs ≡ true → is_utf8 kept ≡ true
utf8_kept_front p ascii xs kept h u = by_front h.front h.passes (subst (λ (w : List ℕ). is_utf8 w ≡ true) h.parts u)
  where
    by_front : (front : List ℕ) → list_all p front ≡ true → is_utf8 (front ++ kept) ≡ true → is_utf8 kept ≡ true
    by_front [] passes v = v
    by_front (b ∷ front) passes v =
        let a = and_parts (p b) (list_all p front) passes in
        by_front front a.1 (utf8_after [] b (front ++ kept) (ascii.below b a.0) v)
