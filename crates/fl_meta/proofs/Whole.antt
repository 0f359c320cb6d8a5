-- Lists cut at their separators.
use Rattle.std.proofs.Common.{◌≡◌, ◌⊎◌, inl, inr, ◌<◌, ◌≤◌, ◌+◌, ℕ, zero, suc, Bool, true, false, cond, List, [], ◌∷◌, ◌++◌, length, get_or, take, drop, replicate, Option, Some, None, refl, sym, ap, subst, ◌∙◌, arith, append_assoc}
use denote.Ref.{Bor}
use Rattle.std.specs.Prelude.{IfSome}
use Rattle.std.specs.Option.{option_copied}
use Rattle.std.specs.List.{onto_first, flat_map, AllByRecursion}
use Rattle.std.proofs.lemmas.List.{take-append-drop}
use Rattle.fp_keyfile.specs.Grammar.{ends_so}
use Rattle.fl_meta.specs.Separators.{is_backslash, escapes, escapes_after, ends_escaped, separates, entries_from, entries_of}

-- ---- a text in which no byte separates

abbrev pub IsWhole : Bool → List ℕ → Type 0
IsWhole escaped [] = Unit {0}
IsWhole escaped (b ∷ bs) = (separates escaped b ≡ false) × IsWhole (escapes escaped b) bs

pub escapes_after-append : (escaped : Bool) (xs ys : List ℕ) → escapes_after escaped (xs ++ ys) ≡ escapes_after (escapes_after escaped xs) ys
escapes_after-append escaped [] ys = refl
escapes_after-append escaped (x ∷ xs) ys = escapes_after-append (escapes escaped x) xs ys

pub IsWhole-append : (escaped : Bool) (xs ys : List ℕ) → IsWhole escaped xs → IsWhole (escapes_after escaped xs) ys → IsWhole escaped (xs ++ ys)
IsWhole-append escaped [] ys h k = k
IsWhole-append escaped (x ∷ xs) ys h k = (h.0, IsWhole-append (escapes escaped x) xs ys h.1 k)

-- it is one entry before a `;` that separates
pub entries_cut : (escaped : Bool) (front rest : List ℕ) → IsWhole escaped front → escapes_after escaped front ≡ false → entries_from escaped (front ++ 59 ∷ rest) ≡ front ∷ entries_of rest
entries_cut escaped [] rest h e = ap (λ (b : Bool). entries_from b (59 ∷ rest)) e
entries_cut escaped (b ∷ bs) rest h e = rw h.0 (ap (onto_first b) (entries_cut (escapes escaped b) bs rest h.1 e))

-- and where nothing stands after it
pub entries_whole : (escaped : Bool) (text : List ℕ) → IsWhole escaped text → entries_from escaped text ≡ text ∷ []
entries_whole escaped [] h = refl
entries_whole escaped (b ∷ bs) h = rw h.0 (ap (onto_first b) (entries_whole (escapes escaped b) bs h.1))

-- ---- as far as a list was read

take_next : (xs : List ℕ) (n : ℕ) → n < length xs → take (n + 1) xs ≡ take n xs ++ get_or xs n 0 ∷ []
take_next [] n l = absurd (omega arith)
take_next (x ∷ xs) zero l = refl
take_next (x ∷ xs) (suc n) l =
    let more : suc n + 1 ≡ suc (n + 1) = omega arith in
    ap (λ k. take k (x ∷ xs)) more ∙ ap (λ (ys : List ℕ). x ∷ ys) (take_next xs n (omega arith))

pub escapes_next : (escaped : Bool) (xs : List ℕ) (n : ℕ) → n < length xs → escapes_after escaped (take (n + 1) xs) ≡ escapes (escapes_after escaped (take n xs)) (get_or xs n 0)
escapes_next escaped xs n l = ap (escapes_after escaped) (take_next xs n l) ∙ escapes_after-append escaped (take n xs) (get_or xs n 0 ∷ [])

pub whole_next : (xs : List ℕ) (n : ℕ) → n < length xs → IsWhole false (take n xs) → separates (escapes_after false (take n xs)) (get_or xs n 0) ≡ false → IsWhole false (take (n + 1) xs)
whole_next xs n l h e = subst (IsWhole false) (sym (take_next xs n l)) (IsWhole-append false (take n xs) (get_or xs n 0 ∷ []) h (e, tt))

drop_next : (xs : List ℕ) (n : ℕ) → n < length xs → drop n xs ≡ get_or xs n 0 ∷ drop (n + 1) xs
drop_next [] n l = absurd (omega arith)
drop_next (x ∷ xs) zero l = refl
drop_next (x ∷ xs) (suc n) l =
    let more : suc n + 1 ≡ suc (n + 1) = omega arith in
    drop_next xs n (omega arith) ∙ ap (λ k. get_or xs n 0 ∷ drop k (x ∷ xs)) (sym more)

pub entries_at : (xs : List ℕ) (n c : ℕ) → n < length xs → get_or xs n 0 ≡ c → c ≡ 59 → IsWhole false (take n xs) → escapes_after false (take n xs) ≡ false → entries_of xs ≡ take n xs ∷ entries_of (drop (n + 1) xs)
entries_at xs n c l is semicolon h e =
    ap entries_of (sym (take-append-drop n xs) ∙ ap (λ (ys : List ℕ). take n xs ++ ys) (drop_next xs n l ∙ ap (λ (b : ℕ). b ∷ drop (n + 1) xs) (is ∙ semicolon)))
    ∙ entries_cut false (take n xs) (drop (n + 1) xs) h e

-- ---- the entries of any list

abbrev AreWhole : Bool → List (List ℕ) → Type 0
AreWhole escaped [] = Unit {0}
AreWhole escaped (entry ∷ entries) = IsWhole escaped entry × AllByRecursion (IsWhole false) entries

first_whole : (escaped : Bool) (b : ℕ) (entries : List (List ℕ)) → separates escaped b ≡ false → AreWhole (escapes escaped b) entries → AreWhole escaped (onto_first b entries)
first_whole escaped b [] e h = ((e, tt), tt)
first_whole escaped b (entry ∷ entries) e h = ((e, h.0), h.1)

all_whole : (entries : List (List ℕ)) → AreWhole false entries → AllByRecursion (IsWhole false) entries
all_whole [] h = tt
all_whole (entry ∷ entries) h = h

by_separator : (escaped here : Bool) (b : ℕ) (later more : List (List ℕ)) → separates escaped b ≡ here → AreWhole false later → AreWhole (escapes escaped b) more → AreWhole escaped (cond here ([] ∷ later) (onto_first b more))
by_separator escaped true b later more e h k = (tt, all_whole later h)
by_separator escaped false b later more e h k = first_whole escaped b more e k

are_whole : (escaped : Bool) (text : List ℕ) → AreWhole escaped (entries_from escaped text)
are_whole escaped [] = (tt, tt)
are_whole escaped (b ∷ bs) = by_separator escaped (separates escaped b) b (entries_from false bs) (entries_from (escapes escaped b) bs) refl (are_whole false bs) (are_whole (escapes escaped b) bs)

pub entries_are_whole : (text : List ℕ) → AllByRecursion (IsWhole false) (entries_of text)
entries_are_whole text = all_whole (entries_of text) (are_whole false text)

-- ---- backslashes at the end

twice_kept : (escaped : Bool) (n : ℕ) → escapes_after escaped (replicate (n + n) 92) ≡ escaped
twice_kept escaped zero = refl
twice_kept escaped (suc n) =
    let more : suc n + suc n ≡ suc (suc (n + n)) = omega arith in
    ap (λ k. escapes_after escaped (replicate k 92)) more ∙ twice_kept (escapes (escapes escaped 92) 92) n ∙ both escaped
  where
    both : (b : Bool) → escapes (escapes b 92) 92 ≡ b
    both true = refl
    both false = refl

none_before : (escaped : Bool) (b : ℕ) (bs : List ℕ) → ends_so is_backslash (b ∷ bs) ≡ false → escapes_after escaped (b ∷ bs) ≡ false
none_before escaped b [] h = rw h refl
none_before escaped b (c ∷ bs) h = none_before (escapes escaped b) c bs h

none_open : (text : List ℕ) → ends_so is_backslash text ≡ false → escapes_after false text ≡ false
none_open [] h = refl
none_open (b ∷ bs) h = none_before false b bs h

pub even_closes : (text : List ℕ) (n : ℕ) → ends_so is_backslash text ≡ false → ends_escaped (text ++ replicate (n + n) 92) ≡ false
even_closes text n h =
    escapes_after-append false text (replicate (n + n) 92) ∙ ap (λ (b : Bool). escapes_after b (replicate (n + n) 92)) (none_open text h) ∙ twice_kept false n

pub odd_opens : (text : List ℕ) (n : ℕ) → ends_so is_backslash text ≡ false → ends_escaped (text ++ replicate (n + n + 1) 92) ≡ true
odd_opens text n h =
    let more : n + n + 1 ≡ suc (n + n) = omega arith in
    escapes_after-append false text (replicate (n + n + 1) 92) ∙ ap (λ (b : Bool). escapes_after b (replicate (n + n + 1) 92)) (none_open text h)
    ∙ ap (λ k. escapes_after false (replicate k 92)) more ∙ twice_kept true n

-- ---- a list of one entry

one_whole : (escaped : Bool) (text : List ℕ) → entries_from escaped text ≡ text ∷ [] → IsWhole escaped text
one_whole escaped [] h = tt
one_whole escaped (b ∷ bs) h = by (one_whole (escapes escaped b) bs) (separates escaped b) refl h
  where
    none_first : (c : ℕ) (cs : List ℕ) (later : List (List ℕ)) → [] ∷ later ≡ (c ∷ cs) ∷ [] → ⊥
    none_first c cs later e = cc

    behind : (entries : List (List ℕ)) → onto_first b entries ≡ (b ∷ bs) ∷ [] → (bs ≡ []) ⊎ (entries ≡ bs ∷ [])
    behind [] e = inl cc
    behind (entry ∷ entries) e = inr cc

    by : (entries_from (escapes escaped b) bs ≡ bs ∷ [] → IsWhole (escapes escaped b) bs) → (here : Bool) → separates escaped b ≡ here
        → cond here ([] ∷ entries_from false bs) (onto_first b (entries_from (escapes escaped b) bs)) ≡ (b ∷ bs) ∷ [] → IsWhole escaped (b ∷ bs)
    by again true e k = absurd (none_first b bs (entries_from false bs) k)
    by again false e k = elim (behind (entries_from (escapes escaped b) bs) k) [
      | inl f ↦ (e, subst (IsWhole (escapes escaped b)) (sym f) tt)
      | inr f ↦ (e, again f)
    ]

pub one_cut : (entry rest : List ℕ) → entries_of entry ≡ entry ∷ [] → ends_escaped entry ≡ false → entries_of (entry ++ 59 ∷ rest) ≡ entry ∷ entries_of rest
one_cut entry rest h e = entries_cut false entry rest (one_whole false entry h) e

pub take_whole : (xs : List ℕ) (n : ℕ) → length xs ≤ n → take n xs ≡ xs
take_whole [] zero l = refl
take_whole [] (suc n) l = refl
take_whole (x ∷ xs) zero l = absurd (omega arith)
take_whole (x ∷ xs) (suc n) l = ap (λ (ys : List ℕ). x ∷ ys) (take_whole xs n (omega arith))

-- how much of a list is left to be read
abbrev pub left_length : Option (List ℕ) → ℕ
left_length None = 0
left_length (Some list) = suc (length list)

pub left_shorter : (others : Option (Bor (List ℕ))) (n : ℕ) → IfSome others (λ rest. length rest.now < n) → left_length (option_copied others) < suc n
left_shorter None n h = omega arith
left_shorter (Some rest) n h = omega (arith, h)

-- one entry more is read
pub one_entry : {X : Type 0} (f : List ℕ → List X) (out more start all : List X) (entry : List ℕ) (list : List ℕ) (others : List (List ℕ)) → entries_of list ≡ entry ∷ others → more ≡ out ++ f entry → out ++ flat_map f (entries_of list) ≡ start ++ all → more ++ flat_map f others ≡ start ++ all
one_entry f out more start all entry list others cut added h =
    ap (λ l. l ++ flat_map f others) added ∙ append_assoc out (f entry) (flat_map f others) ∙ ap (λ es. out ++ flat_map f es) (sym cut) ∙ h
