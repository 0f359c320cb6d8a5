-- Places: a normal one stays as it is, and it is what the two steps of the code give.
use Rattle.std.proofs.Common.{◌≡◌, ℕ, Bool, true, false, cond, eqb, List, [], ◌∷◌, ◌++◌, ◌⊎◌, length, ◌<◌, drop, length-append, is_some, inl, inr, refl, sym, ap, subst, ◌∙◌, arith, append-nil}
use Rattle.std.specs.Prelude.{codes}
use Rattle.std.specs.List.{slice_split, onto_first, AllByRecursion, All, join_with_byte}
use Rattle.std.specs.Str.{bytes_eq}
use Rattle.std.proofs.lemmas.Bool.{false≢true, cases_Bool, eqb-true, and_parts, and_right}
use Rattle.std.proofs.lemmas.List.Splits.{join_with_byte-slice_split, slice_split_at, slice_split_none}
use Rattle.fp_base.proofs.Texts.{bytes_eq-true}
use Rattle.fp_keyfile.specs.Grammar.{begins_so}
use Rattle.fl_meta.specs.Places.{is_slash, is_colon, is_dot, is_ending, says_nothing, begins_dotted, slash_with, colon_with, normal_with, normal, rooted, place_in, part_text, parts_text, end_with, without_ends}
use Rattle.fl_meta.specs.Entries.{last_word, access_remainder}
use Rattle.fl_meta.specs.Cuts.{HasNoEnding, CutsEnd, HasNoEnd}
use Rattle.fl_meta.proofs.Endings.{Parts-split, tail_none, is_empty-cons}

-- ---- a normal text stays as it is

normal-tail : (r : List ℕ) → normal (46 ∷ r) ≡ 46 ∷ r → normal r ≡ r
unfolding normal
normal-tail r h = ap (drop 1) h

normal-dotted : (r : List ℕ) → begins_dotted r ≡ true → normal r ≡ r → normal (drop 1 r) ≡ drop 1 r
normal-dotted [] e h = h
normal-dotted (c ∷ r) e h =
    let is : c ≡ 46 = eqb-true c 46 (and_parts (is_dot c) (begins_so is_slash r) e).0 in
    normal-tail r (subst (λ d. normal (d ∷ r) ≡ d ∷ r) is h)

slash_stays : (r : List ℕ) → normal r ≡ r → normal (slash_with r) ≡ slash_with r
unfolding normal
slash_stays r h =
    elim (cases_Bool (says_nothing r)) [
      | inl e ↦ rw e refl
      | inr e ↦ elim (cases_Bool (begins_so is_slash r)) [
        | inl f ↦ rw (e, f) h
        | inr f ↦ elim (cases_Bool (begins_dotted r)) [
          | inl g ↦ rw (e, f, g) (normal-dotted r g h)
          | inr g ↦
              let own : slash_with r ≡ 47 ∷ r = rw (e, f, g) refl in
              ap normal own ∙ ap slash_with h ∙ refl
        ]
      ]
    ]

colon_stays : (r : List ℕ) → normal r ≡ r → normal (colon_with r) ≡ colon_with r
unfolding normal
colon_stays r h =
    elim (cases_Bool (is_ending r)) [
      | inl e ↦ rw e refl
      | inr e ↦
          let own : colon_with r ≡ 58 ∷ r = rw e refl in
          ap normal own ∙ ap colon_with h
    ]

with_stays : (b : ℕ) (r : List ℕ) → normal r ≡ r → normal (normal_with b r) ≡ normal_with b r
unfolding normal
with_stays b r h =
    elim (cases_Bool (is_slash b)) [
      | inl e ↦ rw e (slash_stays r h)
      | inr e ↦ elim (cases_Bool (is_colon b)) [
        | inl f ↦ rw (e, f) (colon_stays r h)
        | inr f ↦
            let own : normal_with b r ≡ b ∷ r = rw (e, f) refl in
            ap normal own ∙ ap (normal_with b) h
      ]
    ]

pub normal-twice : (text : List ℕ) → normal (normal text) ≡ normal text
unfolding normal
normal-twice [] = refl
normal-twice (b ∷ bs) = with_stays b (normal bs) (normal-twice bs)

pub rooted-cons : (absolute : Bool) (b : ℕ) (bs : List ℕ) → rooted absolute (b ∷ bs) ≡ b ∷ bs
rooted-cons absolute b bs = rw (and_right absolute (eqb (length (b ∷ bs)) 0) (is_empty-cons b bs)) refl

rooted-twice : (absolute : Bool) (n : List ℕ) → normal n ≡ n → place_in (rooted absolute n) ≡ rooted absolute n
unfolding normal
rooted-twice true [] h = refl
rooted-twice false [] h = refl
rooted-twice absolute (b ∷ bs) h = ap place_in (rooted-cons absolute b bs) ∙ ap (rooted (is_slash b)) h ∙ rooted-cons (is_slash b) b bs ∙ sym (rooted-cons absolute b bs)

pub place_in-twice : (text : List ℕ) → place_in (place_in text) ≡ place_in text
place_in-twice text = rooted-twice (begins_so is_slash text) (normal text) (normal-twice text)

-- ---- it has no ending

other_none : (x : ℕ) (xs : List ℕ) → is_colon x ≡ false → HasNoEnding xs → HasNoEnding (x ∷ xs)
other_none x xs e h =
    let p = Parts-split is_colon xs in
    let step : slice_split is_colon (x ∷ xs) ≡ onto_first x (p.first ∷ p.others) = ap (λ ps. cond (is_colon x) ([] ∷ ps) (onto_first x ps)) p.is ∙ rw e refl in
    ap (λ ps. is_some (access_remainder (last_word ps))) step ∙ sym (ap (λ ps. is_some (access_remainder (last_word ps))) p.is) ∙ h

colon-parts : (xs first : List ℕ) (others : List (List ℕ)) → slice_split is_colon xs ≡ first ∷ others → is_ending xs ≡ false → HasNoEnding xs → is_some (access_remainder (last_word ([] ∷ first ∷ others))) ≡ false
colon-parts xs first [] is e h =
    let same : xs ≡ first = sym (join_with_byte-slice_split 58 xs) ∙ ap (join_with_byte 58) is in
    sym (ap is_ending same) ∙ e
colon-parts xs first (v ∷ others) is e h = sym (ap (λ ps. is_some (access_remainder (last_word ps))) is) ∙ h

colon_none : (xs : List ℕ) → is_ending xs ≡ false → HasNoEnding xs → HasNoEnding (58 ∷ xs)
colon_none xs e h =
    let p = Parts-split is_colon xs in
    ap (λ ps. is_some (access_remainder (last_word ([] ∷ ps)))) p.is ∙ colon-parts xs p.first p.others p.is e h

slash_none : (r : List ℕ) → HasNoEnding r → HasNoEnding (slash_with r)
slash_none r h =
    elim (cases_Bool (says_nothing r)) [
      | inl e ↦ rw e refl
      | inr e ↦ elim (cases_Bool (begins_so is_slash r)) [
        | inl f ↦ rw (e, f) h
        | inr f ↦ elim (cases_Bool (begins_dotted r)) [
          | inl g ↦ rw (e, f, g) (dropped r h)
          | inr g ↦ rw (e, f, g) (other_none 47 r refl h)
        ]
      ]
    ]
  where
    dropped : (r : List ℕ) → HasNoEnding r → HasNoEnding (drop 1 r)
    dropped [] h = h
    dropped (c ∷ r) h = tail_none c r h

with_none : (b : ℕ) (r : List ℕ) → HasNoEnding r → HasNoEnding (normal_with b r)
with_none b r h =
    elim (cases_Bool (is_slash b)) [
      | inl e ↦ rw e (slash_none r h)
      | inr e ↦ elim (cases_Bool (is_colon b)) [
        | inl f ↦ rw (e, f) (elim (cases_Bool (is_ending r)) [ inl g ↦ rw g refl | inr g ↦ rw g (colon_none r g h) ])
        | inr f ↦ rw (e, f) (other_none b r f h)
      ]
    ]

HasNoEnding-normal : (text : List ℕ) → HasNoEnding (normal text)
unfolding normal
HasNoEnding-normal [] = refl
HasNoEnding-normal (b ∷ bs) = with_none b (normal bs) (HasNoEnding-normal bs)

rooted_none : (absolute : Bool) (n : List ℕ) → HasNoEnding n → HasNoEnding (rooted absolute n)
rooted_none true [] h = refl
rooted_none false [] h = refl
rooted_none absolute (b ∷ bs) h = subst HasNoEnding (sym (rooted-cons absolute b bs)) h

pub HasNoEnding-place_in : (text : List ℕ) → HasNoEnding (place_in text)
HasNoEnding-place_in text = rooted_none (begins_so is_slash text) (normal text) (HasNoEnding-normal text)

-- ---- an end that is taken off changes nothing

pub ended : (P : List ℕ → Type 0) → P (codes "ro") → P (codes "rw") → P (codes "create") → (word : List ℕ) → is_ending word ≡ true → P word
ended P ro read create word h =
    elim (cases_Bool (bytes_eq word (codes "ro"))) [
      | inl e ↦ subst P (sym (bytes_eq-true word _ e)) ro
      | inr e ↦ elim (cases_Bool (bytes_eq word (codes "rw"))) [
        | inl f ↦ subst P (sym (bytes_eq-true word _ f)) read
        | inr f ↦ elim (cases_Bool (bytes_eq word (codes "create"))) [
          | inl g ↦ subst P (sym (bytes_eq-true word _ g)) create
          | inr g ↦ absurd (false≢true (rw (e, f, g) at h))
        ]
      ]
    ]

ends_after : (xs end : List ℕ) → without_ends end ≡ [] → without_ends (xs ++ end) ≡ without_ends xs
unfolding without_ends
ends_after [] end h = h
ends_after (x ∷ xs) end h = ap (end_with x) (ends_after xs end h)

only_ending : (word : List ℕ) → is_ending word ≡ true → without_ends (58 ∷ word) ≡ []
unfolding without_ends
only_ending word h = ended (λ w. without_ends (58 ∷ w) ≡ []) refl refl refl word h

only_slash : without_ends (codes "/") ≡ []
unfolding without_ends
only_slash = refl

only_dotted : without_ends (codes "/.") ≡ []
unfolding without_ends
only_dotted = refl

pub without_ends-cut : (text front : List ℕ) → CutsEnd text front → without_ends text ≡ without_ends front
without_ends-cut text front (inl e) = ap without_ends e ∙ ends_after front (codes "/") only_slash
without_ends-cut text front (inr (inl e)) = ap without_ends e ∙ ends_after front (codes "/.") only_dotted
without_ends-cut text front (inr (inr h)) = ap without_ends h.text_is ∙ ends_after front (58 ∷ h.word) (only_ending h.word h.ending)

pub shorter-cut : (text front : List ℕ) → CutsEnd text front → length front < length text
shorter-cut text front (inl e) = omega (arith, ap length e, length-append front (codes "/"))
shorter-cut text front (inr (inl e)) = omega (arith, ap length e, length-append front (codes "/."))
shorter-cut text front (inr (inr h)) = omega (arith, ap length h.text_is, length-append front (58 ∷ h.word))

-- ---- a text without such an end stays as it is

has_ending : (word : List ℕ) → is_ending word ≡ true → is_some (access_remainder (last_word (slice_split is_colon (58 ∷ word)))) ≡ true
has_ending word h = ended (λ w. is_some (access_remainder (last_word (slice_split is_colon (58 ∷ w)))) ≡ true) refl refl refl word h

no_end-tail : (b : ℕ) (bs : List ℕ) → HasNoEnd (b ∷ bs) → HasNoEnd bs
no_end-tail b bs h = record {
  ending = tail_none b bs h.ending;
  slash = λ front e. h.slash (b ∷ front) (ap (λ l. b ∷ l) e);
  dotted = λ front e. h.dotted (b ∷ front) (ap (λ l. b ∷ l) e);
}

pub nothing_is : (part : List ℕ) → says_nothing part ≡ true → (part ≡ []) ⊎ (part ≡ codes ".")
nothing_is [] h = inl refl
nothing_is (c ∷ rest) h =
    elim (cases_Bool (bytes_eq (c ∷ rest) (codes "."))) [
      | inl e ↦ inr (bytes_eq-true (c ∷ rest) (codes ".") e)
      | inr e ↦ absurd (false≢true (rw e at h))
    ]

end_stays : (b : ℕ) (bs : List ℕ) → HasNoEnd (b ∷ bs) → end_with b bs ≡ b ∷ bs
end_stays b bs h =
    elim (cases_Bool (is_slash b)) [
      | inl e ↦
          let is : b ≡ 47 = eqb-true b 47 e in
          elim (cases_Bool (says_nothing bs)) [
            | inl f ↦ elim (nothing_is bs f) [
              | inl g ↦ absurd (h.slash [] (λ i. is i ∷ g i))
              | inr g ↦ absurd (h.dotted [] (λ i. is i ∷ g i))
            ]
            | inr f ↦ rw (e, f) (λ i. sym is i ∷ bs)
          ]
      | inr e ↦ elim (cases_Bool (is_colon b)) [
        | inl f ↦
            let is : b ≡ 58 = eqb-true b 58 f in
            elim (cases_Bool (is_ending bs)) [
              | inl g ↦ absurd (false≢true (sym (subst (λ c. HasNoEnding (c ∷ bs)) is h.ending) ∙ has_ending bs g))
              | inr g ↦ rw (e, f, g) (λ i. sym is i ∷ bs)
            ]
        | inr f ↦ rw (e, f) refl
      ]
    ]

pub without_ends-none : (text : List ℕ) → HasNoEnd text → without_ends text ≡ text
unfolding without_ends
without_ends-none [] h = refl
without_ends-none (b ∷ bs) h = ap (end_with b) (without_ends-none bs (no_end-tail b bs h)) ∙ end_stays b bs h

-- ---- the two steps

-- nothing, or a `/` first
abbrev BeginsParts : List ℕ → Type 0
BeginsParts text = (text ≡ []) ⊎ ((rest : List ℕ) × (text ≡ 47 ∷ rest))

begins_parts : (parts : List (List ℕ)) → BeginsParts (parts_text parts)
begins_parts [] = inl refl
begins_parts (part ∷ parts) =
    elim (cases_Bool (says_nothing part)) [
      | inl e ↦ rw e (begins_parts parts)
      | inr e ↦ rw e (inr (part ++ parts_text parts, refl))
    ]

-- a `/` before what begins with one
slash_slash : (s : List ℕ) → slash_with (end_with 47 s) ≡ end_with 47 s
slash_slash s = elim (cases_Bool (says_nothing s)) [ inl e ↦ rw e refl | inr e ↦ rw e refl ]

slash_dot : (s : List ℕ) → slash_with (46 ∷ end_with 47 s) ≡ end_with 47 s
slash_dot s = elim (cases_Bool (says_nothing s)) [ inl e ↦ rw e refl | inr e ↦ rw e refl ]

nothing_before : (more : List ℕ) → BeginsParts more → without_ends more ≡ slash_with (without_ends more)
unfolding without_ends
nothing_before more (inl e) = rw e refl
nothing_before more (inr (rest, e)) = rw e (sym (slash_slash (without_ends rest)))

dot_before : (more : List ℕ) → BeginsParts more → without_ends more ≡ slash_with (without_ends (46 ∷ more))
unfolding without_ends
dot_before more (inl e) = rw e refl
dot_before more (inr (rest, e)) = rw e (sym (slash_dot (without_ends rest)))

-- what begins otherwise
plain_slash : (s : List ℕ) → begins_so is_slash s ≡ false → begins_dotted s ≡ false → slash_with s ≡ end_with 47 s
plain_slash s e f = rw (e, f) refl

-- only its first byte may be missing with all the others
ends_first : (c : ℕ) (r : List ℕ) → is_slash c ≡ false → (without_ends (c ∷ r) ≡ []) ⊎ (without_ends (c ∷ r) ≡ c ∷ without_ends r)
unfolding without_ends
ends_first c r e =
    elim (cases_Bool (is_colon c)) [
      | inl f ↦
          let is : c ≡ 58 = eqb-true c 58 f in
          elim (cases_Bool (is_ending (without_ends r))) [
            | inl g ↦ rw (e, f, g) (inl refl)
            | inr g ↦ rw (e, f, g) (inr (λ i. sym is i ∷ without_ends r))
          ]
      | inr f ↦ rw (e, f) (inr refl)
    ]

ends_begin : (r : List ℕ) → begins_so is_slash r ≡ false → begins_so is_slash (without_ends r) ≡ false
unfolding without_ends
ends_begin [] e = refl
ends_begin (c ∷ r) e = elim (ends_first c r e) [ inl f ↦ ap (begins_so is_slash) f | inr f ↦ ap (begins_so is_slash) f ∙ e ]

ends_dotted : (c : ℕ) (r : List ℕ) → is_slash c ≡ false → (is_dot c ≡ true → begins_so is_slash r ≡ false) → begins_dotted (without_ends (c ∷ r)) ≡ false
ends_dotted c r e h =
    elim (ends_first c r e) [
      | inl f ↦ ap begins_dotted f
      | inr f ↦ ap begins_dotted f ∙ elim (cases_Bool (is_dot c)) [
        | inl g ↦ rw (g, ends_begin r (h g)) refl
        | inr g ↦ rw g refl
      ]
    ]

-- no `/` in it
abbrev IsPart : List ℕ → Type 0
IsPart part = AllByRecursion (λ b. is_slash b ≡ false) part

part_before : (part more : List ℕ) → IsPart part → BeginsParts more → without_ends (part_text part ++ more) ≡ slash_with (without_ends (part ++ more))
unfolding without_ends
part_before [] more h k = nothing_before more k
part_before (c ∷ part) more h k =
    elim (cases_Bool (says_nothing (c ∷ part))) [
      | inl e ↦ elim (nothing_is (c ∷ part) e) [
        | inl f ↦ absurd (no_list f)
        | inr f ↦ rw e (dot_before more k ∙ ap (λ p. slash_with (without_ends (p ++ more))) (sym f))
      ]
      | inr e ↦ rw e (sym (plain_slash (without_ends (c ∷ part ++ more)) (ends_begin (c ∷ part ++ more) h.0) (ends_dotted c (part ++ more) h.0 (λ d. after_dot part h.1 (eqb-true c 46 d) e))))
    ]
  where
    no_list : c ∷ part ≡ [] → ⊥
    no_list f = cc

    after_dot : (rest : List ℕ) → IsPart rest → c ≡ 46 → says_nothing (c ∷ rest) ≡ false → begins_so is_slash (rest ++ more) ≡ false
    after_dot [] l is e = absurd (false≢true (sym e ∙ ap (λ d. says_nothing (d ∷ [])) is))
    after_dot (d ∷ rest) l is e = l.0

record JoinsTo (text : List ℕ) : Type 0 where
  pub first : List ℕ
  pub parts : List (List ℕ)
  pub is : slice_split is_slash text ≡ first ∷ parts
  pub part : IsPart first
  pub same : without_ends (first ++ parts_text parts) ≡ normal text

joins : (text : List ℕ) → JoinsTo text
unfolding normal without_ends
joins [] = record { first = []; parts = []; is = refl; part = tt; same = refl }
joins (b ∷ bs) =
    let h = joins bs in
    elim (cases_Bool (is_slash b)) [
      | inl e ↦ record {
        first = [];
        parts = h.first ∷ h.parts;
        is = ap (λ ps. cond (is_slash b) ([] ∷ ps) (onto_first b ps)) h.is ∙ rw e refl;
        part = tt;
        same = part_before h.first (parts_text h.parts) h.part (begins_parts h.parts) ∙ ap slash_with h.same ∙ rw e refl;
      }
      | inr e ↦ record {
        first = b ∷ h.first;
        parts = h.parts;
        is = ap (λ ps. cond (is_slash b) ([] ∷ ps) (onto_first b ps)) h.is ∙ rw e refl;
        part = (e, h.part);
        same = ap (end_with b) h.same ∙ rw e refl;
      }
    ]

-- the text is cut at its first `/`
pub normal-cut : (text first rest : List ℕ) → text ≡ first ++ 47 ∷ rest → All (λ b. is_slash b ≡ false) first → without_ends (first ++ parts_text (slice_split is_slash rest)) ≡ normal text
normal-cut text first rest e none =
    let h = joins text in
    let parts = sym h.is ∙ ap (slice_split is_slash) e ∙ slice_split_at is_slash first 47 rest none refl in
    sym (ap (λ ps. without_ends (flat_parts ps)) parts) ∙ h.same
  where
    flat_parts : List (List ℕ) → List ℕ
    flat_parts [] = []
    flat_parts (first ∷ parts) = first ++ parts_text parts

-- it has none
pub normal-whole : (text : List ℕ) → All (λ b. is_slash b ≡ false) text → without_ends text ≡ normal text
normal-whole text none =
    let h = joins text in
    let parts = sym h.is ∙ slice_split_none is_slash text none in
    sym (ap (λ ps. without_ends (flat_parts ps)) parts ∙ ap without_ends (append-nil text)) ∙ h.same
  where
    flat_parts : List (List ℕ) → List ℕ
    flat_parts [] = []
    flat_parts (first ∷ parts) = first ++ parts_text parts
