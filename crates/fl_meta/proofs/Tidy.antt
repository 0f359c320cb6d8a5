-- A normal text is tidy, and a text that is tidy without its endings is normal without them.
use Rattle.std.proofs.Common.{◌≡◌, ◌≢◌, ℕ, Bool, true, false, cond, List, [], ◌∷◌, ◌++◌, ◌⊎◌, length, drop, inl, inr, refl, sym, ap, subst, ◌∙◌, arith}
use Rattle.std.specs.Prelude.{codes}
use Rattle.std.proofs.lemmas.Bool.{false≢true, cases_Bool, eqb-true, and_parts}
use Rattle.fp_keyfile.specs.Grammar.{begins_so}
use Rattle.fl_meta.specs.Places.{is_slash, is_colon, is_dot, is_ending, says_nothing, begins_dotted, slash_with, colon_with, normal_with, normal, rooted, place_in}
use Rattle.fl_meta.specs.Tidy.{IsTidy, without_endings}
use Rattle.fl_meta.proofs.Normal.{ended, nothing_is, rooted-cons}

-- ---- what is tidy

not_longer : (front back : List ℕ) (b : ℕ) → [] ≢ front ++ b ∷ back
not_longer [] back b e = cc
not_longer (x ∷ front) back b e = cc

tidy_nil : IsTidy []
tidy_nil = record {
  doubled = λ front back e. not_longer front (47 ∷ back) 47 e;
  dotted = λ front back e. not_longer front (46 ∷ 47 ∷ back) 47 e;
  slash = λ front e. not_longer front [] 47 e;
  dot = λ front e. not_longer front (46 ∷ []) 47 e;
}

tidy_tail : (b : ℕ) (bs : List ℕ) → IsTidy (b ∷ bs) → IsTidy bs
tidy_tail b bs h = record {
  doubled = λ front back e. h.doubled (b ∷ front) back (ap (λ l. b ∷ l) e);
  dotted = λ front back e. h.dotted (b ∷ front) back (ap (λ l. b ∷ l) e);
  slash = λ front e. h.slash (b ∷ front) (ap (λ l. b ∷ l) e);
  dot = λ front e. h.dot (b ∷ front) (ap (λ l. b ∷ l) e);
}

heads : (x y : ℕ) (xs ys : List ℕ) → x ∷ xs ≡ y ∷ ys → x ≡ y
heads x y xs ys e = cc

tails : (x y : ℕ) (xs ys : List ℕ) → x ∷ xs ≡ y ∷ ys → xs ≡ ys
tails x y xs ys e = cc

no_slash : (b : ℕ) (bs rest : List ℕ) → is_slash b ≡ false → b ∷ bs ≢ 47 ∷ rest
no_slash b bs rest f e = false≢true (sym f ∙ ap is_slash (heads b 47 bs rest e))

-- a byte that is no slash before a tidy text
tidy_other : (b : ℕ) (bs : List ℕ) → is_slash b ≡ false → IsTidy bs → IsTidy (b ∷ bs)
tidy_other b bs f h = record { doubled = doubled; dotted = dotted; slash = slash; dot = dot }
  where
    doubled : (front back : List ℕ) → b ∷ bs ≢ front ++ (codes "//" ++ back)
    doubled [] back e = no_slash b bs (47 ∷ back) f e
    doubled (x ∷ front) back e = h.doubled front back (tails b x bs _ e)

    dotted : (front back : List ℕ) → b ∷ bs ≢ front ++ (codes "/./" ++ back)
    dotted [] back e = no_slash b bs (46 ∷ 47 ∷ back) f e
    dotted (x ∷ front) back e = h.dotted front back (tails b x bs _ e)

    slash : (front : List ℕ) → b ∷ bs ≢ front ++ codes "/"
    slash [] e = no_slash b bs [] f e
    slash (x ∷ front) e = h.slash front (tails b x bs _ e)

    dot : (front : List ℕ) → b ∷ bs ≢ front ++ codes "/."
    dot [] e = no_slash b bs (46 ∷ []) f e
    dot (x ∷ front) e = h.dot front (tails b x bs _ e)

-- a slash before a tidy text that says something and doesn't begin so
record CanFollow (r : List ℕ) : Type 0 where
  pub some : says_nothing r ≡ false
  pub plain : begins_so is_slash r ≡ false
  pub undotted : begins_dotted r ≡ false

tidy_slash : (r : List ℕ) → CanFollow r → IsTidy r → IsTidy (47 ∷ r)
tidy_slash r c h = record { doubled = doubled; dotted = dotted; slash = slash; dot = dot }
  where
    doubled : (front back : List ℕ) → 47 ∷ r ≢ front ++ (codes "//" ++ back)
    doubled [] back e = false≢true (sym c.plain ∙ ap (begins_so is_slash) (tails 47 47 r (47 ∷ back) e))
    doubled (x ∷ front) back e = h.doubled front back (tails 47 x r _ e)

    dotted : (front back : List ℕ) → 47 ∷ r ≢ front ++ (codes "/./" ++ back)
    dotted [] back e = false≢true (sym c.undotted ∙ ap begins_dotted (tails 47 47 r (46 ∷ 47 ∷ back) e))
    dotted (x ∷ front) back e = h.dotted front back (tails 47 x r _ e)

    slash : (front : List ℕ) → 47 ∷ r ≢ front ++ codes "/"
    slash [] e = false≢true (sym c.some ∙ ap says_nothing (tails 47 47 r [] e))
    slash (x ∷ front) e = h.slash front (tails 47 x r _ e)

    dot : (front : List ℕ) → 47 ∷ r ≢ front ++ codes "/."
    dot [] e = false≢true (sym c.some ∙ ap says_nothing (tails 47 47 r (46 ∷ []) e))
    dot (x ∷ front) e = h.dot front (tails 47 x r _ e)

-- ---- a normal text is tidy

tidy_drop : (r : List ℕ) → IsTidy r → IsTidy (drop 1 r)
tidy_drop [] h = h
tidy_drop (b ∷ bs) h = tidy_tail b bs h

tidy_with : (b : ℕ) (r : List ℕ) → IsTidy r → IsTidy (normal_with b r)
tidy_with b r h =
    elim (cases_Bool (is_slash b)) [
      | inl e ↦ elim (cases_Bool (says_nothing r)) [
        | inl f ↦ rw (e, f) tidy_nil
        | inr f ↦ elim (cases_Bool (begins_so is_slash r)) [
          | inl g ↦ rw (e, f, g) h
          | inr g ↦ elim (cases_Bool (begins_dotted r)) [
            | inl k ↦ rw (e, f, g, k) (tidy_drop r h)
            | inr k ↦ rw (e, f, g, k) (tidy_slash r (record { some = f; plain = g; undotted = k }) h)
          ]
        ]
      ]
      | inr e ↦ elim (cases_Bool (is_colon b)) [
        | inl f ↦ elim (cases_Bool (is_ending r)) [
          | inl g ↦ rw (e, f, g) tidy_nil
          | inr g ↦ rw (e, f, g) (tidy_other 58 r refl h)
        ]
        | inr f ↦ rw (e, f) (tidy_other b r e h)
      ]
    ]

tidy_normal : (text : List ℕ) → IsTidy (normal text)
unfolding normal
tidy_normal [] = tidy_nil
tidy_normal (b ∷ bs) = tidy_with b (normal bs) (tidy_normal bs)

tidy_rooted : (absolute : Bool) (n : List ℕ) → IsTidy n → (rooted absolute n ≡ codes "/") ⊎ IsTidy (rooted absolute n)
tidy_rooted true [] h = inl refl
tidy_rooted false [] h = inr h
tidy_rooted absolute (b ∷ bs) h = inr (subst IsTidy (sym (rooted-cons absolute b bs)) h)

pub tidy_place : (text : List ℕ) → (place_in text ≡ codes "/") ⊎ IsTidy (place_in text)
tidy_place text = tidy_rooted (begins_so is_slash text) (normal text) (tidy_normal text)

-- ---- a text that is tidy without its endings

tidy_ending : (word : List ℕ) → is_ending word ≡ true → IsTidy word
tidy_ending word h =
    ended IsTidy
    (tidy_other 114 (codes "o") refl (tidy_other 111 [] refl tidy_nil))
    (tidy_other 114 (codes "w") refl (tidy_other 119 [] refl tidy_nil))
    (tidy_other 99 (codes "reate") refl (tidy_other 114 (codes "eate") refl (tidy_other 101 (codes "ate") refl (tidy_other 97 (codes "te") refl (tidy_other 116 (codes "e") refl (tidy_other 101 [] refl tidy_nil))))))
    word h

can_follow : (r : List ℕ) → IsTidy (47 ∷ r) → CanFollow r
can_follow r h = record { some = some; plain = plain; undotted = undotted }
  where
    first_is : (p : ℕ → Bool) (c : ℕ) → ((b : ℕ) → p b ≡ true → b ≡ c) → (r : List ℕ) → begins_so p r ≡ true → r ≡ c ∷ drop 1 r
    first_is p c is [] e = absurd (false≢true e)
    first_is p c is (b ∷ bs) e = ap (λ x. x ∷ bs) (is b e)

    dotted_is : (r : List ℕ) → begins_dotted r ≡ true → r ≡ 46 ∷ 47 ∷ drop 1 (drop 1 r)
    dotted_is [] e = absurd (false≢true e)
    dotted_is (b ∷ bs) e =
        let a = and_parts (is_dot b) (begins_so is_slash bs) e in
        ap (λ x. x ∷ bs) (eqb-true b 46 a.0) ∙ ap (λ l. 46 ∷ l) (first_is is_slash 47 (λ x f. eqb-true x 47 f) bs a.1)

    some : says_nothing r ≡ false
    some = elim (cases_Bool (says_nothing r)) [
      | inl e ↦ elim (nothing_is r e) [
        | inl f ↦ absurd (h.slash [] (ap (λ l. 47 ∷ l) f))
        | inr f ↦ absurd (h.dot [] (ap (λ l. 47 ∷ l) f))
      ]
      | inr e ↦ e
    ]

    plain : begins_so is_slash r ≡ false
    plain = elim (cases_Bool (begins_so is_slash r)) [
      | inl e ↦ absurd (h.doubled [] (drop 1 r) (ap (λ l. 47 ∷ l) (first_is is_slash 47 (λ x f. eqb-true x 47 f) r e)))
      | inr e ↦ e
    ]

    undotted : begins_dotted r ≡ false
    undotted = elim (cases_Bool (begins_dotted r)) [
      | inl e ↦ absurd (h.dotted [] (drop 1 (drop 1 r)) (ap (λ l. 47 ∷ l) (dotted_is r e)))
      | inr e ↦ e
    ]

slash_own : (r : List ℕ) → CanFollow r → slash_with r ≡ 47 ∷ r
slash_own r c = rw (c.some, c.plain, c.undotted) refl

same_normal : (text : List ℕ) → IsTidy (without_endings text) → normal text ≡ without_endings text
unfolding normal
same_normal [] h = refl
same_normal (b ∷ bs) h =
    elim (cases_Bool (is_colon b)) [
      | inl e ↦
          let is : b ≡ 58 = eqb-true b 58 e in
          let r = without_endings bs in
          let told : IsTidy (colon_with r) = subst (λ x. IsTidy (cond x (colon_with r) (b ∷ r))) e h in
          let rest : IsTidy r = elim (cases_Bool (is_ending r)) [
            | inl f ↦ tidy_ending r f
            | inr f ↦ tidy_tail 58 r (subst (λ x. IsTidy (cond x [] (58 ∷ r))) f told)
          ] in
          ap (normal_with b) (same_normal bs rest) ∙ ap (λ x. normal_with x r) is ∙ sym (ap (λ x. cond x (colon_with r) (b ∷ r)) e)
      | inr e ↦
          let r = without_endings bs in
          let told : IsTidy (b ∷ r) = subst (λ x. IsTidy (cond x (colon_with r) (b ∷ r))) e h in
          ap (normal_with b) (same_normal bs (tidy_tail b r told)) ∙ own b r e told ∙ sym (ap (λ x. cond x (colon_with r) (b ∷ r)) e)
    ]
  where
    own : (b : ℕ) (r : List ℕ) → is_colon b ≡ false → IsTidy (b ∷ r) → normal_with b r ≡ b ∷ r
    own b r e h = elim (cases_Bool (is_slash b)) [
      | inl f ↦
          let is : b ≡ 47 = eqb-true b 47 f in
          ap (λ x. normal_with x r) is ∙ slash_own r (can_follow r (subst (λ x. IsTidy (x ∷ r)) is h)) ∙ ap (λ x. x ∷ r) (sym is)
      | inr f ↦ rw (f, e) refl
    ]

first_stays : (text : List ℕ) → begins_so is_slash text ≡ true → length (without_endings text) ≡ 0 → ⊥
first_stays [] e l = false≢true e
first_stays (b ∷ bs) e l = absurd (omega (arith, l, ap length (kept b (without_endings bs) (eqb-true b 47 e))))
  where
    kept : (b : ℕ) (r : List ℕ) → b ≡ 47 → cond (is_colon b) (colon_with r) (b ∷ r) ≡ b ∷ r
    kept b r is = rw is refl

pub tidy_same : (text : List ℕ) → IsTidy (without_endings text) → place_in text ≡ without_endings text
tidy_same text h = ap (rooted (begins_so is_slash text)) (same_normal text h) ∙ by (begins_so is_slash text) (without_endings text) (first_stays text)
  where
    by : (absolute : Bool) (n : List ℕ) → (absolute ≡ true → length n ≡ 0 → ⊥) → rooted absolute n ≡ n
    by true [] k = absurd (k refl refl)
    by false [] k = refl
    by absolute (b ∷ bs) k = rooted-cons absolute b bs
