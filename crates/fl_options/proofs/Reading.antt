-- The rule that is read of a text is the rule that it is.
use Rattle.std.proofs.Common.{◌≡◌, ℕ, ◌-◌, true, false, eqb, List, [], ◌∷◌, ◌++◌, length, take, Option, Some, None, refl, sym, ap, subst, ◌∙◌, inl, inr, arith}
use Rattle.std.specs.Prelude.{◌||◌, codes, nat_eq, option_map, option_and_then}
use Rattle.std.specs.List.{ends_with}
use Rattle.std.specs.Str.{bytes_eq}
use Rattle.std.proofs.lemmas.Slice.Eq.{bytes_eq-Decides, ends_is}
use Rattle.std.proofs.lemmas.Bool.Decides.{Decides-eqb}
use Rattle.std.proofs.lemmas.Bool.{and_parts, and_from, cases_Bool, ne_eqb, false≢true}
use Rattle.std.proofs.lemmas.List.{length-append, append-nil}
use Rattle.std.proofs.Math.Seq.{take-append_seam}
use Rattle.fp_base.proofs.Lists.{empty_is}
use Rattle.bus_frame.specs.Names.{is_interface, is_member, is_path}
use Rattle.bus_rules.specs.declared.rule.Members.{Members}
use Rattle.bus_rules.specs.declared.rule.Members.TheVariants.{All, Of, One}
use Rattle.bus_rules.specs.declared.rule.Objects.{Objects}
use Rattle.bus_rules.specs.declared.rule.Objects.TheVariants.{At, Below}
use Rattle.bus_rules.specs.declared.rule.Rule.{Rule}
use Rattle.bus_rules.specs.Rules.{members_text, objects_text, are_members, are_objects, are_parts, members_part, objects_part, IsRule, IsNoRule, NamesMembers, NamesObjects}
use Rattle.bus_rules.proofs.Splits.{Misses, Misses-is, member_misses}
use Rattle.bus_rules.proofs.Spelling.{star_misses, path_end, members_sign}
use Rattle.fp_keyfile.specs.Lines.{split_at}
use Rattle.fl_options.specs.Rules.{split_last, members_with, members_read, objects_read, on_objects, parts_read, alone_read, rule_at, rule_read}
use Rattle.fl_options.proofs.Splits.{first_found, first_none, first_is, last_found, last_is}

-- ---- texts

star_dot : Misses 46 (codes "*")
star_dot = star_misses 46 (λ e. omega arith)

some_seam : (a : List ℕ) (c : ℕ) (b : List ℕ) → eqb (length (a ++ c ∷ b)) 0 ≡ false
some_seam a c b = ne_eqb (length (a ++ c ∷ b)) 0 (λ e. omega (arith, e, length-append a (c ∷ b)))

none_some : {A : Type 0} (a : A) → None ≡ Some a → ⊥
none_some a e = cc

-- ---- members

no_star : (text a b : List ℕ) → text ≡ a ++ 46 ∷ b → bytes_eq text (codes "*") ≡ false
no_star text a b is =
    elim (cases_Bool (bytes_eq text (codes "*"))) [
      | inl e ↦ absurd (Misses-is 46 (codes "*") a b (sym ((bytes_eq-Decides text (codes "*")).0 e) ∙ is) star_dot)
      | inr e ↦ e
    ]

member_no_star : (m : List ℕ) → is_member m ≡ true → bytes_eq m (codes "*") ≡ false
member_no_star m is =
    elim (cases_Bool (bytes_eq m (codes "*"))) [
      | inl e ↦
          let same : m ≡ codes "*" = (bytes_eq-Decides m (codes "*")).0 e in
          absurd (Misses-is 42 m [] [] same (member_misses 42 refl m is))
      | inr e ↦ e
    ]

pub members_back : (m : Members) (text : List ℕ) → NamesMembers m text → members_read text ≡ Some m
members_back All text is = ap members_read is.1
members_back (Of i) text is =
    let cut = ap (split_last 46) is.1 ∙ last_found 46 i (codes "*") star_dot in
    rw (no_star text i (codes "*") is.1, cut, is.0) refl
members_back (One i m) text is =
    let both = and_parts (is_interface i) (is_member m) is.0 in
    let cut = ap (split_last 46) is.1 ∙ last_found 46 i m (member_misses 46 refl m both.1) in
    rw (no_star text i m is.1, cut, both.0, member_no_star m both.1, both.1) refl

with_parts : (p : List ℕ × List ℕ) (text : List ℕ) (m : Members) → text ≡ p.0 ++ 46 ∷ p.1 → members_with p ≡ Some m → NamesMembers m text
with_parts p text m parts h =
    elim (cases_Bool (is_interface p.0)) [
      | inr none ↦ absurd (none_some m (rw none at h))
      | inl face ↦ elim (cases_Bool (bytes_eq p.1 (codes "*"))) [
        | inl star ↦
            let same : Of p.0 ≡ m = some_same (Of p.0) m (rw (face, star) at h) in
            subst (λ (x : Members). NamesMembers x text) same (face, parts ∙ ap (λ (l : List ℕ). p.0 ++ 46 ∷ l) ((bytes_eq-Decides p.1 (codes "*")).0 star))
        | inr other ↦ elim (cases_Bool (is_member p.1)) [
          | inl good ↦
              let same : One p.0 p.1 ≡ m = some_same (One p.0 p.1) m (rw (face, other, good) at h) in
              subst (λ (x : Members). NamesMembers x text) same (and_from (is_interface p.0) (is_member p.1) face good, parts)
          | inr bad ↦ absurd (none_some m (rw (face, other, bad) at h))
        ]
      ]
    ]
  where
    some_same : (a b : Members) → Some a ≡ Some b → a ≡ b
    some_same a b e = cc

pub members_is : (text : List ℕ) (m : Members) → members_read text ≡ Some m → NamesMembers m text
members_is text m h =
    elim (cases_Bool (bytes_eq text (codes "*"))) [
      | inl star ↦
          let same : All ≡ m = some_same All m (rw star at h) in
          subst (λ (x : Members). NamesMembers x text) same (refl, (bytes_eq-Decides text (codes "*")).0 star)
      | inr other ↦ by (split_last 46 text) refl (rw other at h)
    ]
  where
    some_same : (a b : Members) → Some a ≡ Some b → a ≡ b
    some_same a b e = cc

    by : (o : Option (List ℕ × List ℕ)) → split_last 46 text ≡ o → option_and_then members_with (split_last 46 text) ≡ Some m → NamesMembers m text
    by None is k = absurd (none_some m (sym (ap (option_and_then members_with) is) ∙ k))
    by (Some p) is k = with_parts p text m (last_is 46 text p.0 p.1 is) (sym (ap (option_and_then members_with) is) ∙ k)

-- ---- objects

ends_yes : (text front : List ℕ) → text ≡ front ++ codes "/*" → ends_with nat_eq text (codes "/*") ≡ true
ends_yes text front e = (ends_is Decides-eqb text (codes "/*") (ends_with nat_eq text (codes "/*")) refl).1 front e

ends_at : (text : List ℕ) → ends_with nat_eq text (codes "/*") ≡ true → text ≡ take (length text - 2) text ++ codes "/*"
ends_at text e = (ends_is Decides-eqb text (codes "/*") (ends_with nat_eq text (codes "/*")) refl).0 e

path_no_end : (p : List ℕ) → is_path p ≡ true → ends_with nat_eq p (codes "/*") ≡ false
path_no_end p is =
    elim (cases_Bool (ends_with nat_eq p (codes "/*"))) [
      | inl e ↦ absurd (path_end p (take (length p - 2) p) is (ends_at p e))
      | inr e ↦ e
    ]

front_is : (p : List ℕ) → take (length (p ++ codes "/*") - 2) (p ++ codes "/*") ≡ p
front_is p =
    let n : length (p ++ codes "/*") - 2 ≡ length p = omega (arith, length-append p (codes "/*")) in
    ap (λ (k : ℕ). take k (p ++ codes "/*")) n ∙ take-append_seam p (codes "/*")

pub objects_back : (o : Objects) (text : List ℕ) → NamesObjects o text → objects_read text ≡ Some o
objects_back (At p) text is =
    let good : is_path text ≡ true = ap is_path is.1 ∙ is.0 in
    rw (path_no_end text good, good) (ap (λ (l : List ℕ). Some (At l)) is.1)
objects_back (Below p) text is =
    let cut : take (length text - 2) text ≡ p = ap (λ (l : List ℕ). take (length l - 2) l) is.1 ∙ front_is p in
    rw (ends_yes text p is.1, cut, is.0) refl

pub objects_is : (text : List ℕ) (o : Objects) → objects_read text ≡ Some o → NamesObjects o text
objects_is text o h =
    elim (cases_Bool (ends_with nat_eq text (codes "/*"))) [
      | inl end ↦
          let front = take (length text - 2) text in
          elim (cases_Bool (eqb (length front) 0 || is_path front)) [
            | inl good ↦
                let same : Below front ≡ o = some_same (Below front) o (rw (end, good) at h) in
                subst (λ (x : Objects). NamesObjects x text) same (good, ends_at text end)
            | inr bad ↦ absurd (none_some o (rw (end, bad) at h))
          ]
      | inr none ↦ elim (cases_Bool (is_path text)) [
        | inl good ↦
            let same : At text ≡ o = some_same (At text) o (rw (none, good) at h) in
            subst (λ (x : Objects). NamesObjects x text) same (good, refl)
        | inr bad ↦ absurd (none_some o (rw (none, bad) at h))
      ]
    ]
  where
    some_same : (a b : Objects) → Some a ≡ Some b → a ≡ b
    some_same a b e = cc

-- ---- rules

abbrev made : Option Members → Option Objects → Rule
made m o = record { members = m; objects = o }

members_some : (m : Members) → eqb (length (members_text m)) 0 ≡ false
members_some All = refl
members_some (Of i) = some_seam i 46 (codes "*")
members_some (One i m) = some_seam i 46 m

on_back : (m : Option Members) (o : Objects) → are_objects o ≡ true → on_objects m (objects_text o) ≡ Some (made m (Some o))
on_back m o valid = ap (option_map (λ x. made m (Some x))) (objects_back o (objects_text o) (valid, refl))

alone_back : (m : Members) → are_members m ≡ true → rule_read (members_text m) ≡ Some (made (Some m) None)
unfolding rule_read
alone_back m valid =
    ap (rule_at (members_text m)) (first_none 64 (members_text m) (members_sign m valid))
    ∙ ap (option_map (λ x. made (Some x) None)) (members_back m (members_text m) (valid, refl))

bare_back : (o : Objects) → are_objects o ≡ true → rule_read (64 ∷ objects_text o) ≡ Some (made None (Some o))
unfolding rule_read
bare_back o valid = on_back None o valid

both_back : (m : Members) (o : Objects) → are_members m ≡ true → are_objects o ≡ true → rule_read (members_text m ++ 64 ∷ objects_text o) ≡ Some (made (Some m) (Some o))
unfolding rule_read
both_back m o good valid =
    let text = members_text m ++ 64 ∷ objects_text o in
    ap (rule_at text) (first_found 64 (members_text m) (objects_text o) (members_sign m good))
    ∙ rw (members_some m, members_back m (members_text m) (good, refl)) (on_back (Some m) o valid)

parts_back : (m : Option Members) (o : Option Objects) (text : List ℕ) → are_parts m o ≡ true → text ≡ members_part m ++ objects_part o → rule_read text ≡ Some (made m o)
parts_back None None text valid is = absurd (false≢true valid)
parts_back (Some m) None text valid is = ap rule_read (is ∙ append-nil (members_text m)) ∙ alone_back m valid
parts_back None (Some o) text valid is = ap rule_read is ∙ bare_back o valid
parts_back (Some m) (Some o) text valid is =
    let both = and_parts (are_members m) (are_objects o) valid in
    ap rule_read is ∙ both_back m o both.0 both.1

-- a text is read as the rule that it is
pub back : (r : Rule) (text : List ℕ) → IsRule r text → rule_read text ≡ Some r
back r text is = parts_back r.members r.objects text is.valid is.spelled

-- objects were read of a path
record OnPath (m : Option Members) (path : List ℕ) (r : Rule) : Type 0 where
  pub objects : Objects
  pub names : NamesObjects objects path
  pub rule : made m (Some objects) ≡ r

some_rule : (a b : Rule) → Some a ≡ Some b → a ≡ b
some_rule a b e = cc

on_path : (m : Option Members) (path : List ℕ) (r : Rule) → on_objects m path ≡ Some r → OnPath m path r
on_path m path r h = by (objects_read path) refl h
  where
    by : (o : Option Objects) → objects_read path ≡ o → on_objects m path ≡ Some r → OnPath m path r
    by None is k = absurd (none_some r (sym (ap (option_map (λ x. made m (Some x))) is) ∙ k))
    by (Some o) is k = record {
      objects = o;
      names = objects_is path o is;
      rule = some_rule (made m (Some o)) r (sym (ap (option_map (λ x. made m (Some x))) is) ∙ k);
    }

alone_is : (text : List ℕ) (r : Rule) → alone_read text ≡ Some r → IsRule r text
alone_is text r h = by (members_read text) refl h
  where
    by : (m : Option Members) → members_read text ≡ m → alone_read text ≡ Some r → IsRule r text
    by None is k = absurd (none_some r (sym (ap (option_map (λ x. made (Some x) None)) is) ∙ k))
    by (Some m) is k =
        let named = members_is text m is in
        let same : made (Some m) None ≡ r = some_rule (made (Some m) None) r (sym (ap (option_map (λ x. made (Some x) None)) is) ∙ k) in
        subst (λ (x : Rule). IsRule x text) same (record { valid = named.0; spelled = named.1 ∙ sym (append-nil (members_text m)) })

parts_are : (text : List ℕ) (p : List ℕ × List ℕ) (r : Rule) → text ≡ p.0 ++ 64 ∷ p.1 → parts_read p ≡ Some r → IsRule r text
parts_are text p r parts h =
    elim (cases_Bool (eqb (length p.0) 0)) [
      | inl empty ↦
          let on = on_path None p.1 r (rw empty at h) in
          subst (λ (x : Rule). IsRule x text) on.rule
          (record { valid = on.names.0; spelled = parts ∙ ap (λ (l : List ℕ). l ++ 64 ∷ p.1) (empty_is p.0 empty) ∙ ap (λ (l : List ℕ). 64 ∷ l) on.names.1 })
      | inr some ↦ by (members_read p.0) refl (rw some at h)
    ]
  where
    by : (m : Option Members) → members_read p.0 ≡ m → option_and_then (λ (x : Members). on_objects (Some x) p.1) (members_read p.0) ≡ Some r → IsRule r text
    by None is k = absurd (none_some r (sym (ap (option_and_then (λ (x : Members). on_objects (Some x) p.1)) is) ∙ k))
    by (Some m) is k =
        let on = on_path (Some m) p.1 r (sym (ap (option_and_then (λ (x : Members). on_objects (Some x) p.1)) is) ∙ k) in
        let named = members_is p.0 m is in
        subst (λ (x : Rule). IsRule x text) on.rule
        (record {
          valid = and_from (are_members m) (are_objects on.objects) named.0 on.names.0;
          spelled = parts ∙ ap (λ (l : List ℕ). l ++ 64 ∷ p.1) named.1 ∙ ap (λ (l : List ℕ). members_text m ++ 64 ∷ l) on.names.1;
        })

-- what is read of a text is a rule that it is
pub is_read : (text : List ℕ) (r : Rule) → rule_read text ≡ Some r → IsRule r text
unfolding rule_read
is_read text r h = by (split_at 64 text) refl h
  where
    by : (o : Option (List ℕ × List ℕ)) → split_at 64 text ≡ o → rule_at text (split_at 64 text) ≡ Some r → IsRule r text
    by None is k = alone_is text r (sym (ap (rule_at text) is) ∙ k)
    by (Some p) is k = parts_are text p r (first_is 64 text p.0 p.1 is) (sym (ap (rule_at text) is) ∙ k)

pub none_read : (text : List ℕ) → IsNoRule text → rule_read text ≡ None
none_read text none = by (rule_read text) refl
  where
    by : (o : Option Rule) → rule_read text ≡ o → o ≡ None
    by None e = refl
    by (Some r) e = absurd (none r (is_read text r e))
