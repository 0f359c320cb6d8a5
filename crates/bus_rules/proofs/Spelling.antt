-- A text is one rule at most, and what a reader finds of it.
use Rattle.std.proofs.Common.{◌≡◌, ◌≢◌, ℕ, zero, suc, ◌<◌, Bool, true, false, List, [], ◌∷◌, ◌++◌, length, get_or, Option, Some, None, refl, sym, ap, subst, ◌∙◌, arith, eqb, append_assoc}
use Rattle.std.specs.Prelude.{◌||◌, codes}
use Rattle.std.proofs.lemmas.Bool.{and_parts, false≢true}
use Rattle.std.proofs.lemmas.List.{append-nil, append_cancel_right, length-append}
use Rattle.bus_frame.specs.Names.{is_interface, is_member, is_path}
use Rattle.bus_rules.specs.declared.rule.Members.{Members}
use Rattle.bus_rules.specs.declared.rule.Members.TheVariants.{All, Of, One}
use Rattle.bus_rules.specs.declared.rule.Objects.{Objects}
use Rattle.bus_rules.specs.declared.rule.Objects.TheVariants.{At, Below}
use Rattle.bus_rules.specs.declared.rule.Rule.{Rule}
use Rattle.bus_rules.specs.Rules.{members_text, objects_text, members_part, objects_part, are_members, are_objects, are_parts, IsRule, NamesMembers, NamesObjects}
use Rattle.bus_rules.proofs.Splits.{Misses, Misses-nil, Misses-rest, Misses-is, first_unique, last_unique, interface_misses, member_misses, path_misses}

-- ---- members

pub star_misses : (c : ℕ) → c ≢ 42 → Misses c (codes "*")
star_misses c other zero l e = other (sym e)
star_misses c other (suc i) l e = absurd (omega arith)

star_dot : Misses 46 (codes "*")
star_dot = star_misses 46 (λ e. omega arith)

false_true : (b : Bool) → b ≡ false → b ≡ true → ⊥
false_true b f e = false≢true (sym f ∙ e)

-- a member has no dot
member_dot : (i m : List ℕ) → are_members (One i m) ≡ true → Misses 46 m
member_dot i m valid = member_misses 46 refl m (and_parts (is_interface i) (is_member m) valid).1

pub no_dot : (text : List ℕ) → text ≢ codes "*" → Misses 46 text → (m : Members) → NamesMembers m text → ⊥
no_dot text star misses All is = star is.1
no_dot text star misses (Of i) is = Misses-is 46 text i (codes "*") is.1 misses
no_dot text star misses (One i m) is = Misses-is 46 text i m is.1 misses

pub no_interface : (text a b : List ℕ) → text ≢ codes "*" → text ≡ a ++ 46 ∷ b → Misses 46 b → is_interface a ≡ false → (m : Members) → NamesMembers m text → ⊥
no_interface text a b star parts last bad All is = star is.1
no_interface text a b star parts last bad (Of i) is =
    let same = last_unique 46 a b i (codes "*") last star_dot (sym parts ∙ is.1) in
    false_true (is_interface a) bad (ap is_interface same.0 ∙ is.0)
no_interface text a b star parts last bad (One i m) is =
    let same = last_unique 46 a b i m last (member_dot i m is.0) (sym parts ∙ is.1) in
    false_true (is_interface a) bad (ap is_interface same.0 ∙ (and_parts (is_interface i) (is_member m) is.0).0)

pub no_member : (text a b : List ℕ) → text ≢ codes "*" → text ≡ a ++ 46 ∷ b → Misses 46 b → b ≢ codes "*" → is_member b ≡ false → (m : Members) → NamesMembers m text → ⊥
no_member text a b star parts last other bad All is = star is.1
no_member text a b star parts last other bad (Of i) is = other (last_unique 46 a b i (codes "*") last star_dot (sym parts ∙ is.1)).1
no_member text a b star parts last other bad (One i m) is =
    let same = last_unique 46 a b i m last (member_dot i m is.0) (sym parts ∙ is.1) in
    false_true (is_member b) bad (ap is_member same.1 ∙ (and_parts (is_interface i) (is_member m) is.0).1)

star_member : (m : List ℕ) → is_member m ≡ true → codes "*" ≡ m → ⊥
star_member m is e = member_misses 42 refl m is 0 (subst (λ (l : List ℕ). 0 < length l) e (omega arith)) (sym (ap (λ (l : List ℕ). get_or l 0 0) e))

-- a text names one kind of members at most
pub members_one : (m n : Members) (text : List ℕ) → NamesMembers m text → NamesMembers n text → m ≡ n
members_one All All text is too = refl
members_one All (Of j) text is too = absurd (Misses-is 46 (codes "*") j (codes "*") (sym is.1 ∙ too.1) star_dot)
members_one All (One j n) text is too = absurd (Misses-is 46 (codes "*") j n (sym is.1 ∙ too.1) star_dot)
members_one (Of i) All text is too = absurd (Misses-is 46 (codes "*") i (codes "*") (sym too.1 ∙ is.1) star_dot)
members_one (Of i) (Of j) text is too = ap (λ (l : List ℕ). Of l) (last_unique 46 i (codes "*") j (codes "*") star_dot star_dot (sym is.1 ∙ too.1)).0
members_one (Of i) (One j n) text is too =
    absurd (star_member n (and_parts (is_interface j) (is_member n) too.0).1 (last_unique 46 i (codes "*") j n star_dot (member_dot j n too.0) (sym is.1 ∙ too.1)).1)
members_one (One i m) All text is too = absurd (Misses-is 46 (codes "*") i m (sym too.1 ∙ is.1) star_dot)
members_one (One i m) (Of j) text is too =
    absurd (star_member m (and_parts (is_interface i) (is_member m) is.0).1 (last_unique 46 j (codes "*") i m star_dot (member_dot i m is.0) (sym too.1 ∙ is.1)).1)
members_one (One i m) (One j n) text is too =
    let same = last_unique 46 i m j n (member_dot i m is.0) (member_dot j n too.0) (sym is.1 ∙ too.1) in
    ap (λ (l : List ℕ). One l m) same.0 ∙ ap (λ (l : List ℕ). One j l) same.1

-- ---- objects

-- a path has no `*`
pub path_end : (p q : List ℕ) → is_path p ≡ true → p ≡ q ++ codes "/*" → ⊥
path_end p q is e = Misses-is 42 p (q ++ 47 ∷ []) [] (e ∙ sym (append_assoc q (47 ∷ []) (42 ∷ []))) (path_misses 42 refl p is)

pub no_end : (text : List ℕ) → ((front : List ℕ) → text ≢ front ++ codes "/*") → is_path text ≡ false → (o : Objects) → NamesObjects o text → ⊥
no_end text none bad (At p) is = false_true (is_path text) bad (ap is_path is.1 ∙ is.0)
no_end text none bad (Below p) is = none p is.1

pub no_path : (text front : List ℕ) → text ≡ front ++ codes "/*" → (eqb (length front) 0 || is_path front) ≡ false → (o : Objects) → NamesObjects o text → ⊥
no_path text front parts bad (At p) is = path_end p front is.0 (sym is.1 ∙ parts)
no_path text front parts bad (Below p) is =
    let same : front ≡ p = append_cancel_right front p (codes "/*") (sym parts ∙ is.1) in
    false_true (eqb (length front) 0 || is_path front) bad (ap (λ (l : List ℕ). eqb (length l) 0 || is_path l) same ∙ is.0)

pub objects_one : (o p : Objects) (text : List ℕ) → NamesObjects o text → NamesObjects p text → o ≡ p
objects_one (At a) (At b) text is too = ap (λ (l : List ℕ). At l) (sym is.1 ∙ too.1)
objects_one (At a) (Below b) text is too = absurd (path_end a b is.0 (sym is.1 ∙ too.1))
objects_one (Below a) (At b) text is too = absurd (path_end b a too.0 (sym too.1 ∙ is.1))
objects_one (Below a) (Below b) text is too = ap (λ (l : List ℕ). Below l) (append_cancel_right a b (codes "/*") (sym is.1 ∙ too.1))

-- ---- rules

Misses-cons : (c x : ℕ) (xs : List ℕ) → x ≢ c → Misses c xs → Misses c (x ∷ xs)
Misses-cons c x xs other h zero l = other
Misses-cons c x xs other h (suc i) l = h i (omega arith)

Misses-append : (c : ℕ) (xs ys : List ℕ) → Misses c xs → Misses c ys → Misses c (xs ++ ys)
Misses-append c [] ys h k = k
Misses-append c (x ∷ xs) ys h k = Misses-cons c x (xs ++ ys) (h 0 (omega arith)) (Misses-append c xs ys (Misses-rest c x xs h) k)

-- members have no `@`
pub members_sign : (m : Members) → are_members m ≡ true → Misses 64 (members_text m)
members_sign All valid = star_misses 64 (λ e. omega arith)
members_sign (Of i) valid = Misses-append 64 i (codes ".*") (interface_misses 64 refl i valid) (Misses-cons 64 46 (codes "*") (λ e. omega arith) (star_misses 64 (λ e. omega arith)))
members_sign (One i m) valid =
    let both = and_parts (is_interface i) (is_member m) valid in
    Misses-append 64 i (46 ∷ m) (interface_misses 64 refl i both.0) (Misses-cons 64 46 m (λ e. omega arith) (member_misses 64 refl m both.1))

-- what a rule with an `@` says of both its parts
pub record Signed (r : Rule) (front path : List ℕ) : Type 0 where
  pub objects : Objects
  pub objects_is : r.objects ≡ Some objects
  pub names : NamesObjects objects path
  pub members : members_part r.members ≡ front
  pub valid : (m : Members) → r.members ≡ Some m → NamesMembers m front

part_sign : (m : Option Members) (o : Objects) → are_parts m (Some o) ≡ true → Misses 64 (members_part m) × (are_objects o ≡ true)
part_sign None o valid = (Misses-nil 64, valid)
part_sign (Some m) o valid =
    let both = and_parts (are_members m) (are_objects o) valid in
    (members_sign m both.0, both.1)

part_names : (p : Option Members) (o : Objects) (front : List ℕ) → are_parts p (Some o) ≡ true → members_part p ≡ front → (m : Members) → p ≡ Some m → NamesMembers m front
part_names None o front valid e m is = absurd cc
part_names (Some n) o front valid e m is =
    let same : n ≡ m = cc in
    subst (λ (x : Members). NamesMembers x front) same ((and_parts (are_members n) (are_objects o) valid).0, sym e)

-- members alone have no `@`
alone_misses : (m : Option Members) (text : List ℕ) → are_parts m None ≡ true → text ≡ members_part m ++ [] → Misses 64 text
alone_misses None text valid e = absurd (false≢true valid)
alone_misses (Some m) text valid e = subst (Misses 64) (sym (e ∙ append-nil (members_text m))) (members_sign m valid)

pub signed : (r : Rule) (text front path : List ℕ) → text ≡ front ++ 64 ∷ path → Misses 64 front → IsRule r text → Signed r front path
signed r text front path parts first is = by r.members r.objects refl refl
  where
    by : (m : Option Members) (o : Option Objects) → r.members ≡ m → r.objects ≡ o → Signed r front path
    by m None em eo =
        let valid : are_parts m None ≡ true = subst (λ (x : Option Members). are_parts x None ≡ true) em (subst (λ (x : Option Objects). are_parts r.members x ≡ true) eo is.valid) in
        let spelled : text ≡ members_part m ++ [] = is.spelled ∙ ap (λ (x : Option Members). members_part x ++ objects_part r.objects) em ∙ ap (λ (x : Option Objects). members_part m ++ objects_part x) eo in
        absurd (Misses-is 64 text front path parts (alone_misses m text valid spelled))
    by m (Some o) em eo =
        let valid : are_parts m (Some o) ≡ true = subst (λ (x : Option Members). are_parts x (Some o) ≡ true) em (subst (λ (x : Option Objects). are_parts r.members x ≡ true) eo is.valid) in
        let spelled : text ≡ members_part m ++ 64 ∷ objects_text o = is.spelled ∙ ap (λ (x : Option Members). members_part x ++ objects_part r.objects) em ∙ ap (λ (x : Option Objects). members_part m ++ objects_part x) eo in
        let sides = part_sign m o valid in
        let same = first_unique 64 front path (members_part m) (objects_text o) first sides.0 (sym parts ∙ spelled) in
        record {
          objects = o;
          objects_is = eo;
          names = (sides.1, same.1);
          members = ap members_part em ∙ sym same.0;
          valid = λ n e. part_names m o front valid (sym same.0) n (sym em ∙ e);
        }

-- a rule without an `@` is members
pub record Plain (r : Rule) (text : List ℕ) : Type 0 where
  pub members : Members
  pub members_is : r.members ≡ Some members
  pub objects_is : r.objects ≡ None
  pub names : NamesMembers members text

pub plain : (r : Rule) (text : List ℕ) → Misses 64 text → IsRule r text → Plain r text
plain r text misses is = by r.members r.objects refl refl
  where
    alone : (m : Option Members) → r.members ≡ m → r.objects ≡ None → are_parts m None ≡ true → text ≡ members_part m ++ [] → Plain r text
    alone None e eo valid spelled = absurd (false≢true valid)
    alone (Some n) e eo valid spelled = record { members = n; members_is = e; objects_is = eo; names = (valid, spelled ∙ append-nil (members_text n)) }

    by : (m : Option Members) (o : Option Objects) → r.members ≡ m → r.objects ≡ o → Plain r text
    by m None em eo =
        let valid : are_parts m None ≡ true = subst (λ (x : Option Members). are_parts x None ≡ true) em (subst (λ (x : Option Objects). are_parts r.members x ≡ true) eo is.valid) in
        let spelled : text ≡ members_part m ++ [] = is.spelled ∙ ap (λ (x : Option Members). members_part x ++ objects_part r.objects) em ∙ ap (λ (x : Option Objects). members_part m ++ objects_part x) eo in
        alone m em eo valid spelled
    by m (Some o) em eo =
        let spelled : text ≡ members_part m ++ 64 ∷ objects_text o = is.spelled ∙ ap (λ (x : Option Members). members_part x ++ objects_part r.objects) em ∙ ap (λ (x : Option Objects). members_part m ++ objects_part x) eo in
        absurd (Misses-is 64 text (members_part m) (objects_text o) spelled misses)

-- ---- one rule

members_some : (m : Members) → NamesMembers m [] → ⊥
members_some All is = cc
members_some (Of i) is = absurd (omega (arith, ap (λ (l : List ℕ). length l) is.1, length-append i (codes ".*")))
members_some (One i m) is = absurd (omega (arith, ap (λ (l : List ℕ). length l) is.1, length-append i (46 ∷ m)))

part_one : (m n : Option Members) (front : List ℕ) → ((x : Members) → m ≡ Some x → NamesMembers x front) → ((x : Members) → n ≡ Some x → NamesMembers x front) → members_part m ≡ front → members_part n ≡ front → m ≡ n
part_one None None front hm hn em en = refl
part_one None (Some y) front hm hn em en = absurd (members_some y (subst (λ (l : List ℕ). NamesMembers y l) (sym em) (hn y refl)))
part_one (Some x) None front hm hn em en = absurd (members_some x (subst (λ (l : List ℕ). NamesMembers x l) (sym en) (hm x refl)))
part_one (Some x) (Some y) front hm hn em en = ap (λ (z : Members). Some z) (members_one x y front (hm x refl) (hn y refl))

same_rule : (a b : Rule) → a.members ≡ b.members → a.objects ≡ b.objects → a ≡ b
same_rule a b m o = λ i. record { members = m i; objects = o i }

pub one : (a b : Rule) (text : List ℕ) → IsRule a text → IsRule b text → a ≡ b
one a b text is too = by a.objects refl
  where
    by : (o : Option Objects) → a.objects ≡ o → a ≡ b
    by None e =
        let valid : are_parts a.members None ≡ true = subst (λ (x : Option Objects). are_parts a.members x ≡ true) e is.valid in
        let misses = alone_misses a.members text valid (is.spelled ∙ ap (λ (x : Option Objects). members_part a.members ++ objects_part x) e) in
        let pa = plain a text misses is in
        let pb = plain b text misses too in
        same_rule a b
        (pa.members_is ∙ ap (λ (z : Members). Some z) (members_one pa.members pb.members text pa.names pb.names) ∙ sym pb.members_is)
        (pa.objects_is ∙ sym pb.objects_is)
    by (Some o) e =
        let valid : are_parts a.members (Some o) ≡ true = subst (λ (x : Option Objects). are_parts a.members x ≡ true) e is.valid in
        let front = members_part a.members in
        let path = objects_text o in
        let parts : text ≡ front ++ 64 ∷ path = is.spelled ∙ ap (λ (x : Option Objects). front ++ objects_part x) e in
        let sides = part_sign a.members o valid in
        let sa = signed a text front path parts sides.0 is in
        let sb = signed b text front path parts sides.0 too in
        same_rule a b
        (part_one a.members b.members front sa.valid sb.valid sa.members sb.members)
        (sa.objects_is ∙ ap (λ (z : Objects). Some z) (objects_one sa.objects sb.objects path sa.names sb.names) ∙ sym sb.objects_is)

pub neither : (a b : Bool) → a ≡ false → b ≡ false → (a || b) ≡ false
neither true b e f = e
neither false b e f = f

-- what stands before the `@` names no members, though something stands there
pub no_front : (r : Rule) (front path : List ℕ) → Signed r front path → eqb (length front) 0 ≡ false → ((m : Members) → NamesMembers m front → ⊥) → ⊥
no_front r front path s some none = by r.members refl
  where
    by : (m : Option Members) → r.members ≡ m → ⊥
    by None e =
        let empty : [] ≡ front = sym (ap members_part e) ∙ s.members in
        false≢true (sym some ∙ ap (λ (l : List ℕ). eqb (length l) 0) (sym empty))
    by (Some m) e = none m (s.valid m e)
