-- The first of the objects comes to its name last.
use Rattle.std.proofs.Common.{◌≡◌, ◌≢◌, inl, inr, List, [], ◌∷◌, ◌++◌, true, Option, refl, sym, ◌∙◌, ap, subst, append_assoc, append-nil}
use Rattle.fp_host.specs.Paths.{Elements, absent}
use Rattle.fp_host.specs.View.{View}
use Rattle.fp_host.specs.Calls.{IsLeaf}
use Rattle.fp_host.specs.Moments.{Moments, Always}
use Rattle.fp_host.specs.Frame.{AtEnd}
use Rattle.fp_host.proofs.Framed.{IsTold}
use Rattle.fp_host.proofs.Goes.{goes_on}
use Rattle.fp_host.proofs.Ending.{ends_on, ends_both, ends_goes, goes_known}
use Rattle.fp_name.specs.Hex.{is_digest}
use Rattle.ost_model.specs.Objects.{object_path}
use Rattle.ost_model.specs.Order.{In, IsOnce}
use Rattle.ost_model.proofs.Members.{in_left, in_right}
use Rattle.ost_store.specs.Place.{Places, WasPlaced}
use Rattle.ost_pull.specs.Pulls.{IsApart}
use Rattle.ost_pull.specs.Placing.{AreReady, AreLacking, ComesLast, FirstComesLast}
use Rattle.ost_pull.proofs.Kept.{Named}
use Rattle.ost_pull.proofs.Placed.{other_stays}

-- ---- an object between others

not_before : (xs ys : List Named) (o : Named) → IsOnce (xs ++ o ∷ ys) → (p : Named) → In xs p → p ≡ o → ⊥
not_before [] ys o once p has same = has
not_before (x ∷ xs) ys o once p (inl is) same = once.0 (subst (In (xs ++ o ∷ ys)) (sym (is ∙ same)) (in_right xs (o ∷ ys) o (inl refl)))
not_before (x ∷ xs) ys o once p (inr has) same = not_before xs ys o once.1 p has same

not_after : (xs ys : List Named) (o : Named) → IsOnce (xs ++ o ∷ ys) → (p : Named) → In ys p → p ≡ o → ⊥
not_after [] ys o once p has same = once.0 (subst (In ys) same has)
not_after (x ∷ xs) ys o once p has same = not_after xs ys o once.1 p has same

-- ---- one object more

-- the objects that are left have no name yet, and the others have theirs
pub record IsUpTo (root : Elements) (objects left : List Named) (v : View) : Type 0 where
  pub come : List Named
  pub parts : objects ≡ left ++ come
  pub free : (o : Named) → In left o → v.names (object_path root o.0 o.1) ≡ absent
  pub there : (o : Named) → In come o → v.names (object_path root o.0 o.1) ≢ absent

abbrev pub UpTo : Elements → Elements → List Named → List Named → View → View → Type 0
UpTo root t objects left u v = AreReady t objects u → AreLacking root objects u → IsUpTo root objects left v

module _ (root t : Elements) (apart : IsApart root t) (objects left : List Named) (o : Named) {u v : View} (ready : AreReady t objects u) (so_far : IsUpTo root objects (left ++ o ∷ []) v) where
  parted : objects ≡ left ++ o ∷ so_far.come
  parted = so_far.parts ∙ append_assoc left (o ∷ []) so_far.come

  once : IsOnce (left ++ o ∷ so_far.come)
  once = subst IsOnce parted ready.once

  digits : (p : Named) → In (left ++ o ∷ so_far.come) p → is_digest p.0 ≡ true
  digits p has = (ready.each p (subst (λ (l : List Named). In l p) (sym parted) has)).digits

  own_digits : is_digest o.0 ≡ true
  own_digits = digits o (in_right left (o ∷ so_far.come) o (inl refl))

  module _ {w : View} (places : Places (object_path t o.0 o.1) (object_path root o.0 o.1) v w) where
    waits : (p : Named) → In left p → w.names (object_path root p.0 p.1) ≡ absent
    waits p has =
        (other_stays root t apart o own_digits places p (digits p (in_left left (o ∷ so_far.come) p has)) (not_before left so_far.come o once p has)).name
        ∙ so_far.free p (in_left left (o ∷ []) p has)

    stands : (p : Named) → In so_far.come p → w.names (object_path root p.0 p.1) ≢ absent
    stands p has none =
        so_far.there p has
        (sym (other_stays root t apart o own_digits places p (digits p (in_right left (o ∷ so_far.come) p (inr has))) (not_after left so_far.come o once p has)).name ∙ none)

    pub comes_last : (first : Named) (others : List Named) → objects ≡ first ∷ others → ComesLast root first others w
    comes_last first others is = record { last = by left refl }
      where
        by : (l : List Named) → left ≡ l → w.names (object_path root first.0 first.1) ≢ absent → (p : Named) → In others p → w.names (object_path root p.0 p.1) ≢ absent
        by [] none here p has =
            let same : first ∷ others ≡ o ∷ so_far.come = sym is ∙ parted ∙ ap (λ (l : List Named). l ++ o ∷ so_far.come) none in
            let rest : others ≡ so_far.come = cc same in
            stands p (subst (λ (l : List Named). In l p) rest has)
        by (y ∷ ys) some here p has =
            let same : first ∷ others ≡ y ∷ (ys ++ o ∷ so_far.come) = sym is ∙ parted ∙ ap (λ (l : List Named). l ++ o ∷ so_far.come) some in
            let head : y ≡ first = cc same in
            absurd (here (waits first (subst (λ (l : List Named). In l first) (sym some) (inl head))))

    pub up_to_next : WasPlaced (object_path t o.0 o.1) (object_path root o.0 o.1) v w → IsUpTo root objects left w
    up_to_next was = record {
      come = o ∷ so_far.come;
      parts = parted;
      free = waits;
      there = λ p has. elim has [ inl is ↦ subst (λ (x : Named). w.names (object_path root x.0 x.1) ≢ absent) is placed | inr later ↦ stands p later ];
    }
      where
        placed : w.names (object_path root o.0 o.1) ≢ absent
        placed none = subst IsLeaf (sym was.name ∙ none) was.leaf

-- nothing came yet
pub none_come : {root : Elements} {objects : List Named} {u w : View} → w ≡ u → AreLacking root objects u → IsUpTo root objects objects w
none_come {root = root} {objects = objects} same lacking =
    subst (IsUpTo root objects objects) (sym same) (record { come = []; parts = sym (append-nil objects); free = λ o has. lacking.free o has; there = λ o none. absurd none })

pub first_lacks : {root : Elements} {objects : List Named} {u : View} → AreLacking root objects u → (first : Named) (others : List Named) → objects ≡ first ∷ others → ComesLast root first others u
first_lacks lacking first others is = record { last = λ here o has. absurd (here (lacking.free first (subst (λ (l : List Named). In l first) (sym is) (inl refl)))) }

-- ---- over the moments

module _ {root t : Elements} (apart : IsApart root t) (objects left : List Named) (o : Named) {a b : Option Moments} (told : IsTold b) (so_far : Always (FirstComesLast root t objects) a b) (known : AtEnd (UpTo root t objects (left ++ o ∷ [])) a b) where
  pub last_next : {c : Option Moments} → Always (Places (object_path t o.0 o.1) (object_path root o.0 o.1)) b c → Always (FirstComesLast root t objects) a c
  last_next places = goes_on told (goes_known so_far known) places (λ u v w tree r q s. step u v w q.1 s) (λ u v w tree r q s e. step u v w q.1 s)
    where
      step : (u v w : View) → UpTo root t objects (left ++ o ∷ []) u v → Places (object_path t o.0 o.1) (object_path root o.0 o.1) v w → FirstComesLast root t objects u w
      step u v w q s ready lacking first others is = comes_last root t apart objects left o ready (q ready lacking) s first others is

  pub up_to_after : {c : Option Moments} → Always (Places (object_path t o.0 o.1) (object_path root o.0 o.1)) b c → AtEnd (WasPlaced (object_path t o.0 o.1) (object_path root o.0 o.1)) b c → AtEnd (UpTo root t objects left) a c
  up_to_after places was = ends_on (ends_both (ends_goes told places) was) known told (λ u v w tree q s ready lacking. up_to_next root t apart objects left o ready (q ready lacking) s.0 s.1)
