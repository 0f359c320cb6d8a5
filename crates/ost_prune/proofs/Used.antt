-- The texts of the objects that commits use.
use Rattle.std.proofs.Common.{◌≡◌, ◌⊎◌, inl, inr, ◌<◌, ◌+◌, ℕ, suc, Bool, true, false, ◌||◌, cond, List, [], ◌∷◌, ◌++◌, map, take, drop, get_or, length, Option, None, refl, sym, ◌∙◌, ap, subst, Contains, true≢false}
use Rattle.std.specs.Option.{option_or}
use Rattle.std.specs.List.{list_any}
use Rattle.std.specs.Str.{bytes_eq}
use Rattle.std.proofs.Math.Seq.{take-length}
use Rattle.std.proofs.lemmas.Bool.{cases_Bool}
use Rattle.std.proofs.lemmas.List.Elements.{Contains-append_left, Contains-push, Contains-push_cases}
use Rattle.std.proofs.lemmas.Slice.Eq.{bytes_eq-Decides}
use Rattle.fp_host.specs.Paths.{Elements, elements_of}
use Rattle.fp_host.specs.View.{View}
use Rattle.fp_host.specs.Outcome.{shows}
use Rattle.fp_host.specs.Frame.{AtEnd, Unchanged}
use Rattle.fp_host.specs.Moments.{Moments}
use Rattle.fp_host.proofs.Goes.{knowing}
use Rattle.fp_name.specs.Hex.{is_digest}
use Rattle.fp_base.specs.declared.object.ObjKind.{ObjKind}
use Rattle.fp_base.proofs.Lists.{in_none, in_first, in_rest, in_cases, take_read}
use Rattle.ost_model.specs.Objects.{Have, store}
use Rattle.ost_model.specs.Order.{In, order, first_fault, first_walk_fault}
use Rattle.ost_model.specs.Used.{IsUsed, used_fault}
use Rattle.ost_model.proofs.Stores.{one_name}
use Rattle.ost_model.proofs.Good.{walks_none}
use Rattle.ost_model.specs.Remotes.{Stores}
use Rattle.ost_walk.specs.declared.ends.WalkEnd.{WalkEnd}
use Rattle.ost_walk.specs.declared.ends.WalkEnd.TheVariants as ends
use Rattle.ost_walk.specs.Ends.{RefusesBy, IsFirst}
use Rattle.ost_walk.specs.Steps.{place_name}
use Rattle.ost_walk.proofs.Kept.{in_places, from_places, used_append, split_at}
use Rattle.ost_store.specs.Names.{name_in, name_text}
use Rattle.ost_prune.specs.Texts.{IsTextOf, AddsTexts, AddsOrder, AreGathered, AreUsedTexts, AreWhole}

abbrev Object : Type 0
Object = List ℕ × ObjKind

-- ---- one object more

any_push : (f : Object → Bool) (xs : List Object) (x : Object) → list_any f (xs ++ x ∷ []) ≡ (list_any f xs || f x)
any_push f [] x = by_bool (f x)
  where
    by_bool : (b : Bool) → (b || false) ≡ b
    by_bool true = refl
    by_bool false = refl
any_push f (y ∷ ys) x = ap (λ b. f y || b) (any_push f ys x) ∙ by_bool (f y) (list_any f ys) (f x)
  where
    by_bool : (a b c : Bool) → (a || (b || c)) ≡ ((a || b) || c)
    by_bool true b c = refl
    by_bool false b c = refl

joined : (a b c : Bool) → cond a true (b || c) ≡ (b || (c || a))
joined true true c = refl
joined true false true = refl
joined true false false = refl
joined false true c = refl
joined false false true = refl
joined false false false = refl

or_none : (b : Bool) → b ≡ (b || false)
or_none true = refl
or_none false = refl

pub none_added : (root : Elements) (has : List ℕ → Bool) → AddsTexts root [] has has
none_added root has = record { each = λ q. or_none (has q); good = λ o h. absurd (in_none o h) }

-- the set before the first, before this one, and after it
pub one_added : (root : Elements) (objects : List Object) (o : Object) (text : List ℕ) (first had has : List ℕ → Bool) → AddsTexts root objects first had → IsTextOf root o text
    → ((q : List ℕ) → has q ≡ cond (bytes_eq text q) true (had q)) → AddsTexts root (objects ++ o ∷ []) first has
one_added root objects o text first had has before new step = record {
  each = λ q. step q ∙ ap (λ (b : Bool). cond (bytes_eq text q) true b) (before.each q) ∙ joined (bytes_eq text q) (first q) (list_any (λ p. bytes_eq (name_text root p) q) objects)
      ∙ ap (λ (t : List ℕ). first q || (list_any (λ p. bytes_eq (name_text root p) q) objects || bytes_eq t q)) new.is ∙ ap (λ b. first q || b) (sym (any_push (λ p. bytes_eq (name_text root p) q) objects o));
  good = λ p h. elim (Contains-push_cases objects o p h) [ inl earlier ↦ before.good p earlier | inr same ↦ subst (λ (x : Object). IsTextOf root x (name_text root x)) same (own o text new) ];
}
  where
    own : (o : Object) (text : List ℕ) → IsTextOf root o text → IsTextOf root o (name_text root o)
    own o text is = subst (IsTextOf root o) is.is is

pub next_added : (root : Elements) (objects : List Object) (i : ℕ) (o : Object) (text : List ℕ) (first had has : List ℕ → Bool) → i < length objects → o ≡ get_or objects i o → AddsTexts root (take i objects) first had → IsTextOf root o text
    → ((q : List ℕ) → has q ≡ cond (bytes_eq text q) true (had q)) → AddsTexts root (take (i + 1) objects) first has
next_added root objects i o text first had has low is before new step =
    subst (λ (l : List Object). AddsTexts root l first has) (sym (take_read objects i o low is)) (one_added root (take i objects) o text first had has before new step)

pub all_added : (root : Elements) (objects : List Object) (i : ℕ) (first has : List ℕ → Bool) → length objects ≡ i → AddsTexts root (take i objects) first has → AddsTexts root objects first has
all_added root objects i first has is so_far = subst (λ (l : List Object). AddsTexts root l first has) (ap (λ (k : ℕ). take k objects) (sym is) ∙ take-length objects) so_far

-- ---- what the set has

any_true : (f : Object → Bool) (xs : List Object) (x : Object) → Contains xs x → f x ≡ true → list_any f xs ≡ true
any_true f [] x has is = absurd (in_none x has)
any_true f (y ∷ ys) x has is = elim (in_cases y ys x has) [
  | inl same ↦ ap (λ b. b || list_any f ys) (ap f (sym same) ∙ is)
  | inr later ↦ ap (λ b. f y || b) (any_true f ys x later is) ∙ or_true (f y)
]
  where
    or_true : (b : Bool) → (b || true) ≡ true
    or_true true = refl
    or_true false = refl

from_any : (f : Object → Bool) (xs : List Object) → list_any f xs ≡ true → (x : Object) × Contains xs x × (f x ≡ true)
from_any f [] is = absurd (cc is)
from_any f (y ∷ ys) is = elim (cases_Bool (f y)) [
  | inl t ↦ (y, in_first y ys, t)
  | inr n ↦ let found = from_any f ys (ap (λ b. b || list_any f ys) (sym n) ∙ is) in (found.0, in_rest y ys found.0 found.1, found.2)
]

or_left : (a b : Bool) → a ≡ true → (a || b) ≡ true
or_left a b is = ap (λ c. c || b) is

or_right : (a b : Bool) → b ≡ true → (a || b) ≡ true
or_right true b is = refl
or_right false b is = is

either_true : (a b : Bool) → (a || b) ≡ true → (a ≡ true) ⊎ (b ≡ true)
either_true true b is = inl refl
either_true false b is = inr is

-- ---- commit after commit

pub none_gathered : (root : Elements) (have : Have) (has : List ℕ → Bool) → ((q : List ℕ) → has q ≡ false) → AreGathered root have [] has
none_gathered root have has none = record {
  tells = record {
    used = λ o is. absurd (in_none is.commit is.kept);
    alone = λ o good back there. absurd (true≢false (sym there ∙ none (name_text root o)));
  };
  clean = refl;
}

module _ (root : Elements) (have : Have) (keep : List (List ℕ)) (commit : List ℕ) (had has : List ℕ → Bool) (so_far : AreGathered root have keep had) (adds : AddsOrder root have commit had has) where
  -- an object of the order has its text in the set
  in_order : (o : Object) → Contains adds.objects o → has (name_text root o) ≡ true
  in_order o there = adds.adds.each (name_text root o) ∙ or_right (had (name_text root o)) _ (any_true (λ p. bytes_eq (name_text root p) (name_text root o)) adds.objects o there ((bytes_eq-Decides (name_text root o) (name_text root o)).1 refl))

  earlier_or_this : (o : Object) (u : IsUsed have (keep ++ commit ∷ []) o) → Contains keep u.commit ⊎ (commit ≡ u.commit) → has (name_text root o) ≡ true
  earlier_or_this o u (inl earlier) =
      adds.adds.each (name_text root o) ∙ or_left (had (name_text root o)) _ (so_far.tells.used o (record { commit = u.commit; place = u.place; kept = earlier; within = u.within; is = u.is }))
  earlier_or_this o u (inr same) = in_order o (subst (λ (l : List Object). Contains l o) (sym adds.order.names) (subst (Contains (map place_name (order have commit))) (sym u.is)
      (from_places (order have commit) u.place (subst (λ (c : List ℕ). In (order have c) u.place) (sym same) u.within))))

  -- an object whose text came with the order is of it
  of_order : (o : Object) → is_digest o.0 ≡ true → elements_of (name_text root o) ≡ name_in root o → list_any (λ p. bytes_eq (name_text root p) (name_text root o)) adds.objects ≡ true → IsUsed have (keep ++ commit ∷ []) o
  of_order o good back any =
      let found = from_any (λ p. bytes_eq (name_text root p) (name_text root o)) adds.objects any in
      let text = adds.adds.good found.0 found.1 in
      let same = one_name root found.0.0 o.0 found.0.1 o.1 text.good good (sym text.back ∙ ap elements_of ((bytes_eq-Decides (name_text root found.0) (name_text root o)).0 found.2) ∙ back) in
      let object : found.0 ≡ o = (λ i. (same.0 i, same.1 i)) in
      let p = in_places (order have commit) o (subst (λ (l : List Object). Contains l o) adds.order.names (subst (Contains adds.objects) object found.1)) in
      record { commit = commit; place = p.0; kept = Contains-push keep commit; within = p.1; is = p.2 }

  pub one_gathered : AreGathered root have (keep ++ commit ∷ []) has
  one_gathered = record {
    tells = record {
      used = λ o u. earlier_or_this o u (Contains-push_cases keep commit u.commit u.kept);
      alone = λ o good back there. elim (either_true (had (name_text root o)) _ (sym (adds.adds.each (name_text root o)) ∙ there)) [
        | inl before ↦
            let u = so_far.tells.alone o good back before in
            record { commit = u.commit; place = u.place; kept = Contains-append_left keep (commit ∷ []) u.commit u.kept; within = u.within; is = u.is }
        | inr any ↦ of_order o good back any
      ];
    };
    clean = used_append have keep (commit ∷ []) ∙ ap (λ f. option_or f (used_fault have (commit ∷ []))) so_far.clean ∙ ap (λ f. option_or f None) adds.order.good;
  }

pub next_gathered : (root : Elements) (have : Have) (commits : List (List ℕ)) (i : ℕ) (commit : List ℕ) (had has : List ℕ → Bool) → i < length commits → commit ≡ get_or commits i commit
    → AreGathered root have (take i commits) had → AddsOrder root have commit had has → AreGathered root have (take (i + 1) commits) has
next_gathered root have commits i commit had has low is so_far adds =
    subst (λ (l : List (List ℕ)). AreGathered root have l has) (sym (take_read commits i commit low is)) (one_gathered root have (take i commits) commit had has so_far adds)

pub all_gathered : (root : Elements) (have : Have) (commits : List (List ℕ)) (i : ℕ) (has : List ℕ → Bool) → length commits ≡ i → AreGathered root have (take i commits) has → AreGathered root have commits has
all_gathered root have commits i has is so_far = subst (λ (l : List (List ℕ)). AreGathered root have l has) (ap (λ (k : ℕ). take k commits) (sym is) ∙ take-length commits) so_far

-- the first fault of a commit after others that have none
used_refused : (have : Have) (before more : List (List ℕ)) (commit : List ℕ) (end : WalkEnd) → used_fault have before ≡ None → RefusesBy (IsFirst (first_walk_fault have commit)) end
    → RefusesBy (IsFirst (used_fault have (before ++ commit ∷ more))) end
used_refused have before more commit (ends.Refused w) clean is = record {
  depth = is.depth;
  is = used_append have before (commit ∷ more) ∙ ap (λ f. option_or f (used_fault have (commit ∷ more))) clean ∙ ap (λ f. option_or f (used_fault have more)) is.is;
}
used_refused have before more commit ends.HostFault clean is = tt
used_refused have before more commit ends.RemoteFault clean is = tt
used_refused have before more commit ends.NoMemory clean is = tt

pub next_refused : (root : Elements) (have : Have) (commits : List (List ℕ)) (i : ℕ) (commit : List ℕ) (has : List ℕ → Bool) (end : WalkEnd) → i < length commits → commit ≡ get_or commits i commit
    → AreGathered root have (take i commits) has → RefusesBy (IsFirst (first_walk_fault have commit)) end → RefusesBy (IsFirst (used_fault have commits)) end
next_refused root have commits i commit has end low is so_far refused =
    subst (λ (l : List (List ℕ)). RefusesBy (IsFirst (used_fault have l)) end) (sym (split_at commits i commit low is)) (used_refused have (take i commits) (drop (suc i) commits) commit end so_far.clean refused)

-- ---- commits without a fault

pub none_faulty : (have : Have) (keep : List (List ℕ)) → ((commit : List ℕ) → Contains keep commit → first_fault have commit ≡ None) → used_fault have keep ≡ None
none_faulty have [] whole = refl
none_faulty have (commit ∷ keep) whole =
    ap (λ f. option_or f (used_fault have keep)) (walks_none have 0 (order have commit) (whole commit (in_first commit keep)))
    ∙ none_faulty have keep (λ c h. whole c (in_rest commit keep c h))

-- the end is a refusal
abbrev pub IsRefusal : WalkEnd → Type 0
IsRefusal (ends.Refused w) = Unit {0}
IsRefusal ends.HostFault = ⊥
IsRefusal ends.RemoteFault = ⊥
IsRefusal ends.NoMemory = ⊥

has_fault : (have : Have) (keep : List (List ℕ)) (end : WalkEnd) → IsRefusal end → RefusesBy (IsFirst (used_fault have keep)) end → ((commit : List ℕ) → Contains keep commit → first_fault have commit ≡ None) → ⊥
has_fault have keep (ends.Refused w) is refused whole = cc (sym (none_faulty have keep whole) ∙ refused.is)
has_fault have keep ends.HostFault none refused whole = none
has_fault have keep ends.RemoteFault none refused whole = none
has_fault have keep ends.NoMemory none refused whole = none

-- ---- over the moments

pub used_told : {a b : Option Moments} (root : Elements) (keep : List (List ℕ)) (has : List ℕ → Bool) → Unchanged a b
    → ((have : Have) → Stores root a have → AreGathered root have keep has) → AtEnd (λ u w. AreUsedTexts root keep u has) a b
used_told {a = a} root keep has still tells = record {
  goes = knowing {P = λ u. AreGathered root (store root (shows u)) keep has}
      (λ m e. tells (store root (shows m.now)) (record { moments = m; told_is = e; is = refl })) still.goes
      (λ u w gathered same. tt) (λ u w gathered same. gathered.tells);
}

-- a walk over the store alone is refused where one of the commits has a fault
pub faulty_told : {a b : Option Moments} (root : Elements) (keep : List (List ℕ)) (refused : WalkEnd) → IsRefusal refused → Unchanged a b
    → ((have : Have) → Stores root a have → RefusesBy (IsFirst (used_fault have keep)) refused) → AtEnd (λ u w. AreWhole root keep u → ⊥) a b
faulty_told root keep refused is still tells = record {
  goes = knowing {P = λ u. AreWhole root keep u → ⊥}
      (λ m e whole. has_fault (store root (shows m.now)) keep refused is (tells (store root (shows m.now)) (record { moments = m; told_is = e; is = refl })) whole.whole) still.goes
      (λ u w faulty same. tt) (λ u w faulty same. faulty);
}
