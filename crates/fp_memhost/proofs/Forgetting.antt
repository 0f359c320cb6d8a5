-- Names that held nothing but what they hold.
use Rattle.std.proofs.Common.{◌≡◌, ℕ, suc, ◌+◌, ◌<◌, ◌≤◌, ◌&&◌, List, [], ◌∷◌, ◌++◌, length, take, drop, get_or, set, map, inl, inr, subst, Bool, true, false, refl, sym, ◌∙◌, ap, arith, cond, Option, Some}
use Rattle.std.proofs.lemmas.Bool.{false≢true, cases_eq}
use Rattle.std.proofs.lemmas.List.{drop_all, take_all, append-nil, length-set, get_or-set_same, get_or-set_other, get_or_default}
use Rattle.std.specs.List.{list_all}
use Rattle.std.specs.Ordering.{is_lt}
use Rattle.fp_host.specs.Paths.{Elements, path_text, path_eq}
use Rattle.fp_memhost.specs.Names.{comes_before, ascends, slot_in, held_in, slot_of, names_of, earlier_of, name_at, ForgetsNames}
use Rattle.fp_memhost.specs.declared.names.Name.{Name}
use Rattle.fp_host.specs.declared.host.Entry.{Entry}
use Rattle.fp_memhost.proofs.Ordered.{compare}

pub record Forgot (old new : Name) : Type 0 where
  pub path : new.path ≡ old.path
  pub entry : new.entry ≡ old.entry
  pub earlier : new.earlier.items ≡ []

module _ (old new : List Name) where
  abbrev pub AllForgot : Type 0
  AllForgot = (k : ℕ) (d : Name) → k < length old → Forgot (get_or old k d) (get_or new k d)

forgot_name : (q : Elements) (old new : List Name) → length new ≡ length old → AllForgot old new → (names_of new q ≡ names_of old q) × (earlier_of new q ≡ [])
forgot_name q [] [] len each = (refl, refl)
forgot_name q [] (y ∷ ys) len each = absurd (omega arith)
forgot_name q (x ∷ xs) [] len each = absurd (omega arith)
forgot_name q (x ∷ xs) (y ∷ ys) len each =
    let first = each 0 x (omega arith) in
    let rest = forgot_name q xs ys (omega arith) (λ k d low. each (suc k) d (omega arith)) in
    let test = ap (λ (p : Elements). path_eq q p) first.path in (
      by_names (path_eq q y.path) (path_eq q x.path) test (ap slot_of first.entry) rest.0,
      by_earlier (path_eq q y.path) (ap (λ (l : List (Option Entry)). map slot_of l) first.earlier) rest.1,
    )
  where
    by_names : (a b : Bool) → a ≡ b → slot_of y.entry ≡ slot_of x.entry → names_of ys q ≡ names_of xs q → slot_in (cond a (Some y) (name_at ys q)) ≡ slot_in (cond b (Some x) (name_at xs q))
    by_names true true is one two = one
    by_names false false is one two = two
    by_names true false is one two = absurd (false≢true (sym is))
    by_names false true is one two = absurd (false≢true is)

    by_earlier : (a : Bool) → map slot_of y.earlier.items ≡ [] → earlier_of ys q ≡ [] → held_in (cond a (Some y) (name_at ys q)) ≡ []
    by_earlier true one two = one
    by_earlier false one two = two

pub forgot_all : (old new : List Name) → length new ≡ length old → AllForgot old new → ForgetsNames old new
forgot_all old new len each = record { names = λ q. (forgot_name q old new len each).0; earlier = λ q. (forgot_name q old new len each).1 }

before_all : (a b : Name) (old new : List Name) → b.path ≡ a.path → length new ≡ length old → AllForgot old new → list_all (comes_before b) new ≡ list_all (comes_before a) old
before_all a b [] [] is len each = refl
before_all a b [] (y ∷ ys) is len each = absurd (omega arith)
before_all a b (x ∷ xs) [] is len each = absurd (omega arith)
before_all a b (x ∷ xs) (y ∷ ys) is len each =
    let first = (each 0 x (omega arith)).path in
    let rest = before_all a b xs ys is (omega arith) (λ k d low. each (suc k) d (omega arith)) in
    λ i. is_lt (compare (path_text (is i)) (path_text (first i))) && rest i

pub forgot_ascends : (old new : List Name) → length new ≡ length old → AllForgot old new → ascends new ≡ ascends old
forgot_ascends [] [] len each = refl
forgot_ascends [] (y ∷ ys) len each = absurd (omega arith)
forgot_ascends (x ∷ xs) [] len each = absurd (omega arith)
forgot_ascends (x ∷ xs) (y ∷ ys) len each =
    let first = (each 0 x (omega arith)).path in
    let rest : AllForgot xs ys = λ k d low. each (suc k) d (omega arith) in
    let one = before_all x y xs ys first (omega arith) rest in
    let two = forgot_ascends xs ys (omega arith) rest in
    λ i. one i && two i

-- so far
pub record ForgotFirst (i : ℕ) (old now : List Name) : Type 0 where
  pub len : length now ≡ length old
  pub front : (k : ℕ) (d : Name) → k < i → k < length old → Forgot (get_or old k d) (get_or now k d)
  pub rest : (k : ℕ) (d : Name) → i ≤ k → get_or now k d ≡ get_or old k d

pub forgot_none : (old : List Name) → ForgotFirst 0 old old
forgot_none old = record { len = refl; front = λ k d lt low. absurd (omega arith); rest = λ k d le. refl }

pub forgot_more : (i : ℕ) (old now : List Name) (e is : Name) → ForgotFirst i old now → i < length now → Forgot (get_or now i e) is → ForgotFirst (i + 1) old (set now i is)
forgot_more i old now e is so low one = record {
  len = length-set now i is ∙ so.len;
  front = λ k d lt inside. elim (cases_eq k i) [
    | inl same ↦
        let here : get_or (set now i is) k d ≡ is = ap (λ j. get_or (set now i is) j d) same ∙ get_or-set_same now i is d low in
        let there : get_or old k d ≡ get_or now i e = ap (λ j. get_or old j d) same ∙ sym (so.rest i d (omega arith)) ∙ get_or_default now i d e low in
        record { path = ap (λ (n : Name). n.path) here ∙ one.path ∙ sym (ap (λ (n : Name). n.path) there); entry = ap (λ (n : Name). n.entry) here ∙ one.entry ∙ sym (ap (λ (n : Name). n.entry) there); earlier = ap (λ (n : Name). n.earlier.items) here ∙ one.earlier }
    | inr ne ↦ subst (Forgot (get_or old k d)) (sym (get_or-set_other now i k is d ne)) (so.front k d (omega arith) inside)
  ];
  rest = λ k d le. get_or-set_other now i k is d (λ same. omega arith) ∙ so.rest k d (omega arith);
}

pub forgot_end : (i : ℕ) (old now : List Name) → ForgotFirst i old now → length old ≤ i → AllForgot old now
forgot_end i old now so le k d low = so.front k d (omega arith) low

-- what a loop over all of a vector's items leaves
pub whole : {A : Type 0} (n : ℕ) (xs old : List A) → length xs ≡ length old → n ≡ length old → take n (xs ++ drop (length xs) old) ≡ xs
whole n xs old len is = ap (λ (l : List _). take n (xs ++ l)) (drop_all (length xs) old (omega arith)) ∙ ap (λ (l : List _). take n l) (append-nil xs) ∙ take_all n xs (omega arith)
