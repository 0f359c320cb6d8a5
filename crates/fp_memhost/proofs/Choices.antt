-- The names at which a stop may bring something back.
use Rattle.std.proofs.Common.{◌≡◌, inl, inr, ℕ, List, [], ◌∷◌, ◌++◌, length, true, false, Option, Some, refl, sym, ◌∙◌, ap, arith}
use Rattle.std.specs.Prelude.{leb}
use Rattle.std.specs.List.{list_all}
use Rattle.std.proofs.lemmas.List.{length-map}
use Rattle.std.proofs.lemmas.Bool.{cond-true, cond-false, and_parts, and_from, false_from_ne_true, le-leb}
use Rattle.fp_host.specs.Paths.{Elements, Slot, path_eq}
use Rattle.fp_host.specs.View.{View}
use Rattle.fp_host.proofs.Separate.{path_decides, path_cases}
use Rattle.fp_host.specs.declared.host.Entry.{Entry}
use Rattle.fp_memhost.specs.declared.names.Name.{Name}
use Rattle.fp_memhost.specs.Names.{slot_of, held_in, is_at, name_at, earlier_of, comes_before, ascends}
use Rattle.fp_memhost.specs.Images.{number_for, is_after, texts_ascend, AreChoices}
use Rattle.fp_memhost.specs.Choosing.{choices_at, choices_in}
use Rattle.fp_memhost.proofs.Judging.{later_none}

-- what comes first
number_here : (p : Elements) (l : List (Option Entry)) (rest : List (Elements × ℕ)) (q : Elements) → path_eq q p ≡ true → number_for rest q ≡ 0 → number_for (choices_at p l ++ rest) q ≡ length l
number_here p [] rest q t none = none
number_here p (e ∷ es) rest q t none = cond-true (path_eq q p) (length (e ∷ es)) (number_for rest q) t

number_later : (p : Elements) (l : List (Option Entry)) (rest : List (Elements × ℕ)) (q : Elements) → path_eq q p ≡ false → number_for (choices_at p l ++ rest) q ≡ number_for rest q
number_later p [] rest q f = refl
number_later p (e ∷ es) rest q f = cond-false (path_eq q p) (length (e ∷ es)) (number_for rest q) f

numbers_are : (names : List Name) → ascends names ≡ true → (q : Elements) → number_for (choices_in names) q ≡ length (earlier_of names q)
numbers_are [] asc q = refl
numbers_are (n ∷ ns) asc q =
    let parts = and_parts (list_all (comes_before n) ns) (ascends ns) asc in
    elim (path_cases q n.path) [
      | inl e ↦
          let t = (path_decides q n.path).1 e in
          let none : number_for (choices_in ns) q ≡ 0 = numbers_are ns parts.1 q ∙ ap (λ (o : Option Name). length (held_in o)) (ap (name_at ns) e ∙ later_none ns n parts.0) in
          number_here n.path n.earlier.items (choices_in ns) q t none ∙ sym (length-map n.earlier.items slot_of) ∙ sym (ap (λ (o : Option Name). length (held_in o)) (cond-true (is_at q n) (Some n) (name_at ns q) t))
      | inr ne ↦
          let f = false_from_ne_true (path_eq q n.path) (λ t. ne ((path_decides q n.path).0 t)) in
          number_later n.path n.earlier.items (choices_in ns) q f ∙ numbers_are ns parts.1 q ∙ sym (ap (λ (o : Option Name). length (held_in o)) (cond-false (is_at q n) (Some n) (name_at ns q) f))
    ]

some_at : (p : Elements) (l : List (Option Entry)) (rest : List (Elements × ℕ)) → list_all (λ (x : Elements × ℕ). leb 1 x.1) rest ≡ true → list_all (λ (x : Elements × ℕ). leb 1 x.1) (choices_at p l ++ rest) ≡ true
some_at p [] rest all = all
some_at p (e ∷ es) rest all = and_from (leb 1 (length (e ∷ es))) (list_all (λ (x : Elements × ℕ). leb 1 x.1) rest) (le-leb 1 (length (e ∷ es)) (omega arith)) all

some_are : (names : List Name) → list_all (λ (x : Elements × ℕ). leb 1 x.1) (choices_in names) ≡ true
some_are [] = refl
some_are (n ∷ ns) = some_at n.path n.earlier.items (choices_in ns) (some_are ns)

after_at : (x : Elements × ℕ) (p : Elements) (l : List (Option Entry)) (rest : List (Elements × ℕ)) → is_after x (p, 0) ≡ true → list_all (is_after x) rest ≡ true → list_all (is_after x) (choices_at p l ++ rest) ≡ true
after_at x p [] rest one all = all
after_at x p (e ∷ es) rest one all = and_from (is_after x (p, length (e ∷ es))) (list_all (is_after x) rest) one all

after_all : (n : Name) (k : ℕ) (names : List Name) → list_all (comes_before n) names ≡ true → list_all (is_after (n.path, k)) (choices_in names) ≡ true
after_all n k [] all = refl
after_all n k (m ∷ ms) all =
    let parts = and_parts (comes_before n m) (list_all (comes_before n) ms) all in
    after_at (n.path, k) m.path m.earlier.items (choices_in ms) parts.0 (after_all n k ms parts.1)

ascend_at : (n : Name) (l : List (Option Entry)) (rest : List (Elements × ℕ)) → ((k : ℕ) → list_all (is_after (n.path, k)) rest ≡ true) → texts_ascend rest ≡ true → texts_ascend (choices_at n.path l ++ rest) ≡ true
ascend_at n [] rest all asc = asc
ascend_at n (e ∷ es) rest all asc = and_from (list_all (is_after (n.path, length (e ∷ es))) rest) (texts_ascend rest) (all (length (e ∷ es))) asc

ascend_are : (names : List Name) → ascends names ≡ true → texts_ascend (choices_in names) ≡ true
ascend_are [] asc = refl
ascend_are (n ∷ ns) asc =
    let parts = and_parts (list_all (comes_before n) ns) (ascends ns) asc in
    ascend_at n n.earlier.items (choices_in ns) (λ k. after_all n k ns parts.0) (ascend_are ns parts.1)

pub choices_are : (v : View) (names : List Name) (found : List (Elements × ℕ)) → ascends names ≡ true → ((q : Elements) → v.earlier q ≡ earlier_of names q) → found ≡ choices_in names → AreChoices v found
choices_are v names found asc earlier is = record {
  numbers = λ q. ap (λ (l : List (Elements × ℕ)). number_for l q) is ∙ numbers_are names asc q ∙ sym (ap (λ (l : List Slot). length l) (earlier q));
  some = ap (list_all (λ (x : Elements × ℕ). leb 1 x.1)) is ∙ some_are names;
  ascending = ap texts_ascend is ∙ ascend_are names asc;
}
