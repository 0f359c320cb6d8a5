-- The paths at one depth below a folder.
use Rattle.std.proofs.Common.{◌≡◌, inl, inr, ℕ, suc, ◌+◌, ◌<◌, List, [], ◌∷◌, ◌++◌, length, take, map, get_or, sym, ◌∙◌, ap, subst, Contains, arith}
use Rattle.std.proofs.lemmas.List.{take_more}
use Rattle.std.proofs.lemmas.List.Elements.{Contains-append_left, Contains-append_right, Contains-append_cases, Contains-push, Contains-push_cases}
use Rattle.fp_base.proofs.Lists.{in_none, in_first, in_cases, in_map, from_map}
use Rattle.fp_host.specs.Paths.{Elements}
use Rattle.fp_host.specs.View.{View}
use Rattle.fp_small.specs.Naming.{ListsIn}
use Rattle.fp_small.specs.Walks.{IsBelow, IsLevel}
use Rattle.ost_refs.specs.Walks.{AreBelow, AreLevel}

-- ---- the names of one folder more

pub none_below : (v : View) → AreBelow [] v []
none_below v = record { each = λ q. (λ has. absurd (in_none q has), λ is. no_folder q is) }
  where
    no_folder : (q : Elements) → IsBelow [] v q → Contains [] q
    no_folder [] is = absurd is
    no_folder (x ∷ up) is = absurd (in_none up is.0)

module _ {v : View} (folders : List Elements) (folder : Elements) (names : List (List ℕ)) (paths : List Elements) (lists : ListsIn folder v names) (so_far : AreBelow folders v paths) where
  there : (q : Elements) → Contains (paths ++ map (λ x. x ∷ folder) names) q → IsBelow (folders ++ folder ∷ []) v q
  there [] has = elim (Contains-append_cases paths (map (λ x. x ∷ folder) names) [] has) [
    | inl earlier ↦ absurd ((so_far.each []).0 earlier)
    | inr new ↦ absurd (cc (from_map (λ x. x ∷ folder) names [] new).2)
  ]
  there (x ∷ up) has = elim (Contains-append_cases paths (map (λ y. y ∷ folder) names) (x ∷ up) has) [
    | inl earlier ↦ let is = (so_far.each (x ∷ up)).0 earlier in (Contains-append_left folders (folder ∷ []) up is.0, is.1)
    | inr new ↦
        let found = from_map (λ y. y ∷ folder) names (x ∷ up) new in
        let same : up ≡ folder = cc (found.2) in (
          subst (Contains (folders ++ folder ∷ [])) (sym same) (Contains-push folders folder),
          λ none. (lists.each found.0).0 found.1 (ap v.names (sym found.2) ∙ none),
        )
  ]

  all : (q : Elements) → IsBelow (folders ++ folder ∷ []) v q → Contains (paths ++ map (λ x. x ∷ folder) names) q
  all [] is = absurd is
  all (x ∷ up) is = elim (Contains-push_cases folders folder up is.0) [
    | inl earlier ↦ Contains-append_left paths (map (λ y. y ∷ folder) names) (x ∷ up) ((so_far.each (x ∷ up)).1 (earlier, is.1))
    | inr same ↦
        let has = (lists.each x).1 (λ none. is.1 (ap (λ (l : Elements). v.names (x ∷ l)) (sym same) ∙ none)) in
        Contains-append_right paths (map (λ y. y ∷ folder) names) (x ∷ up) (subst (λ (l : Elements). Contains (map (λ y. y ∷ folder) names) (x ∷ l)) same (in_map (λ y. y ∷ folder) names x has))
  ]

  one_more : AreBelow (folders ++ folder ∷ []) v (paths ++ map (λ x. x ∷ folder) names)
  one_more = record { each = λ q. (there q, all q) }

pub next_below : {v : View} (folders : List Elements) (i : ℕ) (folder : Elements) (names : List (List ℕ)) (paths more : List Elements)
    → i < length folders → folder ≡ get_or folders i folder → ListsIn folder v names → more ≡ paths ++ map (λ x. x ∷ folder) names → AreBelow (take i folders) v paths → AreBelow (take (i + 1) folders) v more
next_below {v = v} folders i folder names paths more low is lists added so_far =
    let took : take (i + 1) folders ≡ take i folders ++ folder ∷ [] = take_more folders i folder low ∙ ap (λ (f : Elements). take i folders ++ f ∷ []) (sym is) in
    subst (λ (l : List Elements). AreBelow l v more) (sym took) (subst (AreBelow (take i folders ++ folder ∷ []) v) (sym added) (one_more (take i folders) folder names paths lists so_far))

-- ---- one level more

pub first_level : (v : View) (folder : Elements) (paths : List Elements) → paths ≡ folder ∷ [] → AreLevel 0 folder v paths
first_level v folder paths is = subst (AreLevel 0 folder v) (sym is) (record {
  each = λ q. (λ has. elim (in_cases folder [] q has) [ inl same ↦ same | inr none ↦ absurd (in_none q none) ], λ same. subst (Contains (folder ∷ [])) (sym same) (in_first folder []));
})

module _ {v : View} (n : ℕ) (folder : Elements) (folders paths : List Elements) (so_far : AreLevel n folder v folders) (below : AreBelow folders v paths) where
  level_there : (q : Elements) → Contains paths q → IsLevel (suc n) folder v q
  level_there [] has = (below.each []).0 has
  level_there (x ∷ up) has = let is = (below.each (x ∷ up)).0 has in ((so_far.each up).0 is.0, is.1)

  level_all : (q : Elements) → IsLevel (suc n) folder v q → Contains paths q
  level_all [] is = absurd is
  level_all (x ∷ up) is = (below.each (x ∷ up)).1 ((so_far.each up).1 is.0, is.1)

  next_level_suc : AreLevel (suc n) folder v paths
  next_level_suc = record { each = λ q. (level_there q, level_all q) }

pub next_level : {v : View} (n : ℕ) (folder : Elements) (folders paths : List Elements) → AreLevel n folder v folders → AreBelow folders v paths → AreLevel (n + 1) folder v paths
next_level {v = v} n folder folders paths so_far below =
    let one : suc n ≡ n + 1 = omega arith in
    subst (λ k. AreLevel k folder v paths) one (next_level_suc n folder folders paths so_far below)
