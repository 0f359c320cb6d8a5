-- Folders of commits that go.
use Rattle.std.proofs.Common.{◌≡◌, ◌≢◌, ◌⊎◌, inl, inr, ℕ, ◌+◌, ◌<◌, ◌≤◌, List, [], ◌∷◌, length, take, get_or, true, Some, None, sym, ◌∙◌, ap, subst, Contains}
use Rattle.std.proofs.lemmas.List.{take_more, take_all}
use Rattle.std.proofs.lemmas.List.Elements.{Contains-push_cases}
use Rattle.fp_base.proofs.Options.{some_none}
use Rattle.fp_base.proofs.Lists.{in_none, in_first}
use Rattle.fp_host.specs.Paths.{Elements, Slot, absent, path_text}
use Rattle.fp_host.specs.View.{View, IsTree}
use Rattle.fp_host.specs.Outcome.{Spot}
use Rattle.fp_host.proofs.Separate.{absent_cases}
use Rattle.fp_name.specs.Hex.{hex, unhex}
use Rattle.fp_name.specs.Refs.{Ref, is_ref, ref_of}
use Rattle.fp_name.proofs.HexTexts.{unhex-hex, unhex-some}
use Rattle.fp_name.proofs.Refs.{ref_of-ref_text}
use Rattle.fp_small.specs.Clear.{IsWithin, GoneWithin, AbsentWithin, IsCleared}
use Rattle.fp_small.specs.Naming.{ListsIn}
use Rattle.fp_small.specs.declared.state.State.{State}
use Rattle.ost_store.proofs.Lists.{in_one}
use Rattle.dep_states.specs.Branches.{AreBranches}
use Rattle.dep_states.specs.Names.{branch_dir, commit_dir}
use Rattle.dep_states.specs.Frames.{KeptIn}
use Rattle.dep_states.proofs.Sparing.{hex_exact}
use Rattle.dep_states.proofs.BranchPaths.{branch_same, branch_level}
use Rattle.dep_tidy.specs.Steps.{IsUnkept, InUnkept, UnkeptGone, UnkeptAbsent, HasNoUnkept, HasNoneIn, HasNoneOf}

-- ---- lists that are gone through

module _ {A : Type 0} (items : List A) (i : ℕ) (a : A) (low : i < length items) (is : a ≡ get_or items i a) where
  -- one of the first, or this one
  pub took_cases : (k : A) → Contains (take (i + 1) items) k → Contains (take i items) k ⊎ (k ≡ a)
  took_cases k has = elim (Contains-push_cases (take i items) (get_or items i a) k (subst (λ (l : List A). Contains l k) (take_more items i a low) has)) [
    | inl earlier ↦ inl earlier
    | inr same ↦ inr (sym same ∙ sym is)
  ]

pub all_taken : {A : Type 0} (items : List A) (i : ℕ) (k : A) → length items ≤ i → Contains items k → Contains (take i items) k
all_taken items i k high has = subst (λ l. Contains l k) (sym (take_all i items high)) has

-- ---- the name of a commit's folder

-- a name that goes on to be absent
pub still_absent : {s : State} (v w : View) → ((q : Elements) → (w.names q ≡ v.names q) ⊎ UnkeptAbsent s q (w.names q)) → (q : Elements) → v.names q ≡ absent → w.names q ≡ absent
still_absent v w names q none = elim (names q) [ inl same ↦ same ∙ none | inr put ↦ put.1 ]

pub still_some : {s : State} (v w : View) → ((q : Elements) → (w.names q ≡ v.names q) ⊎ UnkeptAbsent s q (w.names q)) → (q : Elements) → w.names q ≢ absent → v.names q ≢ absent
still_some v w names q some none = some (still_absent v w names q none)

module _ {s : State} {name : Ref} {text : List ℕ} where
  -- no digest
  pub none_bad : unhex text ≡ None → (w : View) → HasNoneOf s name (text ∷ []) w
  none_bad is w = record { none = λ commit u has. absurd (some_none (sym (unhex-hex commit u.digits) ∙ ap unhex (in_one text (hex commit) has) ∙ is)) }

  module _ (d : List ℕ) (is : unhex text ≡ Some d) where
    this_one : (commit : List ℕ) → IsUnkept s name commit → Contains (text ∷ []) (hex commit) → commit ≡ d
    this_one commit u has = let t = unhex-some text d is in hex_exact commit d u.digits t.1 (in_one text (hex commit) has ∙ t.0)

    -- one that is kept
    pub none_kept : KeptIn s name d → (w : View) → HasNoneOf s name (text ∷ []) w
    none_kept kept w = record { none = λ commit u has. absurd (u.unkept (subst (KeptIn s name) (sym (this_one commit u has)) kept)) }

    module _ (good : is_ref name ≡ true) (unkept : KeptIn s name d → ⊥) {folder p : Elements} (at : folder ≡ branch_dir name) (path : p ≡ text ∷ folder) where
      pub dir_is : p ≡ commit_dir name d
      dir_is = path ∙ ap (λ (x : List ℕ). x ∷ folder) (unhex-some text d is).0 ∙ ap (λ (up : Elements). hex d ∷ up) at

      inside : (q : Elements) → IsWithin p q → InUnkept s q
      inside q within = record { name = name; commit = d; is = record { good = good; digits = (unhex-some text d is).1; unkept = unkept }; within = subst (λ (x : Elements). IsWithin x q) dir_is within }

      pub clear_gives : (q : Elements) (spot : Spot) → GoneWithin p q spot → UnkeptGone s q spot
      clear_gives q spot h = (inside q h.0, h.1)

      pub clear_puts : (q : Elements) (e : Slot) → AbsentWithin p q e → UnkeptAbsent s q e
      clear_puts q e h = (inside q h.0, h.1)

      pub none_cleared : {w : View} → IsCleared p w → HasNoneOf s name (text ∷ []) w
      none_cleared {w = w} cleared = record { none = λ commit u has. ap (λ (c : List ℕ). w.names (commit_dir name c)) (this_one commit u has) ∙ cleared.gone (commit_dir name d) (inl (sym dir_is)) }

-- ---- along the names of a branch directory

pub none_of_start : {s : State} {name : Ref} (names : List (List ℕ)) (v : View) → HasNoneOf s name (take 0 names) v
none_of_start names v = record { none = λ commit u has. absurd (in_none (hex commit) has) }

pub none_of_next : {s : State} {name : Ref} (names : List (List ℕ)) (i : ℕ) (text : List ℕ) → i < length names → text ≡ get_or names i text → {v w : View}
    → ((q : Elements) → (w.names q ≡ v.names q) ⊎ UnkeptAbsent s q (w.names q)) → HasNoneOf s name (take i names) v → HasNoneOf s name (text ∷ []) w → HasNoneOf s name (take (i + 1) names) w
none_of_next {name = name} names i text low is {v = v} {w = w} changes before here = record {
  none = λ commit u has. elim (took_cases names i text low is (hex commit) has) [
    | inl earlier ↦ still_absent v w changes (commit_dir name commit) (before.none commit u earlier)
    | inr same ↦ here.none commit u (subst (Contains (text ∷ [])) (sym same) (in_first text []))
  ];
}

pub none_of_all : {s : State} {name : Ref} {folder : Elements} (names : List (List ℕ)) (i : ℕ) → length names ≤ i → folder ≡ branch_dir name → {u w : View}
    → ListsIn folder u names → ((q : Elements) → (w.names q ≡ u.names q) ⊎ UnkeptAbsent s q (w.names q)) → HasNoneOf s name (take i names) w → HasNoneIn s (folder ∷ []) w
none_of_all {s = s} {name = name} {folder = folder} names i high at {u = u} {w = w} lists changes none = record {
  none = λ n commit unkept has. elim (absent_cases (w.names (commit_dir n commit))) [
    | inl gone ↦ gone
    | inr some ↦
        let one : n ≡ name = branch_same n name (in_one folder (branch_dir n) has ∙ at) in
        let there : u.names (hex commit ∷ folder) ≢ absent = subst (λ (up : Elements). u.names (hex commit ∷ up) ≢ absent) (in_one folder (branch_dir n) has) (still_some u w changes (commit_dir n commit) some) in
        ap (λ (m : Ref). w.names (commit_dir m commit)) one ∙ none.none commit (subst (λ m. IsUnkept s m commit) one unkept) (all_taken names i (hex commit) high ((lists.each (hex commit)).1 there))
  ];
}

-- ---- along the branch directories

-- no ref has this path
pub none_in_bad : {s : State} {p : Elements} → ref_of (path_text p) ≡ None → (w : View) → HasNoneIn s (p ∷ []) w
none_in_bad {p = p} bad w = record { none = λ n commit u has. absurd (some_none (sym (ref_of-ref_text n u.good) ∙ ap (λ q. ref_of (path_text q)) (in_one p (branch_dir n) has) ∙ bad)) }

pub none_in_start : {s : State} (paths : List Elements) (v : View) → HasNoneIn s (take 0 paths) v
none_in_start paths v = record { none = λ n commit u has. absurd (in_none (branch_dir n) has) }

pub none_in_next : {s : State} (paths : List Elements) (i : ℕ) (p : Elements) → i < length paths → p ≡ get_or paths i p → {v w : View}
    → ((q : Elements) → (w.names q ≡ v.names q) ⊎ UnkeptAbsent s q (w.names q)) → HasNoneIn s (take i paths) v → HasNoneIn s (p ∷ []) w → HasNoneIn s (take (i + 1) paths) w
none_in_next paths i p low is {v = v} {w = w} changes before here = record {
  none = λ n commit u has. elim (took_cases paths i p low is (branch_dir n) has) [
    | inl earlier ↦ still_absent v w changes (commit_dir n commit) (before.none n commit u earlier)
    | inr same ↦ here.none n commit u (subst (Contains (p ∷ [])) (sym same) (in_first p []))
  ];
}

pub none_in_all : {s : State} (paths : List Elements) (i : ℕ) → length paths ≤ i → {u w : View} → IsTree u → AreBranches u paths
    → ((q : Elements) → (w.names q ≡ u.names q) ⊎ UnkeptAbsent s q (w.names q)) → HasNoneIn s (take i paths) w → HasNoUnkept s w
none_in_all paths i high {u = u} {w = w} tree are changes none = record {
  none = λ n commit unkept. elim (absent_cases (w.names (commit_dir n commit))) [
    | inl gone ↦ gone
    | inr some ↦ none.none n commit unkept (all_taken paths i (branch_dir n) high ((are.each (branch_dir n)).1 (branch_level tree (hex commit) n (still_some u w changes (commit_dir n commit) some))))
  ];
}
