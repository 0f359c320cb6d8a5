-- Folders that are made.
use Rattle.std.proofs.Common.{◌≡◌, ◌⊎◌, inl, inr, ℕ, ◌+◌, ◌<◌, List, [], ◌∷◌, length, take, get_or, Ok, refl, sym, ◌∙◌, ap, subst, Contains}
use Rattle.std.proofs.lemmas.List.{take_more}
use Rattle.std.proofs.lemmas.List.Elements.{Contains-push_cases, Contains-get_or}
use Rattle.fp_host.specs.Paths.{Elements, Slot, absent, dir, file, link}
use Rattle.fp_host.specs.View.{View, IsTree}
use Rattle.fp_host.specs.Calls.{makes_dir, Step, HasFolder}
use Rattle.fp_host.specs.Reads.{StatOf, ListOf, IsStat}
use Rattle.fp_host.specs.declared.host.Stat.{Stat}
use Rattle.fp_host.specs.declared.host.Stat.TheVariants.{Absent, Dir}
use Rattle.fp_host.proofs.Separate.{set_same}
use Rattle.fp_small.specs.Naming.{ListsIn}
use Rattle.fp_small.specs.Folders.{IsFree, AreFree, AreDirs, IsLadder, DirAt}

pub made_dir : {p : Elements} {v w : View} → Step (makes_dir p) (Ok tt) v w → w.names p ≡ dir
made_dir {p = p} {v = v} step = ap (λ (x : View). x.names p) step.how.1 ∙ set_same v.names p dir p refl

absent_of : (v : View) (e : Slot) → IsStat v e Absent → e ≡ absent
absent_of v absent s = refl
absent_of v dir s = absurd (cc s)
absent_of v (link text) s = absurd (cc s)
absent_of v (file id) s = absurd (cc s.2)

pub stat_absent : {p : Elements} {v w : View} → StatOf p (Ok Absent) v w → v.names p ≡ absent
stat_absent {p = p} {v = v} stat = absent_of v (v.names p) stat.tells.1

pub stat_gone : {p : Elements} {s : Stat} {v w : View} → s ≡ Absent → StatOf p (Ok s) v w → w.names p ≡ absent
stat_gone {p = p} {v = v} {w = w} is stat = ap (λ (x : View). x.names p) stat.same ∙ stat_absent (subst (λ r. StatOf p (Ok r) v w) is stat)

there_of : (v : View) (e : Slot) (s : Stat) → IsStat v e s → (s ≡ Absent → ⊥) → e ≡ absent → ⊥
there_of v absent s is off none = off is
there_of v dir s is off none = cc none
there_of v (link text) s is off none = cc none
there_of v (file id) s is off none = cc none

pub stat_there : {p : Elements} {s : Stat} {v w : View} → StatOf p (Ok s) v w → (s ≡ Absent → ⊥) → v.names p ≡ absent → ⊥
stat_there {p = p} {s = s} {v = v} stat off none = there_of v (v.names p) s stat.tells.1 off none

no_dir_of : (v : View) (e : Slot) (s : Stat) → IsStat v e s → (s ≡ Dir → ⊥) → e ≡ dir → ⊥
no_dir_of v absent s is off there = cc there
no_dir_of v dir s is off there = off is
no_dir_of v (link text) s is off there = cc there
no_dir_of v (file id) s is off there = cc there

pub stat_no_dir : {p : Elements} {s : Stat} {v w : View} → StatOf p (Ok s) v w → (s ≡ Dir → ⊥) → v.names p ≡ dir → ⊥
stat_no_dir {p = p} {s = s} {v = v} stat off there = no_dir_of v (v.names p) s stat.tells.1 off there

dir_of : (v : View) (e : Slot) → IsStat v e Dir → e ≡ dir
dir_of v absent s = absurd (cc s)
dir_of v dir s = refl
dir_of v (link text) s = absurd (cc s)
dir_of v (file id) s = absurd (cc s.2)

pub stat_dir : {p : Elements} {v w : View} → StatOf p (Ok Dir) v w → v.names p ≡ dir
stat_dir {p = p} {v = v} stat = dir_of v (v.names p) stat.tells.1

pub lists_of : {p : Elements} {names : List (List ℕ)} {u v w : View} → v ≡ u → ListOf p (Ok names) v w → ListsIn p u names
lists_of {p = p} {names = names} same lists = subst (λ (x : View). ListsIn p x names) same (record { each = lists.tells.1 })

-- what is free and there is a folder
pub free_there : (v : View) (p : Elements) → IsFree v p → (v.names p ≡ absent → ⊥) → v.names p ≡ dir
free_there v p (inl none) there = absurd (there none)
free_there v p (inr is) there = is

-- one folder more
module _ (paths : List Elements) (i : ℕ) (p : Elements) (low : i < length paths) (is : p ≡ get_or paths i p) where
  pub item_in : Contains paths p
  item_in = subst (Contains paths) (sym is) (Contains-get_or paths i p low)

  -- a change of this path alone
  pub one_more : {u v w : View} → (AreFree paths u → AreFree paths v × AreDirs (take i paths) v) → ((q : Elements) → (w.names q ≡ v.names q) ⊎ DirAt p q (w.names q)) → (IsFree v p → w.names p ≡ dir)
      → AreFree paths u → AreFree paths w × AreDirs (take (i + 1) paths) w
  one_more {v = v} {w = w} before others made free =
      let old = before free in
      let here = made (old.0.free p item_in) in
      let kept : (q : Elements) → (v.names q ≡ dir) → w.names q ≡ dir = λ q was. elim (others q) [ inl same ↦ same ∙ was | inr put ↦ put.1 ] in (
        record { free = λ q has. elim (others q) [ inl same ↦ elim (old.0.free q has) [ inl none ↦ inl (same ∙ none) | inr there ↦ inr (same ∙ there) ] | inr put ↦ inr put.1 ] },
        record {
          dirs = λ q has. elim (Contains-push_cases (take i paths) (get_or paths i p) q (subst (λ (l : List Elements). Contains l q) (take_more paths i p low) has)) [
            | inl earlier ↦ kept q (old.1.dirs q earlier)
            | inr same ↦ ap w.names (sym same ∙ sym is) ∙ here
          ];
        },
      )

  -- where this path is absent, the folder above it is there
  pub can_make : {v : View} → IsTree v → IsLadder paths → AreDirs (take i paths) v → v.names p ≡ absent → HasFolder v p
  can_make {v = v} tree ladder dirs none = by_path p is none
    where
      by_path : (q : Elements) → q ≡ get_or paths i q → v.names q ≡ absent → HasFolder v q
      by_path [] at none = absurd (cc (tree.root, none))
      by_path (x ∷ up) at none = elim (ladder i x up low (sym at)) [ inl root ↦ ap v.names root ∙ tree.root | inr earlier ↦ dirs.dirs up earlier ]

pub free_at : (v w : View) (q : Elements) → w.names q ≡ v.names q → IsFree v q → IsFree w q
free_at v w q same (inl none) = inl (same ∙ none)
free_at v w q same (inr there) = inr (same ∙ there)
