-- A log that grows.
use Rattle.std.proofs.Common.{◌≡◌, inl, inr, ℕ, ◌+◌, ◌-◌, ◌^◌, ◌<◌, ◌≤◌, List, [], ◌∷◌, ◌++◌, filter, Bool, true, ltb, min, refl, sym, ◌∙◌, ap, subst, arith}
use Rattle.std.specs.List.{list_all}
use Rattle.std.proofs.lemmas.List.{reverse-append, append-nil}
use Rattle.std.proofs.lemmas.List.Elements.{filter-append}
use Rattle.std.proofs.lemmas.List.Folds.{list_all-append}
use Rattle.std.proofs.lemmas.Bool.{cond-true, cond-false, and_parts, and_from, ltb-true, lt-ltb, le-ltb, cases_lt, cases_Bool}
use Rattle.std.proofs.Math.Logic.{∥∥₁_map}
use Rattle.fp_host.specs.View.{View, IsTree}
use Rattle.fp_host.specs.Calls.{Can}
use Rattle.fp_host.proofs.Kept.{tree_done, tree_half}
use Rattle.fp_memhost.specs.declared.event.Noted.{Noted}
use Rattle.fp_memhost.specs.Replay.{change_of, stepped, view_of, view_now, is_before, view_after, IsNumbered, AreTrees}

pub now_more : (start : View) (log : List Noted) (e : Noted) → view_now start (log ++ e ∷ []) ≡ stepped e (view_now start log)
now_more start log e = ap (view_of start) (reverse-append log (e ∷ []))

-- what comes later doesn't change an earlier view
pub after_old : (start : View) (log : List Noted) (e : Noted) (n : ℕ) → n ≤ e.call → view_after start (log ++ e ∷ []) n ≡ view_after start log n
after_old start log e n le =
    ap (view_now start) (filter-append (is_before n) log (e ∷ []) ∙ ap (λ (l : List Noted). filter (is_before n) log ++ l) (cond-false (ltb e.call n) _ _ (le-ltb e.call n le)) ∙ append-nil (filter (is_before n) log))

filter_all : (p : Noted → Bool) (log : List Noted) → list_all p log ≡ true → filter p log ≡ log
filter_all p [] all = refl
filter_all p (e ∷ log) all =
    let parts = and_parts (p e) (list_all p log) all in
    cond-true (p e) _ _ parts.0 ∙ ap (λ (l : List Noted). e ∷ l) (filter_all p log parts.1)

-- after all calls the view is the present one
pub after_all : (start : View) (log : List Noted) (n : ℕ) → list_all (is_before n) log ≡ true → view_after start log n ≡ view_now start log
after_all start log n all = ap (view_now start) (filter_all (is_before n) log all)

pub all_later : (log : List Noted) (m n : ℕ) → m ≤ n → list_all (is_before m) log ≡ true → list_all (is_before n) log ≡ true
all_later [] m n le all = refl
all_later (e ∷ log) m n le all =
    let parts = and_parts (is_before m e) (list_all (is_before m) log) all in
    and_from (is_before n e) (list_all (is_before n) log) (lt-ltb e.call n (omega (arith, ltb-true e.call m parts.0))) (all_later log m n le parts.1)

pub all_more : (log : List Noted) (e : Noted) (n : ℕ) → list_all (is_before n) log ≡ true → e.call < n → list_all (is_before n) (log ++ e ∷ []) ≡ true
all_more log e n all low = list_all-append (is_before n) log (e ∷ []) ∙ and_from (list_all (is_before n) log) _ all (and_from (is_before n e) true (lt-ltb e.call n low) refl)

-- one call more
pub numbered_skip : (calls next : ℕ) (log : List Noted) → next ≡ min (calls + 1) (2 ^ 64 - 1) → IsNumbered calls log → IsNumbered next log
numbered_skip calls next log is was = record { fits = was.fits; below = λ low. all_later log calls next (omega arith) (was.below (omega arith)) }

pub numbered_more : (calls next : ℕ) (log : List Noted) (e : Noted) → next ≡ min (calls + 1) (2 ^ 64 - 1) → e.call ≡ calls → calls < 2 ^ 64 → IsNumbered next log → IsNumbered next (log ++ e ∷ [])
numbered_more calls next log e is number fits was = record { fits = all_more log e (2 ^ 64) was.fits (omega arith); below = λ low. all_more log e next (was.below low) (omega arith) }

-- the events so far are those of the calls below any later number
all_below : (calls n : ℕ) (log : List Noted) → IsNumbered calls log → calls < 2 ^ 64 → calls < n → list_all (is_before n) log ≡ true
all_below calls n log was fits low = elim (cases_lt calls (2 ^ 64 - 1)) [
  | inl lt ↦ all_later log calls n (omega arith) (was.below lt)
  | inr le ↦ all_later log (2 ^ 64) n (omega arith) was.fits
]

tree_step : (e : Noted) (v : View) → IsTree v → Can (change_of e.event) v → IsTree (stepped e v)
tree_step e v tree can = elim (cases_Bool e.is_done) [
  | inl t ↦ subst IsTree (sym (cond-true e.is_done _ _ t)) (tree_done v tree (change_of e.event) can)
  | inr f ↦ subst IsTree (sym (cond-false e.is_done _ _ f)) (tree_half v tree (change_of e.event) can)
]

pub trees_more : (start : View) (calls : ℕ) (log : List Noted) (e : Noted) → IsNumbered calls log → e.call ≡ calls → calls < 2 ^ 64 → Can (change_of e.event) (view_now start log) → AreTrees start log → AreTrees start (log ++ e ∷ [])
trees_more start calls log e was number fits can trees =
    let now : IsTree (view_now start (log ++ e ∷ [])) = subst IsTree (sym (now_more start log e)) (tree_step e (view_now start log) trees.now can) in
    record {
      now = now;
      after = λ n. elim (cases_lt calls n) [
        | inl lt ↦ subst IsTree (sym (after_all start (log ++ e ∷ []) n (all_more log e n (all_below calls n log was fits lt) (omega arith)))) now
        | inr le ↦ subst IsTree (sym (after_old start log e n (omega arith))) (trees.after n)
      ];
    }

-- what the history owes after a step that was kept
module _ (start : View) (calls next : ℕ) (log new_log : List Noted) (e : Noted) (now new_now : View) (agrees : now ≡ view_now start log) (grew : new_log ≡ log ++ e ∷ []) (steps : new_now ≡ stepped e now) where
  pub agrees_more : new_now ≡ view_now start new_log
  agrees_more = steps ∙ ap (stepped e) agrees ∙ sym (now_more start log e) ∙ sym (ap (view_now start) grew)

  pub numbered_kept : next ≡ min (calls + 1) (2 ^ 64 - 1) → e.call ≡ calls → calls < 2 ^ 64 → IsNumbered calls log → IsNumbered next new_log
  numbered_kept is number fits was = subst (IsNumbered next) (sym grew) (numbered_more calls next log e is number fits (numbered_skip calls next log is was))

  pub trees_kept : e.call ≡ calls → calls < 2 ^ 64 → Can (change_of e.event) now → IsNumbered calls log → ∥ AreTrees start log ∥₁ → ∥ AreTrees start new_log ∥₁
  trees_kept number fits can was trees =
      let can_now = subst (Can (change_of e.event)) agrees can in
      ∥∥₁_map trees (λ t. subst (AreTrees start) (sym grew) (trees_more start calls log e was number fits can_now t))
