-- The whole of a replacement, step by step.
use Rattle.std.proofs.Common.{◌≡◌, ◌≢◌, ◌⊎◌, inl, inr, ℕ, zero, suc, ◌+◌, ◌-◌, ◌<◌, ◌≤◌, ◌^◌, ◌&&◌, List, [], ◌∷◌, ◌++◌, length, drop, take, get_or, true, refl, sym, ◌∙◌, ap, subst, codes, Contains, arith, length-append, lit<}
use Rattle.std.specs.List.{list_all}
use Rattle.std.specs.Fmt.{decimal}
use Rattle.std.proofs.lemmas.Bool.{cases_lt, cases_order, le-leb}
use Rattle.std.proofs.lemmas.Bool.Decides.{eqb_tells}
use Rattle.std.proofs.lemmas.List.{get_or_append_left, get_or-append-add, take-append-le}
use Rattle.std.proofs.Math.Seq.{get_or-append_seam, take-append_seam, take-append-add}
use Rattle.std.specs.Prelude.{◌||◌, ◌==◌, ◌%◌, not, leb}
use Rattle.std.proofs.lemmas.Fmt.{length-decimal-le, decimal_by_steps}
use Rattle.std.proofs.lemmas.List.Folds.{list_all-append}
use Rattle.std.proofs.lemmas.List.Elements.{Contains-append_cases, Contains-append_right, Contains-append_left, Contains-push, Contains-push_cases}
use Rattle.fp_host.specs.Paths.{Elements, absent, dir, file, IsAbove, is_element, is_name_byte}
use Rattle.fp_host.specs.View.{View, IsTree}
use Rattle.fp_host.specs.Calls.{HasFolder, IsNoDir}
use Rattle.fp_host.specs.Frame.{Keeps, AnyAt, AnyHeld, Only, NoPath}
use Rattle.fp_host.proofs.Separate.{absent_cases}
use Rattle.fp_host.proofs.Framed.{keeps_on, keeps_to, keeps_same}
use Rattle.fp_host.proofs.Above.{below_child as above_up, above_longer}
use Rattle.fp_small.specs.Places.{repo, tmp, new_name}
use Rattle.fp_small.specs.Folders.{ancestors, FoldersAt, DirsAt, AreDirs, IsLadder}
use Rattle.fp_small.specs.Stage.{IsReady, WasStaged, CanStage}
use Rattle.fp_small.specs.Move.{Moves, WasMoved, CanMove}
use Rattle.fp_small.specs.Naming.{IsFirstFree, ListsIn}
use Rattle.fp_small.specs.Files.{MakesFile, SameFiles}
use Rattle.fp_small.specs.Replace.{IsStaging, folders_of, ReplacesAt, ReplacesName, Replaces, WasReplaced, IsFreeFile, CanReplace}
use Rattle.fp_small.proofs.Keeping.{files_framed, made_moved}

-- the names that are tried may be elements of a path
good_byte : (b : ℕ) → b ≢ 47 → b ≢ 0 → is_name_byte b ≡ true
good_byte b no_slash no_zero = elim (eqb_tells b 47) [
  | inl t ↦ absurd (no_slash t.1)
  | inr f ↦ elim (eqb_tells b 0) [ inl t ↦ absurd (no_zero t.1) | inr g ↦ ap (λ x. not (x || (b == 0))) f.0 ∙ ap not g.0 ]
]

digit_good : (k : ℕ) → k < 10 → list_all is_name_byte ((48 + k) ∷ []) ≡ true
digit_good k low = ap (λ b. b && true) (good_byte (48 + k) (λ e. omega (arith, e)) (λ e. omega (arith, e)))

digits_good : (n : ℕ) → n < 2 ^ 64 → list_all is_name_byte (decimal n) ≡ true
digits_good n small = decimal_by_steps (λ k ds. list_all is_name_byte ds ≡ true) (λ k low. digit_good k low)
    (λ k ds low before. list_all-append is_name_byte ds ((48 + k % 10) ∷ []) ∙ ap (λ b. b && list_all is_name_byte ((48 + k % 10) ∷ [])) before ∙ digit_good (k % 10) (omega arith)) n small

pub name_good : (n : ℕ) → n < 2 ^ 64 → is_element (new_name n) ≡ true
name_good n small =
    let short : length (decimal n) ≤ 20 = length-decimal-le 20 n (lit< tt) (omega arith) small in
    let long = length-append (codes "new") (decimal n) in
    let bytes : list_all is_name_byte (new_name n) ≡ true = digits_good n small in
    ap (λ b. b && (leb (length (new_name n)) 255 && (list_all is_name_byte (new_name n) && true))) (le-leb 1 (length (new_name n)) (omega arith))
    ∙ ap (λ b. b && (list_all is_name_byte (new_name n) && true)) (le-leb (length (new_name n)) 255 (omega arith)) ∙ ap (λ b. b && true) bytes

-- the first free name is one
pub one_staging : {v : View} {p q : Elements} → IsStaging v p → IsStaging v q → p ≡ q
one_staging {v = v} a b = elim (cases_order a.number b.number) [
  | inl same ↦ a.is ∙ ap (λ k. new_name k ∷ tmp) same ∙ sym b.is
  | inr other ↦ elim other [
    | inl below ↦ absurd (b.first a.number below (ap v.names (sym a.is) ∙ a.free))
    | inr above ↦ absurd (a.first b.number above (ap v.names (sym b.is) ∙ b.free))
  ]
]

-- a free name of the list is the staging name
pub staging_of : {v : View} {names : List (List ℕ)} {name : List ℕ} → ListsIn tmp v names → IsFirstFree names name → IsStaging v (name ∷ tmp)
staging_of {v = v} {names = names} {name = name} lists free = record {
  number = free.number;
  is = ap (λ (x : List ℕ). x ∷ tmp) free.is;
  free = elim (absent_cases (v.names (name ∷ tmp))) [ inl none ↦ none | inr there ↦ absurd (free.free ((lists.each name).1 there)) ];
  first = λ k low. (lists.each (new_name k)).0 (free.first k low);
}

-- where the folder is none, nothing is below it
pub lists_none : {v : View} {p : Elements} → IsTree v → (v.names p ≡ dir → ⊥) → ListsIn p v []
lists_none {v = v} {p = p} tree off = record {
  each = λ x. (
    λ has. absurd (omega (arith, has.1)),
    λ there. absurd (elim (tree.above x p) [ inl none ↦ there none | inr is ↦ off is ]),
  );
}

-- the folders above
pub ancestors_above : (p q : Elements) → Contains (ancestors p) q → IsAbove q p
ancestors_above [] q has = absurd (omega (arith, has.1))
ancestors_above (x ∷ []) q has = absurd (omega (arith, has.1))
ancestors_above (x ∷ y ∷ up) q has = elim (Contains-push_cases (ancestors (y ∷ up)) (y ∷ up) q has) [
  | inl further ↦ inr (ancestors_above (y ∷ up) q further)
  | inr same ↦ inl (sym same)
]

-- the folder of a path is above it, unless it is the root
pub parent_in : (x : List ℕ) (up : Elements) → (up ≡ []) ⊎ Contains (ancestors (x ∷ up)) up
parent_in x [] = inl refl
parent_in x (y ∷ up) = inr (Contains-push (ancestors (y ∷ up)) (y ∷ up))

pub next_ancestor : (p : Elements) (k : ℕ) → suc k < length p → ancestors (drop k p) ≡ ancestors (drop (suc k) p) ++ drop (suc k) p ∷ []
next_ancestor [] k low = absurd (omega arith)
next_ancestor (x ∷ []) k low = absurd (omega arith)
next_ancestor (x ∷ y ∷ up) zero low = refl
next_ancestor (x ∷ y ∷ up) (suc k) low = next_ancestor (y ∷ up) k (omega arith)

pub last_ancestor : (p : Elements) → ancestors (drop (length p - 1) p) ≡ []
last_ancestor [] = refl
last_ancestor (x ∷ []) = refl
last_ancestor (x ∷ y ∷ up) = ap (λ k. ancestors (drop k (x ∷ y ∷ up))) (minus_one (length up)) ∙ last_ancestor (y ∷ up)
  where
    minus_one : (n : ℕ) → suc (suc n) - 1 ≡ suc (suc n - 1)
    minus_one n = omega arith

-- the folders that are made stand one in another
pub ladder_above : (p : Elements) → IsLadder (ancestors p)
ladder_above [] i x up low at = absurd (omega arith)
ladder_above (y ∷ []) i x up low at = absurd (omega arith)
ladder_above (y ∷ z ∷ rest) i x up low at = elim (cases_lt i (length (ancestors (z ∷ rest)))) [
  | inl before ↦ elim (ladder_above (z ∷ rest) i x up before (sym (get_or_append_left (ancestors (z ∷ rest)) ((z ∷ rest) ∷ []) (x ∷ up) i before) ∙ at)) [
    | inl root ↦ inl root
    | inr has ↦ inr (subst (λ (l : List Elements). Contains l up) (sym (take-append-le i (ancestors (z ∷ rest)) ((z ∷ rest) ∷ []) (omega arith))) has)
  ]
  | inr after ↦
      let len = length-append (ancestors (z ∷ rest)) ((z ∷ rest) ∷ []) in
      let is : i ≡ length (ancestors (z ∷ rest)) = omega arith in
      let whole : x ∷ up ≡ z ∷ rest = sym at ∙ ap (λ k. get_or (ancestors (z ∷ rest) ++ (z ∷ rest) ∷ []) k (x ∷ up)) is ∙ get_or-append_seam (ancestors (z ∷ rest)) (z ∷ rest) [] (x ∷ up) in
      elim (parent_in x up) [
        | inl root ↦ inl root
        | inr has ↦ inr (subst (λ (l : List Elements). Contains l up) (sym (ap (λ k. take k (ancestors (z ∷ rest) ++ (z ∷ rest) ∷ [])) is ∙ take-append_seam (ancestors (z ∷ rest)) ((z ∷ rest) ∷ []))) (subst (λ (q : Elements). Contains (ancestors q) up) whole has))
      ]
]

pub ladder : (p : Elements) → IsLadder (folders_of p)
ladder p i x up low at = elim (cases_lt i (length (ancestors p))) [
  | inl before ↦ elim (ladder_above p i x up before (sym (get_or_append_left (ancestors p) (repo ∷ tmp ∷ []) (x ∷ up) i before) ∙ at)) [
    | inl root ↦ inl root
    | inr has ↦ inr (subst (λ (l : List Elements). Contains l up) (sym (take-append-le i (ancestors p) (repo ∷ tmp ∷ []) (omega arith))) has)
  ]
  | inr after ↦
      let len = length-append (ancestors p) (repo ∷ tmp ∷ []) in
      elim (cases_lt i (length (ancestors p) + 1)) [
        | inl first ↦
            let is : i ≡ length (ancestors p) + 0 = omega arith in
            let whole : x ∷ up ≡ repo = sym at ∙ ap (λ k. get_or (ancestors p ++ repo ∷ tmp ∷ []) k (x ∷ up)) is ∙ get_or-append-add (ancestors p) (repo ∷ tmp ∷ []) 0 (x ∷ up) in
            inl (let e : up ≡ [] = cc (whole) in e)
        | inr second ↦
            let is : i ≡ length (ancestors p) + 1 = omega arith in
            let whole : x ∷ up ≡ tmp = sym at ∙ ap (λ k. get_or (ancestors p ++ repo ∷ tmp ∷ []) k (x ∷ up)) is ∙ get_or-append-add (ancestors p) (repo ∷ tmp ∷ []) 1 (x ∷ up) in
            let e : up ≡ repo = cc (whole) in
            inr (subst (λ (l : List Elements). Contains l up) (sym (ap (λ k. take k (ancestors p ++ repo ∷ tmp ∷ [])) is ∙ take-append-add (ancestors p) (repo ∷ tmp ∷ []) 1)) (subst (Contains (ancestors p ++ repo ∷ [])) (sym e) (Contains-push (ancestors p) repo)))
      ]
]

-- each step within the whole
module _ (p : Elements) (bytes : List ℕ) where
  -- the staging name holds no file, so a file that was there gets no bytes
  within : {u w : View} → Keeps (ReplacesAt p bytes u) (ReplacesName p u) (IsStaging u) u w → Replaces p bytes u w
  within k = record { keeps = k; files = files_framed (λ q id staging is. cc (staging.free, is)) k }

  pub still : {u w : View} → w ≡ u → Replaces p bytes u w
  still same = within (keeps_same same)

  pub with_folders : {folders : List Elements} {u w : View} → folders ≡ folders_of p → Keeps (FoldersAt folders) (DirsAt folders) NoPath u w → Replaces p bytes u w
  with_folders is k =
      within (keeps_to (λ q spot h. inr (inl (subst (λ (l : List Elements). Contains l q) is h.0, h.1))) (λ q e h. inr (inl (subst (λ (l : List Elements). Contains l q) is h.0, h.1))) (λ q h. absurd h) (λ q id a h. absurd (cc (h.1))) k)

  pub with_stage : {place : Elements} {u v w : View} → IsStaging u place → Replaces p bytes u v → Keeps (AnyAt place) (AnyHeld place) (Only place) v w → Replaces p bytes u w
  with_stage {u = u} staging so_far k =
      within (keeps_on so_far.keeps (keeps_to (λ q spot h. inr (inr (subst (IsStaging u) (sym h) staging))) (λ q e h. inr (inr (subst (IsStaging u) (sym h) staging))) (λ q h. subst (IsStaging u) (sym h) staging) (λ q id a h. h) k))

  pub with_move : {place : Elements} {u v w : View} → IsStaging u place → Replaces p bytes u v → IsReady place bytes v → Moves place p v w → Replaces p bytes u w
  with_move {place = place} {u = u} staging so_far ready moves =
      within (keeps_on so_far.keeps (keeps_to
      (λ q spot h. elim h [ inl new ↦ inl new | inr left ↦ inr (inr (subst (IsStaging u) (sym left.0) staging)) ])
      (λ q e h. elim h [ inl new ↦ inl new | inr left ↦ inr (inr (subst (IsStaging u) (sym left.0) staging)) ])
      (λ q h. subst (IsStaging u) (sym h) staging)
      (λ q id a h. one_staging a staging) (moves.keeps bytes ready)))

-- what is free for a file is no folder
pub free_no_dir : (p : Elements) (v : View) → IsFreeFile p v → IsNoDir (v.names p)
free_no_dir p v (inl none) = subst IsNoDir (sym none) tt
free_no_dir p v (inr is) = subst IsNoDir (sym is.1) tt

-- where the file may be written, its staging name and its own are none of the folders
module _ (p place : Elements) (u : View) (can : CanReplace p u) (staging : IsStaging u place) where
  off_folders : Contains (folders_of p) place → ⊥
  off_folders has = elim (Contains-append_cases (ancestors p) (repo ∷ tmp ∷ []) place has) [
    | inl above ↦ can.no_work (above_up (new_name staging.number) tmp p (subst (λ (q : Elements). IsAbove q p) staging.is (ancestors_above p place above)))
    | inr low ↦ too_long staging.number place staging.is low
  ]
    where
      too_long : (n : ℕ) (q : Elements) → q ≡ new_name n ∷ tmp → Contains (repo ∷ tmp ∷ []) q → ⊥
      too_long n q is has = elim (Contains-push_cases (repo ∷ []) tmp q has) [
        | inl first ↦ elim (Contains-push_cases [] repo q first) [ inl none ↦ absurd (omega (arith, none.1)) | inr same ↦ omega (arith, ap (λ (l : Elements). length l) (same ∙ is)) ]
        | inr same ↦ omega (arith, ap (λ (l : Elements). length l) (same ∙ is))
      ]

  own_off : Contains (folders_of p) p → ⊥
  own_off has = elim (Contains-append_cases (ancestors p) (repo ∷ tmp ∷ []) p has) [
    | inl above ↦ omega (arith, above_longer p p (ancestors_above p p above))
    | inr low ↦ elim (Contains-push_cases (repo ∷ []) tmp p low) [
      | inl first ↦ elim (Contains-push_cases [] repo p first) [ inl none ↦ absurd (omega (arith, none.1)) | inr same ↦ can.no_repo (sym same) ]
      | inr same ↦ can.no_tmp (sym same)
    ]
  ]

  pub apart : place ≢ p
  apart is = can.no_work (subst (IsAbove tmp) (sym staging.is ∙ is) (inl refl))

  -- after the folders are made
  module _ {v : View} (k : Keeps (FoldersAt (folders_of p)) (DirsAt (folders_of p)) NoPath u v) (dirs : AreDirs (folders_of p) v) where
    still_free : v.names place ≡ absent
    still_free = elim (k.names place) [ inl same ↦ same ∙ staging.free | inr made ↦ absurd (off_folders made.0) ]

    own_same : v.names p ≡ u.names p
    own_same = elim (k.names p) [ inl same ↦ same | inr made ↦ absurd (own_off made.0) ]

    pub can_stage : CanStage place v
    can_stage = (subst (HasFolder v) (sym staging.is) (dirs.dirs tmp (Contains-append_right (ancestors p) (repo ∷ tmp ∷ []) tmp (Contains-push (repo ∷ []) tmp))), still_free)

    -- and after the file is staged
    module _ {w : View} (tree : IsTree v) (bytes : List ℕ) (s : Keeps (AnyAt place) (AnyHeld place) (Only place) v w) (staged : WasStaged place bytes v w) where
      kept : (q : Elements) → q ≢ place → w.names q ≡ v.names q
      kept q off = elim (s.names q) [ inl same ↦ same | inr is ↦ absurd (off is) ]

      own_kept : w.names p ≡ u.names p
      own_kept = kept p (λ is. apart (sym is)) ∙ own_same

      folder_kept : (q : Elements) → Contains (folders_of p) q → w.names q ≡ dir
      folder_kept q has = kept q (λ is. off_folders (subst (Contains (folders_of p)) is has)) ∙ dirs.dirs q has

      above_own : (q : Elements) → q ≡ p → HasFolder w q
      above_own [] is = absurd (can.no_root (sym is))
      above_own (x ∷ up) is = elim (parent_in x up) [
        | inl root ↦ kept up (λ e. place_some (sym e ∙ root)) ∙ ap v.names root ∙ tree.root
        | inr has ↦ folder_kept up (Contains-append_left (ancestors p) (repo ∷ tmp ∷ []) up (subst (λ (l : Elements). Contains (ancestors l) up) is has))
      ]
        where
          place_some : place ≡ [] → ⊥
          place_some none = absurd (cc (sym staging.is ∙ none))

      -- the new file is another than the one that is there
      other : w.names place ≢ w.names p
      other same =
          let id = staged.ready.id in
          let own : v.names p ≡ file id = own_same ∙ sym own_kept ∙ sym same ∙ staged.ready.name in
          elim (s.held place id refl staged.ready.name) [
            | inl new ↦ tree.known p id (inl (sym own)) new
            | inr had ↦ absurd (cc (still_free, sym (ap v.names had.1) ∙ had.2))
          ]

      pub can_move : CanMove place p w
      can_move = record {
        bytes = bytes;
        ready = staged.ready;
        above = above_own p refl;
        no_dir = subst IsNoDir (sym own_kept) (free_no_dir p u can.entry);
        apart = apart;
        other = other;
      }

pub was_replaced : (p place : Elements) (bytes : List ℕ) {u v w : View} → IsStaging u place → IsReady place bytes v → WasMoved place p v w → MakesFile place bytes u v → SameFiles v w → WasReplaced p bytes u w
was_replaced p place bytes {u = u} {w = w} staging ready moved made same = record {
  new = moved.new bytes ready;
  settled = moved.settled;
  work = λ q is. ap w.names (one_staging is staging) ∙ moved.left;
  made = made_moved made moved.name moved.stood same;
}
