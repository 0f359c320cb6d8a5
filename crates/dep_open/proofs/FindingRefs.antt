-- The refs that are gathered at branch directories.
use Rattle.std.proofs.Common.{◌≡◌, ◌≢◌, ◌⊎◌, inl, inr, ℕ, ◌+◌, ◌<◌, ◌≤◌, List, [], ◌∷◌, ◌++◌, length, take, get_or, Bool, true, false, Option, Some, None, refl, sym, ◌∙◌, ap, subst, Contains, codes}
use Rattle.std.specs.Prelude.{if◌then◌else◌, String, string_bytes}
use Rattle.std.specs.List.Sorted.{IsStrictlySortedBy}
use Rattle.std.specs.Str.{bytes_eq}
use Rattle.std.specs.String.{string_cmp}
use Rattle.std.specs.BTreeMap.{insert_entry}
use Rattle.std.specs.Map.{keys_of, values_of}
use Rattle.std.proofs.lemmas.Bool.{cases_Bool}
use Rattle.std.proofs.lemmas.List.{take_more, take_all}
use Rattle.std.proofs.lemmas.List.Elements.{Contains-append_left, Contains-push, Contains-push_cases}
use Rattle.fp_base.proofs.Options.{some_none, none_some}
use Rattle.fp_base.proofs.Lists.{in_none}
use Rattle.fp_base.proofs.Texts.{bytes_eq-true, bytes_eq-same}
use Rattle.fp_host.specs.Paths.{Elements, absent, path_text, elements_of}
use Rattle.fp_host.specs.View.{View, IsTree}
use Rattle.fp_host.specs.Outcome.{Disk, gone, shows, spot_of}
use Rattle.fp_host.proofs.Separate.{absent_cases}
use Rattle.fp_host.proofs.Settled.{at_tree}
use Rattle.fp_name.specs.Refs.{Ref, is_ref, ref_of, ref_text}
use Rattle.fp_name.proofs.Refs.{ref_of-ref_text, ref_of-some}
use Rattle.fp_small.specs.declared.state.RefRow.{RefRow}
use Rattle.dep_states.specs.Branches.{AreBranches}
use Rattle.dep_states.specs.Names.{active, branch_dir}
use Rattle.dep_states.specs.Shown.{Seen, away, bad, there, seen_of, by_active, ref_seen, row_seen, at_name, ref_key}
use Rattle.dep_states.specs.After.{IsGoodRow}
use Rattle.dep_states.proofs.Single.{some_is, ref_if_bad}
use Rattle.dep_states.proofs.Total.{ref_is}
use Rattle.dep_states.proofs.BranchPaths.{branch_same, branch_level}
use Rattle.dep_open.specs.declared.part.Part.{Part}
use Rattle.dep_open.specs.Parts.{lesser, IsLeast, BadRef, Puts, Adds, IsRowOf, HoldsGoodRows, AreRefs, AreGoodRows, AddsRef, BadRefAt, FindsRefs}
use Rattle.dep_open.proofs.Least.{least_both, least_to, active_back}
use Rattle.dep_open.proofs.Gathering.{found_put, keyed_put, each_put, ascending}

-- no ref has a path that is none's
none_here : (p : Elements) (name : Ref) → ref_of (path_text p) ≡ None → is_ref name ≡ true → p ≡ branch_dir name → ⊥
none_here p name none good at = some_none (sym (ref_of-ref_text name good) ∙ sym (ap (λ q. ref_of (path_text q)) at) ∙ none)

-- ---- one place more

module _ {Z : Type 0} (disk : Disk) (paths : List Elements) (p : Elements) (es fs : List (String Z × RefRow)) (d e : Option Elements) (so_far : FindsRefs disk paths es d) where
  abbrev further : List Elements
  further = paths ++ (p ∷ [])

  -- the ref of an earlier path, or of this one
  which : (name : Ref) → Contains further (branch_dir name) → Contains paths (branch_dir name) ⊎ (p ≡ branch_dir name)
  which name has = Contains-push_cases paths p (branch_dir name) has

  earlier : {x : Elements} → Contains paths x → Contains further x
  earlier {x = x} has = Contains-append_left paths (p ∷ []) x has

  -- no row and no damaged path comes with this path
  nothing_more : ((name : Ref) → is_ref name ≡ true → p ≡ branch_dir name → ref_seen disk name ≡ away) → fs ≡ es → e ≡ d → FindsRefs disk further fs e
  nothing_more none rows same = subst (λ l. FindsRefs disk further l e) (sym rows) (subst (FindsRefs disk further es) (sym same) (record {
    keyed = so_far.keyed;
    has = λ name good has row is. elim (which name has) [
      | inl before ↦ so_far.has name good before row is
      | inr here ↦ absurd (away_there (none name good here) is)
    ];
    only = so_far.only;
    least = least_to (BadRefAt disk paths) (BadRefAt disk further) (λ q h. (h.0, h.1, earlier h.2, h.3, h.4)) (λ q h. elim (which h.0 h.2) [
      | inl before ↦ (h.0, h.1, before, h.3, h.4)
      | inr here ↦ absurd (away_bad (none h.0 h.1 here) h.3)
    ]) d so_far.least;
  }))
    where
      away_there : {x : Seen RefRow} {row : RefRow} → x ≡ away → x ≡ there row → ⊥
      away_there a b = cc (a, b)

      away_bad : {x : Seen RefRow} → x ≡ away → x ≡ bad → ⊥
      away_bad a b = cc (a, b)

  module _ (name : Ref) (at : p ≡ branch_dir name) (good : is_ref name ≡ true) where
    only_one : (n : Ref) → p ≡ branch_dir n → n ≡ name
    only_one n here = branch_same n name (sym here ∙ at)

    abbrev OnlyThis : Elements → Type 0
    OnlyThis q = q ≡ active name

    bad_more : ref_seen disk name ≡ bad → fs ≡ es → e ≡ lesser d (Some (active name)) → FindsRefs disk further fs e
    bad_more is rows damaged = subst (λ l. FindsRefs disk further l e) (sym rows) (record {
      keyed = so_far.keyed;
      has = λ n of_n has row seen. elim (which n has) [
        | inl before ↦ so_far.has n of_n before row seen
        | inr here ↦ absurd (bad_there_ (ap (ref_seen disk) (only_one n here) ∙ is) seen)
      ];
      only = so_far.only;
      least = subst (IsLeast (BadRefAt disk further)) (sym damaged) (least_to (λ q. BadRefAt disk paths q ⊎ OnlyThis q) (BadRefAt disk further)
          (λ q h. elim h [ inl x ↦ (x.0, x.1, earlier x.2, x.3, x.4) | inr same ↦ (name, good, subst (Contains further) at (Contains-push paths p), is, same) ])
          (λ q h. elim (which h.0 h.2) [ inl before ↦ inl (h.0, h.1, before, h.3, h.4) | inr here ↦ inr (h.4 ∙ ap active (only_one h.0 here)) ])
          (lesser d (Some (active name)))
          (least_both (BadRefAt disk paths) OnlyThis (λ q h. subst (λ x. elements_of (path_text x) ≡ x) (sym h.4) (active_back h.0 h.1)) (λ q h. subst (λ x. elements_of (path_text x) ≡ x) (sym h) (active_back name good))
          d (Some (active name)) so_far.least (refl, λ q h. inl h)));
    })
      where
        bad_there_ : {x : Seen RefRow} {row : RefRow} → x ≡ bad → x ≡ there row → ⊥
        bad_there_ a b = cc (a, b)

    row_more : (row : RefRow) → ref_seen disk name ≡ there row → Puts (ref_text name) row es fs → e ≡ d → FindsRefs disk further fs e
    row_more row is puts same = subst (λ l. FindsRefs disk further l e) (sym puts.2) (subst (FindsRefs disk further (insert_entry string_cmp es puts.0 row)) (sym same) (record {
      keyed = keyed_put ref_key puts.0 row known es so_far.keyed;
      has = λ n of_n has other seen. elim (which n has) [
        | inl before ↦ put n of_n other seen (inl before)
        | inr here ↦ put n of_n other seen (inr (only_one n here))
      ];
      only = λ text other found. elim (cases_Bool (bytes_eq (ref_key row) text)) [
        | inl t ↦
            let one : row ≡ other = some_is (if_true (bytes_eq (ref_key row) text) (Some row) (at_name ref_key (values_of es) text) t (sym (finds text) ∙ found)) in
            ap (λ t. row_seen disk (ref_of t)) (sym (bytes_eq-true (ref_key row) text t)) ∙ ap (λ n. row_seen disk (ref_of (ref_text n))) named ∙ ap (row_seen disk) (ref_of-ref_text name good) ∙ is ∙ ap there one
        | inr f ↦ so_far.only text other (if_false (bytes_eq (ref_key row) text) (Some row) (at_name ref_key (values_of es) text) f (sym (finds text) ∙ found))
      ];
      least = least_to (BadRefAt disk paths) (BadRefAt disk further) (λ q h. (h.0, h.1, earlier h.2, h.3, h.4)) (λ q h. elim (which h.0 h.2) [
        | inl before ↦ (h.0, h.1, before, h.3, h.4)
        | inr here ↦ absurd (bad_there_ h.3 (ap (ref_seen disk) (only_one h.0 here) ∙ is))
      ]) d so_far.least;
    }))
      where
        named : row.name ≡ name
        named = (ref_is disk name row is).1

        known : string_bytes puts.0 ≡ ref_key row
        known = puts.1 ∙ ap ref_text (sym named)

        finds : (t : List ℕ) → at_name ref_key (values_of (insert_entry string_cmp es puts.0 row)) t ≡ (if bytes_eq (ref_key row) t then Some row else at_name ref_key (values_of es) t)
        finds t = found_put ref_key puts.0 row known es so_far.keyed t

        bad_there_ : {x : Seen RefRow} {r : RefRow} → x ≡ bad → x ≡ there r → ⊥
        bad_there_ a b = cc (a, b)

        if_true : {A : Type 0} (b : Bool) (x y : A) {z : A} → b ≡ true → (if b then x else y) ≡ z → x ≡ z
        if_true b x y t h = sym (ap (λ c. if c then x else y) t) ∙ h

        if_false : {A : Type 0} (b : Bool) (x y : A) {z : A} → b ≡ false → (if b then x else y) ≡ z → y ≡ z
        if_false b x y f h = sym (ap (λ c. if c then x else y) f) ∙ h

        same_there : {x : Seen RefRow} {r s : RefRow} → x ≡ there r → x ≡ there s → r ≡ s
        same_there a b = cc (a, b)

        put_this : (n : Ref) (other : RefRow) → ref_seen disk n ≡ there other → n ≡ name → at_name ref_key (values_of (insert_entry string_cmp es puts.0 row)) (ref_text n) ≡ Some other
        put_this n other seen one =
            let text : ref_text n ≡ ref_key row = ap ref_text (one ∙ sym named) in
            let same : row ≡ other = same_there is (sym (ap (ref_seen disk) one) ∙ seen) in
            finds (ref_text n) ∙ ap (λ t. if bytes_eq (ref_key row) t then Some row else at_name ref_key (values_of es) t) text
            ∙ ap (λ b. if b then Some row else at_name ref_key (values_of es) (ref_key row)) (bytes_eq-same (ref_key row)) ∙ ap Some same

        put : (n : Ref) → is_ref n ≡ true → (other : RefRow) → ref_seen disk n ≡ there other → Contains paths (branch_dir n) ⊎ (n ≡ name) → at_name ref_key (values_of (insert_entry string_cmp es puts.0 row)) (ref_text n) ≡ Some other
        put n of_n other seen (inr one) = put_this n other seen one
        put n of_n other seen (inl before) = elim (cases_Bool (bytes_eq (ref_key row) (ref_text n))) [
          | inl t ↦
              let one : n ≡ name = some_is (sym (ref_of-ref_text n of_n) ∙ ap ref_of (sym (bytes_eq-true (ref_key row) (ref_text n) t) ∙ ap ref_text named) ∙ ref_of-ref_text name good) in
              put_this n other seen one
          | inr f ↦ finds (ref_text n) ∙ ap (λ b. if b then Some row else at_name ref_key (values_of es) (ref_text n)) f ∙ so_far.has n of_n before other seen
        ]

    seen_more : (s : Seen RefRow) → ref_seen disk name ≡ s → Adds (ref_text name) (active name) s es d fs e → FindsRefs disk further fs e
    seen_more away is adds = nothing_more (λ n of_n here. ap (ref_seen disk) (only_one n here) ∙ is) adds.0 adds.1
    seen_more bad is adds = bad_more is adds.0 adds.1
    seen_more (there row) is adds = row_more row is adds.0 adds.1

  finds_more : AddsRef disk p es d fs e → FindsRefs disk further fs e
  finds_more (inl none) = nothing_more (λ n of_n here. absurd (none_here p n none.0 of_n here)) none.1 none.2
  finds_more (inr one) = seen_more one.0 one.1 one.2 (ref_seen disk one.0) refl one.3

-- ---- along the paths

pub finds_none : {Z : Type 0} (disk : Disk) (es : List (String Z × RefRow)) (d : Option Elements) → es ≡ [] → d ≡ None → FindsRefs disk [] es d
finds_none disk es d none same = subst (λ l. FindsRefs disk [] l d) (sym none) (subst (FindsRefs disk [] []) (sym same) (record {
  keyed = tt;
  has = λ name good has. absurd (in_none (branch_dir name) has);
  only = λ text row is. absurd (none_some is);
  least = λ q h. in_none (branch_dir h.0) h.2;
}))

pub finds_next : {Z : Type 0} (disk : Disk) (paths : List Elements) (i : ℕ) (p : Elements) (es fs : List (String Z × RefRow)) (d e : Option Elements) → i < length paths → p ≡ get_or paths i p
    → FindsRefs disk (take i paths) es d → AddsRef disk p es d fs e → FindsRefs disk (take (i + 1) paths) fs e
finds_next disk paths i p es fs d e low is so_far adds =
    let took : take (i + 1) paths ≡ take i paths ++ (p ∷ []) = take_more paths i p low ∙ ap (λ (f : Elements). take i paths ++ (f ∷ [])) (sym is) in
    subst (λ (l : List Elements). FindsRefs disk l fs e) (sym took) (finds_more disk (take i paths) p es fs d e so_far adds)

-- at the end all were passed
pub whole_list : {Z : Type 0} (disk : Disk) (paths : List Elements) (i : ℕ) (es : List (String Z × RefRow)) (d : Option Elements) → length paths ≤ i → FindsRefs disk (take i paths) es d → FindsRefs disk paths es d
whole_list disk paths i es d high finds = subst (λ (l : List Elements). FindsRefs disk l es d) (take_all i paths high) finds

-- ---- the rows are good

pub good_none : {Z : Type 0} (es : List (String Z × RefRow)) → es ≡ [] → HoldsGoodRows es
good_none es none = subst HoldsGoodRows (sym none) (record { keyed = tt; each = tt })

pub good_adds : {Z : Type 0} (name : Ref) (path : Elements) (s : Seen RefRow) (es fs : List (String Z × RefRow)) (d e : Option Elements) → IsRowOf name s → Adds (ref_text name) path s es d fs e → HoldsGoodRows es → HoldsGoodRows fs
good_adds name path away es fs d e of adds holds_ = subst HoldsGoodRows (sym adds.0) holds_
good_adds name path bad es fs d e of adds holds_ = subst HoldsGoodRows (sym adds.0) holds_
good_adds name path (there row) es fs d e of adds holds_ =
    let known : string_bytes adds.0.0 ≡ ref_key row = adds.0.1 ∙ ap ref_text (sym of.1) in
    subst HoldsGoodRows (sym adds.0.2) (record { keyed = keyed_put ref_key adds.0.0 row known es holds_.keyed; each = each_put ref_key adds.0.0 row known IsGoodRow of.0 es holds_.each })

pub good_rows : {Z : Type 0} (es : List (String Z × RefRow)) (rows : List RefRow) → HoldsGoodRows es → rows ≡ values_of es → IsStrictlySortedBy string_cmp (keys_of es) → AreGoodRows rows
good_rows es rows holds_ same sorted = subst AreGoodRows (sym same) (record { each = holds_.each; ascend = ascending ref_key es holds_.keyed sorted })

-- ---- all of them

gone_if : {v : View} → IsTree v → (q : Elements) → v.names q ≡ absent → shows v q ≡ gone
gone_if {v = v} tree q none = ap (spot_of v.files) (at_tree v tree q ∙ none)

away_if : (disk : Disk) (name : Ref) → disk (active name) ≡ gone → ref_seen disk name ≡ away
away_if disk name none = ap (λ n. if is_ref name then by_active disk name n else away) none ∙ both (is_ref name)
  where
    both : (b : Bool) → if◌then◌else◌ {A = Seen RefRow} b away away ≡ away
    both true = refl
    both false = refl

pub are_refs : {Z : Type 0} {v : View} (paths : List Elements) (es : List (String Z × RefRow)) (part : Part (List RefRow)) → IsTree v → FindsRefs (shows v) paths es part.damaged → part.found ≡ values_of es → AreBranches v paths → AreRefs (shows v) part
are_refs {v = v} paths es part tree finds same are = record {
  least = least_to (BadRefAt (shows v) paths) (BadRef (shows v)) (λ q h. (h.0, h.3, h.4)) (λ q h. (h.0, ref_if_bad (shows v) h.0 h.1, seen_branch h.0 (λ e. bad_away h.1 e), h.1, h.2)) part.damaged finds.least;
  refs = λ none text. by_row text none (at_name ref_key (values_of es) text) refl ∙ ap (λ rows. seen_of (at_name ref_key rows text)) (sym same);
}
  where
    bad_away : {x : Seen RefRow} → x ≡ bad → x ≡ away → ⊥
    bad_away a b = cc (a, b)

    there_away : {x : Seen RefRow} {row : RefRow} → x ≡ there row → x ≡ away → ⊥
    there_away a b = cc (a, b)

    seen_branch : (name : Ref) → ref_seen (shows v) name ≢ away → Contains paths (branch_dir name)
    seen_branch name some = (are.each (branch_dir name)).1 (elim (absent_cases (v.names (active name))) [
      | inl none ↦ absurd (some (away_if (shows v) name (gone_if tree (active name) none)))
      | inr here ↦ branch_level tree (codes "active") name here
    ])

    by_seen : (name : Ref) → is_ref name ≡ true → part.damaged ≡ None → at_name ref_key (values_of es) (ref_text name) ≡ None → (s : Seen RefRow) → ref_seen (shows v) name ≡ s → s ≡ away
    by_seen name good whole none away e = refl
    by_seen name good whole none bad e = absurd (subst (IsLeast (BadRefAt (shows v) paths)) whole finds.least (active name) (name, good, seen_branch name (λ a. bad_away e a), e, refl))
    by_seen name good whole none (there row) e = absurd (some_none (sym (finds.has name good (seen_branch name (λ a. there_away e a)) row e) ∙ none))

    by_ref : (text : List ℕ) → part.damaged ≡ None → at_name ref_key (values_of es) text ≡ None → (o : Option Ref) → ref_of text ≡ o → row_seen (shows v) o ≡ away
    by_ref text whole none None e = refl
    by_ref text whole none (Some name) e =
        let back = ref_of-some text name e in
        by_seen name back.1 whole (ap (at_name ref_key (values_of es)) (sym back.0) ∙ none) (ref_seen (shows v) name) refl

    by_row : (text : List ℕ) → part.damaged ≡ None → (o : Option RefRow) → at_name ref_key (values_of es) text ≡ o → row_seen (shows v) (ref_of text) ≡ seen_of (at_name ref_key (values_of es) text)
    by_row text whole None e = by_ref text whole e (ref_of text) refl ∙ ap seen_of (sym e)
    by_row text whole (Some row) e = finds.only text row e ∙ ap seen_of (sym e)
