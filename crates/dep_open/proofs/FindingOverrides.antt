-- The overrides that are gathered at names.
use Rattle.std.proofs.Common.{◌≡◌, ◌≢◌, ◌⊎◌, inl, inr, ℕ, ◌+◌, ◌<◌, ◌≤◌, List, [], ◌∷◌, ◌++◌, length, take, get_or, Bool, true, false, Option, Some, None, refl, sym, ◌∙◌, ap, subst, Contains}
use Rattle.std.specs.Prelude.{if◌then◌else◌, String, string_bytes}
use Rattle.std.specs.List.Sorted.{IsStrictlySortedBy}
use Rattle.std.specs.Str.{bytes_eq}
use Rattle.std.specs.String.{string_cmp}
use Rattle.std.specs.BTreeMap.{insert_entry}
use Rattle.std.specs.Map.{keys_of, values_of}
use Rattle.std.proofs.lemmas.Bool.{cases_Bool, false≢true}
use Rattle.std.proofs.lemmas.List.{take_more, take_all}
use Rattle.std.proofs.lemmas.List.Elements.{Contains-append_left, Contains-push, Contains-push_cases}
use Rattle.fp_base.proofs.Options.{some_none, none_some}
use Rattle.fp_base.proofs.Lists.{in_none}
use Rattle.fp_base.proofs.Texts.{bytes_eq-true, bytes_eq-same}
use Rattle.fp_host.specs.Paths.{Elements, path_text, elements_of}
use Rattle.fp_host.specs.View.{View, IsTree}
use Rattle.fp_host.specs.Outcome.{Spot, Disk, gone, shows, spot_of}
use Rattle.fp_host.proofs.Settled.{at_tree}
use Rattle.fp_keyfile.specs.declared.group.Group.{Group}
use Rattle.fp_keyfile.specs.KeyFile.{file_of, is_good}
use Rattle.fp_keyfile.proofs.Read.{good_file_of}
use Rattle.fp_small.specs.Load.{Loads, loaded_of}
use Rattle.fp_small.specs.Naming.{ListsIn}
use Rattle.fp_small.specs.declared.loading.Loaded.{Loaded}
use Rattle.fp_small.specs.declared.loading.Loaded.TheVariants.{Bytes, Absent, TooLong, NotFile}
use Rattle.fp_small.specs.declared.state.OverrideRow.{OverrideRow}
use Rattle.dep_states.specs.Names.{overrides_folder, override_path}
use Rattle.fp_name.specs.Grammar.{is_override}
use Rattle.dep_states.specs.Shown.{Seen, away, bad, there, seen_of, small_most, if_file, named_override, override_at, override_seen, at_name, override_key}
use Rattle.dep_states.specs.After.{IsGoodLayer}
use Rattle.dep_states.proofs.Good.{named_good, ok_good, if_file_is, read_there}
use Rattle.dep_states.proofs.Single.{some_is}
use Rattle.dep_states.proofs.Total.{override_is, named_is}
use Rattle.dep_states.proofs.Away.{override_away}
use Rattle.dep_open.specs.declared.part.Part.{Part}
use Rattle.dep_open.specs.Parts.{lesser, seen_as, override_loaded, IsLeast, BadOverride, Puts, Adds, IsLayerOf, HoldsGoodLayers, AreOverrides, AreGoodLayers, AddsOverride, BadOverrideAt, FindsOverrides}
use Rattle.dep_open.proofs.Least.{least_both, least_to, override_back}
use Rattle.dep_open.proofs.Gathering.{found_put, keyed_put, each_put, ascending}
use Rattle.dep_open.proofs.SetUp.{file_seen}

away_there : {x : Seen OverrideRow} {row : OverrideRow} → x ≡ away → x ≡ there row → ⊥
away_there a b = cc (a, b)

away_bad : {x : Seen OverrideRow} → x ≡ away → x ≡ bad → ⊥
away_bad a b = cc (a, b)

bad_there : {x : Seen OverrideRow} {row : OverrideRow} → x ≡ bad → x ≡ there row → ⊥
bad_there a b = cc (a, b)

same_there : {x : Seen OverrideRow} {r s : OverrideRow} → x ≡ there r → x ≡ there s → r ≡ s
same_there a b = cc (a, b)

if_true : {A : Type 0} (b : Bool) (x y : A) {z : A} → b ≡ true → (if b then x else y) ≡ z → x ≡ z
if_true b x y t h = sym (ap (λ c. if c then x else y) t) ∙ h

if_false : {A : Type 0} (b : Bool) (x y : A) {z : A} → b ≡ false → (if b then x else y) ≡ z → y ≡ z
if_false b x y f h = sym (ap (λ c. if c then x else y) f) ∙ h

-- ---- one name more

module _ {Z : Type 0} (disk : Disk) (names : List (List ℕ)) (name : List ℕ) (es fs : List (String Z × OverrideRow)) (d e : Option Elements) (so_far : FindsOverrides disk names es d) where
  abbrev further : List (List ℕ)
  further = names ++ (name ∷ [])

  earlier : {x : List ℕ} → Contains names x → Contains further x
  earlier {x = x} has = Contains-append_left names (name ∷ []) x has

  which : (n : List ℕ) → Contains further n → Contains names n ⊎ (name ≡ n)
  which n has = Contains-push_cases names name n has

  nothing_more : (is_override name ≡ true → override_seen disk name ≡ away) → fs ≡ es → e ≡ d → FindsOverrides disk further fs e
  nothing_more none rows same = subst (λ l. FindsOverrides disk further l e) (sym rows) (subst (FindsOverrides disk further es) (sym same) (record {
    keyed = so_far.keyed;
    has = λ n good has row is. elim (which n has) [
      | inl before ↦ so_far.has n good before row is
      | inr here ↦ absurd (away_there (ap (override_seen disk) (sym here) ∙ none (ap is_override here ∙ good)) is)
    ];
    only = so_far.only;
    least = least_to (BadOverrideAt disk names) (BadOverrideAt disk further) (λ q h. (h.0, h.1, earlier h.2, h.3, h.4)) (λ q h. elim (which h.0 h.2) [
      | inl before ↦ (h.0, h.1, before, h.3, h.4)
      | inr here ↦ absurd (away_bad (ap (override_seen disk) (sym here) ∙ none (ap is_override here ∙ h.1)) h.3)
    ]) d so_far.least;
  }))

  module _ (good : is_override name ≡ true) where
    abbrev OnlyThis : Elements → Type 0
    OnlyThis q = q ≡ override_path name

    bad_more : override_seen disk name ≡ bad → fs ≡ es → e ≡ lesser d (Some (override_path name)) → FindsOverrides disk further fs e
    bad_more is rows damaged = subst (λ l. FindsOverrides disk further l e) (sym rows) (record {
      keyed = so_far.keyed;
      has = λ n of_n has row seen. elim (which n has) [
        | inl before ↦ so_far.has n of_n before row seen
        | inr here ↦ absurd (bad_there (ap (override_seen disk) (sym here) ∙ is) seen)
      ];
      only = so_far.only;
      least = subst (IsLeast (BadOverrideAt disk further)) (sym damaged) (least_to (λ q. BadOverrideAt disk names q ⊎ OnlyThis q) (BadOverrideAt disk further)
          (λ q h. elim h [ inl x ↦ (x.0, x.1, earlier x.2, x.3, x.4) | inr same ↦ (name, good, Contains-push names name, is, same) ])
          (λ q h. elim (which h.0 h.2) [ inl before ↦ inl (h.0, h.1, before, h.3, h.4) | inr here ↦ inr (h.4 ∙ ap override_path (sym here)) ])
          (lesser d (Some (override_path name)))
          (least_both (BadOverrideAt disk names) OnlyThis (λ q h. subst (λ x. elements_of (path_text x) ≡ x) (sym h.4) (override_back h.0 h.1)) (λ q h. subst (λ x. elements_of (path_text x) ≡ x) (sym h) (override_back name good))
          d (Some (override_path name)) so_far.least (refl, λ q h. inl h)));
    })

    row_more : (row : OverrideRow) → override_seen disk name ≡ there row → Puts name row es fs → e ≡ d → FindsOverrides disk further fs e
    row_more row is puts same = subst (λ l. FindsOverrides disk further l e) (sym puts.2) (subst (FindsOverrides disk further (insert_entry string_cmp es puts.0 row)) (sym same) (record {
      keyed = keyed_put override_key puts.0 row known es so_far.keyed;
      has = λ n of_n has other seen. elim (which n has) [
        | inl before ↦ put n of_n other seen (inl before)
        | inr here ↦ put n of_n other seen (inr (sym here))
      ];
      only = λ n other found. elim (cases_Bool (bytes_eq (override_key row) n)) [
        | inl t ↦
            let one : row ≡ other = some_is (if_true (bytes_eq (override_key row) n) (Some row) (at_name override_key (values_of es) n) t (sym (finds n) ∙ found)) in
            ap (override_seen disk) (sym (bytes_eq-true (override_key row) n t) ∙ named) ∙ is ∙ ap there one
        | inr f ↦ so_far.only n other (if_false (bytes_eq (override_key row) n) (Some row) (at_name override_key (values_of es) n) f (sym (finds n) ∙ found))
      ];
      least = least_to (BadOverrideAt disk names) (BadOverrideAt disk further) (λ q h. (h.0, h.1, earlier h.2, h.3, h.4)) (λ q h. elim (which h.0 h.2) [
        | inl before ↦ (h.0, h.1, before, h.3, h.4)
        | inr here ↦ absurd (bad_there h.3 (ap (override_seen disk) (sym here) ∙ is))
      ]) d so_far.least;
    }))
      where
        named : row.name ≡ name
        named = override_is disk name row is

        known : string_bytes puts.0 ≡ override_key row
        known = puts.1 ∙ sym named

        finds : (t : List ℕ) → at_name override_key (values_of (insert_entry string_cmp es puts.0 row)) t ≡ (if bytes_eq (override_key row) t then Some row else at_name override_key (values_of es) t)
        finds t = found_put override_key puts.0 row known es so_far.keyed t

        put_this : (n : List ℕ) (other : OverrideRow) → override_seen disk n ≡ there other → n ≡ name → at_name override_key (values_of (insert_entry string_cmp es puts.0 row)) n ≡ Some other
        put_this n other seen one =
            let text : n ≡ override_key row = one ∙ sym named in
            let same_row : row ≡ other = same_there is (sym (ap (override_seen disk) one) ∙ seen) in
            finds n ∙ ap (λ t. if bytes_eq (override_key row) t then Some row else at_name override_key (values_of es) t) text
            ∙ ap (λ b. if b then Some row else at_name override_key (values_of es) (override_key row)) (bytes_eq-same (override_key row)) ∙ ap Some same_row

        put : (n : List ℕ) → is_override n ≡ true → (other : OverrideRow) → override_seen disk n ≡ there other → Contains names n ⊎ (n ≡ name) → at_name override_key (values_of (insert_entry string_cmp es puts.0 row)) n ≡ Some other
        put n of_n other seen (inr one) = put_this n other seen one
        put n of_n other seen (inl before) = elim (cases_Bool (bytes_eq (override_key row) n)) [
          | inl t ↦ put_this n other seen (sym (bytes_eq-true (override_key row) n t) ∙ named)
          | inr f ↦ finds n ∙ ap (λ b. if b then Some row else at_name override_key (values_of es) n) f ∙ so_far.has n of_n before other seen
        ]

    seen_more : (s : Seen OverrideRow) → override_seen disk name ≡ s → Adds name (override_path name) s es d fs e → FindsOverrides disk further fs e
    seen_more away is adds = nothing_more (λ of_n. is) adds.0 adds.1
    seen_more bad is adds = bad_more is adds.0 adds.1
    seen_more (there row) is adds = row_more row is adds.0 adds.1

  layers_more : AddsOverride disk name es d fs e → FindsOverrides disk further fs e
  layers_more (inl none) = nothing_more (λ of_n. absurd (false≢true (sym none.0 ∙ of_n))) none.1 none.2
  layers_more (inr one) = seen_more one.0 (override_seen disk name) refl one.1

-- ---- along the names

pub layers_none : {Z : Type 0} (disk : Disk) (es : List (String Z × OverrideRow)) (d : Option Elements) → es ≡ [] → d ≡ None → FindsOverrides disk [] es d
layers_none disk es d none same = subst (λ l. FindsOverrides disk [] l d) (sym none) (subst (FindsOverrides disk [] []) (sym same) (record {
  keyed = tt;
  has = λ name good has. absurd (in_none name has);
  only = λ name row is. absurd (none_some is);
  least = λ q h. in_none h.0 h.2;
}))

pub layers_next : {Z : Type 0} (disk : Disk) (names : List (List ℕ)) (i : ℕ) (name : List ℕ) (es fs : List (String Z × OverrideRow)) (d e : Option Elements) → i < length names → name ≡ get_or names i name
    → FindsOverrides disk (take i names) es d → AddsOverride disk name es d fs e → FindsOverrides disk (take (i + 1) names) fs e
layers_next disk names i name es fs d e low is so_far adds =
    let took : take (i + 1) names ≡ take i names ++ (name ∷ []) = take_more names i name low ∙ ap (λ (f : List ℕ). take i names ++ (f ∷ [])) (sym is) in
    subst (λ (l : List (List ℕ)). FindsOverrides disk l fs e) (sym took) (layers_more disk (take i names) name es fs d e so_far adds)

-- at the end all were passed
pub whole_names : {Z : Type 0} (disk : Disk) (names : List (List ℕ)) (i : ℕ) (es : List (String Z × OverrideRow)) (d : Option Elements) → length names ≤ i → FindsOverrides disk (take i names) es d → FindsOverrides disk names es d
whole_names disk names i es d high finds = subst (λ (l : List (List ℕ)). FindsOverrides disk l es d) (take_all i names high) finds

-- ---- the rows are good

pub good_layers_none : {Z : Type 0} (es : List (String Z × OverrideRow)) → es ≡ [] → HoldsGoodLayers es
good_layers_none es none = subst HoldsGoodLayers (sym none) (record { keyed = tt; each = tt })

pub good_layer_adds : {Z : Type 0} (name : List ℕ) (path : Elements) (s : Seen OverrideRow) (es fs : List (String Z × OverrideRow)) (d e : Option Elements) → IsLayerOf name s → Adds name path s es d fs e → HoldsGoodLayers es → HoldsGoodLayers fs
good_layer_adds name path away es fs d e of adds holds_ = subst HoldsGoodLayers (sym adds.0) holds_
good_layer_adds name path bad es fs d e of adds holds_ = subst HoldsGoodLayers (sym adds.0) holds_
good_layer_adds name path (there row) es fs d e of adds holds_ =
    let known : string_bytes adds.0.0 ≡ override_key row = adds.0.1 ∙ sym of.1 in
    subst HoldsGoodLayers (sym adds.0.2) (record { keyed = keyed_put override_key adds.0.0 row known es holds_.keyed; each = each_put override_key adds.0.0 row known IsGoodLayer of.0 es holds_.each })

pub good_layers : {Z : Type 0} (es : List (String Z × OverrideRow)) (rows : List OverrideRow) → HoldsGoodLayers es → rows ≡ values_of es → IsStrictlySortedBy string_cmp (keys_of es) → AreGoodLayers rows
good_layers es rows holds_ same sorted = subst AreGoodLayers (sym same) (record { each = holds_.each; ascend = ascending override_key es holds_.keyed sorted })

file_good : (loaded : Loaded) (file : List Group) → seen_as (λ bytes. if_file (file_of bytes)) loaded ≡ there file → is_good file ≡ true
file_good Absent file e = absurd (cc e)
file_good (Bytes bytes) file e = ok_good (file_of bytes) file (if_file_is (file_of bytes) file (read_there (if_file (file_of bytes)) file e)) (good_file_of bytes)
file_good (TooLong size) file e = absurd (cc e)
file_good NotFile file e = absurd (cc e)

pub loaded_good : (name : List ℕ) (loaded : Loaded) → is_override name ≡ true → IsLayerOf name (override_loaded name loaded)
loaded_good name loaded good = go (override_loaded name loaded) refl
  where
    go : (s : Seen OverrideRow) → override_loaded name loaded ≡ s → IsLayerOf name s
    go away e = tt
    go bad e = tt
    go (there row) e = (named_good name (seen_as (λ bytes. if_file (file_of bytes)) loaded) row good (file_good loaded) e, named_is name (seen_as (λ bytes. if_file (file_of bytes)) loaded) row e)

-- ---- all of them

override_as : (name : List ℕ) (spot : Spot) → override_at name spot ≡ override_loaded name (loaded_of small_most spot)
unfolding override_at
override_as name spot = ap (named_override name) (file_seen small_most (λ bytes. if_file (file_of bytes)) spot)

-- what was loaded at the path is what stands there
pub override_there : {v : View} (name : List ℕ) (path : Elements) (loaded : Loaded) → is_override name ≡ true → path ≡ override_path name → Loads path small_most v loaded → override_seen (shows v) name ≡ override_loaded name loaded
override_there {v = v} name path loaded good at loads =
    ap (λ b. if b then override_at name (shows v (override_path name)) else away) good ∙ override_as name (shows v (override_path name))
    ∙ ap (override_loaded name) (sym (loads.is ∙ ap (λ q. loaded_of small_most (shows v q)) at))

away_if : (disk : Disk) (name : List ℕ) → disk (override_path name) ≡ gone → override_seen disk name ≡ away
away_if disk name none = ap (λ n. if is_override name then override_at name n else away) none ∙ both (is_override name)
  where
    both : (b : Bool) → (if b then override_at name gone else away) ≡ away
    both true = override_away name
    both false = refl

pub good_if : (disk : Disk) (name : List ℕ) (s : Seen OverrideRow) → override_seen disk name ≡ s → (s ≡ away → ⊥) → is_override name ≡ true
good_if disk name s e off = elim (cases_Bool (is_override name)) [ inl t ↦ t | inr f ↦ absurd (off (sym e ∙ ap (λ b. if b then override_at name (disk (override_path name)) else away) f)) ]

pub are_overrides : {Z : Type 0} {v : View} (names : List (List ℕ)) (es : List (String Z × OverrideRow)) (part : Part (List OverrideRow)) → IsTree v → FindsOverrides (shows v) names es part.damaged → part.found ≡ values_of es → ListsIn overrides_folder v names → AreOverrides (shows v) part
are_overrides {v = v} names es part tree finds same lists = record {
  least = least_to (BadOverrideAt (shows v) names) (BadOverride (shows v)) (λ q h. (h.0, h.3, h.4))
      (λ q h. (h.0, good_if (shows v) h.0 bad h.1 (λ e. cc e), seen_name h.0 (λ a. away_bad a h.1), h.1, h.2)) part.damaged finds.least;
  overrides = λ none name. by_row name none (at_name override_key (values_of es) name) refl ∙ ap (λ rows. seen_of (at_name override_key rows name)) (sym same);
}
  where
    seen_name : (name : List ℕ) → override_seen (shows v) name ≢ away → Contains names name
    seen_name name some = (lists.each name).1 (λ none. some (away_if (shows v) name (ap (spot_of v.files) (at_tree v tree (override_path name) ∙ none))))

    by_seen : (name : List ℕ) → part.damaged ≡ None → at_name override_key (values_of es) name ≡ None → (s : Seen OverrideRow) → override_seen (shows v) name ≡ s → s ≡ away
    by_seen name whole none away e = refl
    by_seen name whole none bad e =
        absurd (subst (IsLeast (BadOverrideAt (shows v) names)) whole finds.least (override_path name) (name, good_if (shows v) name bad e (λ x. cc x), seen_name name (λ a. away_bad a e), e, refl))
    by_seen name whole none (there row) e =
        absurd (some_none (sym (finds.has name (good_if (shows v) name (there row) e (λ x. cc x)) (seen_name name (λ a. away_there a e)) row e) ∙ none))

    by_row : (name : List ℕ) → part.damaged ≡ None → (o : Option OverrideRow) → at_name override_key (values_of es) name ≡ o → override_seen (shows v) name ≡ seen_of (at_name override_key (values_of es) name)
    by_row name whole None e = by_seen name whole e (override_seen (shows v) name) refl ∙ ap seen_of (sym e)
    by_row name whole (Some row) e = finds.only name row e ∙ ap seen_of (sym e)
