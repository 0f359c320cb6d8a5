-- An image shows at most one result.
use Rattle.std.proofs.Common.{◌≡◌, ◌≢◌, inl, inr, ℕ, List, [], ◌∷◌, map, true, Option, Some, None, Result, Ok, Err, refl, sym, ◌∙◌, ap, subst}
use Rattle.std.specs.Prelude.{if◌then◌else◌}
use Rattle.std.specs.Str.{bytes_eq}
use Rattle.std.proofs.lemmas.Bool.{cases_Bool, and_parts, both_ways}
use Rattle.fp_base.proofs.Options.{some_none, none_some}
use Rattle.fp_base.proofs.Texts.{bytes_eq-true, bytes_eq-same}
use Rattle.fp_host.specs.Paths.{Elements, path_text}
use Rattle.fp_host.specs.Outcome.{Spot, gone, Disk}
use Rattle.fp_host.specs.Reads.{comes_first, is_ascending}
use Rattle.fp_name.specs.Refs.{Ref, is_ref, ref_text}
use Rattle.fp_name.proofs.Refs.{ref_of-ref_text}
use Rattle.fp_small.specs.Order.{comes_before}
use Rattle.fp_small.proofs.Ordered.{before_on, not_before_itself, before_differs}
use Rattle.fp_small.specs.declared.state.State.{State}
use Rattle.dep_states.specs.Names.{config, remotes_conf, pins_file}
use Rattle.dep_states.specs.Shown.{Seen, away, bad, there, seen_of, settings_at, layout_one, remotes_at, pins_at, ref_seen, row_seen, at_name, ref_key, override_key, setup_of, Shows}
use Rattle.dep_states.specs.Damaged.{Damages, bad_config, bad_remotes, bad_pins, bad_ref, bad_override, IsFirstDamaged, Gives}

pub there_is : {A : Type 0} {x y : A} → there x ≡ there y → x ≡ y
there_is e = cc

pub some_is : {A : Type 0} {x y : A} → Some x ≡ Some y → x ≡ y
some_is e = cc

seen_is : {A : Type 0} (a b : Option A) → seen_of a ≡ seen_of b → a ≡ b
seen_is None None e = refl
seen_is None (Some b) e = absurd cc
seen_is (Some a) None e = absurd cc
seen_is (Some a) (Some b) e = ap Some (there_is e)

pub not_bad : {A : Type 0} (a : Option A) → seen_of a ≢ bad
not_bad None e = absurd cc
not_bad (Some a) e = absurd cc

-- ---- lists that ascend are told by what they have at each name

module _ {A : Type 0} (name : A → List ℕ) where
  -- what stands at a name that comes before all is none
  pub none_before : (x : List ℕ) (ys : List A) → comes_first x (map name ys) ≡ true → is_ascending (map name ys) ≡ true → at_name name ys x ≡ None
  none_before x [] b up = refl
  none_before x (y ∷ ys) b up =
      let u = and_parts (comes_first (name y) (map name ys)) (is_ascending (map name ys)) up in
      rw (before_differs x (name y) b) (none_before x ys (on x y ys b u.0) u.1)
    where
      on : (x : List ℕ) (y : A) (ys : List A) → comes_before x (name y) ≡ true → comes_first (name y) (map name ys) ≡ true → comes_first x (map name ys) ≡ true
      on x y [] b c = refl
      on x y (z ∷ zs) b c = before_on x (name y) (name z) b c

  pub at_head : (y : A) (ys : List A) → at_name name (y ∷ ys) (name y) ≡ Some y
  at_head y ys = rw (bytes_eq-same (name y)) refl

  -- what a tail has, the head comes before
  after_head : (x : List ℕ) (ys : List A) (a : A) → comes_first x (map name ys) ≡ true → is_ascending (map name ys) ≡ true → at_name name ys (name a) ≡ Some a → comes_before x (name a) ≡ true
  after_head x [] a b up e = absurd (none_some e)
  after_head x (y ∷ ys) a b up e =
      let u = and_parts (comes_first (name y) (map name ys)) (is_ascending (map name ys)) up in
      elim (cases_Bool (bytes_eq (name y) (name a))) [
        | inl t ↦ subst (λ z. comes_before x z ≡ true) (bytes_eq-true (name y) (name a) t) b
        | inr f ↦ before_on x (name y) (name a) b (after_head (name y) ys a u.0 u.1 (rw f at e))
      ]

  same_head : (x y : A) (xs ys : List A) → is_ascending (map name (x ∷ xs)) ≡ true → is_ascending (map name (y ∷ ys)) ≡ true
      → at_name name (y ∷ ys) (name x) ≡ Some x → at_name name (x ∷ xs) (name y) ≡ Some y → x ≡ y
  same_head x y xs ys upx upy ex ey =
      let ux = and_parts (comes_first (name x) (map name xs)) (is_ascending (map name xs)) upx in
      let uy = and_parts (comes_first (name y) (map name ys)) (is_ascending (map name ys)) upy in
      elim (cases_Bool (bytes_eq (name y) (name x))) [
        | inl t ↦ sym (some_is (rw t at ex))
        | inr f ↦ elim (cases_Bool (bytes_eq (name x) (name y))) [
          | inl t ↦ some_is (rw t at ey)
          | inr g ↦ absurd (both_ways (comes_before (name x) (name x)) (not_before_itself (name x))
              (before_on (name x) (name y) (name x) (after_head (name x) xs y ux.0 ux.1 (rw g at ey)) (after_head (name y) ys x uy.0 uy.1 (rw f at ex))))
        ]
      ]

  -- without the head
  tail_at : (x : A) (xs : List A) (t : List ℕ) → is_ascending (map name (x ∷ xs)) ≡ true → at_name name xs t ≡ (if bytes_eq (name x) t then None else at_name name (x ∷ xs) t)
  tail_at x xs t up =
      let u = and_parts (comes_first (name x) (map name xs)) (is_ascending (map name xs)) up in
      elim (cases_Bool (bytes_eq (name x) t)) [
        | inl e ↦ rw e (subst (λ z. at_name name xs z ≡ None) (bytes_eq-true (name x) t e) (none_before (name x) xs u.0 u.1))
        | inr f ↦ rw f refl
      ]

  pub same_list : (xs ys : List A) → is_ascending (map name xs) ≡ true → is_ascending (map name ys) ≡ true → ((t : List ℕ) → at_name name xs t ≡ at_name name ys t) → xs ≡ ys
  same_list [] [] upx upy h = refl
  same_list [] (y ∷ ys) upx upy h = absurd (none_some (h (name y) ∙ at_head y ys))
  same_list (x ∷ xs) [] upx upy h = absurd (some_none (sym (at_head x xs) ∙ h (name x)))
  same_list (x ∷ xs) (y ∷ ys) upx upy h =
      let head : x ≡ y = same_head x y xs ys upx upy (sym (h (name x)) ∙ at_head x xs) (h (name y) ∙ at_head y ys) in
      let ux = and_parts (comes_first (name x) (map name xs)) (is_ascending (map name xs)) upx in
      let uy = and_parts (comes_first (name y) (map name ys)) (is_ascending (map name ys)) upy in
      let tail : xs ≡ ys = same_list xs ys ux.1 uy.1 (λ t.
      tail_at x xs t upx ∙ ap (λ (o : Option A). if bytes_eq (name x) t then None else o) (h t) ∙ ap (λ (z : A). if bytes_eq (name z) t then None else at_name name (y ∷ ys) t) head ∙ sym (tail_at y ys t upy)) in
      ap (λ (z : A). z ∷ xs) head ∙ ap (λ (zs : List A). y ∷ zs) tail

-- ---- at most one state

pub one_state : (disk : Disk) (s t : State) → Shows disk s → Shows disk t → s ≡ t
one_state disk s t a b =
    let set : setup_of s ≡ setup_of t = there_is (sym a.settings ∙ b.settings) in
    let refs : s.refs ≡ t.refs = same_list ref_key s.refs t.refs a.refs_ascend b.refs_ascend (λ text. seen_is _ _ (sym (a.refs text) ∙ b.refs text)) in
    let overrides : s.overrides ≡ t.overrides = same_list override_key s.overrides t.overrides a.overrides_ascend b.overrides_ascend (λ name. seen_is _ _ (sym (a.overrides name) ∙ b.overrides name)) in
    (λ k. record { layout = (set k).layout; refs = refs k; remotes = (set k).settings.remotes; pins = (set k).settings.pins; overrides = overrides k })

-- ---- what is damaged shows no state

away_bad : {A : Type 0} {x : Seen A} → away ≡ x → x ≡ bad → ⊥
away_bad e f = cc (e, f)

bad_there : {A : Type 0} {x : A} → bad ≡ there x → ⊥
bad_there e = cc

pub layout_bad_first : (r : Seen _) (q : Seen _) → r ≡ bad → layout_one r q ≡ bad
layout_bad_first r q e = subst (λ z. layout_one z q ≡ bad) (sym e) refl

pub layout_bad_second : (r : Seen _) (q : Seen _) → q ≡ bad → layout_one r q ≡ bad
layout_bad_second away q e = subst (λ z. layout_one away z ≡ bad) (sym e) refl
layout_bad_second bad q e = refl
layout_bad_second (there x) q e = subst (λ z. layout_one (there x) z ≡ bad) (sym e) refl

pub in_layout_one : (c r q : Spot) → c ≡ gone → settings_at c r q ≡ layout_one (remotes_at r) (pins_at q)
in_layout_one c r q e = ap (λ z. settings_at z r q) e

pub ref_if_bad : (disk : Disk) (name : Ref) → ref_seen disk name ≡ bad → is_ref name ≡ true
ref_if_bad disk name e = elim (cases_Bool (is_ref name)) [ inl t ↦ t | inr f ↦ absurd (away_bad refl (rw f at e)) ]

pub damaged_shows_none : (disk : Disk) (p : Elements) (s : State) → Damages disk p → Shows disk s → ⊥
damaged_shows_none disk p s (bad_config is e at) a = bad_there (sym e ∙ a.settings)
damaged_shows_none disk p s (bad_remotes none e at) a =
    bad_there (sym (in_layout_one (disk config) (disk remotes_conf) (disk pins_file) none ∙ layout_bad_first (remotes_at (disk remotes_conf)) (pins_at (disk pins_file)) e) ∙ a.settings)
damaged_shows_none disk p s (bad_pins none e at) a =
    bad_there (sym (in_layout_one (disk config) (disk remotes_conf) (disk pins_file) none ∙ layout_bad_second (remotes_at (disk remotes_conf)) (pins_at (disk pins_file)) e) ∙ a.settings)
damaged_shows_none disk p s (bad_ref name e at) a =
    let back = ref_of-ref_text name (ref_if_bad disk name e) in
    not_bad (at_name ref_key s.refs (ref_text name)) (sym (a.refs (ref_text name)) ∙ ap (row_seen disk) back ∙ e)
damaged_shows_none disk p s (bad_override name e at) a = not_bad (at_name override_key s.overrides name) (sym (a.overrides name) ∙ e)

-- ---- at most one result

one_path : (disk : Disk) (p q : Elements) → IsFirstDamaged disk p → IsFirstDamaged disk q → p ≡ q
one_path disk p q a b = elim (a.first q b.damages) [
  | inl e ↦ sym e
  | inr before ↦ elim (b.first p a.damages) [
    | inl e ↦ e
    | inr remainder ↦ absurd (both_ways (comes_before (path_text p) (path_text p)) (not_before_itself (path_text p)) (before_on (path_text p) (path_text q) (path_text p) before remainder))
  ]
]

pub one_result : (disk : Disk) (a b : Result State Elements) → Gives disk a → Gives disk b → a ≡ b
one_result disk (Ok s) (Ok t) a b = ap Ok (one_state disk s t a b)
one_result disk (Ok s) (Err p) a b = absurd (damaged_shows_none disk p s b.damages a)
one_result disk (Err p) (Ok s) a b = absurd (damaged_shows_none disk p s a.damages b)
one_result disk (Err p) (Err q) a b = ap Err (one_path disk p q a b)
