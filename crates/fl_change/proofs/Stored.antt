-- The objects of an installation that is settled are those that its commits use.
use Rattle.std.proofs.Common.{◌≡◌, ◌≢◌, ◌⊎◌, inl, inr, ℕ, ◌<◌, ◌≤◌, ◌/◌, ◌%◌, eqb, List, [], ◌∷◌, ◌++◌, take, drop, get_or, length, Bool, true, false, Option, Some, None, if◌then◌else◌, ⊎_elim, refl, sym, ◌∙◌, ap, subst, arith}
use Rattle.std.specs.Prelude.{codes}
use Rattle.std.specs.List.{list_all}
use Rattle.std.proofs.lemmas.Bool.{and_parts, cases_lt, ltb-true}
use Rattle.std.proofs.lemmas.List.{append_cancel_right, take-append-drop, get_or_past}
use Rattle.std.proofs.lemmas.Option.{same_Some, none-some}
use Rattle.fp_host.specs.Paths.{Elements}
use Rattle.fp_host.specs.View.{View}
use Rattle.fp_host.specs.Outcome.{Disk, gone, shows}
use Rattle.fp_host.proofs.Shown.{now_left, gone_cases}
use Rattle.fp_base.specs.declared.object.ObjKind.{ObjKind}
use Rattle.fp_name.specs.Hex.{is_byte, is_digest, digit, digit_value, hex}
use Rattle.fp_name.proofs.HexTexts.{digit_back}
use Rattle.fp_small.specs.Places.{repo}
use Rattle.fp_small.specs.declared.state.State.{State}
use Rattle.ost_model.specs.declared.object.Object.{Object}
use Rattle.ost_model.specs.Objects.{Have, object_path, object_at, name_fault, dir_mode_fault, store}
use Rattle.fp_base.specs.Objects.{kind_text}
use Rattle.ost_model.specs.Order.{Place, In, order}
use Rattle.ost_model.specs.Stores.{IsObject}
use Rattle.ost_model.proofs.Places.{faultless, or_none}
use Rattle.ost_model.proofs.Members.{in_contains}
use Rattle.dep_states.specs.Sound.{Opens}
use Rattle.dep_states.proofs.Usual.{sound_store}
use Rattle.dep_tidy.proofs.RowsKept.{kept_both}
use Rattle.dep_tidy.proofs.Pruned.{row_keeps, keeps_listed, kinds_same}
use Rattle.fl_change.specs.World.{kept_commits, is_used, used_of}
use Rattle.fl_change.specs.Performs.{Rests}
use Rattle.fl_change.proofs.Worlds.{contains_in, used_place}

-- ---- names say digests

-- what is no digit's number has none
no_digit : (n : ℕ) → 16 ≤ n → digit_value (digit n) ≡ None
no_digit n high = ap digit_value (get_or_past (codes "0123456789abcdef") n 0 high)

same_number : (n m : ℕ) → m < 16 → digit n ≡ digit m → n ≡ m
same_number n m small same =
    ⊎_elim (λ low. same_Some n m (sym (digit_back n low) ∙ ap digit_value same ∙ digit_back m small))
    (λ high. absurd (none-some m (sym (no_digit n high) ∙ ap digit_value same ∙ digit_back m small)))
    (cases_lt n 16)

cons_same : {x y : ℕ} {xs ys : List ℕ} → x ≡ y → xs ≡ ys → x ∷ xs ≡ y ∷ ys
cons_same e f = λ i. e i ∷ f i

pub hex_same : (d e : List ℕ) → list_all is_byte e ≡ true → hex d ≡ hex e → d ≡ e
unfolding hex
hex_same [] [] bytes same = refl
hex_same [] (y ∷ ys) bytes same = absurd (cc same)
hex_same (x ∷ xs) [] bytes same = absurd (cc same)
hex_same (x ∷ xs) (y ∷ ys) bytes same =
    let both = and_parts (is_byte y) (list_all is_byte ys) bytes in
    let small : y < 256 = ltb-true y 256 both.0 in
    let high : digit (x / 16) ≡ digit (y / 16) = ap (λ (l : List ℕ). get_or l 0 0) same in
    let low : digit (x % 16) ≡ digit (y % 16) = ap (λ (l : List ℕ). get_or l 1 0) same in
    let rest : hex xs ≡ hex ys = ap (drop 2) same in
    let upper : x / 16 ≡ y / 16 = same_number (x / 16) (y / 16) (omega arith) high in
    let lower : x % 16 ≡ y % 16 = same_number (x % 16) (y % 16) (omega arith) low in
    cons_same (omega (arith, upper, lower)) (hex_same xs ys both.1 rest)

-- an object's name says its digest, and its kind
name_is : (d e : List ℕ) (kind m : ObjKind) → is_digest e ≡ true → object_path repo d kind ≡ object_path repo e m → (d ≡ e) × (kind ≡ m)
name_is d e kind m digits same =
    let kinds_are : kind ≡ m = kinds_same d e kind m same in
    let last : drop 2 (hex d) ++ (codes "." ++ kind_text kind) ≡ drop 2 (hex e) ++ (codes "." ++ kind_text m) = ap (λ (p : Elements). get_or p 0 []) same in
    let after : drop 2 (hex d) ≡ drop 2 (hex e) = append_cancel_right (drop 2 (hex d)) (drop 2 (hex e)) (codes "." ++ kind_text kind) (last ∙ ap (λ (k : ObjKind). drop 2 (hex e) ++ (codes "." ++ kind_text k)) (sym kinds_are)) in
    let first : take 2 (hex d) ≡ take 2 (hex e) = ap (λ (p : Elements). get_or p 1 []) same in
    let texts : hex d ≡ hex e =
    sym (take-append-drop 2 (hex d)) ∙ ap (λ (t : List ℕ). t ++ drop 2 (hex d)) first ∙ ap (λ (t : List ℕ). take 2 (hex e) ++ t) after ∙ take-append-drop 2 (hex e) in
    (hex_same d e (and_parts (eqb (length e) 32) (list_all is_byte e) digits).1 texts, kinds_are)

-- ---- what stands in a store whose names are true

-- nothing is there, or an object with this digest
there_cases : (disk : Disk) (d : List ℕ) (kind : ObjKind) → ((disk (object_path repo d kind) ≡ gone) ⊎ IsObject repo (object_path repo d kind) (disk (object_path repo d kind))) → (disk (object_path repo d kind) ≡ gone) ⊎ (is_digest d ≡ true)
there_cases disk d kind (inl none) = inl none
there_cases disk d kind (inr o) = let is = name_is d o.digest kind o.kind o.digits o.name in inr (subst (λ (x : List ℕ). is_digest x ≡ true) (sym is.0) o.digits)

there_or_not : (s : State) {v : View} → Opens s v → (d : List ℕ) (kind : ObjKind) → (shows v (object_path repo d kind) ≡ gone) ⊎ (is_digest d ≡ true)
there_or_not s {v = v} opens d kind =
    there_cases (shows v) d kind ((sound_store (shows v) (opens.sound (shows v) (now_left v))).objects [] (drop 2 (hex d) ++ (codes "." ++ kind_text kind)) (take 2 (hex d)))

-- what is had is an object with a digest
pub had_digest : (s : State) {v : View} → Opens s v → (d : List ℕ) (kind : ObjKind) → store repo (shows v) d kind ≢ None → is_digest d ≡ true
had_digest s opens d kind had = elim (there_or_not s opens d kind) [ inl none ↦ absurd (had (ap (object_at kind) none)) | inr digits ↦ digits ]

-- ---- what is used

used_then : (s : State) (h : Have) (d : List ℕ) (kind : ObjKind) → is_used s h d kind ≡ true → used_of s h d kind ≡ h d kind
unfolding used_of
used_then s h d kind is = ap (λ (b : Bool). if b then h d kind else None) is

if_none : (b : Bool) (o : Option Object) → o ≡ None → (if b then o else None) ≡ o
if_none true o none = refl
if_none false o none = sym none

none_then : (s : State) (h : Have) (d : List ℕ) (kind : ObjKind) → h d kind ≡ None → used_of s h d kind ≡ h d kind
unfolding used_of
none_then s h d kind none = if_none (is_used s h d kind) (h d kind) none

-- an object that is used is among those of a commit of the state
used_there : (s : State) {v : View} → Rests s v → (d : List ℕ) (kind : ObjKind) → is_digest d ≡ true → shows v (object_path repo d kind) ≢ gone → is_used s (store repo (shows v)) d kind ≡ true
used_there s {v = v} rests d kind digits some =
    let used = rests.settled.used d kind digits some in
    let kept = contains_in (kept_commits s) used.commit (keeps_listed (rests.opens.shown (shows v) (now_left v)) used.name used.commit used.kept) in
    let is = used_place s (store repo (shows v)) used.commit used.place kept used.inside in
    subst (λ (x : List ℕ). is_used s (store repo (shows v)) x kind ≡ true) used.digest_is
    (subst (λ (k : ObjKind). is_used s (store repo (shows v)) used.place.digest k ≡ true) used.kind_is is)

-- all that a settled installation has is used
pub settled_store : (s : State) {v : View} → Rests s v → used_of s (store repo (shows v)) ≡ store repo (shows v)
settled_store s {v = v} rests = λ i d kind. each d kind i
  where
    h : Have
    h = store repo (shows v)

    nothing_there : (d : List ℕ) (kind : ObjKind) → shows v (object_path repo d kind) ≡ gone → used_of s h d kind ≡ h d kind
    nothing_there d kind none = none_then s h d kind (ap (object_at kind) none)

    each : (d : List ℕ) (kind : ObjKind) → used_of s h d kind ≡ h d kind
    each d kind = elim (there_or_not s rests.opens d kind) [
      | inl none ↦ nothing_there d kind none
      | inr digits ↦ elim (gone_cases (shows v (object_path repo d kind))) [
        | inl none ↦ nothing_there d kind none
        | inr some ↦ used_then s h d kind (used_there s rests d kind digits some)
      ]
    ]

-- ---- the objects of kept commits

not_missing : (d : List ℕ) (kind : ObjKind) (o : Option Object) → name_fault d kind o ≡ None → o ≡ None → ⊥
not_missing d kind None none same = cc none
not_missing d kind (Some object) none same = cc same

-- each of them is there
pub kept_had : (s : State) {v : View} → Opens s v → (commit : List ℕ) → In (kept_commits s) commit → (p : Place) → In (order (store repo (shows v)) commit) p → store repo (shows v) p.digest p.kind ≢ None
kept_had s {v = v} opens commit kept p inside =
    let h : Have = store repo (shows v) in
    let sound = opens.sound (shows v) (now_left v) in
    let row = (kept_both s.refs commit).0 (in_contains (kept_commits s) commit kept) in
    let stands = sound.commits row.0.name commit (row_keeps (opens.shown (shows v) (now_left v)) row.0 commit row.1 row.2) in
    let none = (faultless h 0 (order h commit) stands.whole p inside).1 in
    not_missing p.digest p.kind (h p.digest p.kind) (or_none (name_fault p.digest p.kind (h p.digest p.kind)) (dir_mode_fault p.kind (h p.digest p.kind)) none).0

pub kept_digest : (s : State) {v : View} → Opens s v → (commit : List ℕ) → In (kept_commits s) commit → (p : Place) → In (order (store repo (shows v)) commit) p → is_digest p.digest ≡ true
kept_digest s {v = v} opens commit kept p inside = had_digest s opens p.digest p.kind (kept_had s opens commit kept p inside)
