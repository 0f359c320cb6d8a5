-- A change of one `active`: the switch to another commit, and the removal.
use Rattle.std.proofs.Common.{◌≡◌, ◌≢◌, ◌⊎◌, inl, inr, ℕ, zero, suc, eqb, List, [], ◌∷◌, ◌++◌, Bool, true, false, Option, Some, None, refl, sym, ◌∙◌, ap, subst, codes, length, arith}
use Rattle.std.specs.Prelude.{if◌then◌else◌, map, ◌/◌}
use Rattle.fp_host.specs.Reads.{is_ascending}
use Rattle.std.proofs.lemmas.Bool.{both_ways, cases_Bool, cond-true}
use Rattle.std.proofs.lemmas.List.{length-append}
use Rattle.fp_base.proofs.Options.{some_none}
use Rattle.fp_base.proofs.Texts.{bytes_eq-false}
use Rattle.fp_host.specs.Paths.{Elements, path_eq}
use Rattle.fp_host.specs.Outcome.{Spot, gone, folder, holds, points, Disk}
use Rattle.fp_host.proofs.Separate.{path_decides, head_of, tail_of}
use Rattle.fp_name.specs.Hex.{hex, digit}
use Rattle.fp_name.specs.Refs.{Ref, is_ref, ref_of, ref_text, ref_with}
use Rattle.fp_name.proofs.Refs.{ref_of-ref_text, ref_of-some, kind_same}
use Rattle.fp_small.specs.Places.{repo}
use Rattle.fp_small.specs.declared.state.State.{State}
use Rattle.fp_small.specs.declared.state.RefRow.{RefRow}
use Rattle.ost_model.specs.Objects.{object_path}
use Rattle.ost_model.specs.Standing.{Stands}
use Rattle.ost_model.proofs.Local.{stands_same}
use Rattle.dep_states.specs.Names.{config, remotes_conf, pins_file, override_path, active, branch_dir, text_dir, commit_dir, deploy, ref_file}
use Rattle.dep_states.specs.Shown.{Seen, away, there, seen_of, deploy_at, by_active, ref_seen, row_seen, at_name, ref_key, override_key, Shows}
use Rattle.dep_states.specs.Zones.{IsFileOrGone, Allowed}
use Rattle.dep_states.specs.Sound.{reads_as, IsKeptBy, Keeps, Sound, IsOld, is_remotes, is_pins, Fixed, is_config, is_old, is_active, is_deploy, is_layer, is_inside, is_object, Permits}
use Rattle.dep_states.specs.Switch.{IsWith, Changed, Prepared, Wanted, is_fixed, is_new_path, is_new_object, is_new_deploy}
use Rattle.dep_states.proofs.Law.{settings_same, override_same, ref_same}
use Rattle.dep_states.proofs.Single.{there_is, some_is}
use Rattle.dep_states.proofs.Worked.{active_same}

-- ---- paths

digit_is : (n : ℕ) → eqb (digit n) 116 ≡ false
digit_is zero = refl
digit_is (suc zero) = refl
digit_is (suc (suc zero)) = refl
digit_is (suc (suc (suc zero))) = refl
digit_is (suc (suc (suc (suc zero)))) = refl
digit_is (suc (suc (suc (suc (suc zero))))) = refl
digit_is (suc (suc (suc (suc (suc (suc zero)))))) = refl
digit_is (suc (suc (suc (suc (suc (suc (suc zero))))))) = refl
digit_is (suc (suc (suc (suc (suc (suc (suc (suc zero)))))))) = refl
digit_is (suc (suc (suc (suc (suc (suc (suc (suc (suc zero))))))))) = refl
digit_is (suc (suc (suc (suc (suc (suc (suc (suc (suc (suc zero)))))))))) = refl
digit_is (suc (suc (suc (suc (suc (suc (suc (suc (suc (suc (suc zero))))))))))) = refl
digit_is (suc (suc (suc (suc (suc (suc (suc (suc (suc (suc (suc (suc zero)))))))))))) = refl
digit_is (suc (suc (suc (suc (suc (suc (suc (suc (suc (suc (suc (suc (suc zero))))))))))))) = refl
digit_is (suc (suc (suc (suc (suc (suc (suc (suc (suc (suc (suc (suc (suc (suc zero)))))))))))))) = refl
digit_is (suc (suc (suc (suc (suc (suc (suc (suc (suc (suc (suc (suc (suc (suc (suc zero))))))))))))))) = refl
digit_is (suc (suc (suc (suc (suc (suc (suc (suc (suc (suc (suc (suc (suc (suc (suc (suc n)))))))))))))))) = refl

digit_no_t : (n : ℕ) → digit n ≡ 116 → ⊥
digit_no_t n e = both_ways (eqb (digit n) 116) (digit_is n) (ap (λ m. eqb m 116) e)

-- the digits of a digest are no such word
pub digits_no_active : (d : List ℕ) → hex d ≢ codes "active"
unfolding hex
digits_no_active [] e = absurd (cc e)
digits_no_active (a ∷ []) e = absurd (cc e)
digits_no_active (a ∷ (b ∷ d)) e = digit_no_t (b / 16) (ap third e)
  where
    third : List ℕ → ℕ
    third (x ∷ (y ∷ (z ∷ more))) = z
    third _ = 0

pub ref_cases : (a b : Ref) → (a ≡ b) ⊎ (a ≢ b)
ref_cases a b = elim (cases_Bool (path_eq (active a) (active b))) [
  | inl t ↦ inl (active_same a b ((path_decides (active a) (active b)).0 t))
  | inr f ↦ inr (λ e. both_ways (path_eq (active a) (active b)) f ((path_decides (active a) (active b)).1 (ap active e)))
]

pub active_apart : {n name : Ref} → n ≢ name → active n ≢ active name
active_apart {n = n} {name = name} off e = off (active_same n name e)

-- a path in a commit's directory is no `active`
pub inside_apart : (rest : Elements) (n name : Ref) (commit : List ℕ) → rest ++ commit_dir n commit ≢ active name
inside_apart [] n name commit e = digits_no_active commit (head_of e)
inside_apart (x ∷ rest) n name commit e =
    let long : length (rest ++ commit_dir n commit) ≡ length (branch_dir name) = ap length (tail_of e) in
    let sum = length-append rest (commit_dir n commit) in
    absurd (omega (arith, long, sum))

pub length_apart : {a b c d : List ℕ} (name : Ref) → a ∷ (b ∷ (c ∷ (d ∷ []))) ≢ active name
length_apart name e = cc

pub deploy_apart : (n name : Ref) (text : List ℕ) → deploy (text_dir n text) ≢ active name
deploy_apart n name text e = bytes_eq-false (codes "deploy") (codes "active") refl (head_of e)

old_apart : (name : Ref) (p : Elements) → IsOld p → p ≢ active name
old_apart name p (is_remotes e) at = cc (sym e ∙ at)
old_apart name p (is_pins e) at = cc (sym e ∙ at)

-- ---- what is shown

module _ {i j : Disk} {name : Ref} where
  other_same : {row : Option RefRow} → Changed i j name row → (n : Ref) → n ≢ name → ref_seen j n ≡ ref_seen i n
  other_same c n off = ref_same i j n (λ good. (c.still (active n) (is_active n good refl) (active_apart off), λ text at. c.still (deploy (text_dir n text)) (is_deploy n text good at refl) (deploy_apart n name text)))

  pub shows_changed : {row : Option RefRow} {s t : State} → is_ref name ≡ true → Changed i j name row → IsWith s name row t → Shows i s → Shows j t
  shows_changed {s = s} {t = t} good c w a = record {
    settings = settings_same i j (c.still config (is_config refl) (λ e. cc)) (λ none. (c.still remotes_conf (is_old none (is_remotes refl)) (λ e. cc), c.still pins_file (is_old none (is_pins refl)) (λ e. cc))) ∙ a.settings ∙ ap there (sym w.setup);
    refs = λ text. by_ref text (ref_of text) refl;
    refs_ascend = w.ascend;
    overrides = λ n. override_same i j n (λ good. c.still (override_path n) (is_layer n good refl) (λ e. cc)) ∙ a.overrides n ∙ ap (λ rows. seen_of (at_name override_key rows n)) (sym w.overrides);
    overrides_ascend = ap (λ rows. is_ascending (map override_key rows)) w.overrides ∙ a.overrides_ascend;
  }
    where
      back : ref_of (ref_text name) ≡ Some name
      back = ref_of-ref_text name good

      elsewhere : (text : List ℕ) → text ≢ ref_text name → row_seen j (ref_of text) ≡ row_seen i (ref_of text) → row_seen j (ref_of text) ≡ seen_of (at_name ref_key t.refs text)
      elsewhere text off same = same ∙ a.refs text ∙ ap seen_of (sym (w.others text off))

      by_ref : (text : List ℕ) (n : Option Ref) → ref_of text ≡ n → row_seen j (ref_of text) ≡ seen_of (at_name ref_key t.refs text)
      by_ref text None is = elsewhere text (λ e. some_none (sym back ∙ ap ref_of (sym e) ∙ is)) (ap (row_seen j) is ∙ sym (ap (row_seen i) is))
      by_ref text (Some n) is = elim (ref_cases n name) [
        | inl e ↦ ap (row_seen j) is ∙ ap (ref_seen j) e ∙ c.seen ∙ ap seen_of (sym w.here) ∙ ap (λ k. seen_of (at_name ref_key t.refs k)) (sym ((ref_of-some text name (is ∙ ap Some e)).0))
        | inr off ↦ elsewhere text (λ e. off (some_is (sym is ∙ ap ref_of e ∙ back))) (ap (row_seen j) is ∙ other_same c n off ∙ sym (ap (row_seen i) is))
      ]

  pub sound_changed : {row : Option RefRow} → Changed i j name row → Sound i → Sound j
  sound_changed c a = record {
    kinds = λ p. elim (c.elsewhere p) [ inl same ↦ subst (Allowed p) (sym same) (a.kinds p) | inr given ↦ given.allowed ];
    commits = λ n commit k. elim (ref_cases n name) [
      | inl e ↦ subst (λ (m : Ref). Stands (reads_as m.kind) repo j commit (commit_dir m commit)) (sym e) (c.whole commit (subst (λ m. Keeps j m commit) e k))
      | inr off ↦ let before = earlier n off k in
          stands_same repo i j commit (reads_as n.kind) (commit_dir n commit) (a.commits n commit before)
          (λ rest no. c.still (rest ++ commit_dir n commit) (is_inside n commit rest before no refl) (inside_apart rest n name commit))
          (λ place h. c.still (object_path repo place.digest place.kind) (is_object n commit place before h refl) (λ e. cc))
    ];
    deploys = λ n commit k. elim (ref_cases n name) [
      | inl e ↦ subst (λ m. IsFileOrGone (j (deploy (commit_dir m commit)))) (sym e) (c.deploys commit (subst (λ m. Keeps j m commit) e k))
      | inr off ↦ let before = earlier n off k in elim (c.elsewhere (deploy (commit_dir n commit))) [
        | inl same ↦ subst IsFileOrGone (sym same) (a.deploys n commit before)
        | inr given ↦ given.deploy n commit before refl
      ]
    ];
  }
    where
      earlier : {commit : List ℕ} (n : Ref) → n ≢ name → Keeps j n commit → Keeps i n commit
      earlier n off k = record { row = k.row; shown = sym (other_same c n off) ∙ k.shown; of_row = k.of_row }

away_not : {A B : Type 0} {x : A} → there x ≡ away → B
away_not e = absurd (cc e)

recorded_file : (name : Ref) (text : List ℕ) {row : RefRow} (n : Spot) → deploy_at name text n ≡ there row → IsFileOrGone n
unfolding deploy_at
recorded_file name t gone e = tt
recorded_file name t (holds id mode bytes) e = tt
recorded_file name t folder e = absurd (cc e)
recorded_file name t (points text) e = absurd (cc e)

module _ {i j : Disk} {name : Ref} where
  -- The switch: from an image where the commit stands beside the state, to one that differs in
  -- `active`, where what Sound reads stays.
  pub switched : {row : RefRow} → Prepared i name row → Sound i → j (active name) ≡ points (hex row.commit)
      → ((p : Elements) → Wanted i name row p → j p ≡ i p) → ((p : Elements) → (j p ≡ i p) ⊎ Permits i p (j p)) → Changed i j name (Some row)
  switched {row = row} p sound now stays elsewhere = record {
    seen = seen;
    still = λ q f off. stays q (is_fixed f off);
    elsewhere = elsewhere;
    whole = λ commit k. elim (kept commit k) [
      | inl e ↦ subst (λ c. Stands (reads_as name.kind) repo j c (commit_dir name c)) e new
      | inr before ↦ stands_same repo i j commit (reads_as name.kind) (commit_dir name commit) (sound.commits name commit before)
          (λ rest no. stays (rest ++ commit_dir name commit) (is_fixed (is_inside name commit rest before no refl) (inside_apart rest name name commit)))
          (λ place h. stays (object_path repo place.digest place.kind) (is_fixed (is_object name commit place before h refl) (λ e. cc)))
    ];
    deploys = λ commit k. elim (kept commit k) [
      | inl e ↦ subst (λ c. IsFileOrGone (j (deploy (commit_dir name c)))) e (subst IsFileOrGone (sym (stays (deploy (commit_dir name row.commit)) (is_new_deploy refl))) (recorded_file name (hex row.commit) (i (deploy (commit_dir name row.commit))) p.recorded))
      | inr before ↦ elim (elsewhere (deploy (commit_dir name commit))) [
        | inl same ↦ subst IsFileOrGone (sym same) (sound.deploys name commit before)
        | inr given ↦ given.deploy name commit before refl
      ]
    ];
  }
    where
      seen : ref_seen j name ≡ seen_of (Some row)
      seen = cond-true (is_ref name) _ _ p.good ∙ ap (by_active j name) now
          ∙ ap (deploy_at name (hex row.commit)) (stays (deploy (commit_dir name row.commit)) (is_new_deploy refl)) ∙ p.recorded

      new : Stands (reads_as name.kind) repo j row.commit (commit_dir name row.commit)
      new = stands_same repo i j row.commit (reads_as name.kind) (commit_dir name row.commit) p.stands (λ rest no. stays (rest ++ commit_dir name row.commit) (is_new_path rest no refl)) (λ place h. stays (object_path repo place.digest place.kind) (is_new_object place h refl))

      kept : (commit : List ℕ) → Keeps j name commit → (row.commit ≡ commit) ⊎ Keeps i name commit
      kept commit k = let same : k.row ≡ row = there_is (sym k.shown ∙ seen) in
          elim (subst (λ r. IsKeptBy r commit) same k.of_row) [ inl e ↦ inl e | inr h ↦ inr (p.previous commit h) ]

  -- the removal of `active`
  pub retired : j (active name) ≡ gone → ((p : Elements) → Fixed i p → p ≢ active name → j p ≡ i p) → ((p : Elements) → (j p ≡ i p) ⊎ Permits i p (j p)) → Changed i j name None
  retired now still elsewhere = record {
    seen = seen;
    still = still;
    elsewhere = elsewhere;
    whole = λ commit k. away_not (sym k.shown ∙ seen);
    deploys = λ commit k. away_not (sym k.shown ∙ seen);
  }
    where
      if_away : (b : Bool) → if◌then◌else◌ {A = Seen RefRow} b away away ≡ away
      if_away true = refl
      if_away false = refl

      seen : ref_seen j name ≡ away
      seen = ap (λ n. if◌then◌else◌ {A = Seen RefRow} (is_ref name) (by_active j name n) away) now ∙ if_away (is_ref name)

pub file_same : (o p : List ℕ) (r s : Ref) → ref_file o r ≡ ref_file p s → (o ≡ p) × (r ≡ s)
file_same o p r s h =
    let arch = tail_of h in
    let id = tail_of arch in
    let kind = tail_of id in
    let kinds = kind_same r.kind s.kind (head_of kind) in
    (head_of (tail_of kind), λ i. ref_with (kinds i) (head_of id i) (head_of arch i) (head_of h i))
