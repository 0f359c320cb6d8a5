-- What may come and go below `exports`.
use Rattle.std.proofs.Common.{◌≡◌, ◌≢◌, ◌⊎◌, ◌≤◌, inl, inr, ℕ, [], ◌∷◌, codes, length, refl, sym, ◌∙◌, ap, subst, arith}
use Rattle.fp_base.proofs.Texts.{bytes_eq-false as text_apart}
use Rattle.fp_host.specs.Paths.{Elements}
use Rattle.fp_host.specs.View.{View}
use Rattle.fp_host.specs.Outcome.{Spot, Disk, Leaves, gone, folder}
use Rattle.fp_name.specs.declared.kind.RefKind.{RefKind}
use Rattle.fp_name.specs.Kinds.{kind_word}
use Rattle.fp_name.proofs.Refs.{word_apart}
use Rattle.fp_small.specs.Places.{repo, tmp, new_name}
use Rattle.fp_small.specs.Clear.{IsWithin}
use Rattle.dep_states.specs.Names.{commit_dir}
use Rattle.dep_states.specs.Zones.{Zone, Fits, Allowed, zone, outward}
use Rattle.dep_states.specs.Sound.{IsOld, is_remotes, is_pins, Fixed, InTmp, is_config, is_old, is_active, is_deploy, is_layer, is_inside, is_object, Permits, Spares}
use Rattle.dep_states.proofs.Deployed.{outward_append, top}
use Rattle.dep_states.proofs.Rows.{head_of}
use Rattle.dep_states.proofs.Sparing.{none_in_repo}
use Rattle.dep_states.proofs.Switching.{word_no_repo, second}
use Rattle.dep_states.proofs.Usual.{tmp_spares}
use Rattle.dep_states.proofs.Work.{outward_is, work_top}
use Rattle.fl_export.specs.Placed.{exports}
use Rattle.fl_export.specs.Steps.{Exports, in_exports, in_store, in_work}

-- ---- below a folder

pub exports_top : (q : Elements) → IsWithin exports q → top q ≡ codes "exports"
exports_top q within = ap head_of (outward_is exports q within).1

pub no_repo : codes "exports" ≢ codes "repo"
no_repo = text_apart (codes "exports") (codes "repo") refl

pub apart_from_work : (q : Elements) → IsWithin exports q → IsWithin tmp q → ⊥
apart_from_work q a b = no_repo (sym (exports_top q a) ∙ work_top q b)

pub apart_from_repo : (q : Elements) → IsWithin exports q → q ≡ repo → ⊥
apart_from_repo q a is = no_repo (sym (exports_top q a) ∙ ap top is)

-- ---- no fixed path is there

pub word_no_exports : (k : RefKind) → kind_word k ≢ codes "exports"
word_no_exports k = word_apart k (codes "exports") refl refl

no_old : {p : Elements} → IsOld p → top p ≡ codes "exports" → ⊥
no_old (is_remotes e) t = text_apart (codes "remotes.conf") (codes "exports") refl (sym (ap top e) ∙ t)
no_old (is_pins e) t = text_apart (codes "pins") (codes "exports") refl (sym (ap top e) ∙ t)

unfixed : {disk : Disk} {p : Elements} → Fixed disk p → top p ≡ codes "exports" → ⊥
unfixed (is_config e) t = text_apart (codes "config") (codes "exports") refl (sym (ap top e) ∙ t)
unfixed (is_old none old) t = no_old old t
unfixed (is_active name good e) t = word_no_exports name.kind (sym (ap top e) ∙ t)
unfixed (is_deploy name text good link e) t = word_no_exports name.kind (sym (ap top e) ∙ t)
unfixed (is_layer name good e) t = text_apart (codes "overrides") (codes "exports") refl (sym (ap top e) ∙ t)
unfixed (is_inside name commit rest k off e) t = word_no_exports name.kind (sym (ap top e ∙ ap head_of (outward_append rest (commit_dir name commit) [])) ∙ t)
unfixed (is_object name commit place k h e) t = no_repo (sym t ∙ ap top e)

exports_permit : {disk : Disk} (p : Elements) (spot : Spot) → IsWithin exports p → (spot ≡ gone) ⊎ (length p ≤ 128) → Permits disk p spot
exports_permit p spot within short = record {
  allowed = record { fits = subst (λ (z : Zone). Fits z p spot) (sym (ap zone (outward_is exports p within).1)) tt; short = short };
  deploy = λ name commit k at. absurd (word_no_exports name.kind (sym (ap top at) ∙ exports_top p within));
}

-- ---- the folders of work

second_repo : (p : Elements) → (p ≡ repo) ⊎ (p ≡ tmp) → (top p ≡ codes "repo") × (second (outward p) ≢ codes "objects")
second_repo p (inl is) = (ap top is, λ e. cc (sym (ap (λ (q : Elements). second (outward q)) is) ∙ e))
second_repo p (inr is) = (ap top is, λ e. text_apart (codes "tmp") (codes "objects") refl (sym (ap (λ (q : Elements). second (outward q)) is) ∙ e))

folder_permits : {disk : Disk} (p : Elements) (spot : Spot) → (p ≡ repo) ⊎ (p ≡ tmp) → spot ≡ folder → Permits disk p spot
folder_permits {disk = disk} p spot at is = record { allowed = allowed at; deploy = λ name commit k e. absurd (word_no_repo name.kind (sym (ap top e) ∙ (second_repo p at).0)) }
  where
    allowed : (p ≡ repo) ⊎ (p ≡ tmp) → Allowed p spot
    allowed (inl e) = subst (λ (q : Elements). Allowed q spot) (sym e) (subst (Allowed repo) (sym is) (record { fits = tt; short = inr (omega arith) }))
    allowed (inr e) = subst (λ (q : Elements). Allowed q spot) (sym e) (subst (Allowed tmp) (sym is) (record { fits = tt; short = inr (omega arith) }))

-- ---- all of it

work : {p : Elements} {spot : Spot} (k : ℕ) → p ≡ new_name k ∷ tmp → InTmp p spot
work k is = record { name = new_name k; rest = []; is = is; short = omega (arith, ap length is) }

module _ (v : View) (disk : Disk) (left : Leaves v disk) where
  avoid : (p : Elements) (spot : Spot) → Fixed disk p → Exports p spot → ⊥
  avoid p spot fixed (in_exports within short) = unfixed fixed (exports_top p within)
  avoid p spot fixed (in_store at is) = let s = second_repo p at in none_in_repo fixed s.0 s.1
  avoid p spot fixed (in_work k is) = (tmp_spares {v = v}).avoids disk left p spot fixed (work k is)

  permit : (p : Elements) (spot : Spot) → Exports p spot → Permits disk p spot
  permit p spot (in_exports within short) = exports_permit p spot within short
  permit p spot (in_store at is) = folder_permits p spot at is
  permit p spot (in_work k is) = (tmp_spares {v = v}).permits disk left p spot (work k is)

pub exports_spare : {v : View} → Spares v Exports
exports_spare {v = v} = record {
  avoids = λ disk left p spot fixed given. avoid v disk left p spot fixed given;
  permits = λ disk left p spot given. permit v disk left p spot given;
}
