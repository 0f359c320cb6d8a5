-- What is given where a remote is made spares what an installation shows.
use Rattle.std.proofs.Common.{◌≡◌, ◌≢◌, ◌⊎◌, ◌≤◌, inl, inr, ℕ, List, [], ◌∷◌, ◌++◌, Bool, true, false, Some, codes, length, refl, sym, ◌∙◌, ap, subst, arith}
use Rattle.std.specs.Prelude.{if◌then◌else◌, is_some, take, drop}
use Rattle.fp_name.specs.Grammar.{is_id, is_arch, is_branch}
use Rattle.fp_name.specs.Hex.{hex}
use Rattle.ost_model.specs.Stores.{is_prefix}
use Rattle.fp_host.specs.Paths.{Elements, IsAbove}
use Rattle.fp_host.specs.View.{View}
use Rattle.fp_host.specs.Outcome.{Spot, Disk, gone, folder, holds, points}
use Rattle.fp_name.specs.declared.kind.RefKind.{RefKind}
use Rattle.fp_name.specs.Kinds.{kind_of, kind_word}
use Rattle.fp_name.specs.Refs.{Ref}
use Rattle.fp_name.proofs.Refs.{word_apart}
use Rattle.fp_base.specs.declared.object.ObjKind.{ObjKind}
use Rattle.fp_base.specs.declared.object.ObjKind.TheVariants as kinds
use Rattle.fp_small.specs.Places.{repo, tmp, new_name}
use Rattle.fp_small.specs.Clear.{IsWithin}
use Rattle.fp_small.specs.Move.{IsNew}
use Rattle.ost_model.specs.declared.object.Object.{Object}
use Rattle.ost_model.specs.Objects.{Have, object_path, object_at}
use Rattle.fp_base.specs.Objects.{kind_text}
use Rattle.fp_base.proofs.Texts.{bytes_eq-false}
use Rattle.ost_refs.specs.Places.{remotes}
use Rattle.ost_export.specs.Storing.{IsWork}
use Rattle.ost_export.specs.Exports.{config_path, config_text, ref_path, IsExportFolder, ExportsAt}
use Rattle.dep_states.specs.Names.{commit_dir}
use Rattle.dep_states.specs.Zones.{Zone, anything, a_folder, a_leaf, a_file, Fits, Allowed, IsLeafOrGone, IsFileOrGone, is_object_name, zone, outward}
use Rattle.dep_states.specs.Sound.{IsOld, is_remotes, is_pins, Fixed, is_config, is_old, is_active, is_deploy, is_layer, is_inside, is_object, Permits, Spares}
use Rattle.dep_states.proofs.Deployed.{outward_append, top}
use Rattle.dep_states.proofs.Rows.{head_of}
use Rattle.dep_states.proofs.Sparing.{none_in_repo}
use Rattle.dep_states.proofs.Switching.{word_no_repo, second}
use Rattle.dep_states.proofs.Work.{outward_is}
use Rattle.fl_make.specs.Making.{remote_store}

-- ---- below a folder

pub made_top : (remote : List ℕ) (q : Elements) → IsWithin (remote_store remote) q → top q ≡ codes "made"
made_top remote q within = ap head_of (outward_is (remote_store remote) q within).1

-- work is below `repo/tmp`
pub work_out : {u : View} {q : Elements} → IsWork u q → (x : List ℕ) × (m : List (List ℕ)) × (outward q ≡ codes "repo" ∷ (codes "tmp" ∷ (x ∷ m)))
work_out {q = q} work =
    let within : IsWithin (new_name work.staging.number ∷ tmp) q = subst (λ (t : Elements). IsWithin t q) work.staging.is work.within in
    let is = outward_is (new_name work.staging.number ∷ tmp) q within in
    (new_name work.staging.number, outward is.0, is.1)

-- ---- no fixed path is there

pub word_no_made : (k : RefKind) → kind_word k ≢ codes "made"
word_no_made k = word_apart k (codes "made") refl refl

pub made_no_repo : codes "made" ≢ codes "repo"
made_no_repo = bytes_eq-false (codes "made") (codes "repo") refl

no_old : {p : Elements} → IsOld p → top p ≡ codes "made" → ⊥
no_old (is_remotes e) t = bytes_eq-false (codes "remotes.conf") (codes "made") refl (sym (ap top e) ∙ t)
no_old (is_pins e) t = bytes_eq-false (codes "pins") (codes "made") refl (sym (ap top e) ∙ t)

unfixed : {disk : Disk} {p : Elements} → Fixed disk p → top p ≡ codes "made" → ⊥
unfixed (is_config e) t = bytes_eq-false (codes "config") (codes "made") refl (sym (ap top e) ∙ t)
unfixed (is_old none old) t = no_old old t
unfixed (is_active name good e) t = word_no_made name.kind (sym (ap top e) ∙ t)
unfixed (is_deploy name text good link e) t = word_no_made name.kind (sym (ap top e) ∙ t)
unfixed (is_layer name good e) t = bytes_eq-false (codes "overrides") (codes "made") refl (sym (ap top e) ∙ t)
unfixed (is_inside name commit rest k off e) t = word_no_made name.kind (sym (ap top e ∙ ap head_of (outward_append rest (commit_dir name commit) [])) ∙ t)
unfixed (is_object name commit place k h e) t = made_no_repo (sym t ∙ ap top e)

-- nor is the root
no_root : {disk : Disk} {p : Elements} → Fixed disk p → p ≡ [] → ⊥
no_root (is_config e) t = cc (sym e ∙ t)
no_root (is_old none (is_remotes e)) t = cc (sym e ∙ t)
no_root (is_old none (is_pins e)) t = cc (sym e ∙ t)
no_root (is_active name good e) t = cc (sym e ∙ t)
no_root (is_deploy name text good link e) t = cc (sym e ∙ t)
no_root (is_layer name good e) t = cc (sym e ∙ t)
no_root (is_inside name commit [] k off e) t = cc (sym e ∙ t)
no_root (is_inside name commit (x ∷ rest) k off e) t = cc (sym e ∙ t)
no_root (is_object name commit place k h e) t = cc (sym e ∙ t)

-- ---- what may stand there

-- where a path is that an export writes
data Where (p : Elements) : Type 0 where
  in_made : top p ≡ codes "made" → Where p
  in_repo : top p ≡ codes "repo" → second (outward p) ≢ codes "objects" → Where p
  at_root : p ≡ [] → Where p

avoid_by : {disk : Disk} {p : Elements} → Where p → Fixed disk p → ⊥
avoid_by (in_made t) fixed = unfixed fixed t
avoid_by (in_repo t s) fixed = none_in_repo fixed t s
avoid_by (at_root is) fixed = no_root fixed is

permit_by : {disk : Disk} {p : Elements} {spot : Spot} → Where p → Allowed p spot → Permits disk p spot
permit_by (in_made t) allowed = record { allowed = allowed; deploy = λ name commit k e. absurd (word_no_made name.kind (sym (ap top e) ∙ t)) }
permit_by (in_repo t s) allowed = record { allowed = allowed; deploy = λ name commit k e. absurd (word_no_repo name.kind (sym (ap top e) ∙ t)) }
permit_by (at_root is) allowed = record { allowed = allowed; deploy = λ name commit k e. absurd (cc (sym e ∙ is)) }

-- by cases on a test, where each side fits
if_fits : (b : Bool) (y n : Zone) (p : Elements) (spot : Spot) → Fits y p spot → Fits n p spot → Fits (if b then y else n) p spot
if_fits true y n p spot first second = first
if_fits false y n p spot first second = second

leaf_at : (kind : ObjKind) (object : Object) (spot : Spot) → object_at kind spot ≡ Some object → IsLeafOrGone spot
leaf_at kind object gone is = tt
leaf_at kinds.Commit object folder is = cc is
leaf_at kinds.DirTree object folder is = cc is
leaf_at kinds.DirMeta object folder is = cc is
leaf_at kinds.File object folder is = cc is
leaf_at kind object (holds id mode bytes) is = tt
leaf_at kind object (points text) is = tt

new_file : (bytes : List ℕ) (spot : Spot) → IsNew bytes spot → IsFileOrGone spot
new_file bytes spot new = subst IsFileOrGone (sym new.1) tt

-- a folder, of which there are these
record MayBeFolder (p : Elements) : Type 0 where
  place : Where p
  allowed : Allowed p folder

module _ (remote : List ℕ) (r : Ref) where
  pub folder_at : (P : Elements → Type 0) → P [] → P (codes "made" ∷ []) → P (remote_store remote) → P (codes "objects" ∷ remote_store remote) → ((xx : List ℕ) → P (xx ∷ (codes "objects" ∷ remote_store remote)))
      → P (codes "refs" ∷ remote_store remote) → P (codes "heads" ∷ (codes "refs" ∷ remote_store remote)) → P (remotes (remote_store remote)) → P (kind_word r.kind ∷ (codes "heads" ∷ (codes "refs" ∷ remote_store remote)))
      → P (r.id ∷ (kind_word r.kind ∷ (codes "heads" ∷ (codes "refs" ∷ remote_store remote)))) → P (r.arch ∷ (r.id ∷ (kind_word r.kind ∷ (codes "heads" ∷ (codes "refs" ∷ remote_store remote)))))
      → P repo → P tmp → (q : Elements) → IsExportFolder (remote_store remote) r q → P q
  folder_at P root top_made store objects prefix refs heads other kind id arch of_repo of_tmp q h = elim h [
    | inl above ↦ elim above [
      | inl of_store ↦ elim of_store [
        | inl object ↦ by_object object.digest object.kind object.above
        | inr work ↦ elim work [ inl is ↦ subst P (sym is) of_repo | inr is ↦ subst P (sym is) of_tmp ]
      ]
      | inr up ↦ by_ref up
    ]
    | inr is ↦ subst P (sym is) other
  ]
    where
      by_store : IsAbove q (remote_store remote) → P q
      by_store (inl is) = subst P (sym is) top_made
      by_store (inr (inl is)) = subst P (sym is) root
      by_store (inr (inr none)) = absurd none

      by_object : (d : List ℕ) (k : ObjKind) → IsAbove q (object_path (remote_store remote) d k) → P q
      by_object d k (inl is) = subst P (sym is) (prefix _)
      by_object d k (inr (inl is)) = subst P (sym is) objects
      by_object d k (inr (inr (inl is))) = subst P (sym is) store
      by_object d k (inr (inr (inr up))) = by_store up

      by_ref : IsAbove q (ref_path (remote_store remote) r) → P q
      by_ref (inl is) = subst P (sym is) arch
      by_ref (inr (inl is)) = subst P (sym is) id
      by_ref (inr (inr (inl is))) = subst P (sym is) kind
      by_ref (inr (inr (inr (inl is)))) = subst P (sym is) heads
      by_ref (inr (inr (inr (inr (inl is))))) = subst P (sym is) refs
      by_ref (inr (inr (inr (inr (inr (inl is)))))) = subst P (sym is) store
      by_ref (inr (inr (inr (inr (inr (inr up)))))) = by_store up

  -- the tests of a ref's parts, and what is above its file
  abbrev by_kind : Zone → Zone
  by_kind z = if is_some (kind_of (kind_word r.kind)) then z else anything

  abbrev by_id : Zone → Zone
  by_id z = if is_id r.id then z else anything

  abbrev by_arch : Zone → Zone
  by_arch z = if is_arch r.arch then z else anything

  abbrev by_branch : Zone → Zone
  by_branch z = if is_branch r.branch then z else anything

  kind_fits : (z : Zone) (p : Elements) (spot : Spot) → Fits z p spot → Fits (by_kind z) p spot
  kind_fits z p spot fits = if_fits (is_some (kind_of (kind_word r.kind))) z anything p spot fits tt

  id_fits : (z : Zone) (p : Elements) (spot : Spot) → Fits z p spot → Fits (by_kind (by_id z)) p spot
  id_fits z p spot fits = kind_fits (by_id z) p spot (if_fits (is_id r.id) z anything p spot fits tt)

  arch_fits : (z : Zone) (p : Elements) (spot : Spot) → Fits z p spot → Fits (by_kind (by_id (by_arch z))) p spot
  arch_fits z p spot fits = id_fits (by_arch z) p spot (if_fits (is_arch r.arch) z anything p spot fits tt)

  branch_fits : (z : Zone) (p : Elements) (spot : Spot) → Fits z p spot → Fits (by_kind (by_id (by_arch (by_branch z)))) p spot
  branch_fits z p spot fits = arch_fits (by_branch z) p spot (if_fits (is_branch r.branch) z anything p spot fits tt)

  abbrev kind_path : Elements
  kind_path = kind_word r.kind ∷ (codes "heads" ∷ (codes "refs" ∷ remote_store remote))

  folders : (q : Elements) → IsExportFolder (remote_store remote) r q → MayBeFolder q
  folders = folder_at MayBeFolder
      (record { place = at_root refl; allowed = record { fits = tt; short = inr (omega arith) } })
      (record { place = in_made refl; allowed = record { fits = tt; short = inr (omega arith) } })
      (record { place = in_made refl; allowed = record { fits = tt; short = inr (omega arith) } })
      (record { place = in_made refl; allowed = record { fits = tt; short = inr (omega arith) } })
      (λ xx. record { place = in_made refl; allowed = record { fits = if_fits (is_prefix xx) a_folder anything (xx ∷ (codes "objects" ∷ remote_store remote)) folder tt tt; short = inr (omega arith) } })
      (record { place = in_made refl; allowed = record { fits = tt; short = inr (omega arith) } })
      (record { place = in_made refl; allowed = record { fits = tt; short = inr (omega arith) } })
      (record { place = in_made refl; allowed = record { fits = tt; short = inr (omega arith) } })
      (record { place = in_made refl; allowed = record { fits = kind_fits a_folder kind_path folder tt; short = inr (omega arith) } })
      (record { place = in_made refl; allowed = record { fits = id_fits a_folder (r.id ∷ kind_path) folder tt; short = inr (omega arith) } })
      (record { place = in_made refl; allowed = record { fits = arch_fits a_folder (r.arch ∷ (r.id ∷ kind_path)) folder tt; short = inr (omega arith) } })
      (record { place = in_repo refl (λ e. cc e); allowed = record { fits = tt; short = inr (omega arith) } })
      (record { place = in_repo refl (bytes_eq-false (codes "tmp") (codes "objects") refl); allowed = record { fits = tt; short = inr (omega arith) } })

  -- ---- files and links

  object_allowed : (d : List ℕ) (kind : ObjKind) (spot : Spot) → IsLeafOrGone spot → Allowed (object_path (remote_store remote) d kind) spot
  object_allowed d kind spot leaf = record {
    fits = if_fits (is_object_name (take 2 (hex d)) (drop 2 (hex d) ++ (codes "." ++ kind_text kind))) a_leaf anything (object_path (remote_store remote) d kind) spot leaf tt;
    short = inr (omega arith);
  }

  config_allowed : (spot : Spot) → IsFileOrGone spot → Allowed (config_path (remote_store remote)) spot
  config_allowed spot is = record { fits = is; short = inr (omega arith) }

  ref_allowed : (spot : Spot) → IsFileOrGone spot → Allowed (ref_path (remote_store remote) r) spot
  ref_allowed spot is = record {
    fits = branch_fits a_file (ref_path (remote_store remote) r) spot is;
    short = inr (omega arith);
  }

  work_allowed : {u : View} (q : Elements) (spot : Spot) → IsWork u q → (spot ≡ gone) ⊎ (length q ≤ 6) → Allowed q spot
  work_allowed q spot work depth = record {
    fits = let out = work_out work in subst (λ (l : List (List ℕ)). Fits (zone l) q spot) (sym out.2) tt;
    short = elim depth [ inl none ↦ inl none | inr short ↦ inr (omega (arith, short)) ];
  }

  work_where : {u : View} (q : Elements) → IsWork u q → Where q
  work_where q work =
      let out = work_out work in
      in_repo (ap head_of out.2) (λ e. bytes_eq-false (codes "tmp") (codes "objects") refl (sym (ap second out.2) ∙ e))

  -- ---- all of it

  record IsGiven (q : Elements) (spot : Spot) : Type 0 where
    place : Where q
    allowed : Allowed q spot

  given : (have : Have) (commit : List ℕ) (u : View) (q : Elements) (spot : Spot) → ExportsAt have (remote_store remote) r commit u q spot → IsGiven q spot
  given have commit u q spot h = elim h [
    | inl furnished ↦ elim furnished [
      | inl work ↦ record { place = work_where q work.0; allowed = work_allowed q spot work.0 work.1 }
      | inr other ↦ elim other [
        | inl new ↦ record {
          place = subst Where (sym new.at) (in_made refl);
          allowed = subst (λ (p : Elements). Allowed p spot) (sym new.at) (object_allowed new.digest new.kind spot (leaf_at new.kind new.object spot new.there.is));
        }
        | inr more ↦ elim more [
          | inl made_folder ↦ let f = folders q made_folder.0 in record { place = f.place; allowed = subst (Allowed q) (sym made_folder.1) f.allowed }
          | inr config ↦ record {
            place = subst Where (sym config.0) (in_made refl);
            allowed = subst (λ (p : Elements). Allowed p spot) (sym config.0) (config_allowed spot (new_file config_text spot config.1));
          }
        ]
      ]
    ]
    | inr ref ↦ record {
      place = subst Where (sym ref.0) (in_made refl);
      allowed = subst (λ (p : Elements). Allowed p spot) (sym ref.0) (ref_allowed spot (new_file _ spot ref.1));
    }
  ]

  pub export_spares : (have : Have) (commit : List ℕ) (u v : View) → Spares v (ExportsAt have (remote_store remote) r commit u)
  export_spares have commit u v = record {
    avoids = λ disk left p spot fixed h. avoid_by (given have commit u p spot h).place fixed;
    permits = λ disk left p spot h. let g = given have commit u p spot h in permit_by g.place g.allowed;
  }
