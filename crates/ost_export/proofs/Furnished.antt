-- What an export leaves on its way: the objects, `config`, and folders.
use Rattle.std.proofs.Common.{◌≡◌, ◌≤◌, ◌⊎◌, inl, inr, ℕ, List, [], ◌∷◌, length, refl, sym, ◌∙◌, ap, subst, arith, codes, Contains}
use Rattle.std.proofs.lemmas.List.Elements.{Contains-append_cases, Contains-push, Contains-push_cases}
use Rattle.fp_host.specs.Paths.{Elements, absent, IsAbove}
use Rattle.fp_host.specs.View.{View, IsTree}
use Rattle.fp_host.specs.Calls.{IsFile}
use Rattle.fp_host.specs.Frame.{Keeps, NoPath}
use Rattle.fp_host.proofs.Framed.{keeps_on, keeps_to}
use Rattle.fp_host.proofs.Above.{above_on, above_longer}
use Rattle.fp_small.specs.Clear.{IsWithin}
use Rattle.fp_small.specs.Files.{KeepsFiles}
use Rattle.fp_small.specs.Folders.{IsFree, ancestors, AreFree, FoldersAt, DirsAt}
use Rattle.fp_small.specs.Places.{repo, tmp, new_name}
use Rattle.fp_small.specs.Replace.{IsStaging, folders_of, Replaces, IsFreeFile, CanReplace}
use Rattle.fp_small.proofs.Keeping.{files_on, files_kept}
use Rattle.fp_small.proofs.Replacement.{ancestors_above, one_staging}
use Rattle.fp_small.proofs.Making.{free_at}
use Rattle.fp_name.specs.Refs.{Ref}
use Rattle.fp_base.specs.declared.object.ObjKind.{ObjKind}
use Rattle.ost_model.specs.Objects.{Have, object_path}
use Rattle.ost_refs.specs.Places.{remotes}
use Rattle.ost_refs.specs.Changes.{CanWrite}
use Rattle.ost_refs.specs.declared.place.RefPlace.TheVariants.{Head}
use Rattle.ost_store.proofs.ObjectPaths.{object_within}
use Rattle.ost_export.specs.Staging.{IsApart}
use Rattle.ost_export.specs.Storing.{IsWork, StoresObjects}
use Rattle.ost_export.specs.Exports.{config_path, config_text, ref_path, a_remote, IsFolderAbove, IsExportFolder, FurnishesAt, FurnishesName, Furnishes, CanExport}
use Rattle.ost_export.proofs.Paths.{two_branches, branch_off, branch_under, objects_branch, config_branch, refs_branch, one_work, none_below}

-- ---- paths

pub refs_within : (root : Elements) (r : Ref) → IsWithin (codes "refs" ∷ root) (ref_path root r)
refs_within root r = inr (inr (inr (inr (inr (inl refl)))))

pub remotes_within : (root : Elements) → IsWithin (codes "refs" ∷ root) (remotes root)
remotes_within root = inr (inl refl)

root_over : (root : Elements) (r : Ref) → IsAbove root (ref_path root r)
root_over root r = inr (inr (inr (inr (inr (inl refl)))))

above_root : (x : List ℕ) (root q : Elements) (r : Ref) → IsAbove q (x ∷ root) → IsAbove q (ref_path root r)
above_root x root q r (inl is) = subst (λ (p : Elements). IsAbove p (ref_path root r)) (sym is) (root_over root r)
above_root x root q r (inr up) = above_on q root (ref_path root r) up (root_over root r)

above_remote : (root q : Elements) (r : Ref) → IsAbove q (a_remote root) → IsExportFolder root r q
above_remote root q r (inl is) = inr is
above_remote root q r (inr (inl is)) = inl (inr (subst (λ (p : Elements). IsAbove p (ref_path root r)) (sym is) (inr (inr (inr (inr (inl refl)))))))
above_remote root q r (inr (inr up)) = inl (inr (above_root (codes "refs") root q r up))

-- the folder itself is made above the name in it
pub remotes_among : (root : Elements) → Contains (ancestors (a_remote root)) (remotes root)
remotes_among root = Contains-push (ancestors (remotes root)) (remotes root)

pub folder_cases : (p q : Elements) → Contains (folders_of p) q → IsAbove q p ⊎ ((q ≡ repo) ⊎ (q ≡ tmp))
folder_cases p q has = elim (Contains-append_cases (ancestors p) (repo ∷ tmp ∷ []) q has) [
  | inl up ↦ inl (ancestors_above p q up)
  | inr work ↦ elim (Contains-push_cases (repo ∷ []) tmp q work) [
    | inl first ↦ elim (Contains-push_cases [] repo q first) [ inl none ↦ absurd (omega (arith, none.1)) | inr is ↦ inr (inl (sym is)) ]
    | inr is ↦ inr (inr (sym is))
  ]
]

-- ---- one part of it, as the view u at the entry sees it

pub record FurnishStep (have : Have) (root : Elements) (r : Ref) (u v w : View) : Type 0 where
  pub keeps : Keeps (FurnishesAt have root r u) (FurnishesName have root r u) (IsWork u) v w
  pub files : KeepsFiles v w

pub furnishes_on : {have : Have} {root : Elements} {r : Ref} {u v w : View} → Furnishes have root r u v → FurnishStep have root r u v w → Furnishes have root r u w
furnishes_on first second = record { keeps = keeps_on first.keeps second.keeps; files = files_on first.files second.files }

pub furnishes_objects : {have : Have} {root : Elements} {r : Ref} {u w : View} → StoresObjects have root u w → Furnishes have root r u w
furnishes_objects stores = record {
  keeps = keeps_to (λ q spot h. elim h [ inl work ↦ inl work | inr other ↦ elim other [ inl new ↦ inr (inl new) | inr made ↦ inr (inr (inl (inl (inl made.0), made.1))) ] ])
      (λ q e h. elim h [ inl work ↦ inl work | inr other ↦ elim other [ inl new ↦ inr (inl new) | inr made ↦ inr (inr (inl (inl (inl made.0), made.1))) ] ])
      (λ q work. work)
      (λ q id work h. work)
      stores.keeps;
  files = stores.files;
}

-- ---- what the folders are not

module _ {root t : Elements} (apart : IsApart root t) (r : Ref) where
  object_no_folder : (d : List ℕ) (kind : ObjKind) (q : Elements) → q ≡ object_path root d kind → IsFolderAbove root r q → ⊥
  object_no_folder d kind q is (inl (inl above)) = absurd (omega (arith, ap length is, above_longer q (object_path root above.digest above.kind) above.above))
  object_no_folder d kind q is (inl (inr (inl work))) = branch_under apart (codes "objects") objects_branch q (subst (IsWithin (codes "objects" ∷ root)) (sym is) (object_within root d kind)) (subst (IsWithin q) (sym apart.is) (inr (inr (inl work))))
  object_no_folder d kind q is (inl (inr (inr work))) = branch_under apart (codes "objects") objects_branch q (subst (IsWithin (codes "objects" ∷ root)) (sym is) (object_within root d kind)) (subst (IsWithin q) (sym apart.is) (inr (inl work)))
  object_no_folder d kind q is (inr above) = two_branches (codes "objects") (codes "refs") root q (ref_path root r) (λ same. cc same) (subst (IsWithin (codes "objects" ∷ root)) (sym is) (object_within root d kind)) (refs_within root r) (inr above)

  config_no_folder : IsExportFolder root r (config_path root) → ⊥
  config_no_folder (inl (inl (inl above))) = two_branches (codes "config") (codes "objects") root (config_path root) (object_path root above.digest above.kind) (λ same. cc same) (inl refl) (object_within root above.digest above.kind) (inr above.above)
  config_no_folder (inl (inl (inr (inl work)))) = branch_under apart (codes "config") config_branch (config_path root) (inl refl) (subst (IsWithin (config_path root)) (sym apart.is) (inr (inr (inl work))))
  config_no_folder (inl (inl (inr (inr work)))) = branch_under apart (codes "config") config_branch (config_path root) (inl refl) (subst (IsWithin (config_path root)) (sym apart.is) (inr (inl work)))
  config_no_folder (inl (inr above)) = two_branches (codes "config") (codes "refs") root (config_path root) (ref_path root r) (λ same. cc same) (inl refl) (refs_within root r) (inr above)
  config_no_folder (inr is) = absurd (omega (arith, ap length is))

  ref_no_folder : IsExportFolder root r (ref_path root r) → ⊥
  ref_no_folder (inl (inl (inl above))) = two_branches (codes "refs") (codes "objects") root (ref_path root r) (object_path root above.digest above.kind) (λ same. cc same) (refs_within root r) (object_within root above.digest above.kind) (inr above.above)
  ref_no_folder (inl (inl (inr (inl work)))) = branch_under apart (codes "refs") refs_branch (ref_path root r) (refs_within root r) (subst (IsWithin (ref_path root r)) (sym apart.is) (inr (inr (inl work))))
  ref_no_folder (inl (inl (inr (inr work)))) = branch_under apart (codes "refs") refs_branch (ref_path root r) (refs_within root r) (subst (IsWithin (ref_path root r)) (sym apart.is) (inr (inl work)))
  ref_no_folder (inl (inr above)) = absurd (omega (arith, above_longer (ref_path root r) (ref_path root r) above))
  ref_no_folder (inr is) = absurd (omega (arith, ap length is))

-- ---- the place of the work goes on to be the same

module _ {have : Have} {root t : Elements} {r : Ref} {u v : View} (apart : IsApart root t) (staging : IsStaging u t) (furnishes : Furnishes have root r u v) (gone : v.names t ≡ absent) where
  still_first : (y : List ℕ) (q : Elements) → q ≡ y ∷ tmp → (u.names q ≡ absent → ⊥) → v.names q ≡ absent → ⊥
  still_first y q at there none = elim (furnishes.keeps.names q) [
    | inl same ↦ there (sym same ∙ none)
    | inr put ↦ elim put [
      | inl work ↦ elim (one_work staging work) [
        | inl is ↦ there (ap u.names is ∙ staging.free)
        | inr above ↦ absurd (omega (arith, above_longer t q above, ap length apart.is, ap length at))
      ]
      | inr other ↦ elim other [
        | inl new ↦ there new.free
        | inr more ↦ elim more [ inl made ↦ cc (sym none ∙ made.1) | inr config ↦ cc (sym none ∙ config.1.1) ]
      ]
    ]
  ]

  pub staging_on : IsStaging v t
  staging_on = record {
    number = staging.number;
    is = staging.is;
    free = gone;
    first = λ k low none. still_first (new_name k) (new_name k ∷ tmp) refl (staging.first k low) none;
  }

  pub staging_depth : (q : Elements) → IsStaging v q → length q ≤ 6
  staging_depth q s = omega (arith, ap length s.is)

  pub work_of : (q : Elements) → IsStaging v q → IsWork u q
  work_of q s = record { place = t; staging = staging; within = inl (one_staging s staging_on) }

  -- ---- what stands goes on to be free

  pub folder_free : IsTree v → CanExport root r u → (q : Elements) → IsFolderAbove root r q → IsFree v q
  folder_free tree can q above = elim (furnishes.keeps.names q) [
    | inl same ↦ free_at u v q same (can.folders q above)
    | inr put ↦ elim put [
      | inl work ↦ inl (none_below v tree t q gone (one_work staging work))
      | inr other ↦ elim other [
        | inl new ↦ absurd (object_no_folder apart r new.digest new.kind q new.at above)
        | inr more ↦ elim more [
          | inl made ↦ inr made.1
          | inr config ↦ absurd (config_no_folder apart r (inl (subst (IsFolderAbove root r) config.0 above)))
        ]
      ]
    ]
  ]

  pub config_free : CanExport root r u → IsFreeFile (config_path root) v
  config_free can = elim (furnishes.keeps.names (config_path root)) [
    | inl same ↦ elim can.config [ inl none ↦ inl (same ∙ none) | inr there ↦ inr (subst IsFile (sym same) there) ]
    | inr put ↦ elim put [
      | inl work ↦ absurd (branch_off apart (codes "config") config_branch (config_path root) (inl refl) (one_work staging work))
      | inr other ↦ elim other [
        | inl new ↦ absurd (omega (arith, ap length new.at))
        | inr more ↦ elim more [ inl made ↦ absurd (config_no_folder apart r made.0) | inr config ↦ inr config.1 ]
      ]
    ]
  ]

  pub ref_free : CanExport root r u → IsFreeFile (ref_path root r) v
  ref_free can = elim (furnishes.keeps.names (ref_path root r)) [
    | inl same ↦ elim can.ref [ inl none ↦ inl (same ∙ none) | inr there ↦ inr (subst IsFile (sym same) there) ]
    | inr put ↦ elim put [
      | inl work ↦ absurd (branch_off apart (codes "refs") refs_branch (ref_path root r) (refs_within root r) (one_work staging work))
      | inr other ↦ elim other [
        | inl new ↦ absurd (omega (arith, ap length new.at))
        | inr more ↦ elim more [ inl made ↦ absurd (ref_no_folder apart r made.0) | inr config ↦ absurd (omega (arith, ap length config.0)) ]
      ]
    ]
  ]

  pub can_config : IsTree v → CanExport root r u → CanReplace (config_path root) v
  can_config tree can = record {
    entry = config_free can;
    folders = record {
      free = λ q has. elim (folder_cases (config_path root) q has) [
        | inl up ↦ folder_free tree can q (inr (above_root (codes "config") root q r up))
        | inr work ↦ elim work [ inl is ↦ folder_free tree can q (inl (inr (inl is))) | inr is ↦ folder_free tree can q (inl (inr (inr is))) ]
      ];
    };
    no_root = λ is. absurd (cc is);
    no_repo = λ is. absurd (cc is);
    no_tmp = λ is. absurd (cc is);
    no_work = λ up. elim up [ inl is ↦ apart.no_work (inl (sym is)) | inr higher ↦ apart.no_work (inr higher) ];
  }

  pub can_remotes : IsTree v → CanExport root r u → v.names (remotes root) ≡ absent → AreFree (ancestors (a_remote root)) v
  can_remotes tree can none = record {
    free = λ q has. elim (above_remote root q r (ancestors_above (a_remote root) q has)) [
      | inl above ↦ folder_free tree can q above
      | inr is ↦ inl (ap v.names is ∙ none)
    ];
  }

  pub can_write : IsTree v → CanExport root r u → CanWrite root (Head r) v
  can_write tree can = record {
    entry = ref_free can;
    folders = record {
      free = λ q has. elim (folder_cases (ref_path root r) q has) [
        | inl up ↦ folder_free tree can q (inr up)
        | inr work ↦ elim work [ inl is ↦ folder_free tree can q (inl (inr (inl is))) | inr is ↦ folder_free tree can q (inl (inr (inr is))) ]
      ];
    };
    no_work = apart.no_work;
  }

  -- ---- the parts

  pub step_config : {w : View} → Replaces (config_path root) config_text v w → FurnishStep have root r u v w
  step_config writes = record {
    keeps = keeps_to
        (λ q spot h. elim h [
          | inl new ↦ inr (inr (inr new))
          | inr other ↦ elim other [
            | inl made ↦ inr (inr (inl (folder q made.0, made.1)))
            | inr work ↦ inl (work_of q work, inr (staging_depth q work))
          ]
        ])
        (λ q e h. elim h [
          | inl new ↦ inr (inr (inr new))
          | inr other ↦ elim other [
            | inl made ↦ inr (inr (inl (folder q made.0, made.1)))
            | inr work ↦ inl (work_of q work)
          ]
        ])
        (λ q work. work_of q work)
        (λ q id work h. elim h [
          | inl new ↦ absurd (branch_off apart (codes "config") config_branch (config_path root) (inl refl) (subst (IsWithin t) new.0 (one_work staging work)))
          | inr other ↦ elim other [ inl made ↦ absurd (cc made.1) | inr s ↦ s ]
        ])
        writes.keeps;
    files = writes.files;
  }
    where
      folder : (q : Elements) → Contains (folders_of (config_path root)) q → IsExportFolder root r q
      folder q has = elim (folder_cases (config_path root) q has) [
        | inl up ↦ inl (inr (above_root (codes "config") root q r up))
        | inr work ↦ elim work [ inl is ↦ inl (inl (inr (inl is))) | inr is ↦ inl (inl (inr (inr is))) ]
      ]

pub step_remotes : {have : Have} {root : Elements} {r : Ref} {u v w : View} → Keeps (FoldersAt (ancestors (a_remote root))) (DirsAt (ancestors (a_remote root))) NoPath v w → FurnishStep have root r u v w
step_remotes {root = root} {r = r} keeps = record {
  keeps = keeps_to
      (λ q spot h. inr (inr (inl (above_remote root q r (ancestors_above (a_remote root) q h.0), h.1))))
      (λ q e h. inr (inr (inl (above_remote root q r (ancestors_above (a_remote root) q h.0), h.1))))
      (λ q none. absurd none)
      (λ q id work h. absurd (cc h.1))
      keeps;
  files = files_kept keeps;
}
