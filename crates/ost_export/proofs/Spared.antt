-- What an export leaves alone, and where it may be done.
use Rattle.std.proofs.Common.{◌≡◌, ◌≢◌, ◌⊎◌, inl, inr, ℕ, List, [], ◌∷◌, length, true, None, refl, sym, ◌∙◌, ap, subst, arith, codes}
use Rattle.fp_host.specs.Paths.{Elements, Slot, absent, IsAbove}
use Rattle.fp_host.specs.View.{View, IsTree}
use Rattle.fp_host.proofs.Above.{above_longer}
use Rattle.fp_small.specs.Clear.{IsWithin}
use Rattle.fp_small.specs.Places.{IsBare, repo, tmp, new_name}
use Rattle.fp_small.proofs.Within.{within_on}
use Rattle.fp_small.proofs.Bare.{bare_free}
use Rattle.fp_name.specs.Hex.{is_digest}
use Rattle.fp_name.specs.Refs.{Ref}
use Rattle.fp_base.specs.declared.object.ObjKind.{ObjKind}
use Rattle.ost_model.specs.Objects.{Have, object_path}
use Rattle.ost_model.specs.Order.{first_fault}
use Rattle.ost_refs.specs.Places.{place_path, remotes}
use Rattle.ost_refs.specs.declared.place.RefPlace.{RefPlace}
use Rattle.ost_refs.specs.declared.place.RefPlace.TheVariants.{Head, Remote}
use Rattle.ost_store.proofs.ObjectPaths.{object_within}
use Rattle.ost_commit.specs.declared.row.TreeRow.{TreeRow}
use Rattle.ost_commit.specs.declared.built.Built.{Built}
use Rattle.ost_commit.specs.Objects.{have_of}
use Rattle.ost_commit.specs.Built.{BuiltCommit}
use Rattle.ost_export.specs.Staging.{IsApart, AreWhole}
use Rattle.ost_export.specs.Storing.{IsNoWork, IsWork}
use Rattle.ost_export.specs.Exports.{config_path, ref_path, IsExportFolder, ExportsName, Exports, AreFit, CanExport, IsSpared}
use Rattle.ost_export.proofs.Paths.{two_branches, apart_of, branch_off, branch_under, objects_branch, refs_branch, none_below}
use Rattle.ost_export.proofs.Furnished.{refs_within}

-- ---- a path that is none of those that an export writes

pub record IsOff (root : Elements) (r : Ref) (u : View) (q : Elements) : Type 0 where
  work : IsWork u q → ⊥
  object : (d : List ℕ) (kind : ObjKind) → is_digest d ≡ true → q ≡ object_path root d kind → u.names q ≡ absent → ⊥
  folder : IsExportFolder root r q → ⊥
  config : q ≡ config_path root → ⊥
  ref : q ≡ ref_path root r → ⊥

-- no such name comes to hold anything
pub not_put : {have : Have} {root : Elements} {r : Ref} {u : View} {q : Elements} (e : Slot) → IsOff root r u q → ExportsName have root r u q e → ⊥
not_put e off put = elim put [
  | inl furnished ↦ elim furnished [
    | inl work ↦ off.work work
    | inr other ↦ elim other [
      | inl new ↦ off.object new.digest new.kind new.digits new.at new.free
      | inr more ↦ elim more [ inl made ↦ off.folder made.0 | inr config ↦ off.config config.0 ]
    ]
  ]
  | inr ref ↦ off.ref ref.0
]

spared : {have : Have} {root : Elements} {r : Ref} {commit : List ℕ} {u w : View} {q : Elements} → IsOff root r u q → Exports have root r commit u w → IsSpared q u w
spared {q = q} off exports = record {
  name = elim (exports.keeps.names q) [
    | inl same ↦ same
    | inr put ↦ elim put [
      | inl furnished ↦ elim furnished [
        | inl work ↦ absurd (off.work work)
        | inr other ↦ elim other [
          | inl new ↦ absurd (off.object new.digest new.kind new.digits new.at new.free)
          | inr more ↦ elim more [ inl made ↦ absurd (off.folder made.0) | inr config ↦ absurd (off.config config.0) ]
        ]
      ]
      | inr ref ↦ absurd (off.ref ref.0)
    ]
  ];
  outcomes = λ disk left.
      let b = exports.keeps.follows.from disk left in (
        b.0,
        b.1,
        elim (b.2 q) [
          | inl same ↦ same
          | inr given ↦ elim given [
            | inl furnished ↦ elim furnished [
              | inl work ↦ absurd (off.work work.0)
              | inr other ↦ elim other [
                | inl new ↦ absurd (off.object new.digest new.kind new.digits new.at new.free)
                | inr more ↦ elim more [ inl made ↦ absurd (off.folder made.0) | inr config ↦ absurd (off.config config.0) ]
              ]
            ]
            | inr ref ↦ absurd (off.ref ref.0)
          ]
        ],
      );
}

-- any place of the work
a_place : {root : Elements} → IsNoWork root → IsApart root (new_name 0 ∷ tmp)
a_place outer = record { number = 0; is = refl; no_work = outer.no_work }

-- ---- another ref

place_within : (root : Elements) (place : RefPlace) → IsWithin (codes "refs" ∷ root) (place_path root place)
place_within root (Head r) = refs_within root r
place_within root (Remote origin r) = inr (inr (inr (inr (inr (inr (inl refl))))))

place_long : (root : Elements) (r : Ref) (place : RefPlace) → IsAbove (place_path root place) (ref_path root r) → ⊥
place_long root r (Head s) above = absurd (omega (arith, above_longer (place_path root (Head s)) (ref_path root r) above))
place_long root r (Remote origin s) above = absurd (omega (arith, above_longer (place_path root (Remote origin s)) (ref_path root r) above))

place_low : (root : Elements) (place : RefPlace) → place_path root place ≡ remotes root → ⊥
place_low root (Head s) is = absurd (omega (arith, ap length is))
place_low root (Remote origin s) is = absurd (omega (arith, ap length is))

place_config : (root : Elements) (place : RefPlace) → place_path root place ≡ config_path root → ⊥
place_config root (Head s) is = absurd (omega (arith, ap length is))
place_config root (Remote origin s) is = absurd (omega (arith, ap length is))

module _ {root : Elements} (outer : IsNoWork root) where
  pub off_ref : {r : Ref} {u : View} (place : RefPlace) → (place_path root place ≡ ref_path root r → ⊥) → IsOff root r u (place_path root place)
  off_ref {r = r} {u = u} place other = record {
    work = λ work. branch_off (apart_of outer work.staging) (codes "refs") refs_branch (place_path root place) (place_within root place) work.within;
    object = λ d kind digits is none. two_branches (codes "objects") (codes "refs") root (object_path root d kind) (place_path root place) (λ same. cc same) (object_within root d kind) (place_within root place) (inl is);
    folder = λ h. elim h [
      | inl above ↦ elim above [
        | inl store ↦ elim store [
          | inl object ↦ two_branches (codes "refs") (codes "objects") root (place_path root place) (object_path root object.digest object.kind) (λ same. cc same) (place_within root place) (object_within root object.digest object.kind) (inr object.above)
          | inr work ↦ elim work [
            | inl is ↦ branch_under (a_place outer) (codes "refs") refs_branch (place_path root place) (place_within root place) (inr (inr (inl is)))
            | inr is ↦ branch_under (a_place outer) (codes "refs") refs_branch (place_path root place) (place_within root place) (inr (inl is))
          ]
        ]
        | inr up ↦ place_long root r place up
      ]
      | inr is ↦ place_low root place is
    ];
    config = λ is. place_config root place is;
    ref = other;
  }

  pub other_ref : {have : Have} {r : Ref} {commit : List ℕ} {u w : View} (place : RefPlace) → (place_path root place ≡ ref_path root r → ⊥) → Exports have root r commit u w → IsSpared (place_path root place) u w
  other_ref place other exports = spared (off_ref place other) exports

  -- ---- an object that is there

  pub other_object : {have : Have} {r : Ref} {commit : List ℕ} {u w : View} (d : List ℕ) (kind : ObjKind) → u.names (object_path root d kind) ≢ absent → Exports have root r commit u w → IsSpared (object_path root d kind) u w
  other_object {r = r} {u = u} d kind there exports = spared (record {
    work = λ work. branch_off (apart_of outer work.staging) (codes "objects") objects_branch (object_path root d kind) (object_within root d kind) work.within;
    object = λ e m digits is none. there none;
    folder = λ h. elim h [
      | inl above ↦ elim above [
        | inl store ↦ elim store [
          | inl object ↦ absurd (omega (arith, above_longer (object_path root d kind) (object_path root object.digest object.kind) object.above))
          | inr work ↦ elim work [
            | inl is ↦ branch_under (a_place outer) (codes "objects") objects_branch (object_path root d kind) (object_within root d kind) (inr (inr (inl is)))
            | inr is ↦ branch_under (a_place outer) (codes "objects") objects_branch (object_path root d kind) (object_within root d kind) (inr (inl is))
          ]
        ]
        | inr up ↦ two_branches (codes "objects") (codes "refs") root (object_path root d kind) (ref_path root r) (λ same. cc same) (object_within root d kind) (refs_within root r) (inr up)
      ]
      | inr is ↦ absurd (omega (arith, ap length is))
    ];
    config = λ is. absurd (omega (arith, ap length is));
    ref = λ is. two_branches (codes "objects") (codes "refs") root (object_path root d kind) (ref_path root r) (λ same. cc same) (object_within root d kind) (refs_within root r) (inl (sym is));
  }) exports

-- ---- what is elsewhere

-- a folder above what is in the store is in it, or above it
above_store : (root p q : Elements) → IsAbove root p → IsAbove q p → IsWithin root q ⊎ IsAbove q root
above_store root [] q up above = absurd up
above_store root (x ∷ rest) q (inl is) (inl at) = inl (inl (at ∙ sym is))
above_store root (x ∷ rest) q (inl is) (inr above) = inr (subst (IsAbove q) (sym is) above)
above_store root (x ∷ rest) q (inr up) (inl at) = inl (subst (IsWithin root) (sym at) (inr up))
above_store root (x ∷ rest) q (inr up) (inr above) = above_store root rest q up above

pub elsewhere : {have : Have} {root : Elements} {r : Ref} {commit : List ℕ} {u w : View} (q : Elements) → (IsWithin root q → ⊥) → (IsAbove q root → ⊥) → (IsWithin tmp q → ⊥) → (q ≡ repo → ⊥) → Exports have root r commit u w → IsSpared q u w
elsewhere {root = root} {r = r} q off up no_tmp no_repo exports = spared (record {
  work = λ work. no_tmp (within_on tmp work.place q (subst (IsWithin tmp) (sym work.staging.is) (inr (inl refl))) work.within);
  object = λ d kind digits is none. off (subst (IsWithin root) (sym is) (inr (inr (inr (inl refl)))));
  folder = λ h. elim h [
    | inl above ↦ elim above [
      | inl store ↦ elim store [
        | inl object ↦ by_place (above_store root (object_path root object.digest object.kind) q (inr (inr (inl refl))) object.above)
        | inr work ↦ elim work [ inl is ↦ no_repo is | inr is ↦ no_tmp (inl is) ]
      ]
      | inr high ↦ by_place (above_store root (ref_path root r) q (inr (inr (inr (inr (inr (inl refl)))))) high)
    ]
    | inr is ↦ off (subst (IsWithin root) (sym is) (inr (inr (inl refl))))
  ];
  config = λ is. off (subst (IsWithin root) (sym is) (inr (inl refl)));
  ref = λ is. off (subst (IsWithin root) (sym is) (inr (inr (inr (inr (inr (inr (inl refl))))))));
}) exports
  where
    by_place : IsWithin root q ⊎ IsAbove q root → ⊥
    by_place (inl within) = off within
    by_place (inr above) = up above

-- ---- where it may be done

pub bare_can : (root : Elements) (r : Ref) (v : View) → IsBare v → CanExport root r v
bare_can root r v bare = record { config = inl (bare.none _ _); ref = inl (bare.none _ _); folders = λ q above. bare_free v bare q }

pub absent_fit : (have : Have) (root : Elements) (v : View) → IsTree v → v.names root ≡ absent → AreFit have root v
absent_fit have root v tree none = record { each = λ d kind object is. inl (none_below v tree root (object_path root d kind) none (inr (inr (inr (inl refl))))) }

pub built_whole : (rows : List TreeRow) (r : Ref) (subject : List ℕ) (timestamp : ℕ) (built : Built) → BuiltCommit rows r subject timestamp built → AreWhole built.objects × (first_fault (have_of built.objects) built.commit ≡ None)
built_whole rows r subject timestamp built b = (record { named = b.named; apart = b.apart }, b.whole)
