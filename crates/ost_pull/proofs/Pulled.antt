-- What a pull leaves.
use Rattle.std.proofs.Common.{◌≡◌, ◌≢◌, ◌≤◌, ◌+◌, inl, inr, ℕ, List, [], ◌∷◌, ◌++◌, length, refl, sym, ◌∙◌, ap, subst, arith, codes, take, drop, length-append}
use Rattle.fp_host.specs.Paths.{Elements, Slot, absent, IsAbove}
use Rattle.fp_host.specs.View.{View}
use Rattle.fp_host.specs.Outcome.{Spot}
use Rattle.fp_host.proofs.Framed.{keeps_refl, keeps_to}
use Rattle.fp_host.proofs.Above.{above_longer}
use Rattle.fp_small.specs.Clear.{IsWithin, CanClear}
use Rattle.fp_small.specs.declared.limits.TheConstants.{MOST_ELEMENTS}
use Rattle.fp_small.proofs.Keeping.{files_on, files_stay}
use Rattle.fp_small.proofs.Making.{free_at}
use Rattle.fp_name.specs.Hex.{hex}
use Rattle.fp_base.specs.declared.object.ObjKind.{ObjKind}
use Rattle.ost_model.specs.Objects.{object_path}
use Rattle.fp_base.specs.Objects.{kind_text}
use Rattle.ost_model.specs.Stores.{objects_folder, is_prefix, MayBePrefix, MayBeObject}
use Rattle.ost_model.proofs.Stores.{store_goes_on}
use Rattle.ost_store.specs.Place.{LeavesStore}
use Rattle.ost_store.proofs.Elements.{prefix_is_one}
use Rattle.ost_store.proofs.ObjectPaths.{object_within, below_work, not_both}
use Rattle.ost_store.specs.ObjectNames.{AreOpen}
use Rattle.ost_pull.specs.Work.{Works}
use Rattle.ost_pull.proofs.Apart.{off_object, off_above, works_off, spot_off}
use Rattle.ost_pull.specs.Pulls.{IsApart, PullsAt, PullsName, Pulls}

-- ---- lengths

-- the one name of two elements below a folder that is above the object's own
one_above : (x y xx : List ℕ) (up : Elements) → IsAbove (xx ∷ up) (x ∷ y ∷ up) → xx ≡ y
one_above x y xx up (inl is) = cc is
one_above x y xx up (inr (inl is)) = absurd (omega (arith, ap length is))
one_above x y xx up (inr (inr higher)) = absurd (omega (arith, above_longer (xx ∷ up) up higher))

-- ---- a store whose names are true

module _ (root t : Elements) (apart : IsApart root t) (u : View) where
  prefix_may : (xx : List ℕ) (spot : Spot) → PullsAt root t u (xx ∷ objects_folder root) spot → MayBePrefix xx spot
  prefix_may xx spot (inl work) = absurd (spot_off root t apart (xx ∷ objects_folder root) spot (inr (inl refl)) work)
  prefix_may xx spot (inr (inl new)) = absurd (omega (arith, ap length new.at))
  prefix_may xx spot (inr (inr made)) =
      let d = made.0.digest in
      let one : xx ≡ take 2 (hex d) = one_above (drop 2 (hex d) ++ (codes "." ++ kind_text made.0.kind)) (take 2 (hex d)) xx (objects_folder root) made.0.above in
      inr (made.1, ap is_prefix one ∙ prefix_is_one d made.0.digits)

  object_may : (rest : Elements) (name xx : List ℕ) (spot : Spot) → PullsAt root t u (rest ++ (name ∷ (xx ∷ objects_folder root))) spot → MayBeObject root (rest ++ (name ∷ (xx ∷ objects_folder root))) spot
  object_may rest name xx spot (inl work) = absurd (spot_off root t apart (rest ++ (name ∷ (xx ∷ objects_folder root))) spot (deep rest) work)
    where
      deep : (r : Elements) → IsWithin (objects_folder root) (r ++ (name ∷ (xx ∷ objects_folder root)))
      deep [] = inr (inr (inl refl))
      deep (x ∷ r) = inr (higher (deep r))
        where
          higher : IsWithin (objects_folder root) (r ++ (name ∷ (xx ∷ objects_folder root))) → IsAbove (objects_folder root) (x ∷ (r ++ (name ∷ (xx ∷ objects_folder root))))
          higher (inl is) = inl (sym is)
          higher (inr above) = inr above
  object_may rest name xx spot (inr (inl new)) = inr (record { digest = new.digest; kind = new.kind; digits = new.digits; name = new.at; named = new.named })
  object_may rest name xx spot (inr (inr made)) =
      let q = rest ++ (name ∷ (xx ∷ objects_folder root)) in
      absurd (omega (arith, above_longer q (object_path root made.0.digest made.0.kind) made.0.above, length-append rest (name ∷ (xx ∷ objects_folder root))))

pub pulls_store : (root t : Elements) (u w : View) → IsApart root t → Pulls root t u w → LeavesStore root u → LeavesStore root w
pulls_store root t u w apart pulls before = record {
  each = λ disk left.
      let b = pulls.keeps.follows.from disk left in
      store_goes_on root b.0 disk (record {
        prefixes = λ xx. elim (b.2 (xx ∷ objects_folder root)) [ inl same ↦ inl same | inr given ↦ inr (prefix_may root t apart u xx _ given) ];
        objects = λ rest name xx. elim (b.2 (rest ++ (name ∷ (xx ∷ objects_folder root)))) [ inl same ↦ inl same | inr given ↦ inr (object_may root t apart u rest name xx _ given) ];
      }) (before.each b.0 b.1);
}

-- ---- names that are there

pub pulls_names : (root t : Elements) (d : List ℕ) (kind : ObjKind) (u w : View) → IsApart root t → Pulls root t u w → u.names (object_path root d kind) ≢ absent → w.names (object_path root d kind) ≡ u.names (object_path root d kind)
pulls_names root t d kind u w apart pulls there = elim (pulls.keeps.names (object_path root d kind)) [
  | inl same ↦ same
  | inr put ↦ elim put [
    | inl work ↦ absurd (works_off root t apart (object_path root d kind) _ (object_within root d kind) work)
    | inr other ↦ elim other [ inl new ↦ absurd (there new.free) | inr made ↦ absurd (omega (arith, above_longer (object_path root d kind) (object_path root made.0.digest made.0.kind) made.0.above)) ]
  ]
]

pub pulls_refl : {root t : Elements} {v : View} → Pulls root t v v
pulls_refl = record { keeps = keeps_refl; files = files_stay }

-- ---- one pull goes on

module _ (root t : Elements) (apart : IsApart root t) {u v : View} (first : Pulls root t u v) where
  -- what was absent after the first part was so before
  free_before : (q : Elements) (d : List ℕ) (kind : ObjKind) → q ≡ object_path root d kind → v.names q ≡ absent → u.names q ≡ absent
  free_before q d kind at none = elim (first.keeps.names q) [
    | inl same ↦ sym same ∙ none
    | inr put ↦ elim put [
      | inl work ↦ absurd (works_off root t apart q _ within work)
      | inr other ↦ elim other [ inl new ↦ new.free | inr made ↦ absurd (cc (sym none ∙ made.1)) ]
    ]
  ]
    where
      within : IsWithin (objects_folder root) q
      within = subst (IsWithin (objects_folder root)) (sym at) (object_within root d kind)

  spot_before : (q : Elements) (spot : Spot) → PullsAt root t v q spot → PullsAt root t u q spot
  spot_before q spot (inl work) = inl work
  spot_before q spot (inr (inl new)) = inr (inl (record { digest = new.digest; kind = new.kind; digits = new.digits; at = new.at; named = new.named; free = free_before q new.digest new.kind new.at new.free }))
  spot_before q spot (inr (inr made)) = inr (inr made)

  name_before : (q : Elements) (e : Slot) → PullsName root t v q e → PullsName root t u q e
  name_before q e (inl work) = inl work
  name_before q e (inr (inl new)) = inr (inl (record { digest = new.digest; kind = new.kind; digits = new.digits; at = new.at; free = free_before q new.digest new.kind new.at new.free }))
  name_before q e (inr (inr made)) = inr (inr made)

  pub pulls_on : {w : View} → Pulls root t v w → Pulls root t u w
  pulls_on {w = w} second = record {
    keeps = record {
      follows = record {
        from = λ disk left.
            let mid = second.keeps.follows.from disk left in
            let old = first.keeps.follows.from mid.0 mid.1 in (
              old.0,
              old.1,
              λ p. elim (mid.2 p) [
                | inl same ↦ elim (old.2 p) [ inl s ↦ inl (same ∙ s) | inr given ↦ inr (subst (PullsAt root t u p) (sym same) given) ]
                | inr given ↦ inr (spot_before p (disk p) given)
              ],
            );
      };
      names = λ q. elim (second.keeps.names q) [
        | inl same ↦ elim (first.keeps.names q) [ inl s ↦ inl (same ∙ s) | inr put ↦ inr (subst (PullsName root t u q) (sym same) put) ]
        | inr put ↦ inr (name_before q _ put)
      ];
      files = λ id f some off. second.files.rows id f (first.files.rows id f some);
      rows = λ id none. first.keeps.rows id (second.keeps.rows id none);
      held = λ q id at is. elim (second.keeps.held q id at is) [ inl none ↦ inl (first.keeps.rows id none) | inr had ↦ first.keeps.held had.0 id had.1 had.2 ];
      printed = second.keeps.printed ∙ first.keeps.printed;
      stood = λ x had. second.keeps.stood x (first.keeps.stood x had);
      puts = λ x had. elim (second.keeps.puts x had) [ inl before ↦ first.keeps.puts x before | inr put ↦ inr (name_before x.0 x.1 put) ];
      empty = λ none. absurd (none t (inl refl));
    };
    files = files_on first.files second.files;
  }

-- ---- what a pull leaves open

module _ (root t : Elements) (apart : IsApart root t) {u w : View} (pulls : Pulls root t u w) where
  -- folders above the objects' names stay free
  pub pulls_open : AreOpen root u → AreOpen root w
  pulls_open before = record {
    free = λ q above. elim (pulls.keeps.names q) [
      | inl same ↦ free_at u w q same (before.free q above)
      | inr put ↦ elim put [
        | inl work ↦ elim work [
          | inl name ↦ absurd (off_above root t apart q above (below_work t name.digest name.kind q name.at))
          | inr other ↦ elim other [ inl made ↦ inr made.1 | inr away ↦ inl away.1 ]
        ]
        | inr other ↦ elim other [
          | inl new ↦ absurd (not_both root q (record { digest = new.digest; kind = new.kind; digits = new.digits; at = new.at }) above)
          | inr made ↦ inr made.1
        ]
      ]
    ];
  }

  -- and the work folder may be cleared still
  pub pulls_clears : length t + 3 ≤ MOST_ELEMENTS → CanClear t u → CanClear t w
  pulls_clears low before = record {
    no_root = before.no_root;
    below = record {
      short = λ q below. elim (pulls.keeps.names q) [
        | inl same ↦ elim (before.below.short q below) [ inl none ↦ inl (same ∙ none) | inr short ↦ inr short ]
        | inr put ↦ elim put [
          | inl work ↦ elim work [
            | inl name ↦ inr (omega (arith, low, ap length name.at))
            | inr other ↦ elim other [
              | inl made ↦ inr (omega (arith, low, above_longer q (object_path t made.0.digest made.0.kind) made.0.above))
              | inr away ↦ inl away.1
            ]
          ]
          | inr other ↦ elim other [
            | inl new ↦ absurd (off_object root t apart new.digest new.kind (inr (subst (IsAbove t) new.at below)))
            | inr made ↦ absurd (off_above root t apart q made.0 (inr below))
          ]
        ]
      ];
    };
  }

-- work alone is a part of a pull
pub pulls_work : (root t : Elements) (u w : View) → IsApart root t → Works t u w → Pulls root t u w
pulls_work root t u w apart works = record {
  keeps = keeps_to (λ q spot h. inl h) (λ q e h. inl h) (λ q h. h) (λ q id h put. h) works.keeps;
  files = works.files;
}
