-- What is asked of a pull can be met, and what it promises.
use Rattle.std.proofs.Common.{◌≡◌, ◌⊎◌, ◌<◌, inl, inr, ℕ, List, [], ◌∷◌, ◌++◌, length, None, refl, sym, ◌∙◌, ap, subst, arith, codes}
use Rattle.fp_host.specs.Paths.{Elements, absent, IsAbove}
use Rattle.fp_host.specs.View.{View, IsTree}
use Rattle.fp_host.specs.Outcome.{IsSettled, shows, spot_of}
use Rattle.fp_host.proofs.Settled.{at_tree, settled_disk}
use Rattle.fp_host.proofs.Above.{below_child, above_longer}
use Rattle.fp_small.specs.Clear.{IsWithin}
use Rattle.fp_small.specs.Places.{IsBare, repo, tmp}
use Rattle.fp_small.proofs.Within.{one_child}
use Rattle.fp_small.proofs.Bare.{bare_free}
use Rattle.ost_model.specs.Objects.{object_path, object_at, store}
use Rattle.ost_model.specs.Order.{first_fault}
use Rattle.ost_model.specs.Stores.{objects_folder}
use Rattle.ost_store.proofs.Samples.{empty_store}
use Rattle.ost_pull.specs.Pulls.{IsApart, CanPull, HasPulled}

-- ---- folders side by side

not_same : codes "objects" ≡ codes "tmp" → ⊥
not_same same = absurd (omega (arith, ap length same))

in_tmp : (name : List ℕ) (q : Elements) → IsWithin (name ∷ tmp) q → IsWithin tmp q
in_tmp name q (inl is) = inr (subst (IsAbove tmp) (sym is) (inl refl))
in_tmp name q (inr above) = inr (below_child name tmp q above)

within_long : (p q : Elements) → IsWithin p q → length p < length q ⊎ (q ≡ p)
within_long p q (inl is) = inr is
within_long p q (inr above) = inl (above_longer p q above)

pub work_apart : (name : List ℕ) → IsApart repo (name ∷ tmp)
work_apart name = record {
  below = λ q objects work. not_same (one_child (codes "objects") (codes "tmp") repo q objects (in_tmp name q work));
  above = λ q objects up. elim up [
    | inl is ↦ not_same (one_child (codes "objects") (codes "tmp") repo q objects (inl is))
    | inr higher ↦ elim (within_long (objects_folder repo) q objects) [
      | inl long ↦ absurd (omega (arith, long, above_longer q tmp higher))
      | inr is ↦ absurd (omega (arith, ap length is, above_longer q tmp higher))
    ]
  ];
}

-- ---- the root alone

bare_below : (v : View) → IsBare v → (p q : Elements) → IsAbove p q → v.names q ≡ absent
bare_below v bare p [] above = absurd above
bare_below v bare p (x ∷ up) above = bare.none x up

bare_names : (v : View) → IsBare v → (rest : Elements) (xx : List ℕ) → v.names (rest ++ (xx ∷ objects_folder repo)) ≡ absent
bare_names v bare [] xx = bare.none xx (objects_folder repo)
bare_names v bare (x ∷ rest) xx = bare.none x (rest ++ (xx ∷ objects_folder repo))

pub bare_pulls : (name : List ℕ) (v : View) → IsBare v → IsTree v → IsSettled v → CanPull repo (name ∷ tmp) v
bare_pulls name v bare tree settled = record {
  true_names = empty_store repo v tree settled (bare_names v bare);
  low = omega arith;
  clears = record { no_root = λ is. absurd (omega (arith, ap length is)); below = record { short = λ q above. inl (bare_below v bare (name ∷ tmp) q above) } };
  work_open = λ q above. bare_free v bare q;
  store_open = record { free = λ q above. bare_free v bare q };
}

-- ---- a commit that is there

pub there_pulled : (root : Elements) (commit : List ℕ) (v : View) → IsTree v → IsSettled v → first_fault (store root (shows v)) commit ≡ None → HasPulled root (store root (shows v)) commit v
there_pulled root commit v tree settled clean = record {
  clean = clean;
  stored = λ disk left p has. ap (object_at p.kind) (settled_disk v tree settled disk left (object_path root p.digest p.kind) ∙ ap (spot_of v.files) (sym (at_tree v tree (object_path root p.digest p.kind))));
}
