-- The extents of members, one after the other.
use Rattle.std.proofs.Common.{◌≡◌, ℕ, zero, suc, ◌+◌, ◌<◌, ◌≤◌, min, max, Bool, true, false, List, [], ◌∷◌, length, get_or, drop, Option, Some, None, option_map, option_and_then, unwrap_or, refl, sym, ap, ap₂, ◌∙◌, subst, arith}
use Rattle.std.proofs.lemmas.Bool.{cases_lt}
use Rattle.std.proofs.lemmas.List.{drop_more, drop_all}
use Rattle.std.proofs.Common.{⊎_elim}
use Rattle.gv_value.specs.declared.limits.TheConstants.{TOO_LARGE}
use Rattle.gv_value.specs.Basics.{form_of}
use Rattle.gv_value.proofs.Laws.{form_size-pos}
use Rattle.gv_value.specs.Spelled.{two_shapes}
use Rattle.gv_value.specs.Shape.{Shape, Shapes, no_shapes, shape}
use Rattle.gv_value.specs.Layout.{form_size, padding, padded_end, filled, align_of, greatest_align, size_of, end_of}
use Rattle.gv_value.specs.Capped.{capped, capped_size, run_end, IsExtent, IsRun}
use Rattle.gv_value.specs.Views.{shape_of, shapes_of}
use Rattle.gv_value.specs.declared.types.GvType.{GvType}
use Rattle.gv_value.specs.declared.extent.Extent.{Extent}

capped-end : (at a n : ℕ) → capped (padded_end (capped at) a (capped n)) ≡ capped (padded_end at a n)
capped-end at a n = ⊎_elim (λ lt. below lt) (λ le. omega arith) (cases_lt at TOO_LARGE)
  where
    below : at < TOO_LARGE → capped (padded_end (capped at) a (capped n)) ≡ capped (padded_end at a n)
    below lt = let same : capped at ≡ at = omega arith in ap (λ (x : ℕ). capped (padded_end x a (capped n))) same ∙ omega arith

pub capped-filled : (a e : ℕ) → capped (filled a (capped e)) ≡ capped (filled a e)
capped-filled a e = ⊎_elim (λ lt. below lt) (λ le. omega arith) (cases_lt e TOO_LARGE)
  where
    below : e < TOO_LARGE → capped (filled a (capped e)) ≡ capped (filled a e)
    below lt = let same : capped e ≡ e = omega arith in ap (λ (x : ℕ). capped (filled a x)) same

form_align-pos : (o : Option ℕ) → ((s : ℕ) → o ≡ Some s → 0 < s) → 0 < unwrap_or o 1
form_align-pos None h = omega arith
form_align-pos (Some s) h = h s refl

mutual
  pub align-pos : (t : Shape) → 0 < align_of t
  align-pos (Shape.basic b) = form_align-pos (form_size (form_of b)) (form_size-pos (form_of b))
  align-pos Shape.variant = omega arith
  align-pos (Shape.array t) = align-pos t
  align-pos (Shape.maybe t) = align-pos t
  align-pos (Shape.tuple ts) = greatest_align-pos ts
  align-pos (Shape.entry k v) = omega (arith, align-pos k)

  pub greatest_align-pos : (ts : Shapes) → 0 < greatest_align ts
  greatest_align-pos no_shapes = omega arith
  greatest_align-pos (shape t ts) = omega (arith, align-pos t)

-- one more member after capped ends
pub run_end-capped : (at : Option ℕ) (a : ℕ) (size : Option ℕ) → run_end (capped_size at) a (capped_size size) ≡ capped_size (option_and_then (λ x. option_map (λ n. padded_end x a n) size) at)
run_end-capped None a size = refl
run_end-capped (Some at) a None = refl
run_end-capped (Some at) a (Some n) = ap (λ (x : ℕ). Some x) (capped-end at a n)

-- where members end after others
abbrev pub end_after_all : Option ℕ → Shapes → Option ℕ
end_after_all at ts = option_and_then (λ x. end_of x ts) at

abbrev pub end_after_one : Option ℕ → Shape → Option ℕ
end_after_one at t = option_and_then (λ x. option_map (λ n. padded_end x (align_of t) n) (size_of t)) at

end_after-more : (at : Option ℕ) (t : Shape) (ts : Shapes) → end_after_all at (shape t ts) ≡ end_after_all (end_after_one at t) ts
end_after-more None t ts = refl
end_after-more (Some x) t ts = by (size_of t)
  where
    by : (o : Option ℕ) → option_and_then (λ n. end_of (padded_end x (align_of t) n) ts) o ≡ option_and_then (λ y. end_of y ts) (option_map (λ n. padded_end x (align_of t) n) o)
    by None = refl
    by (Some n) = refl

-- members so far, and what they and the others come to
pub record SoFar (e : Extent) (rest all : Shapes) : Type 0 where
  pub at : Option ℕ
  pub align_is : max e.align (greatest_align rest) ≡ greatest_align all
  pub end_is : e.size ≡ capped_size at
  pub whole : end_after_all at rest ≡ end_of 0 all

pub so_far-none : (e : Extent) (ts : Shapes) → e.align ≡ 1 → e.size ≡ Some 0 → SoFar e ts ts
so_far-none e ts align size = record {
  at = Some 0;
  align_is = omega (arith, greatest_align-pos ts);
  end_is = size;
  whole = refl;
}

pub so_far-more : (e m f : Extent) (t : Shape) (rest all : Shapes) → SoFar e (shape t rest) all → IsExtent m t → f.align ≡ max e.align m.align → f.size ≡ run_end e.size m.align m.size → SoFar f rest all
so_far-more e m f t rest all so is align size = record {
  at = end_after_one so.at t;
  align_is = omega (arith, so.align_is, is.align, align);
  end_is = size ∙ ap (λ (o : Option ℕ). run_end o m.align m.size) so.end_is ∙ ap₂ (run_end (capped_size so.at)) is.align is.size ∙ run_end-capped so.at (align_of t) (size_of t);
  whole = sym (end_after-more so.at t rest) ∙ so.whole;
}

pub run-from : (e : Extent) (all : Shapes) → SoFar e no_shapes all → 0 < e.align → IsRun e (greatest_align all) (end_of 0 all)
run-from e all so pos = record { align_is = omega (arith, so.align_is); end_is = so.end_is ∙ ap capped_size (by so.at ∙ so.whole) }
  where
    by : (o : Option ℕ) → o ≡ end_after_all o no_shapes
    by None = refl
    by (Some x) = refl

-- the extent of a tuple, from that of its members
pub filled-from : (r e : Extent) (ts : Shapes) → IsRun r (greatest_align ts) (end_of 0 ts) → e.align ≡ r.align → e.size ≡ option_map (λ end. capped (filled r.align end)) r.size → IsExtent e (Shape.tuple ts)
filled-from r e ts run align size = record {
  align = align ∙ run.align_is;
  size = size ∙ ap₂ (λ (a : ℕ) (o : Option ℕ). option_map (λ end. capped (filled a end)) o) run.align_is run.end_is ∙ by (greatest_align ts) (end_of 0 ts);
}
  where
    by : (a : ℕ) (o : Option ℕ) → option_map (λ end. capped (filled a end)) (capped_size o) ≡ capped_size (option_map (filled a) o)
    by a None = refl
    by a (Some x) = ap (λ (n : ℕ). Some n) (capped-filled a x)

-- the extent of a dictionary entry, as that of two members
pub entry-from : (none key both e mk mv : Extent) (k v : Shape) → none.align ≡ 1 → none.size ≡ Some 0 → IsExtent mk k → IsExtent mv v →
    key.align ≡ max none.align mk.align → key.size ≡ run_end none.size mk.align mk.size →
    both.align ≡ max key.align mv.align → both.size ≡ run_end key.size mv.align mv.size →
    e.align ≡ both.align → e.size ≡ option_map (λ end. capped (filled both.align end)) both.size → IsExtent e (Shape.entry k v)
entry-from none key both e mk mv k v a s is_k is_v a1 s1 a2 s2 a3 s3 =
    let ts = two_shapes k v in
    let one = so_far-more none mk key k (shape v no_shapes) ts (so_far-none none ts a s) is_k a1 s1 in
    let two = so_far-more key mv both v no_shapes ts one is_v a2 s2 in
    let whole = filled-from both e ts (run-from both ts two (omega (arith, a2, is_v.align, align-pos v))) a3 s3 in
    record { align = whole.align; size = whole.size }
