-- The operations of a plan may be done in turn.
use Rattle.std.proofs.Common.{◌≡◌, ◌≤◌, ◌<◌, ◌+◌, inl, inr, ℕ, List, [], ◌∷◌, ◌++◌, length, map, Bool, true, false, Option, Some, None, refl, sym, ◌∙◌, ap, subst, arith}
use Rattle.std.specs.Prelude.{cond, not, is_some, find, ◌||◌, if◌then◌else◌}
use Rattle.std.specs.List.{list_any, AllByRecursion}
use Rattle.std.specs.Str.{bytes_eq}
use Rattle.std.proofs.lemmas.Bool.{cases_Bool}
use Rattle.std.proofs.lemmas.List.Sums.{sum_by-cons, count_by-le-length}
use Rattle.fp_base.proofs.Booleans.{neither}
use Rattle.fp_base.proofs.Texts.{bytes_eq-same}
use Rattle.fp_name.specs.Refs.{Ref, ref_text}
use Rattle.fp_small.specs.Config.{name_of}
use Rattle.fp_small.specs.Order.{has_name, inserted, removed, replaced}
use Rattle.fp_small.proofs.Ordered.{bytes_eq-differ, length-inserted}
use Rattle.fp_small.specs.declared.op.Op.{Op}
use Rattle.fp_small.specs.declared.op.Op.TheVariants.{Update}
use Rattle.fp_small.specs.declared.state.State.{State}
use Rattle.fp_small.specs.declared.state.RefRow.{RefRow}
use Rattle.fp_small.specs.declared.state.RemoteRow.{RemoteRow}
use Rattle.dep_states.specs.Shown.{at_name, ref_key}
use Rattle.dep_states.specs.After.{Allows, after_op, row_at, moved, updated}
use Rattle.dep_states.proofs.Changes.{at_inserted, at_replaced}
use Rattle.fl_extension.specs.Found.{has_ref, row_of}
use Rattle.fl_plan.specs.Allowed.{AreAllowed, IsComing, MayCome, AreApart, IsPlan, ComesTo}
use Rattle.fl_plan.specs.Extensions.{is_coming}
use Rattle.fl_plan.specs.Plans.{op_of, new_ones, number_after, is_at}
use Rattle.fl_plan.specs.Runtimes.{install_of}
use Rattle.fl_plan.specs.declared.offer.Offer.{Offer}

-- ---- rows

has_row : (rows : List RefRow) (text : List ℕ) → list_any (λ row. bytes_eq (ref_text row.name) text) rows ≡ is_some (at_name ref_key rows text)
has_row [] text = refl
has_row (y ∷ ys) text = go (bytes_eq (ref_text y.name) text) (has_row ys text)
  where
    go : (b : Bool) → list_any (λ row. bytes_eq (ref_text row.name) text) ys ≡ is_some (at_name ref_key ys text) → (b || list_any (λ row. bytes_eq (ref_text row.name) text) ys) ≡ is_some (if b then Some y else at_name ref_key ys text)
    go true rest = refl
    go false rest = rest

find_row : (rows : List RefRow) (text : List ℕ) → find (λ row. bytes_eq (ref_text row.name) text) rows ≡ at_name ref_key rows text
find_row [] text = refl
find_row (y ∷ ys) text = ap (cond (bytes_eq (ref_text y.name) text) (Some y)) (find_row ys text)

pub has_by_row : (s : State) (name : Ref) → has_ref s name ≡ is_some (row_at s name)
has_by_row s name = has_row s.refs (ref_text name)

pub deployed_row : (s : State) (name : Ref) → row_of s name ≡ row_at s name
deployed_row s name = find_row s.refs (ref_text name)

shorter : (rows : List RefRow) (x : List ℕ) → length (removed ref_key rows x) ≤ length rows
shorter [] x = omega arith
shorter (y ∷ ys) x = elim (cases_Bool (bytes_eq (ref_key y) x)) [
  | inl same ↦ let h = shorter ys x in rw same (omega (arith, h))
  | inr off ↦ let h = shorter ys x in rw off (omega (arith, h))
]

shorter_by : (rows : List RefRow) (x : List ℕ) (row : RefRow) → at_name ref_key rows x ≡ Some row → length (removed ref_key rows x) < length rows
shorter_by [] x row is = absurd (cc is)
shorter_by (y ∷ ys) x row is = elim (cases_Bool (bytes_eq (ref_key y) x)) [
  | inl same ↦ let h = shorter ys x in rw same (omega (arith, h))
  | inr off ↦ let h = shorter_by ys x row (rw off at is) in rw off (omega (arith, h))
]

-- ---- lists of offers

or_right : (a b : Bool) → (a || b) ≡ false → b ≡ false
or_right true b is = absurd (cc is)
or_right false b is = is

-- one more that is new counts
new_cons : (s : State) (p : Offer) (ps : List Offer) → new_ones s (p ∷ ps) ≡ cond (not (has_ref s p.name)) 1 0 + new_ones s ps
new_cons s p ps = sum_by-cons (λ (o : Offer). cond (not (has_ref s o.name)) 1 0) p ps

pub new_few : (s : State) (plan : List Offer) → new_ones s plan ≤ length plan
new_few s plan = count_by-le-length (λ (o : Offer). not (has_ref s o.name)) plan

-- ---- one operation

module _ (s : State) (o : Offer) (t : ℕ) where
  abbrev came : State
  came = after_op s t (op_of s o)

  abbrev by : Bool → State
  by b = after_op s t (if b then Update o.name o.remote.name o.commit else install_of o)

  abbrev new_row : RefRow
  new_row = record { name = o.name; origin = o.remote.name; commit = o.commit; timestamp = t; previous = None }

  -- another ref stays as it was
  row_after : (name : Ref) → bytes_eq (ref_text o.name) (ref_text name) ≡ false → row_at came name ≡ row_at s name
  row_after name off = go (has_ref s o.name) (row_at s o.name) refl refl
    where
      update : (row : Option RefRow) → row_at (updated s o.name o.remote.name o.commit t row) name ≡ row_at s name
      update None = refl
      update (Some row) = at_replaced ref_key s.refs (moved o.name o.remote.name o.commit t row) (ref_text name) ∙ ap (λ b. if b then Some (moved o.name o.remote.name o.commit t row) else row_at s name) off

      go : (b : Bool) (row : Option RefRow) → has_ref s o.name ≡ b → row_at s o.name ≡ row → row_at (by b) name ≡ row_at s name
      go true row has is = update (row_at s o.name)
      go false None has is = at_inserted ref_key s.refs new_row (ref_text name) is ∙ ap (λ b. if b then Some new_row else row_at s name) off
      go false (Some row) has is = absurd (cc (has, has_by_row s o.name, ap is_some is))

  remotes_after : came.remotes ≡ s.remotes
  remotes_after = go (has_ref s o.name)
    where
      update : (row : Option RefRow) → (updated s o.name o.remote.name o.commit t row).remotes ≡ s.remotes
      update None = refl
      update (Some row) = refl

      go : (b : Bool) → (by b).remotes ≡ s.remotes
      go true = update (row_at s o.name)
      go false = refl

  moved_length : (row : RefRow) → row_at s o.name ≡ Some row → length (replaced ref_key s.refs (moved o.name o.remote.name o.commit t row)) ≤ length s.refs
  moved_length row is =
      let more : length (replaced ref_key s.refs (moved o.name o.remote.name o.commit t row)) ≡ length (removed ref_key s.refs (ref_text o.name)) + 1
      = length-inserted ref_key (removed ref_key s.refs (ref_text o.name)) (moved o.name o.remote.name o.commit t row) in
      let less = shorter_by s.refs (ref_text o.name) row is in
      omega (arith, more, less)

  -- a new one is one more; a ref that moves is none
  length_after : length came.refs ≤ length s.refs + cond (not (has_ref s o.name)) 1 0
  length_after = go (has_ref s o.name)
    where
      update : (row : Option RefRow) → row_at s o.name ≡ row → length (updated s o.name o.remote.name o.commit t row).refs ≤ length s.refs
      update None is = omega arith
      update (Some row) is = moved_length row is

      go : (b : Bool) → length (by b).refs ≤ length s.refs + cond (not b) 1 0
      go true = let h = update (row_at s o.name) refl in omega (arith, h)
      go false = let h : length (inserted ref_key s.refs new_row) ≡ length s.refs + 1 = length-inserted ref_key s.refs new_row in omega (arith, h)

  module _ (p : Offer) (off : bytes_eq (ref_text o.name) (ref_text p.name) ≡ false) where
    has_after : has_ref came p.name ≡ has_ref s p.name
    has_after = has_by_row came p.name ∙ ap is_some (row_after p.name off) ∙ sym (has_by_row s p.name)

    op_after : op_of came p ≡ op_of s p
    op_after = ap (λ b. if b then Update p.name p.remote.name p.commit else install_of p) has_after

    may_after : MayCome s p → MayCome came p
    may_after may = record {
      name = may.name;
      remote = ap (λ (rows : List RemoteRow). has_name name_of rows p.remote.name) remotes_after ∙ may.remote;
      commit = may.commit;
      moves = ap (is_at p.commit) (deployed_row came p.name ∙ row_after p.name off ∙ sym (deployed_row s p.name)) ∙ may.moves;
    }

  -- those that come after it
  apart_head : (p : Offer) (ps : List Offer) → is_coming (p ∷ ps) o.name ≡ false → bytes_eq (ref_text o.name) (ref_text p.name) ≡ false
  apart_head p ps is = bytes_eq-differ (ref_text p.name) (ref_text o.name) (neither (bytes_eq (ref_text p.name) (ref_text o.name)) (is_coming ps o.name) is)

  apart_tail : (p : Offer) (ps : List Offer) → is_coming (p ∷ ps) o.name ≡ false → is_coming ps o.name ≡ false
  apart_tail p ps is = or_right (bytes_eq (ref_text p.name) (ref_text o.name)) (is_coming ps o.name) is

  each_after : (ps : List Offer) → is_coming ps o.name ≡ false → AllByRecursion (MayCome s) ps → AllByRecursion (MayCome came) ps
  each_after [] is each = tt
  each_after (p ∷ ps) is each = (may_after p (apart_head p ps is) each.0, each_after ps (apart_tail p ps is) each.1)

  ops_after : (ps : List Offer) → is_coming ps o.name ≡ false → map (op_of came) ps ≡ map (op_of s) ps
  ops_after [] is = refl
  ops_after (p ∷ ps) is = ap (λ (q : Op). q ∷ map (op_of came) ps) (op_after p (apart_head p ps is)) ∙ ap (λ (qs : List Op). op_of s p ∷ qs) (ops_after ps (apart_tail p ps is))

  new_after : (ps : List Offer) → is_coming ps o.name ≡ false → new_ones came ps ≡ new_ones s ps
  new_after [] is = refl
  new_after (p ∷ ps) is =
      new_cons came p ps ∙ ap (λ b. cond (not b) 1 0 + new_ones came ps) (has_after p (apart_head p ps is))
      ∙ ap (λ (n : ℕ). cond (not (has_ref s p.name)) 1 0 + n) (new_after ps (apart_tail p ps is)) ∙ sym (new_cons s p ps)

  -- it may be done
  may_be_done : MayCome s o → length s.refs + cond (not (has_ref s o.name)) 1 0 ≤ 4096 → Allows s (op_of s o)
  may_be_done may few = go (has_ref s o.name) (row_at s o.name) refl refl few
    where
      go : (b : Bool) (row : Option RefRow) → has_ref s o.name ≡ b → row_at s o.name ≡ row → length s.refs + cond (not b) 1 0 ≤ 4096
          → Allows s (if b then Update o.name o.remote.name o.commit else install_of o)
      go true (Some row) has is few = ((row, is, differs row is), may.remote, may.commit)
        where
          differs : (row : RefRow) → row_at s o.name ≡ Some row → row.commit ≡ o.commit → ⊥
          differs row is same = cc (ap (λ (d : List ℕ). bytes_eq d o.commit) same ∙ bytes_eq-same o.commit, sym (ap (is_at o.commit) (deployed_row s o.name ∙ is)) ∙ may.moves)
      go true None has is few = absurd (cc (has, has_by_row s o.name, ap is_some is))
      go false None has is few = (may.name, is, may.remote, may.commit, omega (arith, few))
      go false (Some row) has is few = absurd (cc (has, has_by_row s o.name, ap is_some is))

pub allowed : (plan : List Offer) (s : State) → AllByRecursion (MayCome s) plan → AreApart plan → number_after s plan ≤ 4096 → AreAllowed s (map (op_of s) plan)
allowed [] s each apart few = tt
allowed (o ∷ os) s each apart few = (
  may_be_done s o 0 each.0 (let c = new_cons s o os in omega (arith, few, c)),
  λ t. subst (AreAllowed (after_op s t (op_of s o))) (ops_after s o t os apart.0)
      (allowed os (after_op s t (op_of s o)) (each_after s o t os apart.0 each.1) apart.1
      (let l = length_after s o t in let n = new_after s o t os apart.0 in let c = new_cons s o os in omega (arith, few, l, n, c))),
)

-- the operations of a plan
pub ops_allowed : (s : State) (plan : List Offer) (ops : List Op) → ops ≡ map (op_of s) plan → number_after s plan ≤ 4096 → IsPlan s plan → AreAllowed s ops
ops_allowed s plan ops are few is = subst (AreAllowed s) (sym are) (allowed plan s is.each is.apart few)

-- and each of them brings a commit
coming : (s : State) (plan : List Offer) → AllByRecursion IsComing (map (op_of s) plan)
coming s [] = tt
coming s (o ∷ os) = (one (has_ref s o.name), coming s os)
  where
    one : (b : Bool) → IsComing (if b then Update o.name o.remote.name o.commit else install_of o)
    one true = tt
    one false = tt

pub ops_coming : (s : State) (plan : List Offer) (ops : List Op) → ops ≡ map (op_of s) plan → AllByRecursion IsComing ops
ops_coming s plan ops are = subst (AllByRecursion IsComing) (sym are) (coming s plan)

-- ---- plans that grow

comes_later : (plan : List Offer) (o : Offer) (name : Ref) → is_coming plan name ≡ false → bytes_eq (ref_text o.name) (ref_text name) ≡ false → is_coming (plan ++ o ∷ []) name ≡ false
comes_later [] o name none off = ap (λ b. b || false) off
comes_later (p ∷ ps) o name none off =
    ap (λ b. b || is_coming (ps ++ o ∷ []) name) (neither (bytes_eq (ref_text p.name) (ref_text name)) (is_coming ps name) none)
    ∙ comes_later ps o name (or_right (bytes_eq (ref_text p.name) (ref_text name)) (is_coming ps name) none) off

apart_more : (plan : List Offer) (o : Offer) → AreApart plan → is_coming plan o.name ≡ false → AreApart (plan ++ o ∷ [])
apart_more [] o apart none = (refl, tt)
apart_more (p ∷ ps) o apart none =
    let h = neither (bytes_eq (ref_text p.name) (ref_text o.name)) (is_coming ps o.name) none in
    (comes_later ps o p.name apart.0 (bytes_eq-differ (ref_text p.name) (ref_text o.name) h), apart_more ps o apart.1 (or_right (bytes_eq (ref_text p.name) (ref_text o.name)) (is_coming ps o.name) none))

each_more : (s : State) (plan : List Offer) (o : Offer) → AllByRecursion (MayCome s) plan → MayCome s o → AllByRecursion (MayCome s) (plan ++ o ∷ [])
each_more s [] o each may = (may, tt)
each_more s (p ∷ ps) o each may = (each.0, each_more s ps o each.1 may)

pub plan_more : {s : State} {plan : List Offer} {o : Offer} → IsPlan s plan → ComesTo s plan o → IsPlan s (plan ++ o ∷ [])
plan_more {s = s} {plan = plan} {o = o} is comes = record { each = each_more s plan o is.each comes.may; apart = apart_more plan o is.apart comes.apart }
