-- A ref that goes back to its previous commit.
use Rattle.std.proofs.Common.{◌≡◌, ◌++◌, inl, inr, ℕ, List, [], ◌∷◌, true, false, Option, Some, None, codes, refl, sym, ◌∙◌, ap, subst, append_assoc}
use Rattle.std.specs.Str.{bytes_eq}
use Rattle.std.proofs.lemmas.Bool.{both_ways}
use Rattle.std.proofs.lemmas.Slice.Eq.{bytes_eq-Decides}
use Rattle.fp_host.specs.Paths.{Elements, Slot, IsAbove}
use Rattle.fp_host.specs.View.{View, IsTree}
use Rattle.fp_host.specs.Frame.{Keeps, Frame, AtEnd, NoPath}
use Rattle.fp_host.specs.Moments.{Moments, Goes}
use Rattle.fp_host.specs.Outcome.{gone, shows}
use Rattle.fp_host.proofs.Ending.{ends_goes, ends_frame, ends_both, ends_on, ends_in_tree, goes_known}
use Rattle.fp_host.proofs.Framed.{IsTold}
use Rattle.fp_host.proofs.Goes.{begins, goes_on}
use Rattle.fp_host.proofs.Shown.{now_left}
use Rattle.fp_name.specs.Refs.{Ref, is_ref, ref_text}
use Rattle.fp_name.proofs.Refs.{ref_text-injective}
use Rattle.fp_small.specs.Clear.{IsWithin, GoneWithin, AbsentWithin, IsCleared, CanClear}
use Rattle.fp_small.specs.Places.{repo, tmp}
use Rattle.fp_small.specs.declared.op.Op.TheVariants.{Rollback}
use Rattle.fp_small.specs.declared.state.State.{State}
use Rattle.fp_small.specs.declared.state.RefRow.{RefRow}
use Rattle.fp_small.specs.declared.state.Previous.{Previous}
use Rattle.fp_small.proofs.Keeping.{files_on, files_kept}
use Rattle.dep_states.proofs.SharedAs.{shared_empty, shared_on}
use Rattle.fp_small.proofs.Ordered.{bytes_eq-differ}
use Rattle.fp_small.proofs.Within.{within_rest}
use Rattle.ost_model.specs.Objects.{object_path}
use Rattle.ost_store.proofs.Creating.{creates_off, creates_frame}
use Rattle.dep_states.specs.After.{row_at, exchanged, back, rolled_back, plain, state_after, HasRow, HasPrevious, IsGood, IsGoodRow}
use Rattle.dep_states.specs.Deploy.{goes_back_to}
use Rattle.dep_states.specs.Names.{active, commit_dir, deploy}
use Rattle.dep_states.specs.Shown.{ref_key}
use Rattle.dep_states.specs.Sound.{Keeps as KeepsCommit, Sound, Opens, Spares}
use Rattle.dep_states.specs.Switch.{OpensEither}
use Rattle.dep_states.proofs.Law.{frame_law}
use Rattle.dep_states.proofs.Listed.{at_found}
use Rattle.dep_states.proofs.Single.{some_is}
use Rattle.dep_states.proofs.Sparing.{state_of_kept}
use Rattle.dep_states.proofs.Switching.{none_in_tmp, permits_gone}
use Rattle.dep_switch.specs.Rows.{with_row, IsAt}
use Rattle.dep_switch.specs.Staging.{CanStage}
use Rattle.dep_switch.specs.Writing.{new_link, new_deploy, new_folder, the_link}
use Rattle.dep_switch.proofs.Sparing.{which}
use Rattle.dep_switch.proofs.Spots.{gone_absent, file_free}
use Rattle.op_change.specs.Deploys.{DeploysName, work_goes, before_switch, at_active, Deploys, WasDeployed, Does, WasDone, HasBack, IsRowBack}
use Rattle.op_change.proofs.Objects.{same_objects}

-- ---- the row

-- the row of before, its previous commit, and the row after
pub record IsBack (s : State) (name : Ref) (commit : List ℕ) (new : RefRow) : Type 0 where
  pub row : RefRow
  pub previous : Previous
  pub has : row_at s name ≡ Some row
  pub was : row.previous ≡ Some previous
  pub at : previous.commit ≡ commit
  pub is : new ≡ exchanged row previous
  pub named : row.name ≡ name
  pub moves : bytes_eq previous.commit row.commit ≡ false

pub no_moves : (commit : List ℕ) (o : Option Previous) (p : Previous) → o ≡ Some p → goes_back_to commit o ≡ false → bytes_eq p.commit commit ≡ false
no_moves commit None p e f = absurd (cc e)
no_moves commit (Some q) p e f = subst (λ (x : Previous). bytes_eq x.commit commit ≡ false) (some_is e) f

pub has_back : (s : State) (name : Ref) (commit : List ℕ) → HasRow s name (HasPrevious commit) → HasBack s.refs name
has_back s name commit has = record { row = has.0; previous = has.2.0; has = has.1; was = has.2.1 }

pub is_back : {s : State} {name : Ref} (commit : List ℕ) {new : RefRow} → IsGood s → HasRow s name (HasPrevious commit) → IsRowBack s.refs name new → IsBack s name commit new
is_back {s = s} {name = name} commit state has found =
    let row = found.row in
    let p = found.previous in
    let listed = at_found ref_key IsGoodRow s.refs (ref_text name) row state.rows found.has in
    let same : has.0 ≡ row = some_is (sym has.1 ∙ found.has) in
    let same_previous : has.2.0 ≡ p = some_is (sym has.2.1 ∙ ap (λ (r : RefRow). r.previous) same ∙ found.was) in
    record {
      row = row;
      previous = p;
      has = found.has;
      was = found.was;
      at = ap (λ (x : Previous). x.commit) (sym same_previous) ∙ has.2.2;
      is = found.is;
      named = ref_text-injective row.name name listed.0.name found.good listed.1;
      moves = no_moves row.commit row.previous p found.was listed.0.moves;
    }

pub back_moves : {s : State} {name : Ref} {commit : List ℕ} {new : RefRow} → IsBack s name commit new → goes_back_to new.commit new.previous ≡ false
back_moves b = ap (λ (r : RefRow). goes_back_to r.commit r.previous) b.is ∙ bytes_eq-differ b.previous.commit b.row.commit b.moves

pub back_state : {s : State} {name : Ref} {commit : List ℕ} {new : RefRow} → IsBack s name commit new → with_row s new ≡ state_after s (plain (Rollback name commit))
back_state {s = s} b = ap (with_row s) b.is ∙ sym (ap (rolled_back s) b.has ∙ ap (λ o. back s b.row o) b.was)

back_named : {s : State} {name : Ref} {commit : List ℕ} {new : RefRow} → IsBack s name commit new → new.name ≡ name
back_named b = ap (λ (r : RefRow). r.name) b.is ∙ b.named

back_commit : {s : State} {name : Ref} {commit : List ℕ} {new : RefRow} → IsBack s name commit new → new.commit ≡ commit
back_commit b = ap (λ (r : RefRow). r.commit) b.is ∙ b.at

-- ---- the work that goes first

link_rest : (q : Elements) → IsWithin new_link q → (rest : Elements) × (q ≡ rest ++ tmp)
link_rest q within =
    let below = within_rest new_link q within in
    (below.0 ++ (codes "active" ∷ []), below.1 ∙ sym (append_assoc below.0 (codes "active" ∷ []) tmp))

pub link_spares : {v : View} → Spares v (GoneWithin new_link)
link_spares = record {
  avoids = λ disk left p spot fixed given. let below = link_rest p given.0 in none_in_tmp below.0 below.1 fixed;
  permits = λ disk left p spot given. permits_gone p spot given.1;
}

pub can_clear : {s : State} {v : View} → IsTree v → Opens s v → CanClear new_link v
can_clear {v = v} tree opens = record {
  no_root = λ e. cc e;
  below = record { short = λ q above. elim ((opens.sound (shows v) (now_left v)).kinds q).short [ inl none ↦ inl (gone_absent tree q none) | inr short ↦ inr short ] };
}

-- ---- the row may be deployed

pub can_back : {s : State} {name : Ref} {commit : List ℕ} {new : RefRow} {v : View} → is_ref name ≡ true → IsTree v → IsBack s name commit new → Opens s v → IsCleared new_link v → CanStage s new v
can_back {s = s} {name = name} {v = v} good tree b opens cleared = subst (λ (r : RefRow). CanStage s r v) (sym b.is) (record {
  opens = opens;
  stands = sound.commits b.row.name b.previous.commit kept;
  moves = λ at. both_ways (bytes_eq b.previous.commit b.row.commit) b.moves ((bytes_eq-Decides b.previous.commit b.row.commit).1 (moved_to at));
  previous = λ c is. (b.row, has, ap (λ (p : Previous). p.commit) (some_is is.1) ∙ is.2);
  link_free = cleared.gone new_link (inl refl);
  deploy_free = file_free tree (deploy (commit_dir b.row.name b.previous.commit)) (sound.deploys b.row.name b.previous.commit kept);
})
  where
    sound : Sound (shows v)
    sound = opens.sound (shows v) (now_left v)

    has : row_at s b.row.name ≡ Some b.row
    has = ap (row_at s) b.named ∙ b.has

    kept : KeepsCommit (shows v) b.row.name b.previous.commit
    kept = state_of_kept (ap is_ref b.named ∙ good) (opens.shown (shows v) (now_left v)) (record { row = b.row; has = has; of_row = inr (b.previous, b.was, refl) })

    moved_to : IsAt s b.row.name b.previous.commit → b.previous.commit ≡ b.row.commit
    moved_to at = sym at.2 ∙ ap (λ (r : RefRow). r.commit) (some_is (sym at.1 ∙ has))

-- ---- step by step

abbrev after_back : State → Ref → List ℕ → State
after_back s name commit = state_after s (plain (Rollback name commit))

module _ {s : State} {name : Ref} {commit : List ℕ} {new : RefRow} (good : is_ref name ≡ true) (b : IsBack s name commit new) where
  abbrev Backs : View → View → Type 0
  Backs = Does s (after_back s name commit) (λ u. DeploysName name commit)

  still : {w : View} → Opens s w → OpensEither s (after_back s name commit) w
  still opens = record { shown = λ disk left. inl (opens.shown disk left); sound = opens.sound }

  pub backs_cleared : {u w : View} → Keeps (GoneWithin new_link) (AbsentWithin new_link) NoPath u w → Backs u w
  backs_cleared keeps = record {
    either = λ opens. still (frame_law link_spares keeps.follows opens);
    names = λ q. elim (keeps.names q) [ inl same ↦ inl same | inr put ↦ inr (work_goes put.0 put.1) ];
    files = files_kept keeps;
    printed = keeps.printed;
  }

  pub backs_deploys : {u v w : View} → IsTree v → Keeps (GoneWithin new_link) (AbsentWithin new_link) NoPath u v → IsCleared new_link v → Deploys s new v w → Backs u w
  backs_deploys {u = u} {v = v} {w = w} tree keeps cleared deploys = record {
    either = λ opens. subst (λ (t : State). OpensEither s t w) (back_state b) (deploys.either (can_back good tree b (frame_law link_spares keeps.follows opens) cleared));
    names = λ q. elim (deploys.names q) [
      | inl same ↦ elim (keeps.names q) [ inl was ↦ inl (same ∙ was) | inr put ↦ inr (work_goes put.0 (same ∙ put.1)) ]
      | inr put ↦ inr (subst (λ (n : Ref). DeploysName n commit q (w.names q)) (back_named b) (subst (λ (c : List ℕ). DeploysName new.name c q (w.names q)) (back_commit b) put))
    ];
    files = files_on (files_kept keeps) deploys.files;
    printed = deploys.printed ∙ keeps.printed;
  }

  no_object : (d : List ℕ) (kind : _) (e : Slot) → DeploysName name commit (object_path repo d kind) e → ⊥
  no_object d kind e (work_goes within none) = elim within [ inl at ↦ cc at | inr above ↦ not_below above ]
    where
      not_below : IsAbove new_link (object_path repo d kind) → ⊥
      not_below (inl at) = cc at
      not_below (inr (inl at)) = cc at
      not_below (inr (inr (inl at))) = cc at
      not_below (inr (inr (inr (inl at)))) = cc at
      not_below (inr (inr (inr (inr none)))) = none
  no_object d kind e (before_switch (new_deploy at is)) = cc at
  no_object d kind e (before_switch (new_folder has is)) = elim (which (object_path repo d kind) has) [ inl at ↦ cc at | inr at ↦ cc at ]
  no_object d kind e (before_switch (the_link at is)) = cc at
  no_object d kind e (at_active at is) = cc at

  was_backed : {u v w : View} → IsTree u → IsTree v → IsTree w → Keeps (GoneWithin new_link) (AbsentWithin new_link) NoPath u v → IsCleared new_link v → Deploys s new v w → WasDeployed s new v w → WasDone s (after_back s name commit) u w
  was_backed {w = w} before between state_after keeps cleared deploys done = record {
    opens = λ opens. subst (λ (t : State). Opens t w) (back_state b) (done.opens (can_back good between b (frame_law link_spares keeps.follows opens) cleared));
    settled = done.settled;
    objects = let backs = backs_deploys between keeps cleared deploys in same_objects (DeploysName name commit) before state_after backs.files backs.names no_object;
    shares = shared_on (shared_empty keeps) deploys.shares deploys.files;
    creates = creates_off (creates_frame (AbsentWithin new_link) keeps (λ q id below away. cc away.1)) deploys.creates (files_kept keeps) deploys.files;
  }

  -- ---- call by call

  pub backed_cleared : {a c : Option Moments} → IsTold a → Frame (GoneWithin new_link) (AbsentWithin new_link) NoPath a c → Goes a c Backs Backs
  backed_cleared told frame = begins told frame.goes (λ u w t k. backs_cleared k) (λ u w t k e. backs_cleared e)

  abbrev Ready : View → View → Type 0
  Ready u v = Keeps (GoneWithin new_link) (AbsentWithin new_link) NoPath u v × IsCleared new_link v

  pub ready_end : {a c : Option Moments} → IsTold a → Frame (GoneWithin new_link) (AbsentWithin new_link) NoPath a c → AtEnd (λ u w. IsCleared new_link w) a c → AtEnd Ready a c
  ready_end told frame cleared = ends_both (ends_frame told frame) cleared

  pub tree_ready : {a c : Option Moments} → IsTold a → IsTold c → Frame (GoneWithin new_link) (AbsentWithin new_link) NoPath a c → AtEnd (λ u w. IsCleared new_link w) a c → AtEnd (λ u w. IsTree w × Ready u w) a c
  tree_ready told mid frame cleared = ends_in_tree {Q' = λ u w. IsTree w × Ready u w} mid (ready_end told frame cleared) (λ u w tree q. (tree, q))

  pub backed : {a c d : Option Moments} → IsTold a → IsTold c → Frame (GoneWithin new_link) (AbsentWithin new_link) NoPath a c → AtEnd (λ u w. IsCleared new_link w) a c → Goes c d (Deploys s new) (Deploys s new) → Goes a d Backs Backs
  backed told mid frame cleared deploys =
      goes_on mid (begins told (goes_known frame.goes cleared) (λ u w t k. backs_cleared k) (λ u w t k q. q)) deploys
      (λ u v w tree r q x. backs_deploys tree q.0 q.1 x) (λ u v w tree r q x e. backs_deploys tree q.0 q.1 e)

  pub backed_end : {a c d : Option Moments} → IsTold a → IsTold c → IsTold d → Frame (GoneWithin new_link) (AbsentWithin new_link) NoPath a c → AtEnd (λ u w. IsCleared new_link w) a c → Goes c d (Deploys s new) (Deploys s new) → AtEnd (WasDeployed s new) c d
      → AtEnd (WasDone s (after_back s name commit)) a d
  backed_end {a = a} {c = c} told mid last frame cleared deploys done =
      let start : AtEnd (λ u w. IsTree u × Ready u w) a c = record { goes = begins told (goes_known frame.goes cleared) (λ u w t k. tt) (λ u w t k q. (t, q)) } in
      ends_in_tree {Q = λ u w. (v : View) × IsTree u × IsTree v × Ready u v × Deploys s new v w × WasDeployed s new v w} last
      (ends_on (ends_both (ends_goes mid deploys) done) start mid (λ u v w tree q e. (v, q.0, tree, q.1, e.0, e.1)))
      (λ u w state_after q. was_backed q.1 q.2 state_after q.3.0 q.3.1 q.4 q.5)

pub within_at : {p q : Elements} {a b : Option Moments} → p ≡ q → Frame (GoneWithin p) (AbsentWithin p) NoPath a b → Frame (GoneWithin q) (AbsentWithin q) NoPath a b
within_at {a = a} {b = b} is frame = subst (λ (r : Elements). Frame (GoneWithin r) (AbsentWithin r) NoPath a b) is frame

pub cleared_at : {p q : Elements} {a b : Option Moments} → p ≡ q → AtEnd (λ u w. IsCleared p w) a b → AtEnd (λ u w. IsCleared q w) a b
cleared_at {a = a} {b = b} is cleared = subst (λ (r : Elements). AtEnd (λ u w. IsCleared r w) a b) is cleared
