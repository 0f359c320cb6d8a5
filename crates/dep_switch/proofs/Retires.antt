-- The removal of an `active`.
use Rattle.std.proofs.Common.{◌≡◌, ◌≢◌, ◌⊎◌, inl, inr, ℕ, List, [], ◌∷◌, Option, Some, None, Result, Ok, true, codes, refl, sym, ◌∙◌, ap, subst}
use Rattle.std.specs.Prelude.{if◌then◌else◌}
use Rattle.fp_host.specs.Paths.{Elements, Slot, absent, dir, file, link}
use Rattle.fp_host.specs.View.{View, IsTree}
use Rattle.fp_host.specs.Calls.{unlinks, syncs, Can, Step, IsLeaf}
use Rattle.fp_host.specs.Outcome.{Spot, gone, folder, holds, points, spot_of, Nothing, Disk, Leaves, Follows, IsSettled, shows}
use Rattle.fp_host.specs.declared.host.HostError.{HostError}
use Rattle.fp_host.proofs.Follow.{follows_on, follows_call, follows_to, called}
use Rattle.fp_host.proofs.Filed.{puts_call, put_call}
use Rattle.fp_host.proofs.Keep.{printed_kept, names_kept, stood_kept}
use Rattle.fp_host.specs.Frame.{AtEnd}
use Rattle.fp_host.specs.Moments.{Moments, Makes}
use Rattle.fp_host.proofs.Framed.{IsTold}
use Rattle.fp_host.proofs.Goes.{begins, makes_goes}
use Rattle.fp_host.proofs.Settled.{settled_disk}
use Rattle.fp_host.proofs.Shown.{now_left}
use Rattle.fp_name.specs.Refs.{Ref, is_ref, ref_text}
use Rattle.fp_name.proofs.Refs.{ref_of-ref_text}
use Rattle.fp_small.specs.declared.state.State.{State}
use Rattle.fp_small.specs.declared.state.RefRow.{RefRow}
use Rattle.fp_small.proofs.Emptying.{unlinked}
use Rattle.fp_small.proofs.Keeping.{files_synced}
use Rattle.fp_small.proofs.Staging.{synced}
use Rattle.dep_states.specs.After.{row_at}
use Rattle.dep_states.specs.Names.{active}
use Rattle.dep_states.specs.Shown.{away, there, seen_of, by_active, ref_seen, row_seen, Shows}
use Rattle.dep_states.specs.Sound.{Sound, Fixed, Permits, Opens}
use Rattle.dep_states.specs.Switch.{IsWith, Changed, OpensEither}
use Rattle.dep_states.proofs.Changes as changes
use Rattle.dep_states.proofs.Law.{shows_same, sound_same}
use Rattle.dep_states.proofs.Switch.{retired, shows_changed, sound_changed}
use Rattle.dep_states.proofs.Switching.{permits_gone}
use Rattle.dep_switch.specs.Rows.{without_row}
use Rattle.dep_switch.specs.Retiring.{RetiresAt, IsPlanOf, CanRetire, Retires, WasRetired}
use Rattle.dep_switch.specs.declared.retiring.RetirePlan.{RetirePlan}
use Rattle.dep_switch.proofs.Spots.{shown_at, link_free}
use Rattle.dep_switch.proofs.Switches.{either_follows, active_link}

-- ---- the law

module _ {s t : State} {name : Ref} {u w : View} (good : is_ref name ≡ true) (with_ : IsWith s name None t) (follows : Follows (RetiresAt name) u w) (opens : Opens s u) where
  module _ (disk : Disk) (left : Leaves w disk) where
    abbrev before : Disk
    before = (follows.from disk left).0

    abbrev was : Leaves u before
    was = (follows.from disk left).1

    abbrev step : (p : Elements) → (disk p ≡ before p) ⊎ RetiresAt name p (disk p)
    step = (follows.from disk left).2

    elsewhere : (p : Elements) → (disk p ≡ before p) ⊎ Permits before p (disk p)
    elsewhere p = elim (step p) [ inl same ↦ inl same | inr given ↦ inr (permits_gone p (disk p) given.1) ]

    still : (p : Elements) → Fixed before p → p ≢ active name → disk p ≡ before p
    still p fixed off = elim (step p) [ inl same ↦ same | inr given ↦ absurd (off given.0) ]

    all_still : disk (active name) ≡ before (active name) → (p : Elements) → Fixed before p → disk p ≡ before p
    all_still same p fixed = elim (step p) [ inl is ↦ is | inr given ↦ ap disk given.0 ∙ same ∙ sym (ap before given.0) ]

    -- where it is gone, the ref is
    pub without : disk (active name) ≡ gone → Shows disk t × Sound disk
    without none = let c = retired none still elsewhere in (shows_changed good c with_ (opens.shown before was), sound_changed c (opens.sound before was))

    each : (Shows disk s ⊎ Shows disk t) × Sound disk
    each = elim (step (active name)) [
      | inl same ↦ (inl (shows_same before disk (all_still same) (opens.shown before was)), sound_same before disk (all_still same) elsewhere (opens.sound before was))
      | inr given ↦ let now = without given.1 in (inr now.0, now.1)
    ]

  pub retire_law : OpensEither s t w
  retire_law = record { shown = λ disk left. (each disk left).0; sound = λ disk left. (each disk left).1 }

  pub retired_law : ((disk : Disk) → Leaves w disk → disk (active name) ≡ gone) → Opens t w
  retired_law none = record { shown = λ disk left. (without disk left (none disk left)).0; sound = λ disk left. (without disk left (none disk left)).1 }

-- ---- the calls

pub gone_with : {s : State} {v : View} (name : Ref) → Opens s v → IsWith s name None (without_row s name)
gone_with {s = s} {v = v} name opens = changes.without_row s ((opens.shown (shows v) (now_left v)).refs_ascend) name

retires_at : {plan : RetirePlan} (planned : IsPlanOf plan.name plan) (q : Elements) (spot : Spot) → (q ≡ plan.link) × (spot ≡ gone) → RetiresAt plan.name q spot
retires_at planned q spot h = (h.0 ∙ planned.link, h.1)

pub retires_unlink : {s : State} {plan : RetirePlan} {r : Result (Unit {0}) HostError} {v w : View} → IsTree v → Step (unlinks plan.link) r v w → Retires s plan v w
retires_unlink {s = s} {plan = plan} {v = v} {w = w} tree step = record {
  either = λ planned opens. retire_law planned.good (gone_with plan.name opens) (follows_to (retires_at planned) (follows_call tree (called step))) opens;
  names = λ q. puts_call (called step) q;
  puts = λ x had. put_call (called step) x had;
  files = unlinked_files step;
  stood = stood_kept (called step);
  printed = printed_kept (called step) tt;
}
  where
    unlinked_files : {r : Result (Unit {0}) HostError} {v w : View} → Step (unlinks plan.link) r v w → (id : ℕ) → w.files id ≡ v.files id
    unlinked_files step id = elim (called step).went [
      | inl same ↦ ap (λ (x : View). x.files id) same
      | inr did ↦ elim did.1 [ inl is ↦ ap (λ (x : View). x.files id) is | inr is ↦ ap (λ (x : View). x.files id) is ]
    ]

pub retires_sync : {s : State} {plan : RetirePlan} {r : Result (Unit {0}) HostError} {u v w : View} → IsTree v → Retires s plan u v → Step syncs r v w → Retires s plan u w
retires_sync {plan = plan} {w = w} tree first step = record {
  either = λ planned opens. either_follows (follows_to (λ q spot h. h) (follows_call tree (called step))) (first.either planned opens);
  names = λ q. let same = names_kept (called step) q (λ none. none) in elim (first.names q) [ inl was ↦ inl (same ∙ was) | inr h ↦ inr (h.0, same ∙ h.1) ];
  puts = λ x had. elim (put_call (called step) x had) [ inl before ↦ first.puts x before | inr none ↦ absurd none ];
  files = λ id. (files_synced step).rows id ∙ first.files id;
  stood = λ x had. (files_synced step).stood x (first.stood x had);
  printed = printed_kept (called step) tt ∙ first.printed;
}

-- ---- done

pub record IsUnlinked (s : State) (plan : RetirePlan) (u v : View) : Type 0 where
  pub follows : IsPlanOf plan.name plan → Follows (RetiresAt plan.name) u v
  pub none : v.names plan.link ≡ absent

pub unlinked_now : {s : State} {plan : RetirePlan} {v w : View} → IsTree v → Step (unlinks plan.link) (Ok tt) v w → IsUnlinked s plan v w
unlinked_now tree step = record { follows = λ planned. follows_to (retires_at planned) (follows_call tree (called step)); none = unlinked step }

pub unlinked_end : {s : State} {plan : RetirePlan} {a b : Option Moments} → IsTold a → Makes (Step (unlinks plan.link) (Ok tt)) a b → AtEnd (IsUnlinked s plan) a b
unlinked_end told call = record { goes = begins told (makes_goes call) (λ u w tree s. tt) (λ u w tree s e. unlinked_now tree e) }

pub was_retired : {s : State} {plan : RetirePlan} {u v w : View} → IsTree v → IsTree w → IsUnlinked s plan u v → Step syncs (Ok tt) v w → WasRetired s plan u w
was_retired {s = s} {plan = plan} {u = u} {v = v} {w = w} tree after first step = record {
  opens = λ planned opens. retired_law planned.good (gone_with plan.name opens) (follows_on (first.follows planned) (follows_to (λ q spot h. absurd h) (follows_call tree (called step)))) opens
      (λ disk left. settled_disk w after (synced step) disk left (active plan.name) ∙ ap (spot_of w.files) (ap w.names (sym planned.link) ∙ ap (λ (x : View). x.names plan.link) step.how.1 ∙ first.none));
  settled = synced step;
}

-- ---- where it may be

away_none : {A : Type 0} (o : Option A) → seen_of o ≡ away → o ≡ None
away_none None e = refl
away_none (Some a) e = absurd (cc e)

pub can_unlink : {s : State} {plan : RetirePlan} {v : View} → IsTree v → CanRetire s plan v → Can (unlinks plan.link) v
can_unlink {s = s} {plan = plan} {v = v} tree can = subst (λ (p : Elements). IsLeaf (v.names p)) (sym can.planned.link) leaf
  where
    name : Ref
    name = plan.name

    shown : Shows (shows v) s
    shown = can.opens.shown (shows v) (now_left v)

    not_away : shows v (active name) ≡ gone → ⊥
    not_away none = can.there (away_none (row_at s name) (sym (shown.refs (ref_text name)) ∙ ap (row_seen (shows v)) (ref_of-ref_text name can.planned.good) ∙ ap (λ b. if b then by_active (shows v) name (shows v (active name)) else away) can.planned.good ∙ ap (by_active (shows v) name) none))

    not_absent : v.names (active name) ≡ absent → ⊥
    not_absent none = not_away (shown_at tree (active name) ∙ ap (spot_of v.files) none)

    leaf : IsLeaf (v.names (active name))
    leaf = elim (link_free tree (active name) (active_link name can.planned.good ((can.opens.sound (shows v) (now_left v)).kinds (active name)))) [
      | inl none ↦ absurd (not_absent none)
      | inr is ↦ subst IsLeaf (sym is.1) tt
    ]
