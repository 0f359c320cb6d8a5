-- An installation that is opened, and what goes on from there.
use Rattle.std.proofs.Common.{◌≡◌, ℕ, Bool, true, false, List, [], ◌∷◌, Option, Some, None, Result, Ok, Err, IsErrAnd, IsErrOf, refl, sym, ◌∙◌, ap, subst}
use Rattle.std.specs.List.{AllByRecursion}
use Rattle.std.proofs.lemmas.List.{append_cancel_right}
use Rattle.fp_host.specs.Causes.{IsCaused}
use Rattle.fp_host.specs.Remote.{Holdings}
use Rattle.fp_host.specs.View.{View, IsTree}
use Rattle.fp_host.specs.Outcome.{Nothing, shows}
use Rattle.fp_host.specs.Moments.{Moments, Since, Goes, Always, views}
use Rattle.fp_host.specs.Frame.{Frame, AtEnd, NoPath, NoName}
use Rattle.fp_host.proofs.Framed.{IsTold}
use Rattle.fp_host.proofs.Goes.{begins, goes_on}
use Rattle.fp_host.proofs.Ending.{goes_known}
use Rattle.fp_small.specs.declared.op.Op.{Op}
use Rattle.fp_small.specs.declared.refusal.Refusal.{Refusal}
use Rattle.fp_small.specs.declared.state.State.{State}
use Rattle.ost_walk.specs.Ends.{Outside}
use Rattle.dep_states.specs.Sound.{IsSound, Opens}
use Rattle.dep_states.specs.Shown.{Shows}
use Rattle.dep_states.specs.Settled.{Settled}
use Rattle.dep_states.specs.After.{after_all}
use Rattle.dep_open.specs.Open.{Opened, IsOpened, StaysUnread}
use Rattle.dep_open.specs.declared.open_end.OpenEnd.{OpenEnd}
use Rattle.dep_open.specs.declared.open_end.OpenEnd.TheVariants as open_ends
use Rattle.fl_change.specs.World.{World}
use Rattle.fl_change.specs.Answer.{Answer, ops_of, has_acted}
use Rattle.fl_change.specs.Ends.{end_of_open}
use Rattle.fl_change.specs.Performs.{PerformsOver, PerformedOver, SettlesOver, ChangesFrom, OpensBy, Acts, AreToldFor}
use Rattle.fl_change.specs.declared.end.RunEnd.{RunEnd}
use Rattle.fl_change.specs.declared.end.RunEnd.TheVariants as run
use Rattle.fl_change.proofs.Both.{goes_both}
use Rattle.fl_change.proofs.Same.{same_settled}
use Rattle.fl_change.proofs.Working.{is_err}
use Rattle.fl_top.specs.Answer.{shown_answer}
use Rattle.fl_top.specs.Told.{IsReady}
use Rattle.fl_top.specs.Counting.{EachOver}
use Rattle.fl_top.specs.Moment.{RunsChanges}
use Rattle.fl_top.specs.Return.{Completes, ChangesHaveEnded}
use Rattle.fl_top.proofs.Starting.{Keeping, kept, IsLate, IsNoRefusal, Begun, Working, begun_over, begun_seen, begun_world, ready_sound, runs_over, done_over, refused_over, failed_over, ended_open}
use Rattle.fl_top.proofs.Over.{over_is}

-- it was looked at, and perhaps synced
abbrev Looked : (View → View → Type 0) → View → View → Type 0
Looked Q u w = IsTree u × Keeping u w × Q u w

pub goes_keeping : {a b : Option Moments} → IsTold a → Frame Nothing NoName NoPath a b → Goes a b Keeping Keeping
goes_keeping known frame = begins known frame.goes (λ u w t r. kept r) (λ u w t r q. kept q)

opening : {a b : Option Moments} {Q : View → View → Type 0} (holds : Option Holdings) (May : Op → Type 0) (f : Holdings → World → Answer) → IsLate f → IsTold a → Frame Nothing NoName NoPath a b → Goes a b StaysUnread StaysUnread → AtEnd Q a b → Goes a b (RunsChanges holds May f) (Looked Q)
opening holds May f late known frame unread tells = begins known (goes_known (goes_both (goes_keeping known frame) unread) tells) (λ u w t r. begun_over holds May f late r.0 r.1) (λ u w t r q. (t, q.0.0, q.1))

pub goes_not_opened : {a b : Option Moments} (holds : Option Holdings) (May : Op → Type 0) (f : Holdings → World → Answer) (e : OpenEnd) (r : Result (Unit {0}) RunEnd) → IsLate f → IsTold a → Frame Nothing NoName NoPath a b → Goes a b StaysUnread StaysUnread → AtEnd (Opened (Err e)) a b → IsErrAnd r (λ end. end ≡ end_of_open e) → Goes a b (RunsChanges holds May f) (ChangesHaveEnded holds f r)
goes_not_opened {a = a} {b = b} holds May f e r late known frame unread tells is =
    subst (λ (x : Result (Unit {0}) RunEnd). Goes a b (RunsChanges holds May f) (ChangesHaveEnded holds f x)) (sym (is_err r (end_of_open e) is))
    (begins known (opening holds May f late known frame unread tells) (λ u w t p. p) (λ u w t p q. ended_open holds f e q.1 q.2))

begun : {s : State} {u v : View} → Looked (IsOpened s) u v → Begun s u v
begun looked = record { before = looked.0; keeping = looked.1; opened = looked.2 }

-- ---- what is known at each moment under a condition

each_where : (P S : View → Type 0) (F : Type 0) (vs : List View) → AllByRecursion P vs → (F → AllByRecursion S vs) → AllByRecursion (λ v. P v × (F → S v)) vs
each_where P S F [] one two = tt
each_where P S F (v ∷ vs) one two = ((one.0, λ f. (two f).0), each_where P S F vs one.1 (λ f. (two f).1))

since_where : {m n : Moments} {P S : View → Type 0} (F : Type 0) → Since m n P → (F → Since m n S) → Since m n (λ v. P v × (F → S v))
since_where {m = m} {P = P} {S = S} F one two = record {
  more = one.more;
  grew = one.grew;
  each = each_where P S F one.more one.each (λ f. let other = two f in subst (AllByRecursion S) (append_cancel_right other.more one.more (views m) (sym other.grew ∙ one.grew)) other.each);
  last = (one.last, λ f. (two f).last);
}

goes_where : {a b : Option Moments} {R Q S : View → View → Type 0} (F : Type 0) → Goes a b R Q → (F → Always S a b) → Goes a b (λ u w. R u w × (F → S u w)) (λ u w. Q u w × (F → S u w))
goes_where {S = S} F one two = record {
  untold = one.untold;
  told = λ m is.
      let first = one.told m is in (
        first.0,
        first.1,
        since_where F first.2 (λ f.
            let second = (two f).told m is in
            let same : second.0 ≡ first.0 = cc (first.1, second.1) in
            subst (λ (n : Moments). Since m n (S m.now)) same second.2),
        (
          first.3,
          λ f.
              let second = (two f).told m is in
              let same : second.0 ≡ first.0 = cc (first.1, second.1) in
              subst (λ (n : Moments). S m.now n.now) same second.3,
        ),
      );
}

-- ---- work on what was opened

module _ (May : Op → Type 0) (f : Holdings → World → Answer) (s : State) {before now : Bool} {r : Result State RunEnd} {u w : Outside} (works : Acts (Opens s) May f s before now r u w) where
  abbrev Ended : View → View → Type 0
  Ended x y = PerformedOver (Opens s) u.holdings f s before now r x y × (AreToldFor May u.holdings → ChangesFrom May s x y)

  worked : Goes u.told w.told (Working u.holdings May f s) Ended
  worked = record {
    untold = both.untold;
    told = λ m is.
        let one = both.told m is in
        (one.0, one.1, record { more = one.2.more; grew = one.2.grew; each = each_as m.now one.2.more one.2.each; last = record { performs = one.2.last.0; changes = one.2.last.1 } }, one.3);
  }
    where
      both : Goes u.told w.told (λ x y. PerformsOver (Opens s) u.holdings f s x y × (AreToldFor May u.holdings → ChangesFrom May s x y)) Ended
      both = goes_where (AreToldFor May u.holdings) works.goes works.changes

      each_as : (x : View) (vs : List View) → AllByRecursion (λ y. PerformsOver (Opens s) u.holdings f s x y × (AreToldFor May u.holdings → ChangesFrom May s x y)) vs → AllByRecursion (Working u.holdings May f s x) vs
      each_as x [] all = tt
      each_as x (v ∷ vs) all = (record { performs = all.0.0; changes = all.0.1 }, each_as x vs all.1)

pub goes_failed : {a : Option Moments} (May : Op → Type 0) (f : Holdings → World → Answer) (s : State) (e : RunEnd) {before now : Bool} {u w : Outside} → IsNoRefusal e → IsLate f → IsTold a → IsTold u.told → Frame Nothing NoName NoPath a u.told → Goes a u.told StaysUnread StaysUnread → AtEnd (IsOpened s) a u.told
    → Acts (Opens s) May f s before now (Err e) u w → Goes a w.told (RunsChanges u.holdings May f) (ChangesHaveEnded u.holdings f (Err e))
goes_failed May f s e {u = u} other late known known_b frame unread tells works =
    goes_on known_b (opening u.holdings May f late known frame unread tells) (worked May f s works) (λ x y z t p q step. runs_over u.holdings May f s late (begun q) t step) (λ x y z t p q step last. failed_over u.holdings f s e z other (begun q) t last.0)

-- ---- what the changes left

-- The changes were made: over an image that showed one state another is left, which is that state
-- after the operations of each answer that counts. Where the remotes tell what they hold, all is
-- settled: where this spares tidying, if it was before.
pub record Changed (spares : Bool) (holds : Option Holdings) (May : Op → Type 0) (f : Holdings → World → Answer) (t : State) (u w : View) : Type 0 where
  pub before : State
  pub at : Shows (shows u) before
  pub done : IsReady u → (held : Holdings) → holds ≡ Some held → EachOver (shown_answer (f held)) u (λ a. (a.refusal ≡ None) × Completes held a u w)
  pub after : IsReady u → (held : Holdings) → holds ≡ Some held → EachOver (shown_answer (f held)) u (λ a. t ≡ after_all before (ops_of a))
  pub opens : AreToldFor May holds → IsSound u → Opens t w
  pub tree : IsTree u
  pub settled : IsReady u → (held : Holdings) → holds ≡ Some held → (spares ≡ true → Settled (shows u)) → Settled (shows w)

ends_where : {a b : Option Moments} {R Q T : View → View → Type 0} (F : Type 0) → Goes a b R Q → (F → AtEnd T a b) → Goes a b R (λ u w. Q u w × (F → T u w))
ends_where {T = T} F one two = record {
  untold = one.untold;
  told = λ m is.
      let first = one.told m is in (
        first.0,
        first.1,
        first.2,
        (
          first.3,
          λ f.
              let second = (two f).goes.told m is in
              let same : second.0 ≡ first.0 = cc (first.1, second.1) in
              subst (λ (n : Moments). T m.now n.now) same second.3,
        ),
      );
}

-- the end of changes on an opened installation is settled
settled_over : (spares : Bool) (holds : Option Holdings) (f : Holdings → World → Answer) (s t : State) {before now : Bool} {u v : View} (w : View) → Begun s u v → IsTree v → Opens s v → PerformedOver (Opens s) holds f s before now (Ok t) v w
    → (spares ≡ false → SettlesOver holds s (Ok t) v w) → (held : Holdings) → holds ≡ Some held → (spares ≡ true → Settled (shows u)) → Settled (shows w)
settled_over true holds f s t w begun tree opens is settles held told was = (is.performed held told opens).2.tidied (λ idle. same_settled (begun_seen begun tree) (was refl))
settled_over false holds f s t w begun tree opens is settles held told was = settles refl (held, told) opens

changed_over : (spares : Bool) (holds : Option Holdings) (May : Op → Type 0) (f : Holdings → World → Answer) (s t : State) {before now : Bool} {u v : View} (w : View) → Begun s u v → IsTree v → PerformsOver (Opens s) holds f s v w → PerformedOver (Opens s) holds f s before now (Ok t) v w
    → (AreToldFor May holds → OpensBy s (Ok t) v w) → (spares ≡ false → SettlesOver holds s (Ok t) v w) → Changed spares holds May f t u w
changed_over spares holds May f s t {u = u} {v = v} w begun tree work is opens settles = record {
  before = s;
  at = begun.opened.shown;
  done = done_over holds f s t w begun tree work is;
  after = λ ready held told shown counts.
      let opened = begun.opened.opens (ready_sound begun.opened.shown ready) in
      subst (λ (a : Answer). t ≡ after_all s (ops_of a)) (ap (f held) (begun_world s begun tree) ∙ sym (over_is (f held) (shows u) shown s begun.opened.shown counts)) (is.performed held told opened).1;
  opens = λ told sound. opens told (begun.opened.opens sound);
  tree = begun.before;
  settled = λ ready held told was. settled_over spares holds f s t w begun tree (begun.opened.opens (ready_sound begun.opened.shown ready)) is settles held told was;
}

pub goes_changed : {a : Option Moments} (spares : Bool) (May : Op → Type 0) (f : Holdings → World → Answer) (s t : State) {before now : Bool} {u w : Outside} → IsLate f → IsTold a → IsTold u.told → Frame Nothing NoName NoPath a u.told → Goes a u.told StaysUnread StaysUnread → AtEnd (IsOpened s) a u.told
    → Acts (Opens s) May f s before now (Ok t) u w → (spares ≡ false → AtEnd (SettlesOver u.holdings s (Ok t)) u.told w.told) → Goes a w.told (RunsChanges u.holdings May f) (Changed spares u.holdings May f t)
goes_changed spares May f s t {u = u} late known known_b frame unread tells works settles =
    goes_on known_b (opening u.holdings May f late known frame unread tells) (ends_where (spares ≡ false) (ends_where (AreToldFor May u.holdings) (worked May f s works) works.opens) settles)
    (λ x y z tree p q step. runs_over u.holdings May f s late (begun q) tree step)
    (λ x y z tree p q step last. changed_over spares u.holdings May f s t z (begun q) tree step.performs last.0.0.0 last.0.1 last.1)

-- ---- what they left up to a refusal

-- The changes were made up to a refusal: over an image that showed one state another is left, which
-- is that state after the operations of each answer that counts. It is told whether there are such.
-- Every stop leaves some state.
pub record WasRefused (holds : Option Holdings) (May : Op → Type 0) (f : Holdings → World → Answer) (refusal : Refusal) (acted : Bool) (u w : View) : Type 0 where
  pub before : State
  pub at : Shows (shows u) before
  pub done : IsReady u → (held : Holdings) → holds ≡ Some held → EachOver (shown_answer (f held)) u (λ a. (a.refusal ≡ Some refusal) × Completes held a u w × Opens (after_all before (ops_of a)) w × (acted ≡ has_acted false (ops_of a)))
  pub opens : AreToldFor May holds → IsSound u → (t : State) × Opens t w
  pub tree : IsTree u

was_refused : (holds : Option Holdings) (May : Op → Type 0) (f : Holdings → World → Answer) (s : State) (refusal : Refusal) (acted : Bool) {u v : View} (w : View) → Begun s u v → IsTree v → PerformsOver (Opens s) holds f s v w → PerformedOver (Opens s) holds f s false acted (Err (run.Refused refusal)) v w
    → (AreToldFor May holds → OpensBy s (Err (run.Refused refusal)) v w) → WasRefused holds May f refusal acted u w
was_refused holds May f s refusal acted w begun tree work is opens = record {
  before = s;
  at = begun.opened.shown;
  done = refused_over holds f s refusal acted w begun tree work is;
  opens = λ told sound. opens told (begun.opened.opens sound);
  tree = begun.before;
}

pub goes_refused : {a : Option Moments} (May : Op → Type 0) (f : Holdings → World → Answer) (s : State) (refusal : Refusal) (acted : Bool) {u w : Outside} → IsLate f → IsTold a → IsTold u.told → Frame Nothing NoName NoPath a u.told → Goes a u.told StaysUnread StaysUnread → AtEnd (IsOpened s) a u.told
    → Acts (Opens s) May f s false acted (Err (run.Refused refusal)) u w → Goes a w.told (RunsChanges u.holdings May f) (WasRefused u.holdings May f refusal acted)
goes_refused May f s refusal acted {u = u} late known known_b frame unread tells works =
    goes_on known_b (opening u.holdings May f late known frame unread tells) (ends_where (AreToldFor May u.holdings) (worked May f s works) works.opens)
    (λ x y z tree p q step. runs_over u.holdings May f s late (begun q) tree step)
    (λ x y z tree p q step last. was_refused u.holdings May f s refusal acted z (begun q) tree step.performs last.0.0 last.1)

-- ---- the cause of a fault

-- it wasn't opened
pub caused_open : {a : Option Moments} {F G : Type 0} {before now : ℕ} → IsCaused F a (λ v. Unit {0}) before now → (G → F) → IsCaused G a IsReady before now
caused_open cause passes = record { later = cause.later; fault = λ is m told ready. cause.fault (passes is) m told tt }

-- the fault of what isn't opened is that of the opening
pub open_fault : {A : Type 0} (o : Result A OpenEnd) (r : Result (Unit {0}) RunEnd) (e : OpenEnd) → o ≡ Err e → IsErrAnd r (λ end. end ≡ end_of_open e) → IsErrOf r run.Fault → IsErrOf o open_ends.Fault
open_fault o r e was is fault = was ∙ ap (λ (x : OpenEnd). Err x) (of_open e (let both : Err (end_of_open e) ≡ Err run.Fault = sym (is_err r (end_of_open e) is) ∙ fault in cc both))
  where
    of_open : (e : OpenEnd) → end_of_open e ≡ run.Fault → e ≡ open_ends.Fault
    of_open (open_ends.Damaged path) same = absurd (cc same)
    of_open open_ends.Fault same = refl
    of_open open_ends.NoMemory same = absurd (cc same)

-- and it is none of the remotes
pub open_remote : (r : Result (Unit {0}) RunEnd) (e : OpenEnd) → IsErrAnd r (λ end. end ≡ end_of_open e) → IsErrOf r run.RemoteFault → ⊥
open_remote r e is fault = of_open e (let both : Err (end_of_open e) ≡ Err run.RemoteFault = sym (is_err r (end_of_open e) is) ∙ fault in cc both)
  where
    of_open : (e : OpenEnd) → end_of_open e ≡ run.RemoteFault → ⊥
    of_open (open_ends.Damaged path) same = cc same
    of_open open_ends.Fault same = cc same
    of_open open_ends.NoMemory same = cc same
