-- Work with its answer.
use Rattle.std.proofs.Common.{◌≡◌, Bool, List, [], ◌∷◌, Option, Some, Result, Ok, Err, IsErrAnd, refl, sym, subst}
use Rattle.fp_host.specs.Moments.{Moments, Rose}
use Rattle.fp_host.specs.Remote.{Holdings}
use Rattle.fp_host.specs.View.{View}
use Rattle.fp_host.proofs.Framed.{IsTold}
use Rattle.fp_small.specs.declared.state.State.{State}
use Rattle.fp_small.specs.declared.op.Op.{Op}
use Rattle.fp_small.specs.declared.refusal.Refusal.{Refusal}
use Rattle.ost_walk.specs.Ends.{Outside}
use Rattle.fl_change.specs.World.{World, world_at}
use Rattle.fl_change.specs.Answer.{Answer, nothing, refusal_answer, each_over}
use Rattle.fl_change.specs.Performs.{Performs, Performed, Acted, PerformsOver, PerformedOver, AsksBy, Works, Acts, Rests}
use Rattle.fl_change.specs.declared.end.RunEnd.{RunEnd}
use Rattle.fl_change.specs.declared.end.RunEnd.TheVariants.{Refused, Fault, RemoteFault, NoMemory}
use Rattle.fl_change.proofs.Changing.{change_same}
use Rattle.fl_change.proofs.Doing.{not_yet, halted, none_left, none_done}
use Rattle.fl_change.proofs.Turning.{Both, left_rests, performs_first, failed_first, acted_first, performs_second, performed_second, acted_second, StageOver, first_stage, next_stage, stage_performs, stage_failed, stage_acted, stage_rests, last_stage, last_acted}
use Rattle.fl_change.proofs.Working.{goes_to, IsFirst, works_as, works_err, works_stays, works_on, works_looked, Looked}
use Rattle.dep_states.specs.Sound.{Opens}
use Rattle.fl_change.proofs.Worlds.{holds_at}

-- what is known of the answer over the installation at the entry
abbrev pub Known : (View → Type 0) → Outside → State → (Holdings → View → Type 0) → Type 0
Known Ready u s K = (x : View) → IsFirst u.told x → (held : Holdings) → u.holdings ≡ Some held → Ready x → K held x

-- ---- nothing is done

not_begun : (s : State) (f : Holdings → World → Answer) (holds : Option Holdings) (x : View) → PerformsOver (Rests s) holds f s x x
not_begun s f holds x = record { performs = λ held told rests. not_yet (f held (world_at s x)) s rests.opens }

-- the first of two, with what is known of it
abbrev Firstly : (Holdings → World → Answer) → State → Option Holdings → Bool → Bool → State → View → View → Type 0
Firstly f s holds before now t x y = PerformsOver (Rests s) holds f s x y × PerformedOver (Rests s) holds f s before now (Ok t) x y

-- ---- after a look, over an installation that is ready

module _ {Ready : View → Type 0} {s : State} (ready : (x : View) → Ready x → Opens s x) (f : Holdings → World → Answer) where
  ready_yet : (holds : Option Holdings) (x y : View) → y ≡ x → PerformsOver Ready holds f s x y
  ready_yet holds x y same = subst (PerformsOver Ready holds f s x) (sym same) (record { performs = λ held told is. not_yet (f held (world_at s x)) s (ready x is) })

module _ {Ready : View → Type 0} {May : Op → Type 0} {s : State} (ready : (x : View) → Ready x → Opens s x) (f : Holdings → World → Answer) where
  -- there is nothing to do
  pub ready_nothing : {before : Bool} {o : Outside} → IsTold o.told → Known Ready o s (λ held x. f held (world_at s x) ≡ nothing) → Acts Ready May f s before before (Ok s) o o
  ready_nothing {before = before} {o = o} told is = works_stays (Ok s) told (λ x first. ready_yet ready f o.holdings x x refl)
      (λ x first. record {
        performed = λ held known at. subst (λ (a : Answer). Performed held a (world_at s x) (Ok s) x x) (sym (is x first held known at))
            (refl, refl, none_left held nothing (world_at s x) x refl (holds_at s x (ready x at)) (λ before. before (refl, tt)));
        acted = λ held known at. subst (λ (a : Answer). Acted a (Ok s) before before) (sym (is x first held known at)) refl;
      })
      (λ x opens. opens) (λ no. cc no) (λ no. cc no)

  -- out of memory
  pub ready_halted : {before now : Bool} {o : Outside} → IsTold o.told → Acts Ready May f s before now (Err NoMemory) o o
  ready_halted {o = o} told = works_stays (Err NoMemory) told (λ x first. ready_yet ready f o.holdings x x refl)
      (λ x first. record { performed = λ held known at. halted (f held (world_at s x)) s (ready x at); acted = λ held known at. tt })
      (λ x. tt) (λ no. cc no) (λ no. cc no)

  pub ready_looked : {before now : Bool} {r : Result State RunEnd} {u v w : Outside} → IsTold v.told → Looked May u v → Acts Ready May f s before now r v w → Acts Ready May f s before now r u w
  ready_looked {before = before} {now = now} {r = r} {u = u} {v = v} {w = w} told looked acts = works_looked told looked (λ x. ready_yet ready f u.holdings x x refl)
      (subst (λ (h : Option Holdings). Works May s (PerformsOver Ready h f s) (PerformedOver Ready h f s before now r) r v w) looked.same acts)

  -- where the look failed
  pub ready_host_failed : {before now : Bool} {u v : Outside} → Looked May u v → ((m : Moments) → u.told ≡ Some m → Rose u.host_faults v.host_faults) → Acts Ready May f s before now (Err Fault) u v
  ready_host_failed {u = u} {v = v} looked rose = record {
    goes = goes_to looked.still.goes (λ x y r. ready_yet ready f u.holdings x y r) (λ x y q. record { performed = λ held known at. tt; acted = λ held known at. tt });
    opens = λ known. record { goes = goes_to looked.still.goes (λ x y r. tt) (λ x y q. tt) };
    changes = λ known. goes_to looked.still.goes (λ x y r ready. change_same r) (λ x y q ready. change_same q.0);
    same = looked.same;
    host = record { later = looked.host; fault = λ is m at opens. rose m at };
    remote = record { later = looked.remote; rose = λ is. absurd (cc is) };
    unasked = λ none. (looked.unasked none, λ is. cc is);
  }

  pub ready_remote_failed : {before now : Bool} {u v : Outside} → AsksBy May → Looked May u v → Rose u.remote_faults v.remote_faults → Acts Ready May f s before now (Err RemoteFault) u v
  ready_remote_failed {u = u} {v = v} asks looked rose = record {
    goes = goes_to looked.still.goes (λ x y r. ready_yet ready f u.holdings x y r) (λ x y q. record { performed = λ held known at. subst (λ (a : View). Performed held (f held (world_at s x)) (world_at s x) (Err RemoteFault) x a) (sym q.0) (halted (f held (world_at s x)) s (ready x at)); acted = λ held known at. tt });
    opens = λ known. record { goes = goes_to looked.still.goes (λ x y r. tt) (λ x y q. tt) };
    changes = λ known. goes_to looked.still.goes (λ x y r ready. change_same r) (λ x y q ready. change_same q.0);
    same = looked.same;
    host = record { later = looked.host; fault = λ is. absurd (cc is.1) };
    remote = record { later = looked.remote; rose = λ is. rose };
    unasked = λ none. absurd (none asks);
  }

-- over one at rest
abbrev at_rest : (s : State) (x : View) → Rests s x → Opens s x
at_rest s x rests = rests.opens

module _ {May : Op → Type 0} {s : State} where
  -- and there is nothing to do
  pub acts_nothing : (f : Holdings → World → Answer) {before : Bool} {o : Outside} → IsTold o.told → Known (Rests s) o s (λ held x. f held (world_at s x) ≡ nothing) → Acts (Rests s) May f s before before (Ok s) o o
  acts_nothing f told is = ready_nothing (at_rest s) f told is

  -- it is refused
  pub acts_refused : (f : Holdings → World → Answer) (r : Refusal) {before : Bool} {o : Outside} → IsTold o.told → Known (Rests s) o s (λ held x. f held (world_at s x) ≡ refusal_answer r) → Acts (Rests s) May f s before before (Err (Refused r)) o o
  acts_refused f r {before = before} {o = o} told is = works_stays (Err (Refused r)) told (λ x first. not_begun s f o.holdings x)
      (λ x first. record {
        performed = λ held known rests. subst (λ (a : Answer). Performed held a (world_at s x) (Err (Refused r)) x x) (sym (is x first held known rests))
            (refl, none_done held (refusal_answer r) (world_at s x) x refl (holds_at s x rests.opens) rests.settled);
        acted = λ held known rests. subst (λ (a : Answer). Acted a (Err (Refused r)) before before) (sym (is x first held known rests)) refl;
      })
      (λ x opens. (s, opens)) (λ no. cc no) (λ no. cc no)

  -- out of memory
  pub acts_halted : (f : Holdings → World → Answer) {before now : Bool} {o : Outside} → IsTold o.told → Acts (Rests s) May f s before now (Err NoMemory) o o
  acts_halted f told = ready_halted (at_rest s) f told

  -- ---- the same answer

  pub acts_same : (f g : Holdings → World → Answer) {before now : Bool} {r : Result State RunEnd} {u w : Outside} → Known (Rests s) u s (λ held x. f held (world_at s x) ≡ g held (world_at s x)) → Acts (Rests s) May g s before now r u w → Acts (Rests s) May f s before now r u w
  acts_same f g {before = before} {now = now} {r = r} is acts = works_as
      (λ x y first p. record { performs = λ held known rests. subst (λ (a : Answer). Performs a s x y) (sym (is x first held known rests)) (p.performs held known rests) })
      (λ x y first p q. record {
        performed = λ held known rests. subst (λ (a : Answer). Performed held a (world_at s x) r x y) (sym (is x first held known rests)) (q.performed held known rests);
        acted = λ held known rests. subst (λ (a : Answer). Acted a r before now) (sym (is x first held known rests)) (q.acted held known rests);
      })
      acts

  -- ---- after a look

  pub acts_looked : (f : Holdings → World → Answer) {before now : Bool} {r : Result State RunEnd} {u v w : Outside} → IsTold v.told → Looked May u v → Acts (Rests s) May f s before now r v w → Acts (Rests s) May f s before now r u w
  acts_looked f told looked acts = ready_looked (at_rest s) f told looked acts

  -- where the look failed
  pub acts_host_failed : (f : Holdings → World → Answer) {before now : Bool} {u v : Outside} → IsTold v.told → Looked May u v → ((m : Moments) → u.told ≡ Some m → Rose u.host_faults v.host_faults) → Acts (Rests s) May f s before now (Err Fault) u v
  acts_host_failed f told looked rose = ready_host_failed (at_rest s) f looked rose

  pub acts_remote_failed : (f : Holdings → World → Answer) {before now : Bool} {u v : Outside} → AsksBy May → Looked May u v → Rose u.remote_faults v.remote_faults → Acts (Rests s) May f s before now (Err RemoteFault) u v
  acts_remote_failed f asks looked rose = ready_remote_failed (at_rest s) f asks looked rose

  -- ---- one after another

  pub acts_first : (f g : Holdings → World → Answer) (e : RunEnd) {before now : Bool} {u w : Outside} → Acts (Rests s) May f s before now (Err e) u w → Acts (Rests s) May (Both f g) s before now (Err e) u w
  acts_first f g e {before = before} {now = now} acts = works_as
      (λ x y first p. record { performs = λ held known rests. performs_first held f g s (p.performs held known rests) })
      (λ x y first p q. record {
        performed = λ held known rests. failed_first held f g s e x y (q.performed held known rests);
        acted = λ held known rests. acted_first held f g s e x y before now (q.performed held known rests) (q.acted held known rests);
      })
      acts

  firstly : (f g : Holdings → World → Answer) (t : State) {before now : Bool} {u v : Outside} → Acts (Rests s) May f s before now (Ok t) u v → Works May s (PerformsOver (Rests s) u.holdings (Both f g) s) (Firstly f s u.holdings before now t) (Ok t) u v
  firstly f g t acts = works_as
      (λ x y first p. record { performs = λ held known rests. performs_first held f g s (p.performs held known rests) })
      (λ x y first p q. (p, q))
      acts

  pub acts_second : (f g : Holdings → World → Answer) (t : State) (r : Result State RunEnd) {before now after : Bool} {u v w : Outside} → IsTold v.told → Acts (Rests s) May f s before now (Ok t) u v → Acts (Rests t) May g t now after r v w → Acts (Rests s) May (Both f g) s before after r u w
  acts_second f g t r {before = before} {now = now} {after = after} {u = u} {v = v} {w = w} told one two = works_on told (firstly f g t one)
      (subst (λ (h : Option Holdings). Works May t (PerformsOver (Rests t) h g t) (PerformedOver (Rests t) h g t now after r) r v w) one.same two)
      (λ x y z p q n. record {
        performs = λ held known rests.
            let d = q.1.performed held known rests in
            performs_second held f g s t x y z d (q.0.performs held known rests).files (n.performs held known (left_rests held (f held (world_at s x)) s t x y (d.2.tidied (λ idle. rests.settled)) d));
      })
      (λ x y z p q n l. record {
        performed = λ held known rests.
            let d = q.1.performed held known rests in
            let at = left_rests held (f held (world_at s x)) s t x y (d.2.tidied (λ idle. rests.settled)) d in
            performed_second held f g s t r x y z d (q.0.performs held known rests).files (n.performs held known at).files (l.performed held known at);
        acted = λ held known rests.
            let d = q.1.performed held known rests in
            acted_second held f g s t r x y before now after d (q.1.acted held known rests) (l.acted held known (left_rests held (f held (world_at s x)) s t x y (d.2.tidied (λ idle. rests.settled)) d));
      })

-- ---- each of a list, in turn

module _ {A : Type 0} (item : A → Holdings → World → Answer) (all : List A) (May : Op → Type 0) (s : State) where
  pub record StagesOver (holds : Option Holdings) (left : List A) (t : State) (before now : Bool) (x y : View) : Type 0 where
    pub stage : (held : Holdings) → holds ≡ Some held → Rests s x → StageOver item held all left s t before now x y

  -- all but these are done
  abbrev pub Turned : List A → State → Bool → Bool → Outside → Outside → Type 0
  Turned left t before now u w = Works May s (PerformsOver (Rests s) u.holdings (each_over item all) s) (StagesOver u.holdings left t before now) (Ok t) u w

  pub turn_begins : {before : Bool} {o : Outside} → IsTold o.told → Turned all s before before o o
  turn_begins {o = o} told = works_stays (Ok s) told (λ x first. not_begun s (each_over item all) o.holdings x)
      (λ x first. record { stage = λ held known rests. first_stage item held all s rests }) (λ x opens. opens) (λ no. cc no) (λ no. cc no)

  next_held : (a : A) (t : State) (r : Result State RunEnd) {now after : Bool} (u : Outside) {v w : Outside} → v.holdings ≡ u.holdings → Acts (Rests t) May (item a) t now after r v w → Works May t (PerformsOver (Rests t) u.holdings (item a) t) (PerformedOver (Rests t) u.holdings (item a) t now after r) r v w
  next_held a t r {now = now} {after = after} u {v = v} {w = w} same acts = subst (λ (h : Option Holdings). Works May t (PerformsOver (Rests t) h (item a) t) (PerformedOver (Rests t) h (item a) t now after r) r v w) same acts

  turning : (a : A) (left : List A) (t : State) {before now : Bool} {holds : Option Holdings} (x y z : View) → StagesOver holds (a ∷ left) t before now x y → PerformsOver (Rests t) holds (item a) t y z → PerformsOver (Rests s) holds (each_over item all) s x z
  turning a left t x y z q n = record {
    performs = λ held known rests.
        let stage = q.stage held known rests in
        stage_performs item held all a left s t stage (n.performs held known (stage_rests item held all (a ∷ left) s t stage));
  }

  pub turn_goes_on : (a : A) (left : List A) (t t' : State) {before now after : Bool} {u v w : Outside} → IsTold v.told → Turned (a ∷ left) t before now u v → Acts (Rests t) May (item a) t now after (Ok t') v w → Turned left t' before after u w
  turn_goes_on a left t t' {u = u} told turned acts = works_on told turned (next_held a t (Ok t') u turned.same acts)
      (λ x y z p q n. turning a left t x y z q n)
      (λ x y z p q n l. record {
        stage = λ held known rests.
            let stage = q.stage held known rests in
            let at = stage_rests item held all (a ∷ left) s t stage in
            next_stage item held all a left s t stage t' (n.performs held known at).files (l.performed held known at) (l.acted held known at);
      })

  pub turn_fails : (a : A) (left : List A) (t : State) (e : RunEnd) {before now after : Bool} {u v w : Outside} → IsTold v.told → Turned (a ∷ left) t before now u v → Acts (Rests t) May (item a) t now after (Err e) v w → Acts (Rests s) May (each_over item all) s before after (Err e) u w
  turn_fails a left t e {u = u} told turned acts = works_on told turned (next_held a t (Err e) u turned.same acts)
      (λ x y z p q n. turning a left t x y z q n)
      (λ x y z p q n l. record {
        performed = λ held known rests.
            let stage = q.stage held known rests in
            let at = stage_rests item held all (a ∷ left) s t stage in
            stage_failed item held all a left s t stage e z (n.performs held known at).files (l.performed held known at);
        acted = λ held known rests.
            let stage = q.stage held known rests in
            let at = stage_rests item held all (a ∷ left) s t stage in
            stage_acted item held all a left s t stage e _ z (l.performed held known at) (l.acted held known at);
      })

  pub turn_ends : (t : State) {before now : Bool} {u w : Outside} → Turned [] t before now u w → Acts (Rests s) May (each_over item all) s before now (Ok t) u w
  turn_ends t turned = works_as (λ x y first p. p)
      (λ x y first p q. record {
        performed = λ held known rests. last_stage item held all s t (q.stage held known rests);
        acted = λ held known rests. last_acted item held all s t (q.stage held known rests);
      })
      turned

-- ---- at the exits of a function

pub acts_err : {Ready : View → Type 0} {May : Op → Type 0} {f : Holdings → World → Answer} {s : State} {before now : Bool} {u w : Outside} (r : Result State RunEnd) (e : RunEnd) → IsErrAnd r (λ end. end ≡ e) → Acts Ready May f s before now (Err e) u w → Acts Ready May f s before now r u w
acts_err {Ready = Ready} {f = f} {s = s} {before = before} {now = now} {u = u} r e is acts = works_err (λ x. PerformedOver Ready u.holdings f s before now x) r e is acts
