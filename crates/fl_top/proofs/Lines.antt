-- A line after changes, over an installation that every stop leaves in a state.
use Rattle.std.proofs.Common.{◌≡◌, Bool, ℕ, List, Option, Some, Result, Ok, Err, IsErrAnd, ◌∙◌, subst}
use Rattle.fp_host.specs.Causes.{end_of}
use Rattle.fp_host.specs.Frame.{AtEnd}
use Rattle.fp_host.specs.Moments.{Moments}
use Rattle.fp_host.specs.Remote.{Holdings}
use Rattle.fp_host.specs.View.{View}
use Rattle.fp_host.specs.declared.host.HostError.{HostError}
use Rattle.fp_host.proofs.Ending.{ends_on}
use Rattle.fp_host.proofs.Framed.{IsTold}
use Rattle.fp_small.specs.declared.op.Op.{Op}
use Rattle.fp_small.specs.declared.state.State.{State}
use Rattle.ost_walk.specs.Ends.{Outside}
use Rattle.dep_states.specs.Sound.{Opens}
use Rattle.fl_change.specs.Answer.{Answer, text_answer}
use Rattle.fl_change.specs.Ends.{end_of_host}
use Rattle.fl_change.specs.Performs.{PerformsOver, PerformedOver, SettlesOver, Works, Acts, Rests}
use Rattle.fl_change.specs.World.{World, world_at}
use Rattle.fl_change.specs.declared.end.RunEnd.{RunEnd}
use Rattle.fl_change.specs.declared.end.RunEnd.TheVariants.{NoMemory}
use Rattle.fl_change.proofs.Acting.{acts_same}
use Rattle.fl_change.proofs.Composing.{Saying}
use Rattle.fl_change.proofs.Doing.{not_yet, halted}
use Rattle.fl_change.proofs.Skipping.{acts_told as text_told, acts_not_told as text_not_told}
use Rattle.fl_change.proofs.Turning.{Both, left_rests, performs_first, failed_first, acted_first, performs_second, performed_second, acted_second}
use Rattle.fl_change.proofs.Tidying.{acts_settle, settles_err}
use Rattle.fl_change.proofs.Working.{goes_to, stays_at, works_as, works_known, works_on, works_stays}

-- out of memory
pub acts_halted : {May : Op → Type 0} (f : Holdings → World → Answer) (s : State) {before now : Bool} {o : Outside}
    → IsTold o.told → Acts (Opens s) May f s before now (Err NoMemory) o o
acts_halted f s {o = o} known = works_stays (Err NoMemory) known
    (λ x first. record { performs = λ held is opens. not_yet (f held (world_at s x)) s opens })
    (λ x first. record { performed = λ held is opens. halted (f held (world_at s x)) s opens; acted = λ held is opens. tt })
    (λ x. tt) (λ no. cc no) (λ no. cc no)

pub settles_halted : (holds : Option Holdings) (s : State) (r : Result State RunEnd) {a : Option Moments} → IsErrAnd r (λ end. end ≡ NoMemory) → IsTold a → AtEnd (SettlesOver holds s r) a a
settles_halted holds s r is known = settles_err holds s r NoMemory is (record { goes = stays_at known (λ x first. tt) (λ x first told opens. tt) })

-- ---- a text that acknowledges nothing

-- over each installation of this state it answers this text
abbrev pub Answers : (Holdings → World → Answer) → State → List ℕ → Type 0
Answers f s text = (held : Holdings) (x : View) → f held (world_at s x) ≡ text_answer text

module _ {May : Op → Type 0} (f : Holdings → World → Answer) (s : State) (text piece : List ℕ) {u v : Outside} (is : Answers f s text) (same : piece ≡ text) where
  pub acts_told : {before : Bool} → Saying piece (Ok tt) u v → Acts (Rests s) May f s before before (Ok s) u v
  acts_told call = acts_same f (λ held x. text_answer text) (λ x first held known rests. is held x)
      (text_told text piece s same call)

  pub acts_not_told : (e : HostError) {before now : Bool} → Saying piece (Err e) u v
      → Acts (Rests s) May f s before now (Err (end_of_host (end_of e))) u v
  acts_not_told e call = acts_same f (λ held x. text_answer text) (λ x first held known rests. is held x)
      (text_not_told text piece s same e call)

-- ---- one answer after another

-- the first of two, with what is known of it
abbrev Firstly : (Holdings → World → Answer) → State → Option Holdings → Bool → Bool → State → View → View → Type 0
Firstly f s holds before now t x y = PerformsOver (Opens s) holds f s x y × PerformedOver (Opens s) holds f s before now (Ok t) x y

-- and all is settled
abbrev Settling : (Holdings → World → Answer) → State → Option Holdings → Bool → Bool → State → View → View → Type 0
Settling f s holds before now t x y = Firstly f s holds before now t x y × SettlesOver holds s (Ok t) x y

rests_after : (f : Holdings → World → Answer) (s t : State) {before now : Bool} {holds : Option Holdings} (x y : View) → Settling f s holds before now t x y → (held : Holdings) → holds ≡ Some held → Opens s x → Rests t y
rests_after f s t x y q held known opens = left_rests held (f held (world_at s x)) s t x y (q.1 (held, known) opens) (q.0.1.performed held known opens)

module _ {May : Op → Type 0} (f g : Holdings → World → Answer) (s : State) where
  pub acts_first : (e : RunEnd) {before now : Bool} {u w : Outside} → Acts (Opens s) May f s before now (Err e) u w → Acts (Opens s) May (Both f g) s before now (Err e) u w
  acts_first e {before = before} {now = now} acts = works_as
      (λ x y first p. record { performs = λ held known opens. performs_first held f g s (p.performs held known opens) })
      (λ x y first p q. record {
        performed = λ held known opens. failed_first held f g s e x y (q.performed held known opens);
        acted = λ held known opens. acted_first held f g s e x y before now (q.performed held known opens) (q.acted held known opens);
      })
      acts

  firstly : (t : State) {before now : Bool} {u v : Outside} → Acts (Opens s) May f s before now (Ok t) u v → AtEnd (SettlesOver u.holdings s (Ok t)) u.told v.told → Works May s (PerformsOver (Opens s) u.holdings (Both f g) s) (Settling f s u.holdings before now t) (Ok t) u v
  firstly t acts settles = works_known (works_as
      (λ x y first p. record { performs = λ held known opens. performs_first held f g s (p.performs held known opens) })
      (λ x y first p q. (p, q))
      acts) settles

  pub acts_second : (t : State) (r : Result State RunEnd) {before now after : Bool} {u v w : Outside} → IsTold v.told → Acts (Opens s) May f s before now (Ok t) u v → AtEnd (SettlesOver u.holdings s (Ok t)) u.told v.told → Acts (Rests t) May g t now after r v w → Acts (Opens s) May (Both f g) s before after r u w
  acts_second t r {before = before} {now = now} {after = after} {u = u} {v = v} {w = w} known_v one settles two = works_on known_v (firstly t one settles)
      (subst (λ (h : Option Holdings). Works May t (PerformsOver (Rests t) h g t) (PerformedOver (Rests t) h g t now after r) r v w) one.same two)
      (λ x y z p q n. record {
        performs = λ held known opens.
            let d = q.0.1.performed held known opens in
            performs_second held f g s t x y z d (q.0.0.performs held known opens).files (n.performs held known (rests_after f s t x y q held known opens));
      })
      (λ x y z p q n l. record {
        performed = λ held known opens.
            let d = q.0.1.performed held known opens in
            let at = rests_after f s t x y q held known opens in
            performed_second held f g s t r x y z d (q.0.0.performs held known opens).files (n.performs held known at).files (l.performed held known at);
        acted = λ held known opens.
            let d = q.0.1.performed held known opens in
            acted_second held f g s t r x y before now after d (q.0.1.acted held known opens) (l.acted held known (rests_after f s t x y q held known opens));
      })

  pub settles_second : (t : State) (r : Result State RunEnd) {before now after : Bool} {u v w : Outside} → IsTold v.told → Acts (Opens s) May f s before now (Ok t) u v → AtEnd (SettlesOver u.holdings s (Ok t)) u.told v.told → Acts (Rests t) May g t now after r v w → AtEnd (SettlesOver u.holdings s r) u.told w.told
  settles_second t r {before = before} {now = now} {u = u} {v = v} known_v one settles two = ends_on (acts_settle g t r two) first known_v
      (λ x y z tree q n known opens. n (known.0, one.same ∙ known.1) (rests_after f s t x y q known.0 known.1 opens))
    where
      first : AtEnd (Settling f s u.holdings before now t) u.told v.told
      first = record { goes = goes_to (firstly t one settles).goes (λ x y p. tt) (λ x y q. q) }
