-- An installation that is tidied before anything else is done with it.
use Rattle.std.proofs.Common.{◌≡◌, Bool, List, [], ◌++◌, ℕ, Option, Result, Ok, Err, IsErrAnd, OnOk, refl, sym, ◌∙◌, ap, subst}
use Rattle.fp_host.specs.Causes.{IsCaused}
use Rattle.fp_host.specs.Frame.{AtEnd}
use Rattle.fp_host.specs.Moments.{Moments, Always}
use Rattle.fp_host.specs.Remote.{Holdings}
use Rattle.fp_host.specs.View.{View}
use Rattle.fp_host.specs.Outcome.{shows}
use Rattle.fp_host.specs.declared.host.HostEnd.{HostEnd}
use Rattle.fp_host.specs.declared.host.HostEnd.TheVariants as host
use Rattle.fp_host.proofs.Ending.{ends_on, goes_known}
use Rattle.fp_host.proofs.Framed.{IsTold}
use Rattle.fp_small.specs.declared.state.State.{State}
use Rattle.fp_small.specs.declared.op.Op.{Op}
use Rattle.fp_small.specs.Files.{KeepsFiles}
use Rattle.fp_small.specs.Places.{repo}
use Rattle.fp_small.proofs.Keeping.{files_on}
use Rattle.dep_states.proofs.SharedAs.{shared_on}
use Rattle.ost_store.specs.Created.{Creates, NoObject}
use Rattle.ost_walk.specs.Ends.{Outside}
use Rattle.dep_states.specs.Lasting.{IsLasting, SharesAs}
use Rattle.dep_states.specs.Sound.{Opens}
use Rattle.dep_states.specs.Settled.{Settled}
use Rattle.dep_tidy.specs.Tidy.{Tidies, WasTidied}
use Rattle.op_change.specs.Bringing.{AreTold}
use Rattle.fl_change.specs.World.{World, world_at}
use Rattle.fl_change.specs.Answer.{Answer, Piece, pieces_text, ops_of}
use Rattle.fl_change.specs.Ends.{end_of_host}
use Rattle.fl_change.specs.Performs.{Printed, Performs, IsDone, IsHalted, Performed, Acted, PerformsOver, PerformedOver, SettlesBy, SettlesOver, Works, Acts, Rests}
use Rattle.fl_change.specs.declared.end.RunEnd.{RunEnd}
use Rattle.fl_change.specs.declared.end.RunEnd.TheVariants.{Refused, Fault, RemoteFault, NoMemory}
use Rattle.fl_change.proofs.Changing.{tidied_on, tidies_only, still_on, tidies_still, config_tidied}
use Rattle.fl_change.proofs.Created.{created_off}
use Rattle.fl_change.proofs.Composing.{Tidying, works_tidied, works_untidied}
use Rattle.fl_change.proofs.Doing.{none_yet, not_done}
use Rattle.fl_change.proofs.Working.{is_err, goes_to, works_as, works_on}
use Rattle.fl_change.proofs.Worlds.{holds_at, holds_tidied, world_held}

-- the clauses of a tidying
pub tidying_of : {Q : View → View → Type 0} (s : State) (result : Result State HostEnd) {u v : Outside} → Always (Tidies s) u.told v.told → OnOk result (AtEnd Q u.told v.told) → ((t : State) → result ≡ Ok t → t ≡ s)
    → IsCaused (result ≡ Err host.Fault) u.told (Opens s) u.host_faults v.host_faults → v.holdings ≡ u.holdings → v.remote_faults ≡ u.remote_faults → Tidying Q s result u v
tidying_of s result moments success state cause holdings remote = record { moments = moments; success = success; state = state; host = cause; holdings = holdings; remote_faults = remote }

pub first_moved : {a : Answer} {said : List Piece} {u v w : View} → v.printed ≡ u.printed → Printed a said v w → Printed a said u w
first_moved {said = said} same printed = record { left = printed.left; pieces = printed.pieces; printed = printed.printed ∙ ap (λ (p : List ℕ). p ++ pieces_text said) same }

module _ (s : State) {u v : View} (tidies : Tidies s u v) (opens : Opens s u) where
  -- the world after a tidying is that of before
  tidied_world : world_at s v ≡ world_at s u
  tidied_world = world_held s refl (holds_tidied tidies (holds_at s u opens))

  -- nothing is done yet
  tidied_first : (a : Answer) → Performs a s u v
  tidied_first a = record {
    said = [];
    so_far = none_yet a tidies.printed;
    files = tidies.files;
    only_tidied = λ idle. tidies_only tidies;
    still = λ idle settled. tidies_still tidies opens settled;
    some = λ disk left. not_done a s disk (tidies.opens opens) left;
  }

  halted_first : (a : Answer) → IsHalted a s u v
  halted_first a = record { said = []; so_far = none_yet a tidies.printed; opens = tidies.opens opens }

  performs_moved : Settled (shows v) → (a : Answer) {w : View} → Performs a s v w → Performs a s u w
  performs_moved settled a performs = record {
    said = performs.said;
    so_far = first_moved tidies.printed performs.so_far;
    files = files_on tidies.files performs.files;
    only_tidied = λ idle. tidied_on (tidies_only tidies) (performs.only_tidied idle);
    still = λ idle before. still_on (tidies_still tidies opens before) (performs.still idle settled) performs.files;
    some = performs.some;
  }

  module _ (held : Holdings) (settled : Settled (shows v)) (made : SharesAs IsLasting u v) (creates : Creates repo NoObject u v) where
    done_moved : (a : Answer) {w : View} → KeepsFiles v w → IsDone held a (world_at s v) v w → IsDone held a (world_at s v) u w
    done_moved a kept done = record {
      only_tidied = λ idle. tidied_on (tidies_only tidies) (done.only_tidied idle);
      still = λ idle before. still_on (tidies_still tidies opens before) (done.still idle settled) kept;
      printed = done.printed ∙ ap (λ (p : List ℕ). p ++ pieces_text a.pieces) tidies.printed;
      holds = done.holds;
      tidied = λ before. done.tidied (λ idle. settled);
      text = done.text;
      config = λ not. done.config not ∙ config_tidied tidies;
      shares = λ unpulled. shared_on made (done.shares unpulled) kept;
      creates = λ unpulled. created_off held (world_at s v) (ops_of a) creates (done.creates unpulled) tidies.files kept;
    }

    halted_moved : (a : Answer) {w : View} → IsHalted a s v w → IsHalted a s u w
    halted_moved a halted = record { said = halted.said; so_far = first_moved tidies.printed halted.so_far; opens = halted.opens }

    performed_moved : (a : Answer) (r : Result State RunEnd) (w : View) → KeepsFiles v w → Performed held a (world_at s v) r v w → Performed held a (world_at s v) r u w
    performed_moved a (Ok t) w kept done = (done.0, done.1, done_moved a kept done.2)
    performed_moved a (Err (Refused refusal)) w kept done = (done.0, done_moved a kept done.1)
    performed_moved a (Err Fault) w kept done = tt
    performed_moved a (Err RemoteFault) w kept done = halted_moved a done
    performed_moved a (Err NoMemory) w kept done = halted_moved a done

-- ---- work after it

first_over : (f : Holdings → World → Answer) (s : State) (holds : Option Holdings) (x y : View) → Tidies s x y → PerformsOver (Opens s) holds f s x y
first_over f s holds x y tidies = record { performs = λ held told opens. tidied_first s tidies opens (f held (world_at s x)) }

pub acts_untidied_first : {May : Op → Type 0} (f : Holdings → World → Answer) (s : State) (e : HostEnd) {before now : Bool} {u v : Outside} → Tidying (WasTidied s) s (Err e) u v → Acts (Opens s) May f s before now (Err (end_of_host e)) u v
acts_untidied_first f s e {before = before} {now = now} {u = u} call = works_as (λ x y first p. first_over f s u.holdings x y p) (λ x y first p q. by e x y q) (works_untidied s e call)
  where
    by : (e : HostEnd) (x y : View) → Tidies s x y → PerformedOver (Opens s) u.holdings f s before now (Err (end_of_host e)) x y
    by host.Fault x y tidies = record { performed = λ held told opens. tt; acted = λ held told opens. tt }
    by host.NoMemory x y tidies = record { performed = λ held told opens. halted_first s tidies opens (f held (world_at s x)); acted = λ held told opens. tt }

pub acts_tidied_first : {May : Op → Type 0} (f : Holdings → World → Answer) (s t : State) (r : Result State RunEnd) {before now : Bool} {u v w : Outside} → IsTold v.told → Tidying (WasTidied s) s (Ok t) u v → Acts (Rests s) May f s before now r v w → Acts (Opens s) May f s before now r u w
acts_tidied_first {May = May} f s t r {before = before} {now = now} {u = u} {v = v} {w = w} told call acts = works_on told first
    (subst (λ (h : Option Holdings). Works May s (PerformsOver (Rests s) h f s) (PerformedOver (Rests s) h f s before now r) r v w) call.holdings acts)
    (λ x y z p q n. record {
      performs = λ held known opens.
          let rests : Rests s y = record { opens = q.0.opens opens; settled = q.1.settled opens } in
          subst (λ (a : World). Performs (f held a) s x z) (tidied_world s q.0 opens) (performs_moved s q.0 opens rests.settled (f held (world_at s y)) (n.performs held known rests));
    })
    (λ x y z p q n l. record {
      performed = λ held known opens.
          let rests : Rests s y = record { opens = q.0.opens opens; settled = q.1.settled opens } in
          subst (λ (a : World). Performed held (f held a) a r x z) (tidied_world s q.0 opens) (performed_moved s q.0 opens held rests.settled q.1.shares q.1.creates (f held (world_at s y)) r z (n.performs held known rests).files (l.performed held known rests));
      acted = λ held known opens.
          let rests : Rests s y = record { opens = q.0.opens opens; settled = q.1.settled opens } in
          subst (λ (a : World). Acted (f held a) r before now) (tidied_world s q.0 opens) (l.acted held known rests);
    })
  where
    first : Works May s (PerformsOver (Opens s) u.holdings f s) (λ x y. Tidies s x y × WasTidied s x y) (Ok s) u v
    first = works_as (λ x y first p. first_over f s u.holdings x y p) (λ x y first p q. q)
        (subst (λ (z : State). Works May s (Tidies s) (λ x y. Tidies s x y × WasTidied s x y) (Ok z) u v) (call.state t refl) (works_tidied s t call))

-- ---- and all is settled

settled_by : (held : Holdings) (a : Answer) (x : World) (r : Result State RunEnd) (v w : View) → Settled (shows v) → Performed held a x r v w → SettlesBy r w
settled_by held a x (Ok t) v w settled done = done.2.tidied (λ idle. settled)
settled_by held a x (Err (Refused refusal)) v w settled done = done.1.tidied (λ idle. settled)
settled_by held a x (Err Fault) v w settled done = tt
settled_by held a x (Err RemoteFault) v w settled done = tt
settled_by held a x (Err NoMemory) v w settled done = tt

pub acts_settle : {May : Op → Type 0} (f : Holdings → World → Answer) (s : State) (r : Result State RunEnd) {before now : Bool} {v w : Outside} → Acts (Rests s) May f s before now r v w → AtEnd (λ y z. AreTold v.holdings → Rests s y → SettlesBy r z) v.told w.told
acts_settle f s r acts = record { goes = goes_to acts.goes (λ x y p. tt) (λ x y q known rests. settled_by known.0 (f known.0 (world_at s x)) (world_at s x) r x y rests.settled (q.performed known.0 known.1 rests)) }

pub settles_untidied : (holds : Option Holdings) (s : State) (e : HostEnd) {u v : Outside} → Tidying (WasTidied s) s (Err e) u v → AtEnd (SettlesOver holds s (Err (end_of_host e))) u.told v.told
settles_untidied holds s e call = record { goes = goes_to call.moments (λ x y r. tt) (λ x y r told opens. by e y) }
  where
    by : (e : HostEnd) (w : View) → SettlesBy (Err (end_of_host e)) w
    by host.Fault w = tt
    by host.NoMemory w = tt

pub settles_tidied : {May : Op → Type 0} (f : Holdings → World → Answer) (s t : State) (r : Result State RunEnd) {before now : Bool} {u v w : Outside} → IsTold v.told → Tidying (WasTidied s) s (Ok t) u v → Acts (Rests s) May f s before now r v w → AtEnd (SettlesOver u.holdings s r) u.told w.told
settles_tidied f s t r {u = u} {v = v} {w = w} told call acts = ends_on (acts_settle f s r acts) tidying told
    (λ x y z tree q n known opens. n (known.0, call.holdings ∙ known.1) (record { opens = q.0.opens opens; settled = q.1.settled opens }))
  where
    tidying : AtEnd (λ x y. Tidies s x y × WasTidied s x y) u.told v.told
    tidying = record { goes = goes_to (goes_known call.moments call.success) (λ x y r. tt) (λ x y q. q) }

-- at the exit of a `?`
pub settles_err : (holds : Option Holdings) (s : State) (r : Result State RunEnd) (e : RunEnd) {a b : Option Moments} → IsErrAnd r (λ end. end ≡ e) → AtEnd (SettlesOver holds s (Err e)) a b → AtEnd (SettlesOver holds s r) a b
settles_err holds s r e {a = a} {b = b} is end = subst (λ (x : Result State RunEnd). AtEnd (SettlesOver holds s x) a b) (sym (is_err r e is)) end
