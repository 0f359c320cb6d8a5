-- What commands ask of the remotes.
use Rattle.std.proofs.Common.{◌≡◌, ℕ, List, true, Option, Result, IsErrOf, refl, arith}
use Rattle.fp_host.specs.Remote.{Holdings}
use Rattle.fp_host.specs.View.{View}
use Rattle.fp_small.specs.declared.op.Op.{Op}
use Rattle.fp_small.specs.declared.state.State.{State}
use Rattle.ost_walk.specs.Ends.{Outside}
use Rattle.fl_words.specs.declared.command.Command.{Command}
use Rattle.fl_words.specs.declared.command.Command.TheVariants.{Change as Changing, Batch, Exercise as Exercising}
use Rattle.fl_change.specs.Performs.{Works}
use Rattle.fl_change.specs.declared.end.RunEnd.{RunEnd}
use Rattle.fl_change.specs.declared.end.RunEnd.TheVariants.{RemoteFault}
use Rattle.fl_change.proofs.Working.{asks_to}
use Rattle.fl_top.specs.Asked.{OpsBy, AsksRemotes}
use Rattle.fl_top.specs.Status.{changes_state}

-- they aren't asked
pub not_asked : (May : Op → Type 0) (failed : Type 0) (holds : Option Holdings) (n : ℕ) → (failed → ⊥) → AsksRemotes May failed holds holds n n
not_asked May failed holds n none = record { same = refl; later = omega arith; rose = λ f. absurd (none f); unasked = λ no. (refl, none) }

-- of more operations, by work whose fault is passed on
pub asks_more : {A B : Op → Type 0} {F G : Type 0} {old new : Option Holdings} {before now : ℕ} → ((op : Op) → A op → B op) → (G → F) → AsksRemotes A F old new before now → AsksRemotes B G old new before now
asks_more wider passes asks = record {
  same = asks.same;
  later = asks.later;
  rose = λ g. asks.rose (passes g);
  unasked = λ none. let is = asks.unasked (λ a. none (asks_to wider a)) in (is.0, λ g. is.1 (passes g));
}

pub asks_work : {May : Op → Type 0} {s : State} {R Q : View → View → Type 0} {r : Result State RunEnd} {u w : Outside} (F : Type 0) → (F → IsErrOf r RemoteFault) → Works May s R Q r u w
    → AsksRemotes May F u.holdings w.holdings u.remote_faults w.remote_faults
asks_work F passes works = record {
  same = works.same;
  later = works.remote.later;
  rose = λ f. works.remote.rose (passes f);
  unasked = λ none. let is = works.unasked none in (is.0, λ f. is.1 (passes f));
}

-- a command that changes no state brings nothing, so it never fails by them
pub fails_changing : (command : Command) (left : Option (List ℕ)) {F : Type 0} {old new : Option Holdings} {before now : ℕ} → AsksRemotes (OpsBy command left) F old new before now → F → changes_state command ≡ true
fails_changing (Changing change) left asks failed = refl
fails_changing Batch left asks failed = refl
fails_changing (Exercising apps) left asks failed = refl
fails_changing _ left asks failed = absurd ((asks.unasked (λ a. a.1)).1 failed)
