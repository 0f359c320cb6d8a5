-- A text that acknowledges nothing.
use Rattle.std.proofs.Common.{◌≡◌, Bool, inl, inr, ℕ, List, [], ◌∷◌, ◌++◌, Option, None, Ok, Err, refl, sym, ◌∙◌, ap, subst}
use Rattle.std.proofs.lemmas.List.{append-nil}
use Rattle.fp_host.specs.Causes.{end_of}
use Rattle.fp_host.specs.Remote.{Holdings}
use Rattle.fp_host.specs.View.{View}
use Rattle.fp_host.specs.declared.host.HostError.{HostError}
use Rattle.fp_small.specs.declared.state.State.{State}
use Rattle.fp_small.specs.declared.op.Op.{Op}
use Rattle.ost_walk.specs.Ends.{Outside}
use Rattle.fl_change.specs.World.{world_at}
use Rattle.fl_change.specs.Answer.{Piece, text_answer}
use Rattle.fl_change.specs.Ends.{end_of_host}
use Rattle.fl_change.specs.Performs.{Printed, Performs, IsDone, PerformsOver, PerformedOver, Acts, Rests}
use Rattle.fl_change.specs.Says.{Says, WasSaid}
use Rattle.fl_change.specs.declared.end.RunEnd.{RunEnd}
use Rattle.fl_change.proofs.Changing.{tidied_none, still_untouched, keeps_files, none_made}
use Rattle.fl_change.proofs.Created.{none_created, no_ops_created}
use Rattle.fl_change.proofs.Composing.{Saying, works_said, works_not_said}
use Rattle.fl_change.proofs.Doing.{none_yet, not_done}
use Rattle.fl_change.proofs.Same.{same_opens, same_settled}
use Rattle.fl_change.proofs.Working.{works_as}
use Rattle.fl_change.proofs.Worlds.{holds_at, holds_on, same_objects}

abbrev pub piece_of : List ℕ → Piece
piece_of text = record { text = text; op = None }

pub said_text : (text : List ℕ) (x y : View) → y.printed ≡ x.printed ++ text → Printed (text_answer text) (piece_of text ∷ []) x y
said_text text x y more = record { left = []; pieces = refl; printed = more ∙ ap (λ (t : List ℕ). x.printed ++ t) (sym (append-nil text)) }

telling : (text : List ℕ) (s : State) {x y : View} → Rests s x → Says text x y → Performs (text_answer text) s x y
telling text s {x = x} {y = y} rests says = elim says.printed [
  | inl none ↦ record {
    said = [];
    so_far = none_yet (text_answer text) none;
    files = keeps_files says.untouched;
    only_tidied = λ idle. tidied_none says.untouched.names;
    still = λ idle settled. still_untouched says.untouched;
    some = λ disk left. not_done (text_answer text) s disk (same_opens says.follows rests.opens) left;
  }
  | inr more ↦ record {
    said = piece_of text ∷ [];
    so_far = said_text text x y more;
    files = keeps_files says.untouched;
    only_tidied = λ idle. tidied_none says.untouched.names;
    still = λ idle settled. still_untouched says.untouched;
    some = λ disk left. not_done (text_answer text) s disk (same_opens says.follows rests.opens) left;
  }
]

told : (held : Holdings) (text : List ℕ) (s : State) {x y : View} → Rests s x → WasSaid text x y → IsDone held (text_answer text) (world_at s x) x y
told held text s {x = x} {y = y} rests was = record {
  printed = (said_text text x y was.printed).printed;
  only_tidied = λ idle. tidied_none was.untouched.names;
  still = λ idle settled. still_untouched was.untouched;
  holds = holds_on (same_opens was.follows rests.opens) (same_objects x y was.shown) (holds_at s x rests.opens);
  tidied = λ before. same_settled was.shown rests.settled;
  text = λ some. absurd (cc some);
  config = λ not. was.untouched.names _;
  shares = λ no. none_made was.untouched;
  creates = λ no. no_ops_created held (world_at s x) [] refl (none_created was.untouched);
}

while_told : (text : List ℕ) (s : State) (holds : Option Holdings) (x y : View) → Says text x y → PerformsOver (Rests s) holds (λ held w. text_answer text) s x y
while_told text s holds x y says = record { performs = λ held known rests. telling text s rests says }

module _ {May : Op → Type 0} (text piece : List ℕ) (s : State) {u v : Outside} (same : piece ≡ text) where
  pub acts_told : {before : Bool} → Saying piece (Ok tt) u v → Acts (Rests s) May (λ held x. text_answer text) s before before (Ok s) u v
  acts_told call = works_as (λ x y first p. while_told text s u.holdings x y p)
      (λ x y first p q. record { performed = λ held known rests. (refl, refl, told held text s rests q); acted = λ held known rests. refl })
      (works_said text s piece same call)

  pub acts_not_told : (e : HostError) {before now : Bool} → Saying piece (Err e) u v → Acts (Rests s) May (λ held x. text_answer text) s before now (Err (end_of_host (end_of e))) u v
  acts_not_told e {before = before} {now = now} call = works_as (λ x y first p. while_told text s u.holdings x y p)
      (λ x y first p q. subst (λ (r : RunEnd). PerformedOver (Rests s) u.holdings (λ held w. text_answer text) s before now (Err r) x y) (sym q) (record { performed = λ held known rests. tt; acted = λ held known rests. tt }))
      (works_not_said text s piece e same call)
