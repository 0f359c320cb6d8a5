-- What is found out before anything is done.
use Rattle.std.proofs.Common.{◌≡◌, Bool, Option, Some, None, Result, Ok, Err, refl, sym, ◌∙◌, ap, subst}
use Rattle.fp_host.specs.Remote.{Holdings}
use Rattle.fp_host.proofs.Framed.{IsTold}
use Rattle.fp_small.specs.declared.state.State.{State}
use Rattle.fp_small.specs.declared.op.Op.{Op}
use Rattle.fp_small.specs.declared.refusal.Refusal.{Refusal}
use Rattle.ost_walk.specs.Ends.{Outside}
use Rattle.op_change.specs.Applied.{Brings}
use Rattle.fl_change.specs.World.{World, world_at, supplied}
use Rattle.fl_change.specs.Answer.{Answer, refusal_answer, done_answer, op_answer, unless}
use Rattle.fl_change.specs.Ends.{IsTried, IsAsked, IsSaid, or_refuse}
use Rattle.fl_change.specs.Performs.{Acts, Rests, Just, done_of}
use Rattle.fl_change.specs.Refs.{op_over}
use Rattle.fl_change.specs.declared.end.RunEnd.{RunEnd}
use Rattle.fl_change.specs.declared.end.RunEnd.TheVariants.{Refused, Fault, RemoteFault, NoMemory}
use Rattle.fl_change.proofs.Acting.{Known, acts_refused, acts_halted, acts_same}
use Rattle.fl_change.proofs.Brought.{plainly}

-- ---- what is found

pub refuse_none : {A : Type 0} (refusal r : Refusal) (found : Option A) → or_refuse refusal found ≡ Err r → (found ≡ None) × (refusal ≡ r)
refuse_none refusal r None is = (refl, cc is)
refuse_none refusal r (Some a) is = absurd (cc is)

pub refuse_some : {A : Type 0} (refusal : Refusal) (a : A) (found : Option A) → or_refuse refusal found ≡ Ok a → found ≡ Some a
refuse_some refusal a None is = absurd (cc is)
refuse_some refusal a (Some b) is = let same : b ≡ a = cc is in ap (λ (x : _). Some x) same

-- ---- the answer is a refusal, or memory ran out

abbrev pub Refuses : State → Outside → (Holdings → World → Answer) → Refusal → Type 0
Refuses s o f r = Known (Rests s) o s (λ held x. f held (world_at s x) ≡ refusal_answer r)

module _ {May : Op → Type 0} {s : State} (f : Holdings → World → Answer) {before : Bool} {o : Outside} (told : IsTold o.told) where
  pub acts_said : {A : Type 0} (found : Result A Refusal) (e : RunEnd) → IsSaid found (Err e) → ((r : Refusal) → found ≡ Err r → Refuses s o f r) → Acts (Rests s) May f s before before (Err e) o o
  acts_said found (Refused r) is known = acts_refused f r told (known r is)
  acts_said found Fault is known = absurd is
  acts_said found RemoteFault is known = absurd is
  acts_said found NoMemory is known = acts_halted f told

  pub acts_tried : (found : Option Refusal) (e : RunEnd) → IsTried found (Err e) → ((r : Refusal) → found ≡ Some r → Refuses s o f r) → Acts (Rests s) May f s before before (Err e) o o
  acts_tried found (Refused r) is known = acts_refused f r told (known r is)
  acts_tried found Fault is known = absurd is
  acts_tried found RemoteFault is known = absurd is
  acts_tried found NoMemory is known = acts_halted f told

-- ---- an operation that brings nothing

pub plain_over : (op : Op) (held : Holdings) (x : World) → (Brings op → ⊥) → op_over op held x ≡ op_answer op
plain_over op held x none =
    let p = plainly (supplied held x op) op none in
    ap (λ (o : Option Refusal). unless o (done_answer (done_of op held x))) p.refused ∙ ap done_answer p.done

abbrev pub asked_over : Option Refusal → Op → Holdings → World → Answer
asked_over refusal op held x = unless refusal (op_answer op)

pub acts_not_asked : {May : Op → Type 0} {s : State} (refusal : Option Refusal) (op : Op) (e : RunEnd) {before : Bool} {o : Outside} → IsTold o.told → IsAsked refusal op (Err e) → Acts (Rests s) May (asked_over refusal op) s before before (Err e) o o
acts_not_asked refusal op (Refused r) told is = acts_refused (asked_over refusal op) r told (λ x first held known rests. ap (λ (o : Option Refusal). unless o (op_answer op)) is)
acts_not_asked refusal op Fault told is = absurd is
acts_not_asked refusal op RemoteFault told is = absurd is
acts_not_asked refusal op NoMemory told is = acts_halted (asked_over refusal op) told

pub acts_asked : {s : State} (refusal : Option Refusal) (op made : Op) (r : Result State RunEnd) {before now : Bool} {u w : Outside} → (Brings made → ⊥) → IsAsked refusal op (Ok made) → Acts (Rests s) (Just made) (op_over made) s before now r u w → Acts (Rests s) (Just op) (asked_over refusal op) s before now r u w
acts_asked {s = s} refusal op made r {before = before} {now = now} {u = u} {w = w} none is acts = subst (λ (o : Op). Acts (Rests s) (Just o) (asked_over refusal o) s before now r u w) is.1
    (acts_same (asked_over refusal made) (op_over made) (λ x first held known rests. ap (λ (o : Option Refusal). unless o (op_answer made)) is.0 ∙ sym (plain_over made held (world_at s x) none)) acts)
