-- How work goes on from one part to the next, with all that is outside.
use Rattle.std.proofs.Common.{◌≡◌, ◌≤◌, Option, Some, Result, Ok, Err, IsErrAnd, IsErrOf, refl, sym, ◌∙◌, ap, subst, arith}
use Rattle.std.proofs.lemmas.Result.{err_from_is_err_and}
use Rattle.fp_host.specs.Frame.{AtEnd, Unchanged}
use Rattle.fp_host.specs.Moments.{Moments, Goes}
use Rattle.fp_host.specs.View.{View}
use Rattle.fp_host.proofs.Cause.{Rose-later}
use Rattle.fp_host.proofs.Framed.{IsTold}
use Rattle.fp_host.proofs.Goes.{knowing, goes_on, stays}
use Rattle.fp_host.proofs.Ending.{ends_on, goes_known}
use Rattle.fp_small.specs.declared.state.State.{State}
use Rattle.fp_small.specs.declared.op.Op.{Op}
use Rattle.ost_walk.specs.Ends.{Outside}
use Rattle.dep_states.specs.Sound.{Opens}
use Rattle.op_change.specs.Bringing.{AreTold}
use Rattle.fl_change.specs.Performs.{AsksBy, OpensBy, ChangesFrom, Works}
use Rattle.fl_change.specs.declared.end.RunEnd.{RunEnd}
use Rattle.fl_change.specs.declared.end.RunEnd.TheVariants.{Refused, Fault, RemoteFault, NoMemory}
use Rattle.fl_change.proofs.Changing.{change_on, change_to, change_not, change_same}

-- the error of a `?`
pub is_err : {T : Type 0} (r : Result T RunEnd) (e : RunEnd) → IsErrAnd r (λ end. end ≡ e) → r ≡ Err e
is_err r e is = let p = err_from_is_err_and r is in p.1 ∙ ap (λ (x : RunEnd). Err x) p.2

-- ---- moments

-- less is known
pub goes_to : {a b : Option Moments} {R Q R' Q' : View → View → Type 0} → Goes a b R Q → ((x y : View) → R x y → R' x y) → ((x y : View) → Q x y → Q' x y) → Goes a b R' Q'
goes_to goes step last = knowing {P = λ v. Unit {0}} (λ m is. tt) goes (λ x y p r. step x y r) (λ x y p q. last x y q)

-- it is the first view
abbrev pub IsFirst : Option Moments → View → Type 0
IsFirst a x = (m : Moments) × (a ≡ Some m) × (m.now ≡ x)

pub goes_first : {a b : Option Moments} {R Q : View → View → Type 0} → Goes a b R Q → Goes a b (λ x y. R x y × IsFirst a x) (λ x y. Q x y × IsFirst a x)
goes_first {a = a} goes = knowing {P = IsFirst a} (λ m is. (m, is, refl)) goes (λ x y p r. (r, p)) (λ x y p q. (q, p))

-- nothing is called
pub stays_at : {a : Option Moments} {R Q : View → View → Type 0} → IsTold a → ((x : View) → IsFirst a x → R x x) → ((x : View) → IsFirst a x → Q x x) → Goes a a R Q
stays_at {a = a} {R = R} {Q = Q} told step last =
    goes_to (goes_first (stays {R = λ x y. y ≡ x} {Q = λ x y. y ≡ x} told (λ u. refl) (λ u tree. refl)))
    (λ x y r. subst (R x) (sym r.0) (step x r.1)) (λ x y q. subst (Q x) (sym q.0) (last x q.1))

-- ---- work

pub asks_to : {A B : Op → Type 0} → ((op : Op) → A op → B op) → AsksBy A → AsksBy B
asks_to wider asks = (asks.0, wider asks.0 asks.1, asks.2)

-- of more operations
pub works_to : {A B : Op → Type 0} {s : State} {R Q : View → View → Type 0} {r : Result State RunEnd} {u w : Outside} → ((op : Op) → A op → B op) → Works A s R Q r u w → Works B s R Q r u w
works_to {A = A} {B = B} {s = s} wider works = record {
  goes = works.goes;
  opens = λ known. works.opens (λ asks. known (asks_to wider asks));
  changes = λ known. goes_to (works.changes (λ asks. known (asks_to wider asks))) more more;
  same = works.same;
  host = record { later = works.host.later; fault = λ is m told opens. works.host.fault (λ asks. is.0 (asks_to wider asks), is.1) m told opens };
  remote = works.remote;
  unasked = λ none. works.unasked (λ asks. none (asks_to wider asks));
}
  where
    more : (x y : View) → ChangesFrom A s x y → ChangesFrom B s x y
    more x y changes ready = change_to wider (changes (λ asks. ready (asks_to wider asks)))

-- less is known of it
pub works_as : {May : Op → Type 0} {s : State} {R Q R' Q' : View → View → Type 0} {r : Result State RunEnd} {u w : Outside} → ((x y : View) → IsFirst u.told x → R x y → R' x y) → ((x y : View) → IsFirst u.told x → R x y → Q x y → Q' x y) → Works May s R Q r u w → Works May s R' Q' r u w
works_as step last works = record {
  goes = goes_to (goes_first (with_last works.goes)) (λ x y r. step x y r.1 r.0) (λ x y q. last x y q.1 q.0.0 q.0.1);
  opens = works.opens;
  changes = works.changes;
  same = works.same;
  host = works.host;
  remote = works.remote;
  unasked = works.unasked;
}
  where
    with_last : {a b : Option Moments} {R Q : View → View → Type 0} → Goes a b R Q → Goes a b R (λ x y. R x y × Q x y)
    with_last goes = record { untold = goes.untold; told = λ m is. let one = goes.told m is in (one.0, one.1, one.2, (one.2.last, one.3)) }

-- more is known of its end
pub works_known : {May : Op → Type 0} {s : State} {R Q T : View → View → Type 0} {r : Result State RunEnd} {u w : Outside} → Works May s R Q r u w → AtEnd T u.told w.told → Works May s R (λ x y. Q x y × T x y) r u w
works_known works end = record { goes = goes_known works.goes end; opens = works.opens; changes = works.changes; same = works.same; host = works.host; remote = works.remote; unasked = works.unasked }

-- the end of it, at the exit of a `?`
pub works_err : {May : Op → Type 0} {s : State} {R : View → View → Type 0} (Q : Result State RunEnd → View → View → Type 0) {u w : Outside} (r : Result State RunEnd) (e : RunEnd) → IsErrAnd r (λ end. end ≡ e) → Works May s R (Q (Err e)) (Err e) u w → Works May s R (Q r) r u w
works_err {May = May} {s = s} {R = R} Q {u = u} {w = w} r e is works = subst (λ (x : Result State RunEnd). Works May s R (Q x) x u w) (sym (is_err r e is)) works

-- where it failed, the state stayed
pub opens_stayed : (s : State) (e : RunEnd) {x y : View} → (Opens s x → Opens s y) → OpensBy s (Err e) x y
opens_stayed s (Refused refusal) stays = λ opens. (s, stays opens)
opens_stayed s Fault stays = tt
opens_stayed s RemoteFault stays = tt
opens_stayed s NoMemory stays = tt

-- nothing is called
pub works_stays : {May : Op → Type 0} {s : State} {R Q : View → View → Type 0} {o : Outside} (r : Result State RunEnd) → IsTold o.told → ((x : View) → IsFirst o.told x → R x x) → ((x : View) → IsFirst o.told x → Q x x) → ((x : View) → OpensBy s r x x)
    → (IsErrOf r Fault → ⊥) → (IsErrOf r RemoteFault → ⊥) → Works May s R Q r o o
works_stays {May = May} {s = s} r told step last opens no_fault no_remote = record {
  goes = stays_at told step last;
  opens = λ known. record { goes = stays_at told (λ x first. tt) (λ x first. opens x) };
  changes = λ known. stays_at told (λ x first ready. change_not) (λ x first ready. change_not);
  same = refl;
  host = record { later = omega arith; fault = λ is. absurd (no_fault is.1) };
  remote = record { later = omega arith; rose = λ is. absurd (no_remote is) };
  unasked = λ none. (refl, no_remote);
}

-- ---- one part after another

opens_both : (s t : State) (r : Result State RunEnd) (x y z : View) → (Opens s x → Opens t y) → OpensBy t r y z → OpensBy s r x z
opens_both s t (Ok t') x y z first second = λ opens. second (first opens)
opens_both s t (Err (Refused refusal)) x y z first second = λ opens. second (first opens)
opens_both s t (Err Fault) x y z first second = tt
opens_both s t (Err RemoteFault) x y z first second = tt
opens_both s t (Err NoMemory) x y z first second = tt

pub works_on : {May : Op → Type 0} {s t : State} {R Q S T Q' : View → View → Type 0} {r : Result State RunEnd} {u v w : Outside} → IsTold v.told → Works May s R Q (Ok t) u v → Works May t S T r v w
    → ((x y z : View) → R x y → Q x y → S y z → R x z) → ((x y z : View) → R x y → Q x y → S y z → T y z → Q' x z) → Works May s R Q' r u w
works_on {May = May} {s = s} {t = t} {r = r} {u = u} {v = v} told one two step last = record {
  goes = goes_on told one.goes two.goes (λ x y z tree p q n. step x y z p q n) (λ x y z tree p q n l. last x y z p q n l);
  opens = λ known. ends_on (two.opens (on known)) (one.opens known) told (λ x y z tree p q. opens_both s t r x y z p q);
  changes = λ known. goes_on told (goes_known (one.changes known) (one.opens known)) (two.changes (on known)) (λ x y z tree p q n. both x y z p q.1 n) (λ x y z tree p q n l. both x y z p q.1 n);
  same = two.same ∙ one.same;
  host = record {
    later = omega (arith, one.host.later, two.host.later);
    fault = λ is m at opens.
        let n = (one.opens is.0).goes.told m at in
        Rose-later _ _ _ one.host.later (two.host.fault (on is.0, is.1) n.0 n.1 (n.3 opens));
  };
  remote = record { later = omega (arith, one.remote.later, two.remote.later); rose = λ is. Rose-later _ _ _ one.remote.later (two.remote.rose is) };
  unasked = λ none. let a = one.unasked none in let b = two.unasked none in (b.0 ∙ a.0, b.1);
}
  where
    on : (AsksBy May → AreTold u.holdings) → AsksBy May → AreTold v.holdings
    on known asks = let k = known asks in (k.0, one.same ∙ k.1)

    both : (x y z : View) → ChangesFrom May s x y → (Opens s x → Opens t y) → ChangesFrom May t y z → ChangesFrom May s x z
    both x y z first opens second ready = change_on x y z (first ready) (second (λ asks. opens (ready asks)))

-- ---- after a look

-- what is known of a look at what is outside
pub record Looked (May : Op → Type 0) (u v : Outside) : Type 0 where
  pub still : Unchanged u.told v.told
  pub same : v.holdings ≡ u.holdings
  pub host : u.host_faults ≤ v.host_faults
  pub remote : u.remote_faults ≤ v.remote_faults
  pub unasked : (AsksBy May → ⊥) → v.remote_faults ≡ u.remote_faults

-- it is the state of before, and no end
pub looked_works : {May : Op → Type 0} {s : State} {u v : Outside} → Looked May u v → Works May s (λ x y. y ≡ x) (λ x y. y ≡ x) (Ok s) u v
looked_works {May = May} {s = s} looked = record {
  goes = goes_to looked.still.goes (λ x y r. r) (λ x y q. q.0);
  opens = λ known. record { goes = goes_to looked.still.goes (λ x y r. tt) (λ x y q opens. subst (Opens s) (sym q.0) opens) };
  changes = λ known. goes_to looked.still.goes (λ x y r ready. change_same r) (λ x y q ready. change_same q.0);
  same = looked.same;
  host = record { later = looked.host; fault = λ is. absurd (cc is.1) };
  remote = record { later = looked.remote; rose = λ is. absurd (cc is) };
  unasked = λ none. (looked.unasked none, λ is. cc is);
}

-- work after it
pub works_looked : {May : Op → Type 0} {s : State} {S T : View → View → Type 0} {r : Result State RunEnd} {u v w : Outside} → IsTold v.told → Looked May u v → ((x : View) → S x x) → Works May s S T r v w → Works May s S T r u w
works_looked {S = S} {T = T} told looked none works =
    works_as (λ x y first r. r) (λ x y first r q. q)
    (works_on told (works_as {R' = S} (λ x y first r. subst (S x) (sym r) (none x)) (λ x y first r q. q) (looked_works looked)) works
    (λ x y z p q n. subst (λ (a : View). S a z) q n) (λ x y z p q n l. subst (λ (a : View). T a z) q l))
