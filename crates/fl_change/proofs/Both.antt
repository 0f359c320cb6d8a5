-- Two relations that hold at the same moments.
use Rattle.std.proofs.Common.{◌≡◌, List, [], ◌∷◌, Option, Some, sym, ◌∙◌, subst}
use Rattle.std.specs.List.{AllByRecursion}
use Rattle.std.proofs.lemmas.List.{append_cancel_right}
use Rattle.fp_host.specs.View.{View, IsTree}
use Rattle.fp_host.specs.Moments.{Moments, Since, Goes, views}

both_each : (P S : View → Type 0) (vs : List View) → AllByRecursion P vs → AllByRecursion S vs → AllByRecursion (λ v. P v × S v) vs
both_each P S [] one two = tt
both_each P S (v ∷ vs) one two = ((one.0, two.0), both_each P S vs one.1 two.1)

both_since : {m n : Moments} {P S : View → Type 0} → Since m n P → Since m n S → Since m n (λ v. P v × S v)
both_since {m = m} {P = P} {S = S} one two =
    let same : two.more ≡ one.more = append_cancel_right two.more one.more (views m) (sym two.grew ∙ one.grew) in
    record {
      more = one.more;
      grew = one.grew;
      each = both_each P S one.more one.each (subst (AllByRecursion S) same two.each);
      last = (one.last, two.last);
    }

pub goes_both : {a b : Option Moments} {R Q S T : View → View → Type 0} → Goes a b R Q → Goes a b S T → Goes a b (λ u w. R u w × S u w) (λ u w. Q u w × T u w)
goes_both {S = S} {T = T} one two = record {
  untold = one.untold;
  told = λ m is.
      let first = one.told m is in
      let second = two.told m is in
      let same : second.0 ≡ first.0 = cc (first.1, second.1) in
      (first.0, first.1, both_since first.2 (subst (λ (n : Moments). Since m n (S m.now)) same second.2), (first.3, subst (λ (n : Moments). T m.now n.now) same second.3));
}

-- the first and the last view of a told host are trees
pub ends_trees : {a b : Option Moments} {R Q S : View → View → Type 0} → ((m : Moments) → a ≡ Some m → IsTree m.now) → ((m : Moments) → b ≡ Some m → IsTree m.now) → Goes a b R Q → ((u w : View) → IsTree u → IsTree w → Q u w → S u w) → Goes a b R S
ends_trees first last goes more = record {
  untold = goes.untold;
  told = λ m is. let one = goes.told m is in (one.0, one.1, one.2, more m.now one.0.now (first m is) (last one.0 one.1) one.3);
}
