-- Content that comes in pieces.
use Rattle.std.proofs.Common.{◌≡◌, ◌≤◌, ◌<◌, ◌+◌, ◌++◌, ℕ, List, [], length, take, sym, ◌∙◌, ap, subst, arith, append_assoc, append-nil}
use Rattle.std.proofs.Math.Seq.{take-add, take-length}
use Rattle.sha2.specs.declared.Sha256.{Sha256}
use Rattle.ost_content.specs.Taken.{HasTaken}
use Rattle.fp_host.specs.Remote.{CameFrom}
use Rattle.ost_head.specs.Pieces.{TakesIn}

pub takes_none : {h : Sha256} → TakesIn [] h h
takes_none {h = h} = record { more = λ mode had has. subst (HasTaken h mode) (sym (append-nil had)) has }

pub takes_on : {xs ys : List ℕ} {h i j : Sha256} → TakesIn xs h i → TakesIn ys i j → TakesIn (xs ++ ys) h j
takes_on {xs = xs} {ys = ys} {j = j} first second = record { more = λ mode had has. subst (HasTaken j mode) (append_assoc had xs ys) (second.more mode (had ++ xs) (first.more mode had has)) }

-- the next bytes of a content
pub next_bytes : (all into : List ℕ) (at n : ℕ) → CameFrom all at into n → take (at + n) all ≡ take at all ++ take n into
next_bytes all into at n came = take-add at n all ∙ ap (λ (l : List ℕ). take at all ++ l) (sym came.same)

-- nothing comes only where there is no room or nothing is left
pub none_left : (all into : List ℕ) (at n : ℕ) → CameFrom all at into n → n ≡ 0 → 0 < length into → length all ≤ at
none_left all into at n came none room = omega (arith, came.many, none, room)

pub whole_taken : (all : List ℕ) (at : ℕ) → length all ≡ at → take at all ≡ all
whole_taken all at is = ap (λ (k : ℕ). take k all) (sym is) ∙ take-length all
