-- What one name holds comes to another.
use Rattle.std.proofs.Common.{◌≡◌, ◌≢◌, ◌⊎◌, inl, inr, ℕ, List, Option, Result, Ok, refl, sym, ◌∙◌, ap, subst}
use Rattle.fp_host.specs.Paths.{Elements, Slot, absent, dir, file, link, is_link_text}
use Rattle.fp_host.specs.View.{View, IsTree}
use Rattle.fp_host.specs.Calls.{Can, IsFile, IsLeaf, makes_link, links, Step}
use Rattle.fp_host.specs.Outcome.{Spot, points, shows, spot_of}
use Rattle.fp_host.specs.Moments.{Moments, Makes, Always}
use Rattle.fp_host.specs.Reads.{StatOf, LinkOf, IsStat}
use Rattle.fp_host.specs.declared.host.HostError.{HostError}
use Rattle.fp_host.specs.declared.host.Stat.{Stat}
use Rattle.fp_host.specs.declared.host.Stat.TheVariants.{Absent, Dir, File as StatFile, Link}
use Rattle.fp_host.proofs.Separate.{set_same}
use Rattle.fp_host.proofs.Settled.{at_tree}
use Rattle.fp_host.proofs.Follow.{called}
use Rattle.fp_host.proofs.Framed.{IsTold, keeps_same, keeps_call, given_left}
use Rattle.fp_host.proofs.Goes.{stays, begins, goes_on, makes_goes}
use Rattle.fp_host.proofs.Slots.{link_of, file_of}
use Rattle.ost_checkout.specs.Checkout.{MayBeLeft}
use Rattle.ost_checkout.specs.Placing.{Copies, WasCopied, CanCopyLink, CanCopyObject}

-- what stands is what some stop leaves
pub shown_left : (v : View) (p : Elements) (spot : Spot) → shows v p ≡ spot → MayBeLeft v p spot
shown_left v p spot is = record {
  disk = shows v;
  left = record { names = v.names; files = v.files; may_be = λ q. inl refl; rows = λ id. inl refl; seen = λ q. refl };
  is = sym is;
}

pub copies_same : {from to : Elements} {u w : View} → w ≡ u → Copies from to u w
copies_same same = record { keeps = keeps_same same }

module _ {from to : Elements} {v w : View} (tree : IsTree v) where
  pub copies_link : {text : List ℕ} {r : Result (Unit {0}) HostError} → v.names from ≡ link text → Step (makes_link text to) r v w → Copies from to v w
  copies_link {text = text} here step = record {
    keeps = keeps_call tree
        (λ q spot h. (h.0, subst (MayBeLeft v from) (sym h.1) (shown_left v from (points text) (ap (spot_of v.files) (at_tree v tree from ∙ here)))))
        (λ q e h. (h.0, h.1 ∙ sym here))
        (λ x id h. absurd h) tt tt (called step);
  }

  pub copies_file : {r : Result (Unit {0}) HostError} → Step (links from to) r v w → Copies from to v w
  copies_file step = record {
    keeps = keeps_call tree
        (λ q spot h. (h.0, let l = given_left v from to q spot tree h in record { disk = l.0; left = l.1; is = sym l.2 }))
        (λ q e h. h)
        (λ x id h. absurd h) (λ none. none) tt (called step);
  }

not_absent : (e : Slot) → IsFile e → e ≢ absent
not_absent e is none = absurd (cc (sym is.1 ∙ none))

pub was_linked : {from to : Elements} {v w : View} → Step (links from to) (Ok tt) v w → WasCopied from to v w
was_linked {from = from} {to = to} {v = v} {w = w} step =
    let same : w.names to ≡ v.names from = ap (λ (x : View). x.names to) step.how.1 ∙ set_same v.names to (v.names from) to refl in
    record { free = step.how.0.2; same = same; there = λ none. not_absent (v.names from) step.how.0.0 (sym same ∙ none) }

pub link_made : {from to : Elements} {text : List ℕ} {v w : View} → v.names from ≡ link text → Step (makes_link text to) (Ok tt) v w → WasCopied from to v w
link_made {from = from} {to = to} {text = text} {v = v} {w = w} here step =
    let made : w.names to ≡ link text = ap (λ (x : View). x.names to) step.how.1 ∙ set_same v.names to (link text) to refl in
    record { free = step.how.0.2; same = made ∙ sym here; there = λ none. cc (sym made ∙ none) }

-- ---- over the moments

pub linking : {a b c : Option Moments} {from to : Elements} {s : Result Stat HostError} {r : Result (Unit {0}) HostError} → IsTold a → IsTold b → Makes (StatOf from s) a b → Makes (Step (links from to) r) b c → Always (Copies from to) a c
linking {from = from} {to = to} told between stat call = goes_on between
    (begins {R' = Copies from to} {Q' = λ u w. w ≡ u} told (makes_goes stat) (λ u w t s. copies_same s.same) (λ u w t s q. s.same)) (makes_goes call)
    (λ u v w t r same step. subst (λ (x : View). Copies from to x w) same (copies_file t step))
    (λ u v w t r same step end. subst (λ (x : View). Copies from to x w) same (copies_file t step))

-- a link's text is read, and a link of it made
pub read_only : {a b : Option Moments} {from to : Elements} {r : Result (List ℕ) HostError} → IsTold a → Makes (LinkOf from r) a b → Always (Copies from to) a b
read_only told call = begins told (makes_goes call) (λ u w t s. copies_same s.same) (λ u w t s q. copies_same s.same)

pub seen_only : {a b : Option Moments} {from to : Elements} {r : Result Stat HostError} → IsTold a → Makes (StatOf from r) a b → Always (Copies from to) a b
seen_only told call = begins told (makes_goes call) (λ u w t s. copies_same s.same) (λ u w t s q. copies_same s.same)

pub text_linking : {a b c : Option Moments} {from to : Elements} {text said : List ℕ} {r : Result (Unit {0}) HostError} → said ≡ text → IsTold a → IsTold b → Makes (LinkOf from (Ok text)) a b → Makes (Step (makes_link said to) r) b c → Always (Copies from to) a c
text_linking {from = from} {to = to} {text = text} {said = said} {r = r} same told between read call = goes_on between
    (begins {R' = Copies from to} {Q' = λ u w. (w ≡ u) × (u.names from ≡ link text)} told (makes_goes read) (λ u w t s. copies_same s.same) (λ u w t s q. (s.same, s.tells.1))) (makes_goes call)
    (λ u v w t r q step. copied t q step) (λ u v w t r q step end. copied t q step)
  where
    copied : {u v w : View} → IsTree v → (v ≡ u) × (u.names from ≡ link text) → Step (makes_link said to) r v w → Copies from to u w
    copied {w = w} t q step = subst (λ (x : View). Copies from to x w) q.0 (copies_link t (ap (λ (x : View). x.names from) q.0 ∙ q.1 ∙ ap link (sym same)) step)

pub then_copies : {a b c : Option Moments} {from to : Elements} {s : Result Stat HostError} → IsTold a → IsTold b → Makes (StatOf from s) a b → Always (Copies from to) b c → Always (Copies from to) a c
then_copies {from = from} {to = to} told between stat copies = goes_on between
    (begins {R' = Copies from to} {Q' = λ u w. w ≡ u} told (makes_goes stat) (λ u w t s. copies_same s.same) (λ u w t s q. s.same)) copies
    (λ u v w t r same step. subst (λ (x : View). Copies from to x w) same step) (λ u v w t r same step end. subst (λ (x : View). Copies from to x w) same step)

-- ---- where it may be

pub can_link_text : {from to : Elements} {text said : List ℕ} {u v : View} → said ≡ text → IsTree u → (v ≡ u) × (u.names from ≡ link text) → CanCopyLink from to u → Can (makes_link said to) v
can_link_text {from = from} {to = to} {text = text} {said = said} {u = u} same tree q can = subst (λ (x : View). Can (makes_link said to) x) (sym q.0) (
  ap is_link_text same ∙ tree.linked from text (inl (sym q.1)),
  can.place.above,
  can.place.free,
)

pub can_link_file : {from to : Elements} {s : Stat} {id mode size : ℕ} {u v : View} → s ≡ StatFile id mode size → StatOf from (Ok s) u v → CanCopyObject from to u → Can (links from to) v
can_link_file {from = from} {to = to} {id = id} {mode = mode} {size = size} {u = u} is stat can = subst (λ (x : View). Can (links from to) x) (sym stat.same) (
  file_of u (u.names from) id mode size (subst (IsStat u (u.names from)) is stat.tells.1),
  can.place.above,
  can.place.free,
)

pub can_copy_link : {from to : Elements} {s : Stat} {u v : View} → s ≡ Link → StatOf from (Ok s) u v → CanCopyObject from to u → CanCopyLink from to v
can_copy_link {from = from} {to = to} {u = u} is stat can =
    let there = link_of u (u.names from) (subst (IsStat u (u.names from)) is stat.tells.1) in
    subst (λ (x : View). CanCopyLink from to x) (sym stat.same) (record { text = there.0; is = there.1; place = can.place })

no_leaf : (v : View) (e : Slot) (s : Stat) → IsStat v e s → (s ≡ Absent) ⊎ (s ≡ Dir) → IsLeaf e → ⊥
no_leaf v absent s is what leaf = leaf
no_leaf v dir s is what leaf = leaf
no_leaf v (link text) s is (inl none) leaf = cc (sym is ∙ none)
no_leaf v (link text) s is (inr folder) leaf = cc (sym is ∙ folder)
no_leaf v (file id) s is (inl none) leaf = cc (sym is.2 ∙ none)
no_leaf v (file id) s is (inr folder) leaf = cc (sym is.2 ∙ folder)

pub nothing_there : {from to : Elements} {s : Stat} {u v : View} → StatOf from (Ok s) u v → (s ≡ Absent) ⊎ (s ≡ Dir) → CanCopyObject from to u → ⊥
nothing_there {from = from} {s = s} {u = u} stat what can = no_leaf u (u.names from) s stat.tells.1 what can.leaf

pub copies_none : {a : Option Moments} {from to : Elements} → IsTold a → Always (Copies from to) a a
copies_none told = stays told (λ u. copies_same refl) (λ u t. copies_same refl)
