use Rattle.std.proofs.Common.{◌≡◌, ◌≤◌, ◌<◌, ◌+◌, ◌-◌, ◌&&◌, ℕ, List, drop, map, get_or, length, ap, sym, ◌∙◌, arith}
use Rattle.std.specs.Ordering.{is_lt, nat_cmp}
use Rattle.std.specs.Cmp.Lexicographic.{slice_cmp}
use Rattle.std.proofs.lemmas.List.{get_or-map, length-map}
use Rattle.fp_host.specs.Paths.{Elements, path_text}
use Rattle.fp_host.specs.Reads.{is_ascending}
use Rattle.fp_host.proofs.Ascending.{is_ascending-drop, is_ascending-last}
use Rattle.ost_store.proofs.listing.are_ascending.Goals as goal

-- the texts from this path on
step_on : (paths : List Elements) (i : ℕ) (p q : Elements) → 1 ≤ i → i < length paths → p ≡ get_or paths (i - 1) p → q ≡ get_or paths i q
    → is_ascending (drop (i - 1) (map path_text paths)) ≡ (is_lt (slice_cmp nat_cmp (path_text p) (path_text q)) && is_ascending (drop i (map path_text paths)))
step_on paths i p q low high at_p at_q =
    let long : length (map path_text paths) ≡ length paths = length-map paths path_text in
    is_ascending-drop (map path_text paths) i (path_text p) (path_text q) low (omega (arith, high, long))
    (ap path_text at_p ∙ sym (get_or-map path_text paths (i - 1) p (path_text p) (omega (arith, high))))
    (ap path_text at_q ∙ sym (get_or-map path_text paths i q (path_text q) high))

pub returns-then-not-is_before : goal.returns-then-not-is_before
returns-then-not-is_before c =
    let step = step_on c.args.paths.now c.loop-i.i _ _ c.loop-i.auto.i c.loop-i-test.true c.index-paths-i.is c.index-paths-i-in-loop-i.is in
    sym (c.loop-i.invariant ∙ step ∙ ap (λ b. b && is_ascending (drop c.loop-i.i (map path_text c.args.paths.now))) (sym c.is_before.ensures ∙ c.if-not-is_before.true))

pub loop-i-preserved : goal.loop-i-preserved
loop-i-preserved c =
    let step = step_on c.args.paths.now c.loop-i.i _ _ c.loop-i.auto.i c.loop-i-test.true c.index-paths-i.is c.index-paths-i-in-loop-i.is in
    let same : c.loop-i.i ≡ c.loop-i.i + 1 - 1 = omega arith in
    c.loop-i.invariant ∙ step ∙ ap (λ b. b && is_ascending (drop c.loop-i.i (map path_text c.args.paths.now))) (sym c.is_before.ensures ∙ c.if-not-is_before.false) ∙ ap (λ k. is_ascending (drop k (map path_text c.args.paths.now))) same

pub returns : goal.returns
returns c =
    let long : length (map path_text c.args.paths.now) ≡ length c.args.paths.now = length-map c.args.paths.now path_text in
    sym (c.loop-i.invariant ∙ is_ascending-last (map path_text c.args.paths.now) (c.loop-i.i - 1) (omega (arith, long)))
