-- Lists of mentions: what is last, what is merged, and what ascends.
use Rattle.std.proofs.Common.{◌≡◌, ℕ, ◌+◌, ◌<◌, length, take, get_or, append_assoc, Bool, true, false, cond, List, [], ◌∷◌, ◌++◌, map, fold, Option, Some, None, refl, sym, ap, ◌∙◌}
use Rattle.std.specs.declared.cmp.Ordering.{Ordering}
use Rattle.std.specs.declared.cmp.Ordering.TheVariants as orders
use Rattle.std.specs.Ordering.{is_eq, match_ordering, ordering_reverse}
use Rattle.std.specs.BTreeMap.{insert_entry}
use Rattle.std.specs.Cmp.{IsEquivalence, IsTotalOrder}
use Rattle.std.proofs.lemmas.Cmp.{and_equiv, on_equiv, nat_eq_equiv, nat_list_eq_equiv, then_total, on_total, nat_cmp_total, nat_list_cmp_total}
use Rattle.std.proofs.lemmas.List.{take_more}
use Rattle.std.proofs.lemmas.List.Sums.{fold-append}
use Rattle.std.specs.List.{AllByRecursion}
use Rattle.std.specs.List.Sorted.{IsStrictlySortedBy}
use Rattle.std.specs.Map.{keys_of}
use Rattle.std.proofs.lemmas.Bool.{false≢true, false_from_ne_true}
use denote.Ref.{Bor}
use Rattle.fl_meta.specs.declared.permission.Permission.{Permission}
use Rattle.fl_meta.specs.declared.permission.Value.{Value}
use Rattle.fl_meta.specs.declared.permission.Mention.{Mention}
use Rattle.fl_meta.specs.Order.{list_place, name_of, is_same, permission_cmp, same_ties}
use Rattle.fl_meta.proofs.Same.{same_exact}
use Rattle.fl_context.specs.Grants.{joined, said, later, last_mention, or_next, value_in, permission_of, IsAscending}
use Rattle.fl_context.specs.Latest.{mention_at, with_mention, merged_onto, merged}

-- ---- what the map keeps, as a list

abbrev Entry : Type 0
Entry = Bor Permission × Bor Value

abbrev entry_cmp : Bor Permission → Bor Permission → Ordering
entry_cmp p q = permission_cmp p.now q.now

insert-by : (o : Ordering) (p : Bor Permission) (v : Bor Value) (e : Entry) (es : List Entry) → map mention_at (insert_entry entry_cmp es p v) ≡ with_mention (map mention_at es) (mention_at (p, v))
    → map mention_at (match_ordering o ((p, v) ∷ e ∷ es) ((e.0, v) ∷ es) (e ∷ insert_entry entry_cmp es p v))
    ≡ match_ordering o (mention_at (p, v) ∷ mention_at e ∷ map mention_at es) (record (mention_at e) { value = v.now } ∷ map mention_at es) (mention_at e ∷ with_mention (map mention_at es) (mention_at (p, v)))
insert-by orders.Less p v e es h = refl
insert-by orders.Equal p v e es h = refl
insert-by orders.Greater p v e es h = ap (λ ms. mention_at e ∷ ms) h

pub mentions-insert : (es : List Entry) (p : Bor Permission) (v : Bor Value) → map mention_at (insert_entry entry_cmp es p v) ≡ with_mention (map mention_at es) (mention_at (p, v))
mentions-insert [] p v = refl
mentions-insert (e ∷ es) p v = insert-by (entry_cmp p e.0) p v e es (mentions-insert es p v)

-- ---- what the map keeps ascends

below_keys : (p : Bor Permission) (es : List Entry) → AllByRecursion (λ q. entry_cmp p q ≡ orders.Less) (keys_of es) → AllByRecursion (λ q. permission_cmp p.now q ≡ orders.Less) (map permission_of (map mention_at es))
below_keys p [] h = tt
below_keys p (e ∷ es) h = (h.0, below_keys p es h.1)

pub ascending_keys : (es : List Entry) → IsStrictlySortedBy entry_cmp (keys_of es) → IsAscending (map mention_at es)
unfolding IsStrictlySortedBy
ascending_keys [] h = tt
ascending_keys (e ∷ es) h = (below_keys e.0 es h.0, ascending_keys es h.1)

-- ---- layers one after another

pub merged_onto-append : (front one other : List Mention) → merged_onto front (one ++ other) ≡ merged_onto (merged_onto front one) other
unfolding merged_onto
merged_onto-append front one other = fold-append with_mention front one other

pub append_nil : (ms : List Mention) → ms ++ [] ≡ ms
append_nil [] = refl
append_nil (m ∷ ms) = ap (λ ns. m ∷ ns) (append_nil ms)

joined-append : (one other : List (Bor (List Mention))) → joined (one ++ other) ≡ joined one ++ joined other
joined-append [] other = refl
joined-append (l ∷ one) other = ap (λ ms. l.now ++ ms) (joined-append one other) ∙ sym (append_assoc l.now (joined one) (joined other))

joined-one : (l : Bor (List Mention)) → joined (l ∷ []) ≡ l.now
joined-one l = append_nil l.now

-- one more layer
pub merged-more : (layers : List (Bor (List Mention))) (i : ℕ) (l : Bor (List Mention)) (before after : List Mention) → i < length layers → l ≡ get_or layers i l → before ≡ merged_onto [] (joined (take i layers)) → after ≡ merged_onto before l.now
    → after ≡ merged_onto [] (joined (take (i + 1) layers))
merged-more layers i l before after lt at h e =
    let more : take (i + 1) layers ≡ take i layers ++ l ∷ [] = take_more layers i l lt ∙ ap (λ x. take i layers ++ x ∷ []) (sym at) in
    e ∙ ap (λ ms. merged_onto ms l.now) h ∙ sym (merged_onto-append [] (joined (take i layers)) l.now)
    ∙ ap (λ ms. merged_onto [] (joined (take i layers) ++ ms)) (sym (joined-one l)) ∙ ap (merged_onto []) (sym (joined-append (take i layers) (l ∷ []))) ∙ ap (λ ls. merged_onto [] (joined ls)) (sym more)

-- ---- the value after a mention

order_law : IsTotalOrder permission_cmp
order_law = then_total (on_total list_place nat_cmp_total) (on_total name_of nat_list_cmp_total)

same_law : IsEquivalence is_same
same_law = and_equiv (on_equiv list_place nat_eq_equiv) (on_equiv name_of nat_list_eq_equiv)

same_as : (p q r : Permission) → is_same p q ≡ true → is_same p r ≡ is_same q r
same_as p q r e = same_law.congr p q r e

not_both : (p q r : Permission) → is_same p q ≡ false → is_same p r ≡ true → is_same q r ≡ true → ⊥
not_both p q r lacks a b = false≢true (sym lacks ∙ same_law.symm p q ∙ same_law.congr q r p b ∙ same_law.symm r p ∙ a)

value-by : (o : Ordering) (m n : Mention) (ns : List Mention) (p : Permission) → permission_cmp m.permission n.permission ≡ o
    → value_in (with_mention ns m) p ≡ or_next (said m p) (value_in ns p)
    → value_in (match_ordering o (m ∷ n ∷ ns) (record n { value = m.value } ∷ ns) (n ∷ with_mention ns m)) p ≡ or_next (said m p) (value_in (n ∷ ns) p)
value-by orders.Less m n ns p e h = refl
value-by orders.Equal m n ns p e h = equal (is_same m.permission p) (is_same n.permission p) (same_as m.permission n.permission p (same_ties m.permission n.permission ∙ ap is_eq e))
  where
    equal : (a b : Bool) → a ≡ b → or_next (cond b (Some m.value) None) (value_in ns p) ≡ or_next (cond a (Some m.value) None) (or_next (cond b (Some n.value) None) (value_in ns p))
    equal true true e = refl
    equal true false e = absurd (false≢true (sym e))
    equal false true e = absurd (false≢true e)
    equal false false e = refl
value-by orders.Greater m n ns p e h = apart (is_same m.permission p) (is_same n.permission p) (not_both m.permission n.permission p (same_ties m.permission n.permission ∙ ap is_eq e)) h
  where
    apart : (a b : Bool) → (a ≡ true → b ≡ true → ⊥) → value_in (with_mention ns m) p ≡ or_next (cond a (Some m.value) None) (value_in ns p)
        → or_next (cond b (Some n.value) None) (value_in (with_mention ns m) p) ≡ or_next (cond a (Some m.value) None) (or_next (cond b (Some n.value) None) (value_in ns p))
    apart true true lacks h = absurd (lacks refl refl)
    apart true false lacks h = h
    apart false true lacks h = refl
    apart false false lacks h = h

pub value_in-with_mention : (ns : List Mention) (m : Mention) (p : Permission) → value_in (with_mention ns m) p ≡ or_next (said m p) (value_in ns p)
value_in-with_mention [] m p = refl
value_in-with_mention (n ∷ ns) m p = value-by (permission_cmp m.permission n.permission) m n ns p refl (value_in-with_mention ns m p)

-- ---- the last mention

later-by : (after here before : Option Value) → later after (or_next here before) ≡ later (later after here) before
later-by (Some v) here before = refl
later-by None (Some v) before = refl
later-by None None before = refl

pub value_in-merged_onto : (ms front : List Mention) (p : Permission) → value_in (merged_onto front ms) p ≡ later (last_mention ms p) (value_in front p)
unfolding merged_onto
value_in-merged_onto [] front p = refl
value_in-merged_onto (m ∷ ms) front p =
    value_in-merged_onto ms (with_mention front m) p ∙ ap (later (last_mention ms p)) (value_in-with_mention front m p) ∙ later-by (last_mention ms p) (said m p) (value_in front p)

pub later-none : (o : Option Value) → later o None ≡ o
later-none (Some v) = refl
later-none None = refl

pub value_in-merged : (ms : List Mention) (p : Permission) → value_in (merged ms) p ≡ last_mention ms p
unfolding merged
value_in-merged ms p = value_in-merged_onto ms [] p ∙ later-none (last_mention ms p)

later-assoc : (a b c : Option Value) → later (later a b) c ≡ later a (later b c)
later-assoc (Some v) b c = refl
later-assoc None b c = refl

pub last_mention-append : (before after : List Mention) (p : Permission) → last_mention (before ++ after) p ≡ later (last_mention after p) (last_mention before p)
last_mention-append [] after p = sym (later-none (last_mention after p))
last_mention-append (m ∷ before) after p =
    ap (λ o. later o (said m p)) (last_mention-append before after p) ∙ later-assoc (last_mention after p) (last_mention before p) (said m p)

-- ---- a list that ascends

not_below : (p q : Permission) → permission_cmp p q ≡ orders.Less → is_same p q ≡ false
not_below p q e = same_ties p q ∙ ap is_eq e

apart_from : (p q r : Permission) → is_same p r ≡ true → is_same p q ≡ false → is_same q r ≡ false
apart_from p q r a lacks = false_from_ne_true (is_same q r) (λ b. not_both p q r lacks a b)

-- what is below all is not there
pub none_above : (p r : Permission) (ms : List Mention) → AllByRecursion (λ q. permission_cmp p q ≡ orders.Less) (map permission_of ms) → is_same p r ≡ true → value_in ms r ≡ None
none_above p r [] h e = refl
none_above p r (m ∷ ms) h e = rw (apart_from p m.permission r e (not_below p m.permission h.0)) (none_above p r ms h.1 e)

only-by : (a : Bool) (v : Value) (after : Option Value) → (a ≡ true → after ≡ None) → later after (cond a (Some v) None) ≡ or_next (cond a (Some v) None) after
only-by true v after h = rw (h refl) refl
only-by false v after h = later-none after

pub last-one : (ms : List Mention) (p : Permission) → IsAscending ms → last_mention ms p ≡ value_in ms p
unfolding IsStrictlySortedBy
last-one [] p h = refl
last-one (m ∷ ms) p h =
    ap (λ o. later o (said m p)) (last-one ms p h.1) ∙ only-by (is_same m.permission p) m.value (value_in ms p) (none_above m.permission p ms h.0)

-- ---- two lists that ascend and have the same values

no_value : (v : Value) → None ≡ Some v → ⊥
no_value v e = cc

pub first_value : (m : Mention) (ms : List Mention) → value_in (m ∷ ms) m.permission ≡ Some m.value
first_value m ms = rw (same_law.refl m.permission) refl

tail-by : (a : Bool) (v w : Value) (x y : Option Value) → or_next (cond a (Some v) None) x ≡ or_next (cond a (Some w) None) y → (a ≡ true → x ≡ None) → (a ≡ true → y ≡ None) → x ≡ y
tail-by true v w x y e h k = h refl ∙ sym (k refl)
tail-by false v w x y e h k = e

tails_same : (m n : Mention) (ms ns : List Mention) → m.permission ≡ n.permission → IsAscending (m ∷ ms) → IsAscending (n ∷ ns) → ((p : Permission) → value_in (m ∷ ms) p ≡ value_in (n ∷ ns) p) → (p : Permission) → value_in ms p ≡ value_in ns p
unfolding IsStrictlySortedBy
tails_same m n ms ns e h k same p =
    let here : is_same m.permission p ≡ is_same n.permission p = ap (λ q. is_same q p) e in
    tail-by (is_same m.permission p) m.value n.value (value_in ms p) (value_in ns p)
    (same p ∙ ap (λ a. or_next (cond a (Some n.value) None) (value_in ns p)) (sym here))
    (none_above m.permission p ms h.0)
    (λ yes_here. none_above n.permission p ns k.0 (sym here ∙ yes_here))

below_first : (m n : Mention) (ns : List Mention) → permission_cmp m.permission n.permission ≡ orders.Less → IsAscending (n ∷ ns) → value_in (n ∷ ns) m.permission ≡ None
unfolding IsStrictlySortedBy
below_first m n ns e h = none_above m.permission m.permission (n ∷ ns) (e, above_too ns h.0) (same_law.refl m.permission)
  where
    above_too : (ls : List Mention) → AllByRecursion (λ q. permission_cmp n.permission q ≡ orders.Less) (map permission_of ls) → AllByRecursion (λ q. permission_cmp m.permission q ≡ orders.Less) (map permission_of ls)
    above_too [] a = tt
    above_too (l ∷ ls) a = (order_law.trans m.permission n.permission l.permission e a.0, above_too ls a.1)

value_same : (m n : Mention) (ms ns : List Mention) → m.permission ≡ n.permission → value_in (m ∷ ms) m.permission ≡ value_in (n ∷ ns) m.permission → m.value ≡ n.value
value_same m n ms ns e h =
    let one = first_value m ms in
    let other : value_in (n ∷ ns) m.permission ≡ Some n.value = ap (value_in (n ∷ ns)) e ∙ first_value n ns in
    cc

same-by : (o : Ordering) (m n : Mention) (ms ns : List Mention) → permission_cmp m.permission n.permission ≡ o → IsAscending (m ∷ ms) → IsAscending (n ∷ ns) → ((p : Permission) → value_in (m ∷ ms) p ≡ value_in (n ∷ ns) p)
    → ((((p : Permission) → value_in ms p ≡ value_in ns p) → ms ≡ ns) → Path (List Mention) (m ∷ ms) (n ∷ ns))
same-by orders.Less m n ms ns e h k same rest = absurd (no_value m.value (sym (below_first m n ns e k) ∙ sym (same m.permission) ∙ first_value m ms))
same-by orders.Greater m n ms ns e h k same rest =
    let back : permission_cmp n.permission m.permission ≡ orders.Less = order_law.antisymm n.permission m.permission ∙ ap ordering_reverse e in
    absurd (no_value n.value (sym (below_first n m ms back h) ∙ same n.permission ∙ first_value n ns))
same-by orders.Equal m n ms ns e h k same rest =
    let perm : m.permission ≡ n.permission = same_exact m.permission n.permission (same_ties m.permission n.permission ∙ ap is_eq e) in
    let value : m.value ≡ n.value = value_same m n ms ns perm (same m.permission) in
    let first : Path Mention m n = λ i. record { permission = perm i; value = value i } in
    let others : ms ≡ ns = rest (tails_same m n ms ns perm h k same) in
    λ i. first i ∷ others i

pub same_list : (one other : List Mention) → IsAscending one → IsAscending other → ((p : Permission) → value_in one p ≡ value_in other p) → one ≡ other
unfolding IsStrictlySortedBy
same_list [] [] h k same = refl
same_list [] (n ∷ ns) h k same = absurd (no_value n.value (same n.permission ∙ first_value n ns))
same_list (m ∷ ms) [] h k same = absurd (no_value m.value (sym (same m.permission) ∙ first_value m ms))
same_list (m ∷ ms) (n ∷ ns) h k same = same-by (permission_cmp m.permission n.permission) m n ms ns refl h k same (same_list ms ns h.1 k.1)
