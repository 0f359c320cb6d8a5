-- What is mentioned last ascends.
use Rattle.std.specs.List.{AllByRecursion}
use Rattle.std.specs.declared.cmp.Ordering.TheVariants as orders
use Rattle.std.specs.declared.cmp.Ordering.{Ordering}
use Rattle.std.specs.Ordering.{match_ordering, ordering_reverse}
use Rattle.std.specs.Cmp.{IsTotalOrder}
use Rattle.std.specs.List.Sorted.{IsStrictlySortedBy}
use Rattle.std.proofs.Common.{List, map, ◌≡◌, ◌∷◌, [], refl, ap, ◌∙◌}
use Rattle.std.proofs.lemmas.Cmp.{then_total, nat_list_cmp_total, on_total, nat_cmp_total}
use Rattle.fl_meta.specs.declared.permission.Permission.{Permission}
use Rattle.fl_meta.specs.declared.permission.Mention.{Mention}
use Rattle.fl_meta.specs.Order.{permission_cmp, name_of, list_place}
use Rattle.fl_context.specs.Grants.{permission_of, IsAscending}
use Rattle.fl_context.specs.Latest.{with_mention, merged_onto, merged}

abbrev IsBelow : Permission → List Mention → Type 0
IsBelow p ns = AllByRecursion (λ q. permission_cmp p q ≡ orders.Less) (map permission_of ns)

abbrev put_by : Ordering → Mention → Mention → List Mention → List Mention
put_by o m n ns = match_ordering o (m ∷ n ∷ ns) (record n { value = m.value } ∷ ns) (n ∷ with_mention ns m)

order_law : IsTotalOrder permission_cmp
order_law = then_total (on_total list_place nat_cmp_total) (on_total name_of nat_list_cmp_total)

below_with : (p : Permission) (ns : List Mention) (m : Mention) → IsBelow p ns → permission_cmp p m.permission ≡ orders.Less → IsBelow p (with_mention ns m)
below_with p [] m all here = (here, tt)
below_with p (n ∷ ns) m all here = by (permission_cmp m.permission n.permission) (below_with p ns m all.1 here)
  where
    by : (o : Ordering) → IsBelow p (with_mention ns m) → IsBelow p (put_by o m n ns)
    by orders.Less next = (here, all)
    by orders.Equal next = all
    by orders.Greater next = (all.0, next)

above_all : (p q : Permission) (ns : List Mention) → permission_cmp p q ≡ orders.Less → IsBelow q ns → IsBelow p ns
above_all p q [] first all = tt
above_all p q (n ∷ ns) first all = (order_law.trans p q n.permission first all.0, above_all p q ns first all.1)

ascends_with : (ns : List Mention) (m : Mention) → IsAscending ns → IsAscending (with_mention ns m)
unfolding IsStrictlySortedBy
ascends_with [] m ascends = (tt, tt)
ascends_with (n ∷ ns) m ascends = by (permission_cmp m.permission n.permission) refl (ascends_with ns m ascends.1)
  where
    by : (o : Ordering) → permission_cmp m.permission n.permission ≡ o → IsAscending (with_mention ns m) → IsAscending (put_by o m n ns)
    by orders.Less is next = ((is, above_all m.permission n.permission ns is ascends.0), ascends)
    by orders.Equal is next = ascends
    by orders.Greater is next =
        let back : permission_cmp n.permission m.permission ≡ orders.Less = order_law.antisymm n.permission m.permission ∙ ap ordering_reverse is in
        (below_with n.permission ns m ascends.0 back, next)

ascends_onto : (ms front : List Mention) → IsAscending front → IsAscending (merged_onto front ms)
unfolding merged_onto
ascends_onto [] front ascends = ascends
ascends_onto (m ∷ ms) front ascends = ascends_onto ms (with_mention front m) (ascends_with front m ascends)

none_ascend : IsAscending []
unfolding IsStrictlySortedBy
none_ascend = tt

pub merged_ascends : (ms : List Mention) → IsAscending (merged ms)
unfolding merged
merged_ascends ms = ascends_onto ms [] none_ascend
