-- Permissions with the same list and the same name are one.
use Rattle.std.proofs.Common.{◌≡◌, ◌==◌, ℕ, true, cond, refl, sym, ap, ◌∙◌}
use Rattle.std.specs.Str.{bytes_eq}
use Rattle.std.proofs.lemmas.Bool.{eqb-true}
use Rattle.std.proofs.lemmas.Cmp.{and_equiv, on_equiv, nat_eq_equiv, nat_list_eq_equiv}
use Rattle.std.proofs.lemmas.Slice.Eq.{bytes_eq-Decides}
use Rattle.fp_base.proofs.Booleans.{and_first, and_second}
use Rattle.fl_meta.specs.declared.permission.PermList.{PermList}
use Rattle.fl_meta.specs.declared.permission.PermList.TheVariants as lists
use Rattle.fl_meta.specs.declared.permission.Permission.{Permission}
use Rattle.fl_meta.specs.Order.{place_of, list_place, name_of, is_same}

-- the list at a place
abbrev list_at : ℕ → PermList
list_at n =
    cond (n == 0) lists.Shared (cond (n == 1) lists.Sockets (cond (n == 2) lists.Devices (cond (n == 3) lists.Features (cond (n == 4) lists.Filesystems (cond (n == 5) lists.Persistent
    (cond (n == 6) lists.Environment (cond (n == 7) lists.SessionBus (cond (n == 8) lists.SystemBus (cond (n == 9) lists.UnknownShared (cond (n == 10) lists.UnknownSockets
    (cond (n == 11) lists.UnknownDevices (cond (n == 12) lists.UnknownFeatures (cond (n == 13) lists.UnknownSessionBus lists.UnknownSystemBus)))))))))))))

list_at-place : (l : PermList) → list_at (place_of l) ≡ l
list_at-place lists.Shared = refl
list_at-place lists.Sockets = refl
list_at-place lists.Devices = refl
list_at-place lists.Features = refl
list_at-place lists.Filesystems = refl
list_at-place lists.Persistent = refl
list_at-place lists.Environment = refl
list_at-place lists.SessionBus = refl
list_at-place lists.SystemBus = refl
list_at-place lists.UnknownShared = refl
list_at-place lists.UnknownSockets = refl
list_at-place lists.UnknownDevices = refl
list_at-place lists.UnknownFeatures = refl
list_at-place lists.UnknownSessionBus = refl
list_at-place lists.UnknownSystemBus = refl

pub place_exact : (l k : PermList) → (place_of l == place_of k) ≡ true → l ≡ k
place_exact l k e = sym (list_at-place l) ∙ ap list_at (eqb-true (place_of l) (place_of k) e) ∙ list_at-place k

pub same_places : (p q : Permission) → is_same p q ≡ true → (place_of p.list == place_of q.list) ≡ true
same_places p q e = and_first (list_place p == list_place q) (bytes_eq (name_of p) (name_of q)) e

pub same_exact : (p q : Permission) → is_same p q ≡ true → p ≡ q
same_exact p q e =
    let places : place_of p.list ≡ place_of q.list = eqb-true _ _ (and_first (list_place p == list_place q) (bytes_eq (name_of p) (name_of q)) e) in
    let list : p.list ≡ q.list = sym (list_at-place p.list) ∙ ap list_at places ∙ list_at-place q.list in
    let name : p.name ≡ q.name = (bytes_eq-Decides p.name q.name).0 (and_second (list_place p == list_place q) (bytes_eq (name_of p) (name_of q)) e) in
    λ i. record { list = list i; name = name i }

pub same_itself : (p q : Permission) → p ≡ q → is_same p q ≡ true
same_itself p q e = ap (is_same p) (sym e) ∙ (and_equiv (on_equiv list_place nat_eq_equiv) (on_equiv name_of nat_list_eq_equiv)).refl p
