-- The objects that a state's commits use, and the views that hold a world.
use Rattle.std.proofs.Common.{◌≡◌, ◌≢◌, inl, inr, ℕ, List, [], ◌∷◌, Bool, true, false, ◌&&◌, ◌||◌, Option, Some, None, if◌then◌else◌, Contains, refl, sym, ◌∙◌, ap}
use Rattle.std.specs.List.{list_any}
use Rattle.std.specs.Str.{bytes_eq}
use Rattle.std.proofs.lemmas.Slice.Eq.{bytes_eq-Decides}
use Rattle.std.proofs.lemmas.Bool.{and_parts}
use Rattle.fp_host.specs.Paths.{Elements, Slot, absent, dir, file, link}
use Rattle.fp_host.specs.Remote.{Holdings}
use Rattle.fp_host.specs.View.{View, Inode, IsTree}
use Rattle.fp_host.specs.Outcome.{spot_of, holding, shows}
use Rattle.fp_host.proofs.Settled.{at_tree}
use Rattle.fp_host.proofs.Shown.{now_left}
use Rattle.fp_base.specs.declared.object.ObjKind.{ObjKind}
use Rattle.fp_small.specs.Places.{repo}
use Rattle.fp_small.specs.Files.{KeepsFiles}
use Rattle.fp_small.specs.declared.state.State.{State}
use Rattle.ost_model.specs.Objects.{Have, object_path, object_at, store}
use Rattle.ost_model.specs.Order.{Place, In, order, Agree}
use Rattle.ost_model.proofs.Places.{order_same}
use Rattle.ost_model.proofs.Members.{in_contains}
use Rattle.dep_states.specs.Sound.{Opens}
use Rattle.dep_states.specs.After.{Done, after_all}
use Rattle.dep_states.specs.Settled.{Used}
use Rattle.dep_tidy.specs.Kept.{kept_of}
use Rattle.dep_tidy.specs.Tidy.{Tidies}
use Rattle.dep_tidy.proofs.RowsKept.{kept_both}
use Rattle.dep_tidy.proofs.Pruned.{row_keeps}
use Rattle.fl_change.specs.World.{World, world_at, world_after, worlds_after, is_at, kept_commits, is_used, used_of}
use Rattle.fp_base.specs.Objects.{is_kind}
use Rattle.fp_base.proofs.Lists.{in_none, in_cases}
use Rattle.fp_base.proofs.ObjectKinds.{kind_is, kind_same}
use Rattle.fl_change.specs.Performs.{Holds}

-- ---- what a list has

-- the test holds of one of them
any_of : {A : Type 0} (test : A → Bool) (xs : List A) (a : A) → In xs a → test a ≡ true → list_any test xs ≡ true
any_of test [] a none holds = absurd none
any_of test (x ∷ xs) a (inl is) holds = ap (λ (b : Bool). b || list_any test xs) (ap test is ∙ holds)
any_of test (x ∷ xs) a (inr more) holds = or_true (test x) (list_any test xs) (any_of test xs a more holds)
  where
    or_true : (b c : Bool) → c ≡ true → (b || c) ≡ true
    or_true true c is = refl
    or_true false c is = is

record Found {A : Type 0} (test : A → Bool) (xs : List A) : Type 0 where
  one : A
  inside : In xs one
  holds : test one ≡ true

found_first : {A : Type 0} (test : A → Bool) (x : A) (xs : List A) (b : Bool) → test x ≡ b → (b || list_any test xs) ≡ true → (list_any test xs ≡ true → Found test xs) → Found test (x ∷ xs)
found_first test x xs true is any later = record { one = x; inside = inl refl; holds = is }
found_first test x xs false is any later = let more = later any in record { one = more.one; inside = inr more.inside; holds = more.holds }

-- one of which the test holds
found : {A : Type 0} (test : A → Bool) (xs : List A) → list_any test xs ≡ true → Found test xs
found test [] any = absurd (cc any)
found test (x ∷ xs) any = found_first test x xs (test x) refl any (λ more. found test xs more)

-- tests that agree on a list
any_same : {A : Type 0} (f g : A → Bool) (xs : List A) → ((a : A) → In xs a → f a ≡ g a) → list_any f xs ≡ list_any g xs
any_same f g [] same = refl
any_same f g (x ∷ xs) same = ap (λ (b : Bool). b || list_any f xs) (same x (inl refl)) ∙ ap (λ (b : Bool). g x || b) (any_same f g xs (λ a h. same a (inr h)))

-- ---- kinds

at_own : (p : Place) → is_at p.digest p.kind p ≡ true
at_own p = ap (λ (b : Bool). b && is_kind p.kind p.kind) ((bytes_eq-Decides p.digest p.digest).1 refl) ∙ kind_same p.kind

-- ---- the objects that are used

-- an object of an order of a kept commit is used
pub used_place : (s : State) (h : Have) (commit : List ℕ) (p : Place) → In (kept_commits s) commit → In (order h commit) p → is_used s h p.digest p.kind ≡ true
used_place s h commit p kept inside =
    any_of (λ c. list_any (is_at p.digest p.kind) (order h c)) (kept_commits s) commit kept (any_of (is_at p.digest p.kind) (order h commit) p inside (at_own p))

pub used_same : (s : State) (h k : Have) → ((commit : List ℕ) → In (kept_commits s) commit → Agree h k (order h commit)) → used_of s k ≡ used_of s h
unfolding used_of
used_same s h k agree = λ i d kind. each d kind i
  where
    orders : (commit : List ℕ) → In (kept_commits s) commit → order k commit ≡ order h commit
    orders commit kept = order_same h k commit (agree commit kept)

    uses : (d : List ℕ) (kind : ObjKind) → is_used s k d kind ≡ is_used s h d kind
    uses d kind = any_same (λ c. list_any (is_at d kind) (order k c)) (λ c. list_any (is_at d kind) (order h c)) (kept_commits s) (λ c kept. ap (list_any (is_at d kind)) (orders c kept))

    value : (d : List ℕ) (kind : ObjKind) → is_used s h d kind ≡ true → k d kind ≡ h d kind
    value d kind is =
        let commit = found (λ c. list_any (is_at d kind) (order h c)) (kept_commits s) is in
        let place = found (is_at d kind) (order h commit.one) commit.holds in
        let both = and_parts (bytes_eq place.one.digest d) (is_kind place.one.kind kind) place.holds in
        let digest : place.one.digest ≡ d = (bytes_eq-Decides place.one.digest d).0 both.0 in
        let kinds_are : place.one.kind ≡ kind = kind_is place.one.kind kind both.1 in
        ap (λ (x : List ℕ). k x kind) (sym digest) ∙ ap (k place.one.digest) (sym kinds_are) ∙ agree commit.one commit.inside place.one place.inside ∙ ap (h place.one.digest) kinds_are ∙ ap (λ (x : List ℕ). h x kind) digest

    by : (d : List ℕ) (kind : ObjKind) (b : Bool) → is_used s h d kind ≡ b → (if b then k d kind else None) ≡ (if b then h d kind else None)
    by d kind true is = value d kind is
    by d kind false is = refl

    each : (d : List ℕ) (kind : ObjKind) → (if is_used s k d kind then k d kind else None) ≡ (if is_used s h d kind then h d kind else None)
    each d kind = ap (λ (b : Bool). if b then k d kind else None) (uses d kind) ∙ by d kind (is_used s h d kind) refl

-- it is had as it is
pub used_kept : (s : State) (h : Have) (commit : List ℕ) → In (kept_commits s) commit → (p : Place) → In (order h commit) p → used_of s h p.digest p.kind ≡ h p.digest p.kind
unfolding used_of
used_kept s h commit kept p inside = ap (λ (b : Bool). if b then h p.digest p.kind else None) (used_place s h commit p kept inside)

-- and another one isn't had
pub unused_none : (s : State) (h : Have) (d : List ℕ) (kind : ObjKind) → is_used s h d kind ≡ false → used_of s h d kind ≡ None
unfolding used_of
unused_none s h d kind is = ap (λ (b : Bool). if b then h d kind else None) is

-- what is used is used of itself
pub used_twice : (s : State) (h : Have) → used_of s (used_of s h) ≡ used_of s h
used_twice s h = used_same s h (used_of s h) (λ commit kept p inside. used_kept s h commit kept p inside)

-- states of the same refs use the same
pub used_by_refs : (s t : State) (h : Have) → t.refs ≡ s.refs → used_of t h ≡ used_of s h
unfolding used_of
used_by_refs s t h same = λ i d kind. each d kind i
  where
    each : (d : List ℕ) (kind : ObjKind) → (if is_used t h d kind then h d kind else None) ≡ (if is_used s h d kind then h d kind else None)
    each d kind = ap (λ refs. if list_any (λ commit. list_any (is_at d kind) (order h commit)) (kept_of refs) then h d kind else None) same

-- ---- stores of views

-- what stands at a name that is as it was
pub shows_same : (u w : View) → IsTree u → IsTree w → KeepsFiles u w → (q : Elements) → w.names q ≡ u.names q → shows w q ≡ shows u q
shows_same u w tree_u tree_w kept q same =
    ap (spot_of w.files) (at_tree w tree_w q ∙ same) ∙ by (u.names q) refl ∙ ap (spot_of u.files) (sym (at_tree u tree_u q))
  where
    row : (id : ℕ) (f : Option Inode) → u.files id ≡ f → u.files id ≢ None → holding id (w.files id) ≡ holding id (u.files id)
    row id None is known = absurd (known is)
    row id (Some f) is known = ap (holding id) (kept.rows id f is ∙ sym is)

    by : (e : Slot) → u.names q ≡ e → spot_of w.files e ≡ spot_of u.files e
    by absent is = refl
    by dir is = refl
    by (link text) is = refl
    by (file id) is = row id (u.files id) refl (tree_u.known q id (inl (sym is)))

pub store_same : (u w : View) → IsTree u → IsTree w → KeepsFiles u w → ((d : List ℕ) (kind : ObjKind) → w.names (object_path repo d kind) ≡ u.names (object_path repo d kind)) → store repo (shows w) ≡ store repo (shows u)
store_same u w tree_u tree_w kept same = λ i d kind. (ap (object_at kind) (shows_same u w tree_u tree_w kept (object_path repo d kind) (same d kind))) i

-- where all is the same, the objects are
pub same_objects : (v w : View) → ((q : Elements) → shows w q ≡ shows v q) → store repo (shows w) ≡ store repo (shows v)
same_objects v w same = λ i d kind. (ap (object_at kind) (same (object_path repo d kind))) i

-- ---- worlds

pub holds_at : (s : State) (v : View) → Opens s v → Holds (world_at s v) v
holds_at s v opens = record { opens = opens; have = refl }

-- a world that is held goes on being held where its store stays
pub holds_on : {x : World} {v w : View} → Opens x.state w → store repo (shows w) ≡ store repo (shows v) → Holds x v → Holds x w
holds_on {x = x} opens same holds = record { opens = opens; have = holds.have ∙ ap (used_of x.state) (sym same) }

-- the world of a view that shows the state is the one that it holds
pub world_held : {x : World} {v : View} (s : State) → s ≡ x.state → Holds x v → world_at s v ≡ x
world_held {x = x} {v = v} s same holds = ap (λ (t : State). world_at t v) same ∙ ap (λ (h : Have). record { state = x.state; have = h }) (sym holds.have)

-- the state of a world is what the operations make of the state
pub worlds_state : (held : Holdings) (x : World) (ops : List Done) → (worlds_after held x ops).state ≡ after_all x.state ops
worlds_state held x [] = refl
worlds_state held x (op ∷ ops) = worlds_state held (world_after held x op) ops

-- ---- tidying

pub contains_in : {A : Type 0} (xs : List A) (a : A) → Contains xs a → In xs a
contains_in [] a has = absurd (in_none a has)
contains_in (x ∷ xs) a has = elim (in_cases x xs a has) [ inl is ↦ inl (sym is) | inr more ↦ inr (contains_in xs a more) ]

-- what a kept commit of the state uses is used in a view that shows it
is_used_there : (s : State) (u : View) → Opens s u → (commit : List ℕ) → In (kept_commits s) commit → (p : Place) → In (order (store repo (shows u)) commit) p → Used (shows u) p.digest p.kind
is_used_there s u opens commit kept p inside =
    let row = (kept_both s.refs commit).0 (in_contains (kept_commits s) commit kept) in
    record { name = row.0.name; commit = commit; place = p; kept = row_keeps (opens.shown (shows u) (now_left u)) row.0 commit row.1 row.2; inside = inside; digest_is = refl; kind_is = refl }

-- so tidying leaves the world as it is
pub tidied_store : (s : State) {u w : View} → Tidies s u w → Opens s u → used_of s (store repo (shows w)) ≡ used_of s (store repo (shows u))
tidied_store s {u = u} {w = w} tidies opens = used_same s (store repo (shows u)) (store repo (shows w)) (λ commit kept p inside. tidies.used opens p.digest p.kind (is_used_there s u opens commit kept p inside))

pub holds_tidied : {x : World} {v w : View} → Tidies x.state v w → Holds x v → Holds x w
holds_tidied {x = x} tidies holds = record { opens = tidies.opens holds.opens; have = holds.have ∙ sym (tidied_store x.state tidies holds.opens) }
