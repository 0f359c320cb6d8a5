-- Objects that are taken one by one.
use Rattle.std.proofs.Common.{◌≡◌, ◌⊎◌, ◌<◌, ◌≤◌, ◌+◌, inl, inr, ℕ, suc, List, [], ◌∷◌, ◌++◌, take, drop, get_or, length, true, Option, Some, None, Result, Ok, Err, refl, sym, ◌∙◌, ap, subst, arith}
use Rattle.std.specs.Option.{option_or}
use Rattle.std.specs.Prelude.{IsErrOf, OnOk, is_some, option_map}
use Rattle.std.proofs.Math.Seq.{take-suc, take-length, drop-cons}
use Rattle.std.proofs.lemmas.List.{take-append-drop}
use Rattle.fp_host.specs.Paths.{Elements}
use Rattle.fp_host.specs.View.{View, IsTree}
use Rattle.fp_host.specs.Moments.{Moments, Always, Rose}
use Rattle.fp_host.specs.Outcome.{shows}
use Rattle.fp_host.specs.Remote.{Holdings}
use Rattle.fp_host.specs.Frame.{Keeps, AtEnd, Unchanged, NoPath}
use Rattle.fp_host.specs.Causes.{IsCaused, IsCounted}
use Rattle.fp_host.specs.declared.host.HostEnd.{HostEnd}
use Rattle.fp_host.specs.declared.host.HostEnd.TheVariants as host_ends
use Rattle.fp_host.proofs.Cause.{passed_on}
use Rattle.fp_host.proofs.Framed.{IsTold}
use Rattle.fp_host.proofs.Goes.{knowing}
use Rattle.fp_host.proofs.Ending.{ends_on, ends_both, ends_goes, to_tree}
use Rattle.fp_small.specs.Clear.{AbsentWithin, GoneWithin, IsCleared}
use Rattle.fp_name.specs.Hex.{is_digest}
use Rattle.fp_base.specs.declared.object.ObjKind.{ObjKind}
use Rattle.fp_base.specs.declared.object.ObjKind.TheVariants as kinds
use Rattle.fp_base.proofs.Options.{or_assoc}
use Rattle.ost_model.specs.declared.object.Object.{Object}
use Rattle.ost_model.specs.Objects.{Have, Fault, object_path, object_fault, store, supply}
use Rattle.ost_model.specs.Order.{Place, In, first_fault}
use Rattle.ost_model.specs.Remotes.{Supplies, remote, remote_at}
use Rattle.ost_store.specs.Stage.{IsKeepable}
use Rattle.ost_walk.specs.declared.ends.WalkFault.{WalkFault}
use Rattle.ost_walk.specs.declared.ends.WalkEnd.{WalkEnd}
use Rattle.ost_walk.specs.declared.ends.WalkEnd.TheVariants as ends
use Rattle.ost_walk.specs.declared.surveys.Survey.{Survey}
use Rattle.ost_walk.specs.Ends.{RefusesBy, EndsBy, IsFaultOf, IsRemotes, fault_of, of_host}
use Rattle.ost_walk.specs.Steps.{IsGood, own_fault}
use Rattle.ost_walk.specs.Surveys.{named_fault, first_named, found_in, first_bad, told_fault, IsSurvey}
use Rattle.ost_head.specs.Contents.{IsGoodThere}
use Rattle.ost_head.specs.Found.{HostHas}
use Rattle.ost_head.specs.Objects.{IsFaultThere}
use Rattle.ost_head.specs.Brings.{JudgesRemote}
use Rattle.ost_pull.specs.Pulls.{IsApart, CanPull}
use Rattle.ost_pull.specs.Takes.{IsCovered, AreTaken, AreTakenNow, TakesOne, TakesAll, AddsAmong, CoversOrder}
use Rattle.ost_store.specs.ObjectNames.{AreOpen}
use Rattle.ost_store.proofs.ObjectPaths.{below_work, above_object}
use Rattle.ost_pull.specs.Work.{Works, Gathered, KeepsOne, Adds, CanKeep}
use Rattle.ost_pull.proofs.Apart.{works_object}
use Rattle.ost_pull.proofs.Gathered.{gathered_same, gathered_on}
use Rattle.ost_pull.proofs.Kept.{Named, above_work}
use Rattle.ost_model.proofs.Once.{in_push}
use Rattle.ost_model.proofs.Members.{in_last, in_cases}

-- ---- ends

pub host_refuses : (P : WalkFault → Type 0) (e : HostEnd) → RefusesBy P (of_host e)
host_refuses P host_ends.Fault = tt
host_refuses P host_ends.NoMemory = tt

pub host_fault : {A B : Type 0} (e : HostEnd) → IsErrOf {T = A} (Err (of_host e)) ends.HostFault → IsErrOf {T = B} (Err e) host_ends.Fault
host_fault host_ends.Fault is = refl
host_fault host_ends.NoMemory is = absurd (cc is)

pub host_remote : {A : Type 0} (e : HostEnd) → IsErrOf {T = A} (Err (of_host e)) ends.RemoteFault → ⊥
host_remote host_ends.Fault is = absurd (cc is)
host_remote host_ends.NoMemory is = absurd (cc is)

-- a fault that is counted has its cause whatever is asked for
pub counted : {F G : Type 0} {a : Option Moments} {C : View → Type 0} {before now : ℕ} → (G → F) → IsCounted F a before now → IsCaused G a C before now
counted passes cause = record { later = cause.later; fault = λ is m at can. cause.fault (passes is) m at tt }

-- the fault of a function lower down is passed on
pub passed : {F G : Type 0} {a b : Option Moments} {Q : View → View → Type 0} (C D : View → Type 0) {fa fb fc : ℕ} → IsTold a → fa ≤ fb → AtEnd Q a b → IsCaused G b D fb fc → (F → G) → ((u v : View) → IsTree u → Q u v → C u → D v) → IsCaused F a C fa fc
passed {F = F} {G = G} C D {fa = fa} {fb = fb} {fc = fc} told le first call passes can = passed_on F G C D fa fb fc told le first call passes can

-- a count that rose goes on to have risen
rose_up : (a b c : ℕ) → Rose a b → b ≤ c → Rose a c
rose_up a b c rose le = omega (arith, rose, le)

-- its cause stands, whatever is called after it
pub caused_later : {F G : Type 0} {a : Option Moments} {C : View → Type 0} {fa fb fc : ℕ} → (G → F) → fb ≤ fc → IsCaused F a C fa fb → IsCaused G a C fa fc
caused_later {fa = fa} {fb = fb} {fc = fc} passes le cause = record { later = omega (arith, cause.later, le); fault = λ is m at can. rose_up fa fb fc (cause.fault (passes is) m at can) le }

-- nothing is a fault
pub no_fault : {F : Type 0} {a : Option Moments} {C : View → Type 0} {fa fc : ℕ} → (F → ⊥) → fa ≤ fc → IsCaused F a C fa fc
no_fault none le = record { later = le; fault = λ is m at can. absurd (none is) }

pub no_remotes : {F : Type 0} {before now : ℕ} → (F → ⊥) → before ≤ now → IsRemotes F before now
no_remotes none le = record { later = le; rose = λ is. absurd (none is) }

-- what was taken goes on to be so
pub taken_from : {root t : Elements} {url : List ℕ} {holds : Option Holdings} {kept : List Named} {a b : Option Moments} {Q : View → View → Type 0} → AtEnd Q a b → (m : Moments) → a ≡ Some m → ((w : View) → Q m.now w → AreTaken root t url holds kept w)
    → AreTakenNow root t url holds kept b
taken_from {root = root} {t = t} {url = url} {holds = holds} {kept = kept} ends m at step =
    let one = ends.goes.told m at in
    record { are = λ n is. let same : n ≡ one.0 = cc (is, one.1) in subst (λ (k : Moments). AreTaken root t url holds kept k.now) (sym same) (step one.0.now one.3) }

-- ---- one object

-- the store has it
pub stored_taken : {root t : Elements} {url : List ℕ} {holds : Option Holdings} {a b : Option Moments} (o : Named) (object : Object) (kept : List Named) → is_digest o.0 ≡ true → Unchanged a b → HostHas root a o.0 o.1 (Some object)
    → AtEnd (TakesOne root t url holds o kept kept) a b
stored_taken {root = root} {t = t} {url = url} {holds = holds} o object kept good still has = record {
  goes = knowing {P = λ u. store root (shows u) o.0 o.1 ≡ Some object} (λ m e. has.is m e) still.goes (λ u w there same. tt) (λ u w there same. record {
    on = λ taken. (
      subst (AreTaken root t url holds kept) (sym same.0) taken,
      record { digits = good; there = inl (λ none. absurd (cc (sym none ∙ ap (λ (x : View). store root (shows x) o.0 o.1) same.0 ∙ there))) },
    );
    gathers = gathered_same same.0;
  });
}

-- the same of a file or link
pub content_taken : {root t : Elements} {url : List ℕ} {holds : Option Holdings} {a b : Option Moments} (d : List ℕ) (kept : List Named) → is_digest d ≡ true → Unchanged a b → ((m : Moments) → a ≡ Some m → is_some (store root (shows m.now) d kinds.File) ≡ true)
    → AtEnd (TakesOne root t url holds (d, kinds.File) kept kept) a b
content_taken {root = root} {t = t} {url = url} {holds = holds} d kept good still has = record {
  goes = knowing {P = λ u. is_some (store root (shows u) d kinds.File) ≡ true} has still.goes (λ u w there same. tt) (λ u w there same. record {
    on = λ taken. (
      subst (AreTaken root t url holds kept) (sym same.0) taken,
      record { digits = good; there = inl (λ none. absurd (cc (sym there ∙ sym (ap (λ (x : View). is_some (store root (shows x) d kinds.File)) same.0) ∙ ap is_some none))) },
    );
    gathers = gathered_same same.0;
  });
}

-- ---- what a file or link is judged by

have_is : {root : Elements} {url : List ℕ} {told : Option Moments} {holds : Option Holdings} {have : Have} (d : List ℕ) (s : Supplies root (Some url) told holds have) → have d kinds.File ≡ option_or (store root (shows s.moments.now) d kinds.File) (remote_at s.held url d kinds.File)
have_is d s = ap (λ (f : Have). f d kinds.File) s.is

module _ {root : Elements} {url : List ℕ} {told : Option Moments} {holds : Option Holdings} {have : Have} (d : List ℕ) (s : Supplies root (Some url) told holds have) where
  own_is : (object : Object) → store root (shows s.moments.now) d kinds.File ≡ Some object → have d kinds.File ≡ Some object
  own_is object is = have_is d s ∙ ap (λ (o : Option Object). option_or o (remote_at s.held url d kinds.File)) is

  remote_is : store root (shows s.moments.now) d kinds.File ≡ None → have d kinds.File ≡ remote_at s.held url d kinds.File
  remote_is none = have_is d s ∙ ap (λ (o : Option Object). option_or o (remote_at s.held url d kinds.File)) none

  pub content_good : IsGoodThere d (store root (shows s.moments.now) d kinds.File) → IsGood have d kinds.File
  content_good there = record { good = ap (object_fault d kinds.File) (own_is there.object there.is) ∙ there.good }

  pub content_bad : (end : WalkEnd) → RefusesBy (IsFaultThere d kinds.File (store root (shows s.moments.now) d kinds.File)) end → RefusesBy (IsFaultOf d kinds.File (own_fault have d kinds.File)) end
  content_bad (ends.Refused w) there = subst (λ (o : Option Object). IsFaultOf d kinds.File (object_fault d kinds.File o) w) (sym (own_is there.object there.is)) there.fault
  content_bad ends.HostFault there = tt
  content_bad ends.RemoteFault there = tt
  content_bad ends.NoMemory there = tt

  pub content_judged : (r : Result (Unit {0}) WalkEnd) → store root (shows s.moments.now) d kinds.File ≡ None → JudgesRemote s.held url d r → EndsBy (λ _. IsGood have d kinds.File) (IsFaultOf d kinds.File (own_fault have d kinds.File)) r
  content_judged (Ok a) none judged = record { good = ap (object_fault d kinds.File) (remote_is none) ∙ judged }
  content_judged (Err end) none judged = subst (λ (o : Option Object). RefusesBy (IsFaultOf d kinds.File (object_fault d kinds.File o)) end) (sym (remote_is none)) judged

-- it is new
pub lacked : {root : Elements} {a b : Option Moments} (o : Named) → Unchanged a b → HostHas root a o.0 o.1 None → AtEnd (λ u v. (v ≡ u) × (store root (shows u) o.0 o.1 ≡ None)) a b
lacked {root = root} o still has = record {
  goes = knowing {P = λ u. store root (shows u) o.0 o.1 ≡ None} (λ m e. has.is m e) still.goes (λ u w none same. tt) (λ u w none same. (same.0, none));
}

in_added : (o : Named) (before after : List Named) → Adds o before after → (p : Named) → In after p → In before p ⊎ (o ≡ p)
in_added o before after (inl same) p has = inl (subst (λ (l : List Named). In l p) same has)
in_added o before after (inr more) p has = in_cases before o p (subst (λ (l : List Named). In l p) more has)

pub in_before : (o : Named) (before after : List Named) → Adds o before after → (p : Named) → In before p → In after p
in_before o before after (inl same) p has = subst (λ (l : List Named). In l p) (sym same) has
in_before o before after (inr more) p has = subst (λ (l : List Named). In l p) (sym more) (in_push before o p has)

module _ {root t : Elements} {url : List ℕ} {holds : Option Holdings} (apart : IsApart root t) (o : Named) (before after : List Named) (good : is_digest o.0 ≡ true) (adds : Adds o before after) where
  kept_new : {u v w : View} → IsTree v → IsTree w → v ≡ u → store root (shows u) o.0 o.1 ≡ None → Works t v w → KeepsOne t url holds o before after v w → TakesOne root t url holds o before after u w
  kept_new {u = u} {v = v} {w = w} tree tree' same none works keeps = record {
    on = λ taken.
        let was = subst (AreTaken root t url holds before) (sym same) taken in
        let now = keeps.on was.are in (
          record {
            are = now.0;
            new = λ p has. works_object root t apart works p.0 p.1 tree tree' ∙ elim (in_added o before after adds p has) [
              | inl had ↦ was.new p had
              | inr is ↦ subst (λ (q : Named). store root (shows v) q.0 q.1 ≡ None) is (ap (λ (x : View). store root (shows x) o.0 o.1) same ∙ none)
            ];
          },
          record { digits = good; there = inr now.1 },
        );
    gathers = subst (λ (x : View). Gathered t x w) same keeps.gathers;
  }

  pub new_taken : {a b c : Option Moments} → IsTold b → IsTold c → AtEnd (λ u v. (v ≡ u) × (store root (shows u) o.0 o.1 ≡ None)) a b → Always (Works t) b c → AtEnd (KeepsOne t url holds o before after) b c
      → AtEnd (TakesOne root t url holds o before after) a c
  new_taken told told' first works keeps =
      ends_on (to_tree told' (ends_both (ends_goes told works) keeps)) first told (λ u v w tree q s. kept_new tree s.0 q.0 q.1 s.1.0 s.1.1)

pub can_keep : {t : Elements} {u v : View} (o : Named) (object : Object) → is_digest o.0 ≡ true → IsKeepable object → v ≡ u → AreOpen t u → CanKeep t o.0 o.1 object v
can_keep {t = t} o object good keepable same open_above = record {
  keepable = keepable;
  folders = record { free = λ q has. (subst (AreOpen t) (sym same) open_above).free q (above_object t o.0 o.1 q good has) };
}

pub good_of : {have : Have} (d : List ℕ) (kind : ObjKind) (object : Object) → have d kind ≡ Some object → object_fault d kind (Some object) ≡ None → IsGood have d kind
good_of d kind object is good = record { good = ap (object_fault d kind) is ∙ good }

-- ---- one after another

pub bad_append : (have : Have) (xs ys : List Named) → first_bad have (xs ++ ys) ≡ option_or (first_bad have xs) (first_bad have ys)
bad_append have [] ys = refl
bad_append have (o ∷ xs) ys =
    let f = found_in o (object_fault o.0 o.1 (have o.0 o.1)) in
    ap (option_or f) (bad_append have xs ys) ∙ sym (or_assoc f (first_bad have xs) (first_bad have ys))

next_is : (objects : List Named) (i : ℕ) (o : Named) → i < length objects → o ≡ get_or objects i o → take (i + 1) objects ≡ take i objects ++ o ∷ []
next_is objects i o low is =
    let more : i + 1 ≡ suc i = omega arith in
    ap (λ (k : ℕ). take k objects) more ∙ take-suc objects i o low ∙ ap (λ (x : Named). take i objects ++ x ∷ []) (sym is)

split_at : (objects : List Named) (i : ℕ) (o : Named) → i < length objects → o ≡ get_or objects i o → objects ≡ take i objects ++ o ∷ drop (suc i) objects
split_at objects i o low is = sym (take-append-drop i objects) ∙ ap (λ l. take i objects ++ l) (drop-cons objects i o low ∙ ap (λ (x : Named). x ∷ drop (suc i) objects) (sym is))

pub all_is : (objects : List Named) (i : ℕ) → length objects ≡ i → take i objects ≡ objects
all_is objects i is = ap (λ (k : ℕ). take k objects) (sym is) ∙ take-length objects

pub none_taken : {root t : Elements} {url : List ℕ} {holds : Option Holdings} (kept : List Named) {u w : View} → w ≡ u → TakesAll root t url holds [] kept kept u w
none_taken {root = root} {t = t} {url = url} {holds = holds} kept same = record {
  taken = λ taken. subst (AreTaken root t url holds kept) (sym same) taken;
  covered = λ taken o none. absurd none;
  gathers = gathered_same same;
}

still_covered : {root t : Elements} (apart : IsApart root t) (o : Named) (before after : List Named) → Adds o before after → {v w : View} → IsTree v → IsTree w → Works t v w → (p : Named) → IsCovered root before v p → IsCovered root after w p
still_covered {root = root} {t = t} apart o before after adds tree tree' works p c = record {
  digits = c.digits;
  there = elim c.there [
    | inl there ↦ inl (λ none. there (sym (works_object root t apart works p.0 p.1 tree tree') ∙ none))
    | inr had ↦ inr (in_before o before after adds p had)
  ];
}

module _ (objects : List Named) (i : ℕ) (o : Named) (low : i < length objects) (is : o ≡ get_or objects i o) (start before after : List Named) (adds : Adds o before after) where
  pub next_taken : {root t : Elements} {url : List ℕ} {holds : Option Holdings} → IsApart root t → {u v w : View} → IsTree v → IsTree w → TakesAll root t url holds (take i objects) start before u v → Works t v w → TakesOne root t url holds o before after v w
      → TakesAll root t url holds (take (i + 1) objects) start after u w
  next_taken {root = root} {t = t} {url = url} {holds = holds} apart {u = u} {w = w} tree tree' so_far works one = subst (λ (l : List Named). TakesAll root t url holds l start after u w) (sym (next_is objects i o low is)) (record {
    taken = λ taken. (one.on (so_far.taken taken)).0;
    covered = λ taken p has. elim (in_cases (take i objects) o p has) [
      | inl had ↦ still_covered apart o before after adds tree tree' works p (so_far.covered taken p had)
      | inr same ↦ subst (λ (q : Named). IsCovered root after w q) same (one.on (so_far.taken taken)).1
    ];
    gathers = gathered_on so_far.gathers one.gathers works.files;
  })

  pub next_added : AddsAmong (take i objects) start before → AddsAmong (take (i + 1) objects) start after
  next_added so_far p has = elim (in_added o before after adds p has) [
    | inl had ↦ elim (so_far p had) [
      | inl was ↦ inl was
      | inr among ↦ inr (subst (λ (l : List Named). In l p) (sym (next_is objects i o low is)) (in_push (take i objects) o p among))
    ]
    | inr same ↦ inr (subst (λ (l : List Named). In l p) (sym (next_is objects i o low is)) (subst (In (take i objects ++ o ∷ [])) same (in_last (take i objects) o)))
  ]

module _ (have : Have) (objects : List Named) (i : ℕ) (o : Named) (low : i < length objects) (is : o ≡ get_or objects i o) (so_far : first_bad have (take i objects) ≡ None) where
  first_of_rest : (f : Option Fault) → own_fault have o.0 o.1 ≡ f → (rest : List Named) → first_bad have (take i objects ++ o ∷ rest) ≡ option_or (found_in o f) (first_bad have rest)
  first_of_rest f here rest =
      bad_append have (take i objects) (o ∷ rest) ∙ ap (λ g. option_or g (first_bad have (o ∷ rest))) so_far
      ∙ ap (λ g. option_or (found_in o g) (first_bad have rest)) here

  pub next_good : IsGood have o.0 o.1 → first_bad have (take (i + 1) objects) ≡ None
  next_good here = ap (first_bad have) (next_is objects i o low is) ∙ first_of_rest None here.good []

  pub next_bad : (end : WalkEnd) → RefusesBy (IsFaultOf o.0 o.1 (own_fault have o.0 o.1)) end → RefusesBy (λ w. first_bad have objects ≡ Some (told_fault w)) end
  next_bad (ends.Refused w) here =
      ap (first_bad have) (split_at objects i o low is) ∙ first_of_rest (Some (fault_of w.fault)) here.fault_is (drop (suc i) objects)
      ∙ ap (λ (d : List ℕ). Some ((d, o.1), fault_of w.fault)) (sym here.digest) ∙ ap (λ (k : ObjKind). Some ((w.digest, k), fault_of w.fault)) (sym here.kind_is)
  next_bad ends.HostFault here = tt
  next_bad ends.RemoteFault here = tt
  next_bad ends.NoMemory here = tt

-- ---- a survey

-- nor by one that is no refusal
pub never_named : {A : Type 0} (P : WalkFault → Type 0) (end : WalkEnd) → ((w : WalkFault) → IsErrOf {T = A} (Err end) (ends.Refused w) → ⊥) → RefusesBy P end
never_named P (ends.Refused w) none = absurd (none w refl)
never_named P ends.HostFault none = tt
never_named P ends.RemoteFault none = tt
never_named P ends.NoMemory none = tt

-- the objects that are given stay the same where nothing changes
pub still_supplied : {a b : Option Moments} {holds holds' : Option Holdings} {root : Elements} {url : Option (List ℕ)} {have : Have} → Unchanged a b → holds' ≡ holds → Supplies root url a holds have → Supplies root url b holds' have
still_supplied {root = root} {url = url} still same s =
    let n = still.goes.told s.moments s.told_is in
    record {
      moments = n.0;
      held = s.held;
      told_is = n.1;
      holdings_are = same ∙ s.holdings_are;
      is = s.is ∙ ap (λ (v : View). supply (store root (shows v)) (remote s.held url)) (sym n.3.0);
    }

pub first_of_both : {A : Type 0} (a b : Option A) (x : A) → a ≡ Some x → option_or a b ≡ Some x
first_of_both a b x is = ap (λ o. option_or o b) is

pub bad_first : (bad other : Option (Named × Fault)) (end : WalkEnd) → RefusesBy (λ w. bad ≡ Some (told_fault w)) end → RefusesBy (λ w. option_or bad other ≡ Some (told_fault w)) end
bad_first bad other (ends.Refused w) is = first_of_both bad other (told_fault w) is
bad_first bad other ends.HostFault is = tt
bad_first bad other ends.RemoteFault is = tt
bad_first bad other ends.NoMemory is = tt

unnamed : (found : Option (Place × Fault)) → option_map named_fault found ≡ None → found ≡ None
unnamed None none = refl
unnamed (Some f) none = absurd (cc none)

-- the places of a walk
pub placed_supplies : {root p : Elements} {url : List ℕ} {at : Option (List ℕ)} {told : Option Moments} {holds : Option Holdings} {have : Have} → p ≡ root → at ≡ Some url → Supplies root (Some url) told holds have → Supplies p at told holds have
placed_supplies {root = root} {at = at} {told = told} {holds = holds} {have = have} is url_is s =
    subst (λ (q : Elements). Supplies q at told holds have) (sym is) (subst (λ (u : Option (List ℕ)). Supplies root u told holds have) (sym url_is) s)

-- what a survey tells is the first fault of the commit
pub survey_judged : {have : Have} {commit : List ℕ} {A : Type 0} (s : Survey) (r : Result A WalkEnd) → IsSurvey have commit s
    → EndsBy (λ _. (first_bad have s.objects ≡ None) × (s.fault ≡ None)) (λ w. option_or (first_bad have s.objects) (option_map told_fault s.fault) ≡ Some (told_fault w)) r
    → EndsBy (λ _. first_fault have commit ≡ None) (λ w. first_named have commit ≡ Some (told_fault w)) r
survey_judged {have = have} {commit = commit} s (Ok a) is none =
    unnamed (first_fault have commit) (is.first ∙ ap (λ f. option_or f (option_map told_fault s.fault)) none.0 ∙ ap (option_map told_fault) none.1)
survey_judged s (Err (ends.Refused w)) is found = is.first ∙ found
survey_judged s (Err ends.HostFault) is found = tt
survey_judged s (Err ends.RemoteFault) is found = tt
survey_judged s (Err ends.NoMemory) is found = tt

pub covers_order : {root t : Elements} {url : List ℕ} {holds : Option Holdings} {have : Have} {commit : List ℕ} (s : Survey) (before after : List Named) {u w : View} → IsSurvey have commit s → s.fault ≡ None → before ≡ []
    → AddsAmong s.objects before after → TakesAll root t url holds s.objects before after u w → AreTaken root t url holds [] u → CoversOrder root have commit after w
covers_order {root = root} {t = t} {url = url} {holds = holds} {have = have} {commit = commit} s before after {u = u} {w = w} is whole empty only takes taken = record {
  covered = λ o has. takes.covered (subst (λ (l : List Named). AreTaken root t url holds l u) (sym empty) taken) o (subst (λ (l : List Named). In l o) (sym (is.whole whole)) has);
  only = λ o has. subst (λ (l : List Named). In l o) (is.whole whole) (elim (only o has) [ inl had ↦ absurd (subst (λ (l : List Named). In l o) empty had) | inr among ↦ among ]);
}

-- ---- the work folder is cleared

pub nothing_taken : {root t : Elements} {url : List ℕ} {holds : Option Holdings} {v : View} → IsCleared t v → AreTaken root t url holds [] v
nothing_taken {t = t} cleared = record {
  are = record { each = λ o none. absurd none; once = tt; only = λ d kind good. inl (cleared.gone (object_path t d kind) (below_work t d kind (object_path t d kind) refl)) };
  new = λ o none. absurd none;
}

pub cleared_open : {root t : Elements} {u v : View} → Keeps (GoneWithin t) (AbsentWithin t) NoPath u v → IsCleared t v → CanPull root t u → AreOpen t v
cleared_open {t = t} keeps cleared can = record {
  free = λ q above. elim (above_work t above.digest above.kind q above.above) [
    | inl within ↦ inl (cleared.gone q within)
    | inr up ↦ elim (keeps.names q) [
      | inl same ↦ elim (can.work_open q up) [ inl none ↦ inl (same ∙ none) | inr there ↦ inr (same ∙ there) ]
      | inr away ↦ inl away.1
    ]
  ];
}

-- ---- what a result tells

pub ok_two : {T E C D X : Type 0} (r : Result T E) → (C → D → X) → OnOk r C → OnOk r D → OnOk r X
ok_two (Ok t) f c d = f c d
ok_two (Err end) f c d = tt
