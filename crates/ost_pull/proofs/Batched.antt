-- Batches of objects.
use Rattle.std.proofs.Common.{◌≡◌, ◌⊎◌, ◌<◌, ◌+◌, inl, inr, ℕ, suc, List, [], ◌∷◌, ◌++◌, get_or, length, true, false, Bool, zero, Option, Some, None, refl, sym, ◌∙◌, ap, subst, arith}
use Rattle.std.specs.Option.{option_or}
use Rattle.std.specs.Prelude.{is_some, IfOk, IfSome, Result, Ok, Err}
use Rattle.std.proofs.lemmas.List.{length-append, append-nil, get_or_append_left, get_or_push, get_or_read, get_or_default, get_or-map}
use Rattle.fp_host.specs.Paths.{Elements}
use Rattle.fp_host.specs.View.{View}
use Rattle.fp_host.specs.Moments.{Moments, Always}
use Rattle.fp_host.specs.Outcome.{shows}
use Rattle.fp_host.specs.Remote.{Holdings}
use Rattle.fp_host.specs.Frame.{AtEnd, Unchanged}
use Rattle.fp_host.proofs.Framed.{IsTold}
use Rattle.fp_host.proofs.Ending.{ends_goes, ends_looks}
use Rattle.fp_host.proofs.Looking.{looks_start}
use Rattle.fp_name.specs.Hex.{is_digest}
use Rattle.fp_base.specs.declared.object.ObjKind.{ObjKind}
use Rattle.par_digest.specs.declared.item.Item.{Item}
use Rattle.par_digest.specs.Digests.{item_digest, item_digests}
use Rattle.ost_model.specs.declared.object.Object.{Object}
use Rattle.ost_model.specs.Objects.{Have, object_fault, store, digest_of}
use Rattle.ost_model.specs.Remotes.{Supplies, remote_at}
use Rattle.ost_store.specs.Reads.{IsThere}
use Rattle.ost_walk.specs.declared.ends.WalkEnd.{WalkEnd}
use Rattle.ost_walk.specs.Steps.{IsGood}
use Rattle.ost_head.specs.Found.{HostHas, IsNew}
use Rattle.ost_head.specs.Objects.{IsFit}
use Rattle.ost_pull.specs.declared.forms.Form.{Form}
use Rattle.ost_pull.specs.declared.batches.Turn.{Turn}
use Rattle.ost_pull.specs.declared.batches.Turn.TheVariants as turns
use Rattle.ost_pull.specs.Batches.{IsSmall, IsParted, IsBatched, IsBatchedAt, IsReady, AreReady, AddsTurn}
use Rattle.ost_pull.specs.Pulls.{IsApart}
use Rattle.ost_pull.specs.Takes.{TakesOne}
use Rattle.ost_pull.specs.Work.{Works, Adds, KeepsOne}
use Rattle.ost_pull.proofs.Apart.{works_object}
use Rattle.ost_pull.proofs.Kept.{Named}
use Rattle.ost_pull.proofs.Taken.{lacked, new_taken}

-- ---- what a host has goes on

-- what the end tells of the last view
ended_from : (a : Option Moments) {b : Option Moments} {Q : View → View → Type 0} → AtEnd Q a b → (m : Moments) → b ≡ Some m → (k : Moments) × (a ≡ Some k) × Q k.now m.now
ended_from None e m at = absurd (cc (e.goes.untold refl, at))
ended_from (Some k) {Q = Q} e m at =
    let n = e.goes.told k refl in
    let same : n.0 ≡ m = cc (n.1, at) in
    (k, refl, subst (λ (x : Moments). Q k.now x.now) same n.3)

pub ended : {a b : Option Moments} {Q : View → View → Type 0} → AtEnd Q a b → (m : Moments) → b ≡ Some m → (k : Moments) × (a ≡ Some k) × Q k.now m.now
ended {a = a} e m at = ended_from a e m at

-- what the store lacks it lacks where nothing changed
pub lacks_same : {root : Elements} {a b : Option Moments} (d : List ℕ) (kind : ObjKind) → IsTold a → Unchanged a b → HostHas root a d kind None → HostHas root b d kind None
lacks_same {root = root} d kind told still has = record {
  is = λ m at.
      let k = ended (ends_looks told still) m at in
      ap (λ (v : View). store root (shows v) d kind) k.2.0 ∙ has.is k.0 k.1;
}

-- and where there was work beside it
pub lacks_later : {root t : Elements} → IsApart root t → {a b : Option Moments} (d : List ℕ) (kind : ObjKind) → IsTold a → IsTold b → Always (Works t) a b → HostHas root a d kind None → HostHas root b d kind None
lacks_later {root = root} {t = t} apart d kind told told' works has = record {
  is = λ m at.
      let k = ended (ends_goes told works) m at in
      works_object root t apart k.2 d kind (told k.0 k.1) (told' m at) ∙ has.is k.0 k.1;
}

-- what isn't found there is lacking
pub none_there : (o : Option Object) → false ≡ is_some o → o ≡ None
none_there None is = refl
none_there (Some object) is = absurd (cc is)

pub lacks_found : {root : Elements} {a b : Option Moments} (d : List ℕ) (kind : ObjKind) (there : Bool) → there ≡ false → AtEnd (λ u w. IsThere root d kind u there) a b → HostHas root a d kind None
lacks_found {root = root} d kind there off ends = record { is = λ m at. none_there (store root (shows m.now) d kind) (sym off ∙ (ends.goes.told m at).3.is) }

-- and the remote's object is new
pub new_found : {root : Elements} {told : Option Moments} (url : List ℕ) (holds : Option Holdings) (d : List ℕ) (kind : ObjKind) (r : Result (Option Object) WalkEnd) → HostHas root told d kind None
    → ((held : Holdings) → holds ≡ Some held → IfOk r (λ found. IfSome found (λ object. remote_at held url d kind ≡ Some object))) → IfOk r (λ found. IfSome found (IsNew root url told holds d kind))
new_found url holds d kind (Ok (Some object)) none there = record { none = none; there = record { is = there } }
new_found url holds d kind (Ok None) none there = tt
new_found url holds d kind (Err end) none there = tt

-- ---- a turn

ready_by : {root : Elements} (url : List ℕ) {a b : Option Moments} (holds : Option Holdings) (o : Named) (items more : List Item) (turn : Turn) → (HostHas root a o.0 o.1 None → HostHas root b o.0 o.1 None) → IsReady root url a holds o items turn
    → IsReady root url b holds o (items ++ more) turn
ready_by url holds o items more turns.Alone on r = tt
ready_by url holds o items more (turns.Batched form place) on r = record {
  item = r.item;
  low = omega (arith, r.low, length-append items more);
  at = r.at ∙ sym (get_or_append_left items more r.item place r.low);
  batched = record { fit = r.batched.fit; small = r.batched.small; new = record { none = on r.batched.new.none; there = r.batched.new.there }; digest = r.batched.digest };
}

pub ready_later : {root t : Elements} → IsApart root t → (url : List ℕ) {a b : Option Moments} (holds : Option Holdings) (o : Named) (items : List Item) (turn : Turn) → IsTold a → IsTold b → Always (Works t) a b → IsReady root url a holds o items turn → IsReady root url b holds o items turn
ready_later {root = root} apart url {b = b} holds o items turn told told' works r =
    subst (λ (l : List Item). IsReady root url b holds o l turn) (append-nil items) (ready_by url holds o items [] turn (λ has. lacks_later apart o.0 o.1 told told' works has) r)

-- one that was read whole
pub batched_ready : {root : Elements} {url : List ℕ} {told : Option Moments} {holds : Option Holdings} (o : Named) (object : Object) (form : Form) (item : Item) (ts ts' : List Turn) (items items' : List Item) (place : ℕ) → IsFit o.1 object → IsSmall object → IsNew root url told holds o.0 o.1 object
    → IsParted object form item → place ≡ length items → items' ≡ items ++ item ∷ [] → ts' ≡ ts ++ turns.Batched form place ∷ [] → AddsTurn root url told holds o ts ts' items items'
batched_ready {root = root} {url = url} {told = told} {holds = holds} o object form item ts ts' items items' place fit small new parts is items_are turns_are = record {
  turn = turns.Batched form place;
  more = item ∷ [];
  turns_are = turns_are;
  items_are = items_are;
  ready = subst (λ (l : List Item). IsBatchedAt root url told holds o form l place) (sym items_are) (record {
    item = item;
    low = omega (arith, is, length-append items (item ∷ []));
    at = sym (get_or_push items item item place (sym is));
    batched = record {
      fit = subst (IsFit o.1) (sym parts.whole) fit;
      small = subst IsSmall (sym parts.whole) small;
      new = subst (IsNew root url told holds o.0 o.1) (sym parts.whole) new;
      digest = parts.digest ∙ ap digest_of (sym parts.whole);
    };
  });
}

pub alone_ready : {root : Elements} {url : List ℕ} {told : Option Moments} {holds : Option Holdings} (o : Named) (ts ts' : List Turn) (items : List Item) → ts' ≡ ts ++ turns.Alone ∷ [] → AddsTurn root url told holds o ts ts' items items
alone_ready o ts ts' items turns_are = record { turn = turns.Alone; more = []; turns_are = turns_are; items_are = sym (append-nil items); ready = tt }

-- ---- the turns so far

below_or_at : (j i : ℕ) → j < i + 1 → (j < i) ⊎ (j ≡ i)
below_or_at j zero low = inr (omega (arith, low))
below_or_at zero (suc i) low = inl (omega arith)
below_or_at (suc j) (suc i) low = elim (below_or_at j i (omega (arith, low))) [ inl less ↦ inl (omega (arith, less)) | inr same ↦ inr (ap suc same) ]

-- one turn for each object
pub next_long : {root : Elements} {url : List ℕ} {b : Option Moments} {holds : Option Holdings} (i : ℕ) (o : Named) (ts ts' : List Turn) (items items' : List Item) → length ts ≡ i → AddsTurn root url b holds o ts ts' items items' → length ts' ≡ i + 1
next_long i o ts ts' items items' long adds = omega (arith, long, ap length adds.turns_are, length-append ts (adds.turn ∷ []))

pub next_ready : {root : Elements} {url : List ℕ} {a b : Option Moments} {holds : Option Holdings} (objects : List Named) (i : ℕ) (o : Named) (ts ts' : List Turn) (items items' : List Item) → i < length objects → o ≡ get_or objects i o → length ts ≡ i → IsTold a → Unchanged a b
    → AreReady root url a holds i objects ts items → AddsTurn root url b holds o ts ts' items items' → AreReady root url b holds (i + 1) objects ts' items'
next_ready {root = root} {url = url} {a = a} {b = b} {holds = holds} objects i o ts ts' items items' low is long told still ready adds = record {
  many = omega (arith, long, ap length adds.turns_are, length-append ts (adds.turn ∷ []));
  each = λ j p turn below p_is turn_is.
      let turn_is' : turn ≡ get_or (ts ++ adds.turn ∷ []) j turn = turn_is ∙ ap (λ (l : List Turn). get_or l j turn) adds.turns_are in
      elim (below_or_at j i below) [
        | inl less ↦
            subst (λ (l : List Item). IsReady root url b holds p l turn) (sym adds.items_are)
            (ready_by url holds p items adds.more turn (λ has. lacks_same p.0 p.1 told still has)
            (ready.each j p turn less p_is (turn_is' ∙ get_or_append_left ts (adds.turn ∷ []) turn j (omega (arith, less, long)))))
        | inr same ↦
            let own : turn ≡ adds.turn = turn_is' ∙ get_or_push ts adds.turn turn j (long ∙ sym same) in
            let named : p ≡ o = p_is ∙ ap (λ (k : ℕ). get_or objects k p) same ∙ get_or_default objects i p o low ∙ sym is in
            subst (λ (x : Turn). IsReady root url b holds p items' x) (sym own) (subst (λ (q : Named). IsReady root url b holds q items' adds.turn) (sym named) adds.ready)
      ];
}

-- the same lists
pub ready_same : {root : Elements} {url : List ℕ} {told : Option Moments} {holds holds' : Option Holdings} (n : ℕ) (objects : List Named) (ts ts' : List Turn) (items items' : List Item) → holds' ≡ holds → ts' ≡ ts → items' ≡ items → AreReady root url told holds n objects ts items → AreReady root url told holds' n objects ts' items'
ready_same {root = root} {url = url} {told = told} {holds = holds} n objects ts ts' items items' same turns_are items_are ready =
    subst (λ (h : Option Holdings). AreReady root url told h n objects ts' items') (sym same)
    (subst (λ (l : List Turn). AreReady root url told holds n objects l items') (sym turns_are) (subst (λ (l : List Item). AreReady root url told holds n objects ts l) (sym items_are) ready))

pub none_ready : {root : Elements} {url : List ℕ} {a : Option Moments} {holds : Option Holdings} (objects : List Named) (ts : List Turn) (items : List Item) → AreReady root url a holds 0 objects ts items
none_ready objects ts items = record { many = omega arith; each = λ j p turn below p_is turn_is. absurd (omega (arith, below)) }

-- ---- an object whose turn has come

-- it was read whole
pub read_whole : (root : Elements) (url : List ℕ) (told : Option Moments) (holds : Option Holdings) (o : Named) (items : List Item) (turn : Turn) (form : Form) (place : ℕ) → turn ≡ turns.Batched form place → IsReady root url told holds o items turn → IsBatchedAt root url told holds o form items place
read_whole root url told holds o items turn form place is ready = subst (λ (t : Turn). IsReady root url told holds o items t) is ready

-- the item that was read at its place
pub batched_at : {root : Elements} {url : List ℕ} {told : Option Moments} {holds : Option Holdings} (o : Named) (form : Form) (items : List Item) (place : ℕ) (item : Item) → IsBatchedAt root url told holds o form items place → item ≡ get_or items place item → IsBatched root url told holds o form item
batched_at {root = root} {url = url} {told = told} {holds = holds} o form items place item b is =
    subst (IsBatched root url told holds o form) (b.at ∙ sym (get_or_read items place item b.low is b.item)) b.batched

-- its digest is that of the same place
pub digest_at : (items : List Item) (digests : List (List ℕ)) (place : ℕ) (item : Item) (got : List ℕ) → place < length items → digests ≡ item_digests items → item ≡ get_or items place item → got ≡ get_or digests place got → got ≡ item_digest item
digest_at items digests place item got low are is got_is =
    got_is ∙ ap (λ (l : List (List ℕ)). get_or l place got) are ∙ get_or-map item_digest items place item got low ∙ ap item_digest (sym is)

-- an object that the store lacks is the remote's
pub new_is : {root : Elements} {url : List ℕ} {told : Option Moments} {holds : Option Holdings} {have : Have} (d : List ℕ) (kind : ObjKind) (object : Object) → Supplies root (Some url) told holds have → IsNew root url told holds d kind object → have d kind ≡ Some object
new_is {url = url} d kind object s new =
    ap (λ (f : Have). f d kind) s.is ∙ ap (λ (x : Option Object). option_or x (remote_at s.held url d kind)) (new.none.is s.moments s.told_is) ∙ new.there.is s.held s.holdings_are

pub new_good : {root : Elements} {url : List ℕ} {told : Option Moments} {holds : Option Holdings} {have : Have} (d : List ℕ) (kind : ObjKind) (object : Object) → Supplies root (Some url) told holds have → IsNew root url told holds d kind object → object_fault d kind (Some object) ≡ None → IsGood have d kind
new_good d kind object s new good = record { good = ap (object_fault d kind) (new_is d kind object s new) ∙ good }

-- ---- an object that was read whole is kept

pub read_taken : {root t : Elements} {url : List ℕ} {holds : Option Holdings} {a b : Option Moments} → IsApart root t → (o : Named) (object : Object) (before after : List Named) → is_digest o.0 ≡ true → Adds o before after → IsTold a → IsTold b → IsNew root url a holds o.0 o.1 object
    → Always (Works t) a b → AtEnd (KeepsOne t url holds o before after) a b → AtEnd (TakesOne root t url holds o before after) a b
read_taken apart o object before after good adds told told' new works keeps = new_taken apart o before after good adds told told' (lacked o (looks_start told) new.none) works keeps
