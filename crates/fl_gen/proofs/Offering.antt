-- What a store of wares offers.
use Rattle.std.proofs.Common.{◌≡◌, inl, inr, ◌*◌, ◌<◌, ℕ, List, [], ◌∷◌, map, true, Option, Some, Ok, refl, sym, ◌∙◌, ap, subst}
use Rattle.std.specs.Prelude.{◌&&◌, flat_map}
use Rattle.std.specs.Str.{bytes_eq}
use Rattle.std.proofs.lemmas.Bool.{and_parts, cases_Bool, cond-true, cond-false}
use Rattle.std.proofs.lemmas.Slice.Eq.{bytes_eq-Decides}
use Rattle.fp_host.specs.Paths.{Elements}
use Rattle.fp_host.specs.Outcome.{Spot, Disk}
use Rattle.fp_host.specs.Remote.{Held, Holdings}
use Rattle.fp_name.specs.Hex.{is_digest}
use Rattle.fp_name.specs.Refs.{Ref}
use Rattle.fp_base.specs.declared.object.ObjKind.{ObjKind}
use Rattle.fp_small.specs.declared.state.RemoteRow.{RemoteRow}
use Rattle.fp_small.specs.Move.{IsNew}
use Rattle.ost_model.specs.declared.object.Object.{Object}
use Rattle.ost_model.specs.Objects.{Have, object_path, object_at, store}
use Rattle.ost_model.specs.Order.{In}
use Rattle.ost_model.specs.Remotes.{remote_at, as_spot}
use Rattle.ost_model.proofs.Members.{all_here, in_left, in_right}
use Rattle.ost_model.proofs.Faults.{clean_more}
use Rattle.ost_refs.specs.Files.{ref_bytes}
use Rattle.ost_commit.specs.declared.built.BuiltObject.{BuiltObject}
use Rattle.ost_commit.specs.Objects.{have_of}
use Rattle.fp_base.specs.Objects.{is_kind}
use Rattle.fp_base.proofs.ObjectKinds.{kind_is}
use Rattle.ost_refs.specs.Offers.{small_file, mode_in, ref_said, commit_said, after_mode, offered, config_path, ref_path}
use Rattle.ost_export.specs.Exports.{IsOffered}
use Rattle.ost_export.specs.Remotes.{held_of, held_at}
use Rattle.fl_gen.specs.declared.limits.TheConstants.{RUNTIMES}
use Rattle.fl_gen.specs.Made.{Ware, each_of, wares, runtime_ware, app_ware}
use Rattle.fl_gen.specs.Stores.{Entry, Offer, IsOfferOf, AreOffersOf, IsStoreOf, Reads, config_entry, has_below, object_entry, offer_entries, ref_entry, spot_by, store_entries}
use Rattle.fl_gen.specs.Generator.{IsGenerated, first_url, second_url}
use Rattle.fl_gen.specs.Offered.{Offers}
use Rattle.fl_gen.proofs.Counting.{series_has}

-- ---- where an entry is listed

in_flat : {A B : Type 0} (f : A → List B) (xs : List A) (x : A) (b : B) → In xs x → In (f x) b → In (flat_map f xs) b
in_flat f [] x b h k = absurd h
in_flat f (y ∷ xs) x b (inl e) k = in_left (f y) (flat_map f xs) b (subst (λ z. In (f z) b) (sym e) k)
in_flat f (y ∷ xs) x b (inr h) k = in_right (f y) (flat_map f xs) b (in_flat f xs x b h k)

in_map : {A B : Type 0} (f : A → B) (xs : List A) (x : A) → In xs x → In (map f xs) (f x)
in_map f [] x h = absurd h
in_map f (y ∷ xs) x (inl e) = inl (ap f e)
in_map f (y ∷ xs) x (inr h) = inr (in_map f xs x h)

-- ---- an object is one of the list

-- what holds of each object, holds of what is there
have_each : (P : List ℕ → ObjKind → Object → Type 0) (os : List BuiltObject) → ((o : BuiltObject) → In os o → P o.digest o.kind o.object)
    → (d : List ℕ) (kind : ObjKind) (object : Object) → have_of os d kind ≡ Some object → P d kind object
have_each P [] each d kind object is = absurd (cc is)
have_each P (x ∷ os) each d kind object is = elim (cases_Bool (bytes_eq x.digest d && is_kind x.kind kind)) [
  | inl same ↦
      let parts = and_parts (bytes_eq x.digest d) (is_kind x.kind kind) same in
      let of_digest : x.digest ≡ d = (bytes_eq-Decides x.digest d).0 parts.0 in
      let of_kind : x.kind ≡ kind = kind_is x.kind kind parts.1 in
      let own : have_of (x ∷ os) d kind ≡ Some x.object = cond-true (bytes_eq x.digest d && is_kind x.kind kind) (Some x.object) (have_of os d kind) same in
      let of_object : x.object ≡ object = cc (sym own ∙ is) in
      subst (P d kind) of_object (subst (λ k. P d k x.object) of_kind (subst (λ c. P c x.kind x.object) of_digest (each x (inl refl))))
  | inr off ↦ have_each P os (λ o has. each o (inr has)) d kind object (sym (cond-false (bytes_eq x.digest d && is_kind x.kind kind) (Some x.object) (have_of os d kind) off) ∙ is)
]

-- ---- an offer of a store

module _ {version : ℕ} {ws : List Ware} {disk : Disk} (is : IsStoreOf version ws disk) where
  stands : (e : Entry) → In (store_entries is.offers) e → disk e.0 ≡ e.1
  stands e has = is.shows e.0 ∙ ap (λ (o : Option Spot). spot_by o (has_below (store_entries is.offers) e.0)) (is.settled.each e has)

  in_offer : (o : Offer) (e : Entry) → In is.offers o → In (offer_entries o) e → In (store_entries is.offers) e
  in_offer o e has in_it = inr (in_flat offer_entries is.offers o e has in_it)

  module _ (w : Ware) (o : Offer) (has : In is.offers o) (offer : IsOfferOf version w o) where
    ref_there : disk (ref_entry o.name o.built.commit).0 ≡ (ref_entry o.name o.built.commit).1
    ref_there = stands (ref_entry o.name o.built.commit) (in_offer o (ref_entry o.name o.built.commit) has (inl refl))

    object_there : (x : BuiltObject) → In o.built.objects x → store [] disk x.digest x.kind ≡ Some x.object
    object_there x within =
        ap (object_at x.kind) (stands (object_entry x) (in_offer o (object_entry x) has (inr (in_map object_entry o.built.objects x within))))
        ∙ all_here Reads o.built.objects x offer.reads within

    pub all_there : (d : List ℕ) (kind : ObjKind) (object : Object) → have_of o.built.objects d kind ≡ Some object → store [] disk d kind ≡ Some object
    all_there = have_each (λ d kind object. store [] disk d kind ≡ Some object) o.built.objects object_there

    pub is_offered : IsOffered (have_of o.built.objects) [] w.name o.built.commit disk
    is_offered = record {
      config = (0, stands config_entry (inl refl));
      ref = subst (λ (r : Ref). IsNew (ref_bytes o.built.commit) (disk (ref_entry r o.built.commit).0)) offer.name (0, ref_there);
      stored = all_there;
      clean = clean_more (have_of o.built.objects) (store [] disk) o.built.commit offer.built.whole all_there;
    }

-- ---- seen from a url

module _ (held : Holdings) (disk : Disk) (remote : RemoteRow) (same : (q : Elements) → held remote.url q ≡ held_of (disk q)) where
  offered_same : (r : Ref) → offered held remote r ≡ offered (held_at [] disk) remote r
  offered_same r =
      ap (λ (h : Held). after_mode remote (mode_in (small_file (1024 * 1024) h)) (commit_said remote r (ref_said (small_file 65 (held remote.url (ref_path r)))))) (same config_path)
      ∙ ap (λ (h : Held). after_mode remote (mode_in (small_file (1024 * 1024) (held_of (disk config_path)))) (commit_said remote r (ref_said (small_file 65 h)))) (same (ref_path r))

objects_same : (held : Holdings) (disk : Disk) (url : List ℕ) → ((q : Elements) → held url q ≡ held_of (disk q)) → (d : List ℕ) (kind : ObjKind) → remote_at held url d kind ≡ remote_at (held_at [] disk) url d kind
objects_same held disk url same d kind = ap (λ (h : Held). object_at kind (as_spot h)) (same (object_path [] d kind))

-- what is exported is offered, and its objects are the store's
abbrev ExportsAreOffers : Type 0
ExportsAreOffers = (have : Have) (root : Elements) (r : Ref) (commit : List ℕ) (disk : Disk) (remote : RemoteRow) → is_digest commit ≡ true → IsOffered have root r commit disk → offered (held_at root disk) remote r ≡ Ok commit

abbrev ObjectsAreTheStores : Type 0
ObjectsAreTheStores = (root : Elements) (disk : Disk) (url d : List ℕ) (kind : ObjKind) → remote_at (held_at root disk) url d kind ≡ store root disk d kind

offer_of : (version : ℕ) (ws : List Ware) (os : List Offer) → AreOffersOf version ws os → (w : Ware) → In ws w → (o : Offer) × (In os o × IsOfferOf version w o)
offer_of version [] os all w has = absurd has
offer_of version (v ∷ ws) [] all w has = absurd all
offer_of version (v ∷ ws) (x ∷ os) all w (inl is) = (x, (inl refl, subst (λ (y : Ware). IsOfferOf version y x) is all.0))
offer_of version (v ∷ ws) (x ∷ os) all w (inr has) = let rest = offer_of version ws os all.1 w has in (rest.0, (inr rest.1.0, rest.1.1))

module _ (exports : ExportsAreOffers) (objects : ObjectsAreTheStores) where
  offers_by : (held : Holdings) (url : List ℕ) (version : ℕ) (ws : List Ware) (disk : Disk) (w : Ware) → IsStoreOf version ws disk → ((q : Elements) → held url q ≡ held_of (disk q)) → In ws w → Offers held url version w
  offers_by held url version ws disk w is same has =
      let found = offer_of version ws is.offers is.offered w has in
      let o = found.0 in
      let offer = found.1.1 in
      let of_store : (d : List ℕ) (kind : ObjKind) → remote_at held url d kind ≡ store [] disk d kind = λ d kind. objects_same held disk url same d kind ∙ objects [] disk url d kind in
      let there : (d : List ℕ) (kind : ObjKind) (object : Object) → have_of o.built.objects d kind ≡ Some object → remote_at held url d kind ≡ Some object = λ d kind object is_there. of_store d kind ∙ all_there is w o found.1.0 offer d kind object is_there in
      record {
        built = o.built;
        shows = offer.built;
        offered = λ remote at. offered_same held disk remote (λ q. subst (λ u. held u q ≡ held_of (disk q)) (sym at) (same q)) w.name
            ∙ exports (have_of o.built.objects) [] w.name o.built.commit disk remote offer.digits (is_offered is w o found.1.0 offer);
        clean = clean_more (have_of o.built.objects) (remote_at held url) o.built.commit offer.built.whole there;
        supplied = there;
      }

  module _ (apps : ℕ) (held : Holdings) (g : IsGenerated apps held) where
    at_first : (w : Ware) → In (wares 1 apps) w → Offers held first_url 1 w
    at_first w has = offers_by held first_url 1 (wares 1 apps) g.first w g.first_is (g.holds first_url) has

    at_second : (w : Ware) → In (wares 2 apps) w → Offers held second_url 2 w
    at_second w has = offers_by held second_url 2 (wares 2 apps) g.second w g.second_is (g.holds second_url) has

    pub runtimes : (r : ℕ) → r < RUNTIMES → Offers held first_url 1 (runtime_ware 1 r) × Offers held second_url 2 (runtime_ware 2 r)
    runtimes r low = (
      at_first (runtime_ware 1 r) (in_left (each_of (runtime_ware 1) RUNTIMES) (each_of (app_ware 1) apps) (runtime_ware 1 r) (series_has (runtime_ware 1) RUNTIMES r low)),
      at_second (runtime_ware 2 r) (in_left (each_of (runtime_ware 2) RUNTIMES) (each_of (app_ware 2) apps) (runtime_ware 2 r) (series_has (runtime_ware 2) RUNTIMES r low)),
    )

    pub applications : (k : ℕ) → k < apps → Offers held first_url 1 (app_ware 1 k) × Offers held second_url 2 (app_ware 2 k)
    applications k low = (
      at_first (app_ware 1 k) (in_right (each_of (runtime_ware 1) RUNTIMES) (each_of (app_ware 1) apps) (app_ware 1 k) (series_has (app_ware 1) apps k low)),
      at_second (app_ware 2 k) (in_right (each_of (runtime_ware 2) RUNTIMES) (each_of (app_ware 2) apps) (app_ware 2 k) (series_has (app_ware 2) apps k low)),
    )
