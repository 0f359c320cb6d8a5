-- What the steps of tidying, of checking out and of pulling spare.
use Rattle.std.proofs.Common.{◌≡◌, ◌≢◌, inl, inr, ℕ, List, [], ◌∷◌, ◌++◌, Bool, true, false, Option, Some, None, refl, sym, ◌∙◌, ap, subst, codes}
use Rattle.std.specs.Prelude.{if◌then◌else◌, is_some}
use Rattle.std.specs.Str.{bytes_eq}
use Rattle.std.proofs.lemmas.Bool.{false_from_ne_true, cond-true}
use Rattle.std.proofs.lemmas.Slice.Eq.{bytes_eq-Decides}
use Rattle.fp_host.specs.Paths.{Elements}
use Rattle.fp_host.specs.View.{View, IsTree}
use Rattle.fp_host.specs.Outcome.{Spot, Disk, Leaves, IsSettled, shows, spot_of}
use Rattle.fp_host.specs.Frame.{Frame}
use Rattle.fp_host.specs.Moments.{Moments, Goes}
use Rattle.fp_host.specs.Paths.{Slot}
use Rattle.fp_host.proofs.Goes.{knowing}
use Rattle.fp_host.proofs.Settled.{at_tree, settled_disk}
use Rattle.fp_base.specs.declared.object.ObjKind.{ObjKind}
use Rattle.fp_base.proofs.Texts.{bytes_eq-false}
use Rattle.fp_name.specs.declared.kind.RefKind.{RefKind}
use Rattle.fp_name.specs.declared.kind.RefKind.TheVariants.{App, Runtime}
use Rattle.fp_name.specs.Grammar.{is_id, is_arch, is_branch}
use Rattle.fp_name.specs.Hex.{hex, unhex, is_digest}
use Rattle.fp_name.specs.Kinds.{kind_word}
use Rattle.fp_name.specs.Refs.{Ref, is_ref, ref_text}
use Rattle.fp_name.proofs.Refs.{ref_of-ref_text, kind_same, word_apart}
use Rattle.fp_name.proofs.HexTexts.{unhex-hex}
use Rattle.fp_small.specs.Places.{repo}
use Rattle.fp_small.specs.declared.state.State.{State}
use Rattle.fp_small.specs.declared.state.RefRow.{RefRow}
use Rattle.fp_small.specs.declared.state.Previous.{Previous}
use Rattle.ost_model.specs.Objects.{object_path, store}
use Rattle.ost_model.specs.Order.{Place, In, order}
use Rattle.dep_states.specs.Names.{active, text_dir, commit_dir, deploy}
use Rattle.dep_states.specs.Shown.{Seen, away, bad, there, seen_of, row_of, row_in, deploy_at, by_active, ref_seen, row_seen, Shows}
use Rattle.dep_states.specs.Zones.{anything, a_folder, a_link, here, is, IsFolderOrGone, Fits, zone, outward, outward_onto}
use Rattle.dep_states.specs.Sound.{IsKeptBy, Keeps, Sound, Fixed, is_remotes, is_pins, is_config, is_old, is_active, is_deploy, is_layer, is_inside, is_object, Opens, Spares}
use Rattle.dep_states.specs.After.{row_at, IsGoodPrevious, IsGoodRow}
use Rattle.dep_states.specs.Frames.{Either, KeptIn, InDir, IsUnused, ObjectGone}
use Rattle.dep_states.specs.declared.deploy.DeployData.{DeployData}
use Rattle.dep_states.proofs.Deployed.{outward_append, top}
use Rattle.dep_states.proofs.Good.{row_good}
use Rattle.dep_states.proofs.Law.{frame_law}
use Rattle.dep_states.proofs.Rows.{head_of}
use Rattle.dep_states.proofs.Single.{there_is, some_is}
use Rattle.dep_states.proofs.Switch.{inside_apart, digits_no_active}
use Rattle.dep_states.proofs.Switching.{word_no_repo, permits_gone, second, old_no_repo}
use Rattle.dep_states.proofs.Total.{row_there}
use Rattle.dep_states.proofs.Away.{seen_there}

-- ---- frames

-- what is known of the first view of a function with this frame
pub record Knows (s : State) (G : Elements → Spot → Type 0) (v : View) : Type 0 where
  pub opens : Opens s v
  pub spares : Spares v G

-- at every moment the state is shown and each outcome is Sound
pub frame_opens : {s : State} {G : Elements → Spot → Type 0} {W : Elements → Slot → Type 0} {A : Elements → Type 0} {a b : Option Moments} → Frame G W A a b
    → ((m : Moments) → a ≡ Some m → Knows s G m.now) → Goes a b (λ u w. Opens s w) (λ u w. Opens s w)
frame_opens frame known = knowing known frame.goes (λ u w k r. frame_law k.spares r.follows k.opens) (λ u w k r. frame_law k.spares r.follows k.opens)

pub spares_both : {v : View} {G H : Elements → Spot → Type 0} → Spares v G → Spares v H → Spares v (Either G H)
spares_both g h = record {
  avoids = λ disk left p spot f given. elim given [ inl x ↦ g.avoids disk left p spot f x | inr x ↦ h.avoids disk left p spot f x ];
  permits = λ disk left p spot given. elim given [ inl x ↦ g.permits disk left p spot x | inr x ↦ h.permits disk left p spot x ];
}

pub spares_to : {v : View} {G H : Elements → Spot → Type 0} → ((p : Elements) (spot : Spot) → H p spot → G p spot) → Spares v G → Spares v H
spares_to to g = record {
  avoids = λ disk left p spot f given. g.avoids disk left p spot f (to p spot given);
  permits = λ disk left p spot given. g.permits disk left p spot (to p spot given);
}

-- after a sync each outcome is the present view
pub settled_same : {v : View} → IsTree v → IsSettled v → (disk : Disk) → Leaves v disk → disk ≡ shows v
settled_same {v = v} tree settled disk left = λ k q. (settled_disk v tree settled disk left q ∙ sym (ap (spot_of v.files) (at_tree v tree q))) k

pub settled_opens : {s : State} {v : View} → IsTree v → IsSettled v → Shows (shows v) s → Sound (shows v) → Opens s v
settled_opens {s = s} tree settled shown sound = record {
  shown = λ disk left. subst (λ (i : Disk). Shows i s) (sym (settled_same tree settled disk left)) shown;
  sound = λ disk left. subst Sound (sym (settled_same tree settled disk left)) sound;
}

-- ---- where nothing is fixed

-- the object of a place in the order of a kept commit
pub record IsOfOrder (i : Disk) (p : Elements) : Type 0 where
  pub name : Ref
  pub commit : List ℕ
  pub place : Place
  pub kept : Keeps i name commit
  pub within : In (order (store repo i) commit) place
  pub is : p ≡ object_path repo place.digest place.kind

-- below `repo` the object names alone are fixed
pub fixed_in_repo : {i : Disk} {p : Elements} → Fixed i p → top p ≡ codes "repo" → IsOfOrder i p
fixed_in_repo (is_config e) t = absurd (bytes_eq-false (codes "config") (codes "repo") refl (sym (ap top e) ∙ t))
fixed_in_repo (is_old none old) t = absurd (old_no_repo old t)
fixed_in_repo (is_active name good e) t = absurd (word_no_repo name.kind (sym (ap top e) ∙ t))
fixed_in_repo (is_deploy name text good at e) t = absurd (word_no_repo name.kind (sym (ap top e) ∙ t))
fixed_in_repo (is_layer name good e) t = absurd (bytes_eq-false (codes "overrides") (codes "repo") refl (sym (ap top e) ∙ t))
fixed_in_repo (is_inside name commit rest k off e) t = absurd (word_no_repo name.kind (sym (ap head_of (outward_append rest (commit_dir name commit) [])) ∙ sym (ap top e) ∙ t))
fixed_in_repo (is_object name commit place k h e) t = record { name = name; commit = commit; place = place; kept = k; within = h; is = e }

-- and nothing outside `repo/objects`
pub none_in_repo : {i : Disk} {p : Elements} → Fixed i p → top p ≡ codes "repo" → second (outward p) ≢ codes "objects" → ⊥
none_in_repo f t off = off (ap (λ q. second (outward q)) (fixed_in_repo f t).is)

-- an object that no kept commit uses may go
pub prune_spares : {v : View} (d : List ℕ) (kind : ObjKind) → IsUnused v d kind → Spares v (ObjectGone d kind)
prune_spares d kind unused = record {
  avoids = λ disk left p spot f given. let o = fixed_in_repo f (ap top given.0) in
      unused disk left o.name o.commit o.place o.kept o.within (sym o.is ∙ given.0);
  permits = λ disk left p spot given. permits_gone p spot given.1;
}

-- ---- the folder of a commit that the state doesn't keep

pub shown_good : (i : Disk) (n : Ref) {row : RefRow} → ref_seen i n ≡ there row → is_ref n ≡ true
shown_good i n e = go (is_ref n) e
  where
    go : {row : RefRow} (b : Bool) → if b then by_active i n (i (active n)) else away ≡ there row → b ≡ true
    go true h = refl
    go false h = absurd (cc h)

-- kept by an image is kept by the state that it shows
pub kept_of_state : {i : Disk} {s : State} {name : Ref} {commit : List ℕ} → Shows i s → Keeps i name commit → KeptIn s name commit
kept_of_state {i = i} {s = s} {name = name} a k = record {
  row = k.row;
  has = seen_there (row_at s name) (sym (a.refs (ref_text name)) ∙ ap (row_seen i) (ref_of-ref_text name (shown_good i name k.shown)) ∙ k.shown);
  of_row = k.of_row;
}

-- and the other way round
pub state_of_kept : {i : Disk} {s : State} {name : Ref} {commit : List ℕ} → is_ref name ≡ true → Shows i s → KeptIn s name commit → Keeps i name commit
state_of_kept {i = i} {s = s} {name = name} good a k = record {
  row = k.row;
  shown = sym (ap (row_seen i) (ref_of-ref_text name good)) ∙ a.refs (ref_text name) ∙ ap seen_of k.has;
  of_row = k.of_row;
}

-- what is shown at a link is the row of its text
named_commit : (name : Ref) (text : List ℕ) (x : Seen DeployData) (q : Option RefRow) → row_in name text x ≡ seen_of q → (row : RefRow) × (q ≡ Some row) × (hex row.commit ≡ text)
named_commit name text away None e = absurd (cc e)
named_commit name text bad None e = absurd (cc e)
named_commit name text (there d) None e = absurd (no_away (bytes_eq (hex d.commit) text) e)
  where
    no_away : (b : Bool) → if b then there (row_of name d) else bad ≡ away → ⊥
    no_away true h = cc h
    no_away false h = cc h
named_commit name text away (Some r) e = absurd (cc e)
named_commit name text bad (Some r) e = absurd (cc e)
named_commit name text (there d) (Some r) e = (r, refl, if_is (bytes_eq (hex d.commit) text) refl e)
  where
    if_is : (b : Bool) → bytes_eq (hex d.commit) text ≡ b → if b then there (row_of name d) else bad ≡ there r → hex r.commit ≡ text
    if_is true t h = ap (λ (k : RefRow). hex k.commit) (sym (there_is h)) ∙ (bytes_eq-Decides (hex d.commit) text).0 t
    if_is false t h = absurd (cc h)

pub deploy_commit : (name : Ref) (text : List ℕ) (spot : Spot) (q : Option RefRow) → deploy_at name text spot ≡ seen_of q → (row : RefRow) × (q ≡ Some row) × (hex row.commit ≡ text)
unfolding deploy_at
deploy_commit name text spot q e = named_commit name text _ q e

dir_same : (a b : Ref) (x y : List ℕ) (l m : List (List ℕ)) → kind_word a.kind ∷ (a.id ∷ (a.arch ∷ (a.branch ∷ (x ∷ l)))) ≡ kind_word b.kind ∷ (b.id ∷ (b.arch ∷ (b.branch ∷ (y ∷ m)))) → (a ≡ b) × (x ≡ y)
dir_same a b x y l m e =
    let word : kind_word a.kind ≡ kind_word b.kind = cc in
    let id : a.id ≡ b.id = cc in
    let arch : a.arch ≡ b.arch = cc in
    let branch : a.branch ≡ b.branch = cc in
    let kind = kind_same a.kind b.kind word in
    (λ k. record { kind = kind k; id = id k; arch = arch k; branch = branch k }, cc)

fits_if : (b : Bool) (z : _) (p : Elements) (spot : Spot) → Fits z p spot → Fits (if b then z else anything) p spot
fits_if true z p spot f = f
fits_if false z p spot f = tt

fits_below : (b c : Bool) (l : List (List ℕ)) (p : Elements) (spot : Spot) → b ≡ false → (l ≡ [] → IsFolderOrGone spot)
    → Fits (if b then here a_link l else (if c then here a_folder l else anything)) p spot
fits_below true c l p spot f itself = absurd (cc f)
fits_below false false l p spot f itself = tt
fits_below false true [] p spot f itself = itself refl
fits_below false true (x ∷ l) p spot f itself = tt

fits_dir : (k : RefKind) (id arch branch c : List ℕ) (l : List (List ℕ)) (p : Elements) (spot : Spot) → is (codes "active") c ≡ false → (l ≡ [] → IsFolderOrGone spot)
    → Fits (zone (kind_word k ∷ (id ∷ (arch ∷ (branch ∷ (c ∷ l)))))) p spot
fits_dir App id arch branch c l p spot f itself =
    fits_if (is_id id) _ p spot (fits_if (is_arch arch) _ p spot (fits_if (is_branch branch) _ p spot (fits_below (is (codes "active") c) (is_some (unhex c)) l p spot f itself)))
fits_dir Runtime id arch branch c l p spot f itself =
    fits_if (is_id id) _ p spot (fits_if (is_arch arch) _ p spot (fits_if (is_branch branch) _ p spot (fits_below (is (codes "active") c) (is_some (unhex c)) l p spot f itself)))

onto_some : (r : Elements) (x : List ℕ) (l : List (List ℕ)) → outward_onto r (x ∷ l) ≢ []
onto_some [] x l e = cc
onto_some (y ∷ r) x l e = onto_some r y (x ∷ l) e

none_left : (r : Elements) → outward_onto r [] ≡ [] → r ≡ []
none_left [] e = refl
none_left (x ∷ r) e = absurd (onto_some r x [] e)

pub hex_exact : (a b : List ℕ) → is_digest a ≡ true → is_digest b ≡ true → hex a ≡ hex b → a ≡ b
hex_exact a b of_a of_b e = some_is (sym (unhex-hex a of_a) ∙ ap unhex e ∙ unhex-hex b of_b)

-- the commits that an image keeps are digests
kept_digest : {i : Disk} {s : State} {name : Ref} {commit : List ℕ} → Shows i s → Keeps i name commit → is_digest commit ≡ true
kept_digest {i = i} a k = go k.of_row (row_good i k.row (row_there i (Some _) k.row k.shown))
  where
    before : (o : Option Previous) (p : Previous) → o ≡ Some p → IsGoodPrevious o → is_digest p.commit ≡ true
    before None p e good = absurd (cc e)
    before (Some q) p e good = subst (λ (x : Previous). is_digest x.commit ≡ true) (some_is e) good.0

    go : {row : RefRow} {commit : List ℕ} → IsKeptBy row commit → IsGoodRow row → is_digest commit ≡ true
    go (inl same) good = subst (λ c. is_digest c ≡ true) same good.commit
    go {row = row} (inr (p, is, same)) good = subst (λ c. is_digest c ≡ true) same (before row.previous p is good.previous)

pub dir_spares : {s : State} {v : View} {name : Ref} {commit : List ℕ} → is_digest commit ≡ true → Opens s v → (KeptIn s name commit → ⊥) → Spares v (InDir name commit)
dir_spares {s = s} {v = v} {name = name} {commit = commit} digest opens off = record {
  avoids = λ disk left p spot f given. avoid disk left p f given.rest given.is;
  permits = λ disk left p spot given. record {
    allowed = record {
      fits = subst (λ (l : List (List ℕ)). Fits (zone l) p spot) (sym (way p given.rest given.is))
          (fits_dir name.kind name.id name.arch name.branch (hex commit) (outward given.rest) p spot (false_from_ne_true _ (λ t. digits_no_active commit ((bytes_eq-Decides (hex commit) (codes "active")).0 t))) (λ e. given.itself (none_left given.rest e)));
      short = inr given.short;
    };
    deploy = λ n c k at. let d = dir_same n name (hex c) (hex commit) (codes "deploy" ∷ []) (outward given.rest) (sym (ap outward at) ∙ way p given.rest given.is) in
        absurd (kept disk left n c k d.0 d.1);
  };
}
  where
    way : (p rest : Elements) → p ≡ rest ++ commit_dir name commit → outward p ≡ kind_word name.kind ∷ (name.id ∷ (name.arch ∷ (name.branch ∷ (hex commit ∷ outward rest))))
    way p rest e = ap outward e ∙ outward_append rest (commit_dir name commit) []

    kept : (disk : Disk) → Leaves v disk → (n : Ref) (c : List ℕ) → Keeps disk n c → n ≡ name → hex c ≡ hex commit → ⊥
    kept disk left n c k e f =
        let same : c ≡ commit = hex_exact c commit (kept_digest (opens.shown disk left) k) digest f in
        off (kept_of_state (opens.shown disk left) (subst (λ m. Keeps disk m commit) e (subst (Keeps disk n) same k)))

    avoid : (disk : Disk) → Leaves v disk → (p : Elements) → Fixed disk p → (rest : Elements) → p ≡ rest ++ commit_dir name commit → ⊥
    avoid disk left p (is_config e) rest at = word_apart name.kind (codes "config") refl refl (sym (ap head_of (way p rest at)) ∙ ap top e)
    avoid disk left p (is_old none (is_remotes e)) rest at = word_apart name.kind (codes "remotes.conf") refl refl (sym (ap head_of (way p rest at)) ∙ ap top e)
    avoid disk left p (is_old none (is_pins e)) rest at = word_apart name.kind (codes "pins") refl refl (sym (ap head_of (way p rest at)) ∙ ap top e)
    avoid disk left p (is_active n good e) rest at = inside_apart rest name n commit (sym at ∙ e)
    avoid disk left p (is_layer n good e) rest at = word_apart name.kind (codes "overrides") refl refl (sym (ap head_of (way p rest at)) ∙ ap top e)
    avoid disk left p (is_object n c place k h e) rest at = word_no_repo name.kind (sym (ap head_of (way p rest at)) ∙ ap top e)
    avoid disk left p (is_inside n c r k not_deploy e) rest at =
        let d = dir_same n name (hex c) (hex commit) (outward r) (outward rest) (sym (outward_append r (commit_dir n c) []) ∙ sym (ap outward e) ∙ way p rest at) in
        kept disk left n c k d.0 d.1
    avoid disk left p (is_deploy n text good link e) rest at =
        let d = dir_same n name text (hex commit) (codes "deploy" ∷ []) (outward rest) (sym (ap outward e) ∙ way p rest at) in
        let told : by_active disk n (disk (active n)) ≡ seen_of (row_at s n) = sym (cond-true (is_ref n) _ _ good) ∙ sym (ap (row_seen disk) (ref_of-ref_text n good)) ∙ (opens.shown disk left).refs (ref_text n) in
        let row = deploy_commit n text (disk (deploy (text_dir n text))) (row_at s n) (sym (ap (by_active disk n) link) ∙ told) in
        let k : Keeps disk n row.0.commit = state_of_kept good (opens.shown disk left) (record { row = row.0; has = row.1; of_row = inl refl }) in
        kept disk left n row.0.commit k d.0 (row.2 ∙ d.1)

pub repo_spared : (i : Disk) (p : Elements) → p ≡ repo → Fixed i p → ⊥
repo_spared i p at f = let o = fixed_in_repo f (ap top at) in cc (sym at ∙ o.is)
