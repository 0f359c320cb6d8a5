-- Small objects, which their digests decide.
use Rattle.std.proofs.Common.{◌≡◌, ◌≤◌, ◌&&◌, ◌*◌, ℕ, List, [], ◌++◌, length, Bool, true, false, not, leb, Option, Some, None, Result, Ok, Err, refl, sym, ◌∙◌, ap, subst, arith, append-nil}
use Rattle.std.specs.Option.{option_or}
use Rattle.std.specs.Prelude.{if◌then◌else◌, is_some, IfOk}
use Rattle.std.specs.Str.{bytes_eq}
use Rattle.std.proofs.lemmas.Bool.{le-leb, leb-true, both_ways}
use Rattle.std.proofs.lemmas.Slice.Eq.{bytes_eq-Decides}
use Rattle.fp_host.specs.Paths.{Elements, Slot, absent, dir, file, link, is_link_text}
use Rattle.fp_host.specs.View.{View, Inode, IsTree}
use Rattle.fp_host.specs.Frame.{AtEnd}
use Rattle.fp_host.specs.Moments.{Moments}
use Rattle.fp_host.specs.Outcome.{Spot, holds, points, holding, shows}
use Rattle.fp_host.specs.Reads.{IsStat, StatOf}
use Rattle.fp_host.specs.declared.host.Stat.{Stat}
use Rattle.fp_host.specs.declared.host.Stat.TheVariants.{File as StatFile}
use Rattle.fp_host.proofs.Ending.{ends_on, ends_to}
use Rattle.fp_host.proofs.Framed.{IsTold}
use Rattle.fp_host.proofs.Shown.{shown}
use Rattle.fp_small.specs.Load.{Loads, loaded_of}
use Rattle.fp_small.specs.declared.loading.Loaded.TheVariants as loads
use Rattle.fp_base.specs.declared.object.ObjKind.{ObjKind}
use Rattle.fp_base.specs.declared.object.ObjKind.TheVariants as kinds
use Rattle.sha2.specs.Sha256.{sha256}
use Rattle.fp_base.proofs.Options.{if_ok_to}
use Rattle.ost_model.specs.declared.object.Object.TheVariants as objects
use Rattle.ost_model.specs.Contents.{is_permission, header, link_header, file_digest, link_digest, meta_digest}
use Rattle.ost_model.specs.Objects.{Fault, too_long, refused_mode, corrupt, unless, may_be_link, object_at}
use Rattle.par_digest.specs.declared.item.Item.{Item}
use Rattle.ost_fsck.specs.Judging.{is_true, is_named, keeps_rules, meta_most}
use Rattle.ost_fsck.specs.Batches.{head_of, small_most, IsItemOf, IsItemIn, IsItemAt, IsFileItem, IsFileItemAt}
use Rattle.ost_fsck.proofs.Judged.{corrupt_untrue, rules_true}

-- ---- the digests

item_of_file : (mode : ℕ) (bytes : List ℕ) → sha256 (header mode ++ bytes) ≡ file_digest mode bytes
unfolding file_digest
item_of_file mode bytes = refl

item_of_link : (text : List ℕ) → sha256 (link_header text ++ []) ≡ link_digest text
unfolding link_digest
item_of_link text = ap sha256 (append-nil (link_header text))

item_of_meta : (bytes : List ℕ) → sha256 bytes ≡ meta_digest bytes
unfolding meta_digest
item_of_meta bytes = refl

-- ---- what the digest decides

closed : (c : Bool) (f : Fault) → not (is_some (option_or (unless c f) None)) ≡ c
closed true f = refl
closed false f = refl

file_decides : (d : List ℕ) (mode : ℕ) (bytes : List ℕ) → is_permission mode ≡ true → length bytes ≤ small_most
    → is_true d kinds.File (Some (objects.File mode bytes)) ≡ bytes_eq (file_digest mode bytes) d
file_decides d mode bytes bits short =
    let all : Bool → Bool → Bool = λ a b. not (is_some (option_or (unless a (too_long (length bytes))) (option_or (unless b (refused_mode mode)) (option_or (unless (bytes_eq (file_digest mode bytes) d) (corrupt (file_digest mode bytes))) None)))) in
    ap (λ a. all a (is_permission mode)) (le-leb (length bytes) (1024 * 1024 * 1024) (omega (arith, short)))
    ∙ ap (all true) bits
    ∙ closed (bytes_eq (file_digest mode bytes) d) (corrupt (file_digest mode bytes))

link_decides : (d text : List ℕ) → is_true d kinds.File (Some (objects.Link text)) ≡ bytes_eq (link_digest text) d
link_decides d text = closed (bytes_eq (link_digest text) d) (corrupt (link_digest text))

meta_decides : (d : List ℕ) (kind : ObjKind) (bytes : List ℕ) → may_be_link kind ≡ false → length bytes ≤ small_most → true ≡ keeps_rules kind bytes
    → is_true d kind (Some (objects.Meta bytes)) ≡ bytes_eq (meta_digest bytes) d
meta_decides d kind bytes meta short keeps = go (bytes_eq (meta_digest bytes) d) refl
  where
    few : length bytes ≤ meta_most
    few = omega (arith, short)

    go : (b : Bool) → bytes_eq (meta_digest bytes) d ≡ b → is_true d kind (Some (objects.Meta bytes)) ≡ b
    go true is = sym (rules_true d kind bytes meta few (meta_digest bytes) refl ((bytes_eq-Decides (meta_digest bytes) d).0 is) true keeps)
    go false is = sym (corrupt_untrue d kind bytes meta few (meta_digest bytes) refl (λ same. both_ways (bytes_eq (meta_digest bytes) d) is ((bytes_eq-Decides (meta_digest bytes) d).1 same)))

-- ---- items

module _ (id mode : ℕ) (bytes : List ℕ) (bits : is_permission mode ≡ true) (short : length bytes ≤ small_most) where
  with_bits : (d : List ℕ) (kind : ObjKind) → is_named d kind (holds id mode bytes) ≡ is_true d kind (object_at kind (holds id mode bytes))
  with_bits d kind = ap (λ b. b && is_true d kind (object_at kind (holds id mode bytes))) bits

  pub file_is_item : (kind : ObjKind) (head : List ℕ) → true ≡ keeps_rules kind bytes → head ≡ head_of kind mode → IsItemOf kind (holds id mode bytes) (record { head = head; body = bytes })
  file_is_item kinds.File head keeps is = record { decides = λ d. with_bits d kinds.File ∙ file_decides d mode bytes bits short ∙ ap (λ (x : List ℕ). bytes_eq x d) (sym (ap (λ (h : List ℕ). sha256 (h ++ bytes)) is ∙ item_of_file mode bytes)) }
  file_is_item kinds.Commit head keeps is = record { decides = λ d. with_bits d kinds.Commit ∙ meta_decides d kinds.Commit bytes refl short keeps ∙ ap (λ (x : List ℕ). bytes_eq x d) (sym (ap (λ (h : List ℕ). sha256 (h ++ bytes)) is ∙ item_of_meta bytes)) }
  file_is_item kinds.DirTree head keeps is = record { decides = λ d. with_bits d kinds.DirTree ∙ meta_decides d kinds.DirTree bytes refl short keeps ∙ ap (λ (x : List ℕ). bytes_eq x d) (sym (ap (λ (h : List ℕ). sha256 (h ++ bytes)) is ∙ item_of_meta bytes)) }
  file_is_item kinds.DirMeta head keeps is = record { decides = λ d. with_bits d kinds.DirMeta ∙ meta_decides d kinds.DirMeta bytes refl short keeps ∙ ap (λ (x : List ℕ). bytes_eq x d) (sym (ap (λ (h : List ℕ). sha256 (h ++ bytes)) is ∙ item_of_meta bytes)) }

pub link_is_item : (text head body : List ℕ) → is_link_text text ≡ true → head ≡ link_header text → body ≡ [] → IsItemOf kinds.File (points text) (record { head = head; body = body })
link_is_item text head body good is empty = record {
  decides = λ d. ap (λ b. is_true d kinds.File (if b then Some (objects.Link text) else None)) good ∙ link_decides d text
      ∙ ap (λ (x : List ℕ). bytes_eq x d) (sym ((λ i. sha256 (is i ++ empty i)) ∙ item_of_link text));
}

-- ---- what stands at a path

file_of : (v : View) (e : Slot) (id mode size : ℕ) → IsStat v e (StatFile id mode size) → (e ≡ file id) × ((f : Inode) × (v.files id ≡ Some f) × (mode ≡ f.mode))
file_of v absent id mode size s = absurd (cc s)
file_of v dir id mode size s = absurd (cc s)
file_of v (link text) id mode size s = absurd (cc s)
file_of v (file k) id mode size s =
    let same : id ≡ k = cc s.2 in
    (ap file (sym same), (s.0, ap v.files same ∙ s.1, cc s.2))

file_spot : {p : Elements} {v w : View} {id mode size : ℕ} → IsTree v → StatOf p (Ok (StatFile id mode size)) v w → (bytes : List ℕ) × (shows v p ≡ holds id mode bytes)
file_spot {p = p} {v = v} {id = id} {mode = mode} {size = size} tree stat =
    let is = file_of v (v.names p) id mode size stat.tells.1 in
    let f = is.1.0 in
    (f.bytes, shown v p (file id) tree is.0 ∙ ap (holding id) is.1.1 ∙ ap (λ (m : ℕ). holds id m f.bytes) (sym is.1.2))

-- a file's item, where the file was looked up before
file_at : {p : Elements} {v w : View} {id mode size : ℕ} (kind : ObjKind) (item : Option Item) → IsTree v → StatOf p (Ok (StatFile id mode size)) v w → IsFileItemAt kind mode p v item → IsItemAt kind p v item
file_at {id = id} kind item tree stat is = let spot = file_spot tree stat in is id spot.0 spot.1

pub link_at : (v : View) (p : Elements) (kind : ObjKind) (text : List ℕ) (item : Option Item) → IsTree v → v.names p ≡ link text → IsItemIn kind (points text) item → IsItemAt kind p v item
link_at v p kind text item tree here is = subst (λ (spot : Spot). IsItemIn kind spot item) (sym (shown v p (link text) tree here)) is

-- what was loaded is what stands there
loaded_file : (id mode : ℕ) (bytes had : List ℕ) → loads.Bytes bytes ≡ loaded_of small_most (holds id mode had) → (bytes ≡ had) × (length bytes ≤ small_most)
loaded_file id mode bytes had is = go (leb (length had) small_most) refl is
  where
    go : (x : Bool) → leb (length had) small_most ≡ x → loads.Bytes bytes ≡ (if x then loads.Bytes had else loads.TooLong (length had)) → (bytes ≡ had) × (length bytes ≤ small_most)
    go true at e =
        let same : bytes ≡ had = cc e in
        (same, subst (λ (l : List ℕ). length l ≤ small_most) (sym same) (leb-true (length had) small_most at))
    go false at e = absurd (cc e)

pub loaded_at : (kind : ObjKind) (mode : ℕ) (p : Elements) (v : View) (bytes : List ℕ) (item : Option Item) → Loads p small_most v (loads.Bytes bytes) → (length bytes ≤ small_most → IsFileItem kind mode bytes item) → IsFileItemAt kind mode p v item
loaded_at kind mode p v bytes item loaded is id had spot =
    let same = loaded_file id mode bytes had (loaded.is ∙ ap (loaded_of small_most) spot) in
    subst (λ (s : Spot). IsItemIn kind s item) (sym (spot ∙ ap (λ (l : List ℕ). holds id mode l) (sym same.0))) (is same.1 id)

-- ---- over the moments

-- what is said where something holds in the end
pub ok_where : {T E : Type 0} {a b : Option Moments} {L : View → View → Type 0} (X : Type 0) (P : T → Type 0) (Q : T → View → View → Type 0) (r : Result T E) → (X → IfOk r P) → AtEnd L a b
    → ((t : T) (u w : View) → L u w → (X → P t) → Q t u w) → IfOk r (λ t. AtEnd (Q t) a b)
ok_where X P Q (Ok t) tells first step = ends_to first (λ u w l. step t u w l tells)
ok_where X P Q (Err e) tells first step = tt

-- a file's item, where the file was looked up before
pub file_after : {E : Type 0} {a b : Option Moments} (c : Option Moments) (p : Elements) (kind : ObjKind) (id mode size : ℕ) {s : Stat} (r : Result (Option Item) E) → IsTold b → AtEnd (StatOf p (Ok s)) a b → s ≡ StatFile id mode size
    → IfOk r (λ item. AtEnd (λ u w. IsFileItemAt kind mode p u item) b c) → IfOk r (λ item. AtEnd (λ u w. IsItemAt kind p u item) a c)
file_after c p kind id mode size r known_b stat is tells = if_ok_to r (λ item made. ends_on made stat known_b
    (λ u v w tree told at. file_at kind item (subst IsTree told.same tree) (subst (λ x. StatOf p (Ok x) u v) is told) (subst (λ (x : View). IsFileItemAt kind mode p x item) told.same at))) tells
