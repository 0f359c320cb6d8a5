-- What is told of an object, from what stands at its name.
use Rattle.std.proofs.Common.{◌≡◌, ◌≤◌, ◌<◌, ◌⊎◌, inl, inr, ℕ, List, length, Bool, true, false, Option, Some, None, Ok, refl, sym, ◌∙◌, ap, subst, if◌then◌else◌}
use Rattle.std.specs.Prelude.{is_some}
use Rattle.std.proofs.lemmas.Bool.{le-leb, lt-leb}
use Rattle.fp_host.specs.Paths.{Elements, Slot, absent, dir, file, link, is_link_text, at}
use Rattle.fp_host.specs.View.{View, Inode, IsTree}
use Rattle.fp_host.specs.Calls.{Can, IsLeaf, unlinks}
use Rattle.fp_host.specs.Outcome.{Spot, gone, folder, holds, points, spot_of, holding, shows}
use Rattle.fp_host.specs.Reads.{StatOf, IsStat, IsRead, ReadOf}
use Rattle.fp_host.specs.declared.host.Stat.{Stat}
use Rattle.fp_host.specs.declared.host.Stat.TheVariants.{Absent, Dir, Link, File as StatFile}
use Rattle.fp_host.proofs.Settled.{at_tree}
use Rattle.fp_host.proofs.Slots.{stat_link}
use Rattle.fp_host.proofs.Shown.{shown}
use Rattle.fp_small.proofs.Making.{stat_absent, stat_dir}
use Rattle.fp_base.specs.declared.object.ObjKind.{ObjKind}
use Rattle.fp_base.specs.declared.object.ObjKind.TheVariants as kinds
use Rattle.ost_model.specs.declared.object.Object.TheVariants as objects
use Rattle.ost_model.specs.Objects.{object_path, object_at}
use Rattle.ost_model.specs.Objects.{may_be_link}
use Rattle.ost_model.proofs.Spots.{none_gone, none_folder}
use Rattle.ost_store.specs.Reads.{IsThere, got_of, GetsAt, ReadsPiece}
use Rattle.ost_store.specs.Place.{HasObject}
use Rattle.ost_store.specs.declared.reading.Got.{Got}
use Rattle.ost_store.specs.declared.reading.Got.TheVariants as got

-- ---- what stands at a path

file_of : (v : View) (e : Slot) (id mode size : ℕ) → IsStat v e (StatFile id mode size) → (e ≡ file id) × ((f : Inode) × (v.files id ≡ Some f) × (mode ≡ f.mode) × (size ≡ length f.bytes))
file_of v absent id mode size s = absurd (cc s)
file_of v dir id mode size s = absurd (cc s)
file_of v (link text) id mode size s = absurd (cc s)
file_of v (file k) id mode size s =
    let same : id ≡ k = cc s.2 in
    (ap file (sym same), (s.0, ap v.files same ∙ s.1, cc s.2, cc s.2))

file_spot : {p : Elements} {v w : View} {id mode size : ℕ} → IsTree v → StatOf p (Ok (StatFile id mode size)) v w → (bytes : List ℕ) × (shows v p ≡ holds id mode bytes) × (size ≡ length bytes)
file_spot {p = p} {v = v} {id = id} {mode = mode} {size = size} tree stat =
    let is = file_of v (v.names p) id mode size stat.tells.1 in
    let f = is.1.0 in
    (f.bytes, shown v p (file id) tree is.0 ∙ ap (holding id) is.1.1 ∙ ap (λ (m : ℕ). holds id m f.bytes) (sym is.1.2), is.1.3)

-- nothing, or a folder
no_spot : {p : Elements} {s : Stat} {v w : View} → IsTree v → StatOf p (Ok s) v w → (s ≡ Absent) ⊎ (s ≡ Dir) → (shows v p ≡ gone) ⊎ (shows v p ≡ folder)
no_spot {p = p} {v = v} {w = w} tree stat (inl is) = inl (shown v p absent tree (stat_absent (subst (λ r. StatOf p (Ok r) v w) is stat)))
no_spot {p = p} {v = v} {w = w} tree stat (inr is) = inr (shown v p dir tree (stat_dir (subst (λ r. StatOf p (Ok r) v w) is stat)))

-- ---- whether an object is there

there_file : (kind : ObjKind) (id mode : ℕ) (bytes : List ℕ) → is_some (object_at kind (holds id mode bytes)) ≡ true
there_file kinds.Commit id mode bytes = refl
there_file kinds.DirTree id mode bytes = refl
there_file kinds.DirMeta id mode bytes = refl
there_file kinds.File id mode bytes = refl

there_link : (kind : ObjKind) (text : List ℕ) → is_link_text text ≡ true → is_some (object_at kind (points text)) ≡ may_be_link kind
there_link kinds.Commit text good = refl
there_link kinds.DirTree text good = refl
there_link kinds.DirMeta text good = refl
there_link kinds.File text good = ap (λ b. is_some (if b then Some (objects.Link text) else None)) good

none_at : (kind : ObjKind) (spot : Spot) → (spot ≡ gone) ⊎ (spot ≡ folder) → object_at kind spot ≡ None
none_at kind spot (inl is) = ap (object_at kind) is ∙ none_gone kind
none_at kind spot (inr is) = ap (object_at kind) is ∙ none_folder kind

module _ {p : Elements} {v : View} (root : Elements) (d : List ℕ) (kind : ObjKind) (here : p ≡ object_path root d kind) (tree : IsTree v) where
  there_by : (spot : Spot) (b : Bool) → shows v p ≡ spot → is_some (object_at kind spot) ≡ b → IsThere root d kind v b
  there_by spot b is tells = record { is = sym (ap (λ (s : Spot). is_some (object_at kind s)) (ap (shows v) (sym here) ∙ is) ∙ tells) }

  pub has_none : {w : View} {s : Stat} → StatOf p (Ok s) v w → (s ≡ Absent) ⊎ (s ≡ Dir) → IsThere root d kind v false
  has_none stat is = there_by (shows v p) false refl (ap is_some (none_at kind (shows v p) (no_spot tree stat is)))

  pub has_file : {w : View} {id mode size : ℕ} → StatOf p (Ok (StatFile id mode size)) v w → IsThere root d kind v true
  has_file {id = id} {mode = mode} stat = let is = file_spot tree stat in there_by (holds id mode is.0) true is.1 (there_file kind id mode is.0)

  pub has_link : {w : View} {b : Bool} → StatOf p (Ok Link) v w → b ≡ may_be_link kind → IsThere root d kind v b
  has_link {b = b} stat tells =
      let is = stat_link stat in
      there_by (points is.0) b (shown v p (link is.0) tree is.1) (there_link kind is.0 (tree.linked p is.0 (inl (sym is.1))) ∙ sym tells)

-- ---- the object

got_by : {most : ℕ} {told : Got} (v : View) (p : Elements) (spot : Spot) → shows v p ≡ spot → got_of most (object_at kinds.File spot) ≡ told → GetsAt kinds.File p most v told
got_by {most = most} v p spot is tells = record { is = sym (ap (λ (s : Spot). got_of most (object_at kinds.File s)) is ∙ tells) }

module _ {p : Elements} {most : ℕ} {v : View} (tree : IsTree v) where
  pub got_none : {w : View} {s : Stat} → StatOf p (Ok s) v w → (s ≡ Absent) ⊎ (s ≡ Dir) → GetsAt kinds.File p most v got.Absent
  got_none stat is = got_by v p (shows v p) refl (ap (got_of most) (none_at kinds.File (shows v p) (no_spot tree stat is)))

  pub got_long : {w : View} {id mode size : ℕ} → StatOf p (Ok (StatFile id mode size)) v w → most < size → GetsAt kinds.File p most v (got.TooLong size)
  got_long {id = id} {mode = mode} {size = size} stat long =
      let is = file_spot tree stat in
      got_by v p (holds id mode is.0) is.1
      (ap (λ b. if b then got.File mode (length is.0) else got.TooLong (length is.0)) (lt-leb (length is.0) most (subst (λ n. most < n) is.2 long)) ∙ ap got.TooLong (sym is.2))

  pub got_file : {w : View} {id mode size : ℕ} → StatOf p (Ok (StatFile id mode size)) v w → size ≤ most → GetsAt kinds.File p most v (got.File mode size)
  got_file {id = id} {mode = mode} {size = size} stat short =
      let is = file_spot tree stat in
      got_by v p (holds id mode is.0) is.1
      (ap (λ b. if b then got.File mode (length is.0) else got.TooLong (length is.0)) (le-leb (length is.0) most (subst (λ n. n ≤ most) is.2 short)) ∙ ap (got.File mode) (sym is.2))

  pub got_link : {text : List ℕ} → v.names p ≡ link text → GetsAt kinds.File p most v (got.Link text)
  got_link {text = text} is =
      got_by v p (points text) (shown v p (link text) tree is) (ap (λ b. got_of most (if b then Some (objects.Link text) else None)) (tree.linked p text (inl (sym is))))

-- ---- a piece of a file

pub piece_read : {p : Elements} {at n : ℕ} {into : List ℕ} {v w : View} (root : Elements) (d : List ℕ) → p ≡ object_path root d kinds.File → IsTree v → ReadOf p at into (Ok n) v w → ReadsPiece root d at into v n
piece_read {p = p} {at = at} {n = n} {into = into} {v = v} root d here tree read =
    let id = read.tells.0.0 in
    let told = subst (λ e. IsRead v e at into n) read.tells.0.1 read.tells.1 in
    let f = told.0 in
    record {
      file = record {
        mode = f.mode;
        bytes = f.bytes;
        there = ap (object_at kinds.File) (ap (shows v) (sym here) ∙ shown v p (file id) tree read.tells.0.1 ∙ ap (holding id) told.1);
      };
      came = record { many = told.2; same = told.3 };
    }

-- ---- what is there

-- what is an object's file or link is one
leaf_by : (kind : ObjKind) (files : ℕ → Option Inode) (e : Slot) → is_some (object_at kind (spot_of files e)) ≡ true → IsLeaf e
leaf_by kind files absent there = absurd (cc (ap is_some (none_gone kind), there))
leaf_by kind files dir there = absurd (cc (ap is_some (none_folder kind), there))
leaf_by kind files (file id) there = tt
leaf_by kind files (link text) there = tt

pub can_remove : {p : Elements} {v : View} (root : Elements) (d : List ℕ) (kind : ObjKind) → p ≡ object_path root d kind → IsTree v → HasObject root d kind v → Can (unlinks p) v
can_remove {p = p} {v = v} root d kind here tree has =
    leaf_by kind v.files (v.names p) (ap (λ e. is_some (object_at kind (spot_of v.files e))) (sym (at_tree v tree p)) ∙ ap (λ q. is_some (object_at kind (shows v q))) here ∙ has.there)
