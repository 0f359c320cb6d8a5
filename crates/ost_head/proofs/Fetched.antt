-- Objects of a remote.
use Rattle.std.proofs.Common.{◌≡◌, ◌≤◌, ◌<◌, ◌*◌, ℕ, List, length, Bool, true, false, leb, Option, Some, None, inl, inr, Result, Ok, Err, refl, sym, ◌∙◌, ap, subst, arith}
use Rattle.std.specs.Option.{option_or}
use Rattle.std.specs.Prelude.{◌⊎◌, not, if◌then◌else◌}
use Rattle.std.proofs.lemmas.Bool.{le-leb, lt-leb}
use Rattle.fp_host.specs.Paths.{Elements, is_link_text}
use Rattle.fp_host.specs.Remote.{Held, nothing, directory, contents, target, IsNode, bytes_of}
use Rattle.fp_host.specs.Outcome.{points}
use Rattle.fp_host.specs.declared.remotes.Node.{Node}
use Rattle.fp_host.specs.declared.remotes.Node.TheVariants as nodes
use Rattle.fp_host.proofs.Nodes.{node_file}
use Rattle.fp_base.specs.declared.object.ObjKind.{ObjKind}
use Rattle.fp_base.specs.declared.object.ObjKind.TheVariants as kinds
use Rattle.ost_model.specs.declared.object.Object.{Object}
use Rattle.ost_model.specs.declared.object.Object.TheVariants as objects
use Rattle.ost_model.specs.Contents.{is_permission}
use Rattle.ost_model.specs.Objects.{Fault, too_long, refused_mode, unless, may_be_link, digest_fault, mode_fault, object_at, object_fault}
use Rattle.ost_model.specs.Remotes.{as_spot}
use Rattle.ost_model.proofs.Faults.{long_fault}
use Rattle.ost_model.proofs.Spots.{held_meta}
use Rattle.ost_walk.specs.declared.ends.ObjectFault.TheVariants as faults
use Rattle.ost_walk.specs.declared.ends.WalkEnd.{WalkEnd}
use Rattle.ost_walk.specs.Ends.{RefusesBy, IsFaultOf, refusal}
use Rattle.ost_head.specs.Objects.{IsFit, Reads}
use Rattle.ost_head.specs.Fetches.{ReadsAt}
use Rattle.ost_head.proofs.Judged.{refuses}

-- ---- the faults of a file before its digest

pub long_file : (d : List ℕ) (mode : ℕ) (bytes : List ℕ) → 1024 * 1024 * 1024 < length bytes → object_fault d kinds.File (Some (objects.File mode bytes)) ≡ Some (too_long (length bytes))
long_file d mode bytes long =
    let o = objects.File mode bytes in
    ap (λ b. option_or (option_or (unless b (too_long (length bytes))) (option_or (mode_fault o) (option_or (digest_fault d o) None))) None) (lt-leb (length bytes) (1024 * 1024 * 1024) long)

pub moded_file : (d : List ℕ) (mode : ℕ) (bytes : List ℕ) → length bytes ≤ 1024 * 1024 * 1024 → is_permission mode ≡ false → object_fault d kinds.File (Some (objects.File mode bytes)) ≡ Some (refused_mode mode)
moded_file d mode bytes short off =
    let o = objects.File mode bytes in
    ap (λ b. option_or (option_or (unless b (too_long (length bytes))) (option_or (mode_fault o) (option_or (digest_fault d o) None))) None) (le-leb (length bytes) (1024 * 1024 * 1024) short)
    ∙ ap (λ b. option_or (option_or (unless b (refused_mode mode)) (option_or (digest_fault d o) None)) None) off

-- ---- what a node tells

-- what is neither a file nor a link is no object
node_none : (h : Held) (node : Node) (kind : ObjKind) → IsNode h node → (node ≡ nodes.Absent) ⊎ (node ≡ nodes.Dir) → object_at kind (as_spot h) ≡ None
node_none nothing node kind is none = refl
node_none directory node kind is none = refl
node_none (contents m bytes) node kind is (inl none) = absurd (cc (is, none))
node_none (contents m bytes) node kind is (inr none) = absurd (cc (is, none))
node_none (target text) node kind is (inl none) = absurd (cc (is, none))
node_none (target text) node kind is (inr none) = absurd (cc (is, none))

-- ---- a file

module _ (d : List ℕ) (h : Held) (mode size : ℕ) (node : IsNode h (nodes.File mode size)) where
  there : object_at kinds.File (as_spot h) ≡ Some (objects.File mode (bytes_of h))
  there = ap (λ x. object_at kinds.File (as_spot x)) (node_file h mode size node).0

  long : length (bytes_of h) ≡ size
  long = (node_file h mode size node).1

  pub file_long : (end : WalkEnd) → 1024 * 1024 * 1024 < size → end ≡ refusal d kinds.File (faults.TooLong size) → ReadsAt d kinds.File h (Err end)
  file_long end more is = refuses d kinds.File (object_fault d kinds.File (object_at kinds.File (as_spot h))) (faults.TooLong size) end is
      (ap (object_fault d kinds.File) there ∙ long_file d mode (bytes_of h) (omega (arith, long, more)) ∙ ap (λ (n : ℕ). Some (too_long n)) long)

  pub file_moded : (end : WalkEnd) → size ≤ 1024 * 1024 * 1024 → is_permission mode ≡ false → end ≡ refusal d kinds.File (faults.RefusedMode mode) → ReadsAt d kinds.File h (Err end)
  file_moded end short off is = refuses d kinds.File (object_fault d kinds.File (object_at kinds.File (as_spot h))) (faults.RefusedMode mode) end is
      (ap (object_fault d kinds.File) there ∙ moded_file d mode (bytes_of h) (omega (arith, long, short)) off)

  pub file_read : (bytes : List ℕ) → (length (bytes_of h) ≡ size → bytes ≡ bytes_of h) → ReadsAt d kinds.File h (Ok (objects.File mode bytes))
  file_read bytes whole = there ∙ ap (λ (b : List ℕ). Some (objects.File mode b)) (sym (whole long))

pub fit_file : (mode size : ℕ) (bytes : List ℕ) → length bytes ≤ size → size ≤ 1024 * 1024 * 1024 → is_permission mode ≡ true → IsFit kinds.File (objects.File mode bytes)
fit_file mode size bytes few short bits = record { kind_is = refl; short = ap (λ b. unless b (too_long (length bytes))) (le-leb (length bytes) (1024 * 1024 * 1024) (omega (arith, few, short))); keepable = bits }

-- ---- a link

pub link_read : (d text : List ℕ) → is_link_text text ≡ true → ReadsAt d kinds.File (target text) (Ok (objects.Link text))
link_read d text good = ap (λ b. if b then Some (objects.Link text) else None) good

pub link_off : (d text : List ℕ) (end : WalkEnd) → is_link_text text ≡ false → end ≡ refusal d kinds.File faults.Missing → ReadsAt d kinds.File (target text) (Err end)
link_off d text end off is = refuses d kinds.File (object_fault d kinds.File (object_at kinds.File (points text))) faults.Missing end is
    (ap (λ b. object_fault d kinds.File (if b then Some (objects.Link text) else None)) off)

pub fit_link : (text : List ℕ) → is_link_text text ≡ true → IsFit kinds.File (objects.Link text)
fit_link text good = record { kind_is = refl; short = refl; keepable = good }

-- ---- nothing

pub none_read : (d : List ℕ) (kind : ObjKind) (h : Held) (node : Node) (end : WalkEnd) → IsNode h node → (node ≡ nodes.Absent) ⊎ (node ≡ nodes.Dir) → end ≡ refusal d kind faults.Missing → ReadsAt d kind h (Err end)
none_read d kind h node end is none ended = refuses d kind (object_fault d kind (object_at kind (as_spot h))) faults.Missing end ended (ap (object_fault d kind) (node_none h node kind is none))

-- ---- a metadata object

node_meta : (h : Held) (kind : ObjKind) (mode size : ℕ) → may_be_link kind ≡ false → IsNode h (nodes.File mode size) → object_at kind (as_spot h) ≡ Some (objects.Meta (bytes_of h))
node_meta h kind mode size meta is = ap (λ x. object_at kind (as_spot x)) (node_file h mode size is).0 ∙ held_meta kind meta 0 mode (bytes_of h)

pub meta_long : (d : List ℕ) (kind : ObjKind) (h : Held) (mode size : ℕ) (end : WalkEnd) → may_be_link kind ≡ false → IsNode h (nodes.File mode size) → 16 * 1024 * 1024 < size → end ≡ refusal d kind (faults.TooLong size) → ReadsAt d kind h (Err end)
meta_long d kind h mode size end meta node more is =
    let long = (node_file h mode size node).1 in
    refuses d kind (object_fault d kind (object_at kind (as_spot h))) (faults.TooLong size) end is
    (ap (object_fault d kind) (node_meta h kind mode size meta node) ∙ long_fault d kind (bytes_of h) meta (omega (arith, long, more)) ∙ ap (λ (n : ℕ). Some (too_long n)) long)

pub meta_read : (d : List ℕ) (kind : ObjKind) (h : Held) (mode size : ℕ) (bytes : List ℕ) → may_be_link kind ≡ false → IsNode h (nodes.File mode size) → (length (bytes_of h) ≡ size → bytes ≡ bytes_of h) → ReadsAt d kind h (Ok (objects.Meta bytes))
meta_read d kind h mode size bytes meta node whole = node_meta h kind mode size meta node ∙ ap (λ (b : List ℕ). Some (objects.Meta b)) (sym (whole (node_file h mode size node).1))

pub fit_meta : (kind : ObjKind) (bytes : List ℕ) → may_be_link kind ≡ false → length bytes ≤ 16 * 1024 * 1024 → IsFit kind (objects.Meta bytes)
fit_meta kind bytes meta short = record { kind_is = ap not meta; short = ap (λ b. unless b (too_long (length bytes))) (le-leb (length bytes) (16 * 1024 * 1024) short); keepable = tt }

-- what is no file is no metadata object
pub no_meta : (d : List ℕ) (kind : ObjKind) (h : Held) (node : Node) (end : WalkEnd) → may_be_link kind ≡ false → IsNode h node → ((mode size : ℕ) → node ≡ nodes.File mode size → ⊥) → end ≡ refusal d kind faults.Missing → ReadsAt d kind h (Err end)
no_meta d kind h node end meta is off ended = refuses d kind (object_fault d kind (object_at kind (as_spot h))) faults.Missing end ended (ap (object_fault d kind) (none h kind meta is))
  where
    none : (x : Held) (k : ObjKind) → may_be_link k ≡ false → IsNode x node → object_at k (as_spot x) ≡ None
    none nothing k m n = refl
    none directory k m n = refl
    none (contents mode bytes) k m n = absurd (off mode (length bytes) n)
    none (target text) kinds.File m n = absurd (cc m)
    none (target text) kinds.Commit m n = refl
    none (target text) kinds.DirTree m n = refl
    none (target text) kinds.DirMeta m n = refl
