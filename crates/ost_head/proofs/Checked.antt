-- Files and links whose content isn't read, or is read in pieces.
use Rattle.std.proofs.Common.{◌≡◌, ◌⊎◌, ◌≤◌, ◌<◌, ◌*◌, inl, inr, ℕ, List, length, Bool, true, false, leb, Option, Some, None, refl, sym, ◌∙◌, ap, subst, arith}
use Rattle.std.specs.Option.{option_or}
use Rattle.std.specs.Prelude.{if◌then◌else◌}
use Rattle.std.specs.Str.{bytes_eq}
use Rattle.std.proofs.lemmas.Bool.{le-leb, lt-leb, false_from_ne_true}
use Rattle.std.proofs.lemmas.Slice.Eq.{bytes_eq-Decides}
use Rattle.fp_host.specs.Paths.{is_link_text}
use Rattle.fp_host.specs.Outcome.{points}
use Rattle.fp_host.specs.Remote.{Held, nothing, directory, contents, target, IsNode, bytes_of}
use Rattle.fp_host.specs.declared.remotes.Node.{Node}
use Rattle.fp_host.specs.declared.remotes.Node.TheVariants as nodes
use Rattle.fp_host.proofs.Nodes.{node_file, node_link}
use Rattle.fp_base.specs.declared.object.ObjKind.TheVariants as kinds
use Rattle.ost_model.specs.declared.object.Object.{Object}
use Rattle.ost_model.specs.declared.object.Object.TheVariants as objects
use Rattle.ost_model.specs.Contents.{is_permission, file_digest, link_digest}
use Rattle.ost_model.specs.Objects.{Fault, unless, too_long, refused_mode, corrupt, digest_fault, object_at, object_fault}
use Rattle.ost_model.specs.Remotes.{as_spot}
use Rattle.ost_model.proofs.Spots.{link_there}
use Rattle.ost_walk.specs.declared.ends.ObjectFault.{ObjectFault}
use Rattle.ost_walk.specs.declared.ends.ObjectFault.TheVariants as faults
use Rattle.ost_walk.specs.declared.ends.WalkEnd.{WalkEnd}
use Rattle.ost_walk.specs.declared.ends.WalkEnd.TheVariants as ends
use Rattle.ost_walk.specs.Ends.{RefusesBy, IsFaultOf, fault_of, refusal}
use Rattle.ost_head.specs.Objects.{IsFaultThere}
use Rattle.ost_head.specs.Stored.{IsFileOf}
use Rattle.ost_head.specs.Contents.{IsWithinLimits, IsGoodLink, IsGoodThere}

-- the fault of a file or link
abbrev pub RefusesFile : List ℕ → Option Object → WalkEnd → Type 0
RefusesFile d there end = RefusesBy (IsFaultOf d kinds.File (object_fault d kinds.File there)) end

-- ---- a refusal

refuses : (d : List ℕ) (fault : Option Fault) (f : ObjectFault) (end : WalkEnd) → end ≡ refusal d kinds.File f → fault ≡ Some (fault_of f) → RefusesBy (IsFaultOf d kinds.File fault) end
refuses d fault f end is has = subst (λ (e : WalkEnd). RefusesBy (IsFaultOf d kinds.File fault) e) (sym is) (record { digest = refl; kind_is = refl; fault_is = has })

-- ---- a file

module _ (d : List ℕ) (mode : ℕ) (bytes : List ℕ) where
  of_limits : (b : Bool) → leb (length bytes) (1024 * 1024 * 1024) ≡ b
      → object_fault d kinds.File (Some (objects.File mode bytes)) ≡ option_or (option_or (unless b (too_long (length bytes))) (option_or (unless (is_permission mode) (refused_mode mode)) (option_or (digest_fault d (objects.File mode bytes)) None))) None
  of_limits b is = ap (λ (x : Bool). option_or (option_or (unless x (too_long (length bytes))) (option_or (unless (is_permission mode) (refused_mode mode)) (option_or (digest_fault d (objects.File mode bytes)) None))) None) is

  of_bits : length bytes ≤ 1024 * 1024 * 1024 → (b : Bool) → is_permission mode ≡ b → object_fault d kinds.File (Some (objects.File mode bytes)) ≡ option_or (option_or (unless b (refused_mode mode)) (option_or (digest_fault d (objects.File mode bytes)) None)) None
  of_bits short b is = of_limits true (le-leb (length bytes) (1024 * 1024 * 1024) short) ∙ ap (λ (x : Bool). option_or (option_or (unless x (refused_mode mode)) (option_or (digest_fault d (objects.File mode bytes)) None)) None) is

  of_digest : (size : ℕ) → length bytes ≤ size → IsWithinLimits mode size → (b : Bool) → bytes_eq (file_digest mode bytes) d ≡ b → object_fault d kinds.File (Some (objects.File mode bytes)) ≡ option_or (option_or (unless b (corrupt (file_digest mode bytes))) None) None
  of_digest size few limits b is = of_bits (omega (arith, few, limits.short)) true limits.bits ∙ ap (λ (x : Bool). option_or (option_or (unless x (corrupt (file_digest mode bytes))) None) None) is

same_bytes : (a d got : List ℕ) → got ≡ a → got ≡ d → bytes_eq a d ≡ true
same_bytes a d got is same = (bytes_eq-Decides a d).1 (sym is ∙ same)

other_bytes : (a d got : List ℕ) → got ≡ a → (got ≡ d → ⊥) → bytes_eq a d ≡ false
other_bytes a d got is off = false_from_ne_true (bytes_eq a d) (λ t. off (is ∙ (bytes_eq-Decides a d).0 t))

-- ---- the limits of a file

pub limits_long : (d : List ℕ) (mode size : ℕ) (end : WalkEnd) → 1024 * 1024 * 1024 < size → end ≡ refusal d kinds.File (faults.TooLong size) → (bytes : List ℕ) → length bytes ≡ size → RefusesFile d (Some (objects.File mode bytes)) end
limits_long d mode size end more is bytes long = refuses d (object_fault d kinds.File (Some (objects.File mode bytes))) (faults.TooLong size) end is
    (of_limits d mode bytes false (lt-leb (length bytes) (1024 * 1024 * 1024) (omega (arith, long, more))) ∙ ap (λ (n : ℕ). Some (too_long n)) long)

pub limits_moded : (d : List ℕ) (mode size : ℕ) (end : WalkEnd) → size ≤ 1024 * 1024 * 1024 → is_permission mode ≡ false → end ≡ refusal d kinds.File (faults.RefusedMode mode) → (bytes : List ℕ) → length bytes ≡ size
    → RefusesFile d (Some (objects.File mode bytes)) end
limits_moded d mode size end short off is bytes long = refuses d (object_fault d kinds.File (Some (objects.File mode bytes))) (faults.RefusedMode mode) end is
    (of_bits d mode bytes (omega (arith, long, short)) false off)

-- ---- a file's digest

module _ (d : List ℕ) (mode size : ℕ) (bytes : List ℕ) (few : length bytes ≤ size) (limits : IsWithinLimits mode size) where
  pub file_good : (got : List ℕ) → got ≡ file_digest mode bytes → got ≡ d → object_fault d kinds.File (Some (objects.File mode bytes)) ≡ None
  file_good got is same = of_digest d mode bytes size few limits true (same_bytes (file_digest mode bytes) d got is same)

  pub file_corrupt : (got : List ℕ) (end : WalkEnd) → got ≡ file_digest mode bytes → (got ≡ d → ⊥) → end ≡ refusal d kinds.File (faults.Corrupt got) → RefusesFile d (Some (objects.File mode bytes)) end
  file_corrupt got end is off ended = refuses d (object_fault d kinds.File (Some (objects.File mode bytes))) (faults.Corrupt got) end ended
      (of_digest d mode bytes size few limits false (other_bytes (file_digest mode bytes) d got is off) ∙ ap (λ (x : List ℕ). Some (corrupt x)) (sym is))

-- ---- a link

pub link_missing : (d text : List ℕ) (end : WalkEnd) → is_link_text text ≡ false → end ≡ refusal d kinds.File faults.Missing → RefusesFile d (object_at kinds.File (points text)) end
link_missing d text end off is = refuses d (object_fault d kinds.File (object_at kinds.File (points text))) faults.Missing end is (ap (λ b. object_fault d kinds.File (if b then Some (objects.Link text) else None)) off)

of_link : (d text : List ℕ) (b : Bool) → bytes_eq (link_digest text) d ≡ b → object_fault d kinds.File (Some (objects.Link text)) ≡ option_or (option_or (unless b (corrupt (link_digest text))) None) None
of_link d text b is = ap (λ (x : Bool). option_or (option_or (unless x (corrupt (link_digest text))) None) None) is

pub link_good : (d text got : List ℕ) → is_link_text text ≡ true → got ≡ link_digest text → got ≡ d → IsGoodLink d text
link_good d text got good is same = record { may_be = good; good = of_link d text true (same_bytes (link_digest text) d got is same) }

pub link_corrupt : (d text got : List ℕ) (end : WalkEnd) → is_link_text text ≡ true → got ≡ link_digest text → (got ≡ d → ⊥) → end ≡ refusal d kinds.File (faults.Corrupt got) → RefusesFile d (object_at kinds.File (points text)) end
link_corrupt d text got end good is off ended = subst (λ (o : Option Object). RefusesFile d o end) (sym (link_there text good))
    (refuses d (object_fault d kinds.File (Some (objects.Link text))) (faults.Corrupt got) end ended (of_link d text false (other_bytes (link_digest text) d got is off) ∙ ap (λ (x : List ℕ). Some (corrupt x)) (sym is)))

-- ---- what a node tells

-- what is neither a file nor a link is no object
node_none : (h : Held) (node : Node) → IsNode h node → (node ≡ nodes.Absent) ⊎ (node ≡ nodes.Dir) → object_at kinds.File (as_spot h) ≡ None
node_none nothing node is none = refl
node_none directory node is none = refl
node_none (contents m bytes) node is (inl none) = absurd (cc (is, none))
node_none (contents m bytes) node is (inr none) = absurd (cc (is, none))
node_none (target text) node is (inl none) = absurd (cc (is, none))
node_none (target text) node is (inr none) = absurd (cc (is, none))

pub node_missing : (d : List ℕ) (h : Held) (node : Node) (end : WalkEnd) → IsNode h node → (node ≡ nodes.Absent) ⊎ (node ≡ nodes.Dir) → end ≡ refusal d kinds.File faults.Missing → RefusesFile d (object_at kinds.File (as_spot h)) end
node_missing d h node end is none ended = refuses d (object_fault d kinds.File (object_at kinds.File (as_spot h))) faults.Missing end ended (ap (object_fault d kinds.File) (node_none h node is none))

module _ (d : List ℕ) (h : Held) (mode size : ℕ) (node : IsNode h (nodes.File mode size)) where
  stands : object_at kinds.File (as_spot h) ≡ Some (objects.File mode (bytes_of h))
  stands = ap (λ x. object_at kinds.File (as_spot x)) (node_file h mode size node).0

  pub node_sized : IsFileOf mode size (object_at kinds.File (as_spot h))
  node_sized = record { bytes = bytes_of h; is = stands; long = sym (node_file h mode size node).1 }

  pub node_refused : (end : WalkEnd) → ((bytes : List ℕ) → length bytes ≡ size → RefusesFile d (Some (objects.File mode bytes)) end) → RefusesFile d (object_at kinds.File (as_spot h)) end
  node_refused end refused = subst (λ (o : Option Object). RefusesFile d o end) (sym stands) (refused (bytes_of h) (node_file h mode size node).1)

module _ (d : List ℕ) (h : Held) (text : List ℕ) (node : IsNode h (nodes.Link text)) where
  same_spot : object_at kinds.File (as_spot h) ≡ object_at kinds.File (points text)
  same_spot = ap (λ x. object_at kinds.File (as_spot x)) (node_link h text node)

  pub node_linked : IsGoodLink d text → object_at kinds.File (as_spot h) ≡ Some (objects.Link text)
  node_linked good = same_spot ∙ link_there text good.may_be

  pub node_unlinked : (end : WalkEnd) → RefusesFile d (object_at kinds.File (points text)) end → RefusesFile d (object_at kinds.File (as_spot h)) end
  node_unlinked end refused = subst (λ (o : Option Object). RefusesFile d o end) (sym same_spot) refused

-- ---- what the store has

pub refused_there : (d : List ℕ) (there : Option Object) (object : Object) (end : WalkEnd) → there ≡ Some object → RefusesFile d (Some object) end → RefusesBy (IsFaultThere d kinds.File there) end
refused_there d there object (ends.Refused w) is fault = record { object = object; is = is; fault = fault }
refused_there d there object ends.HostFault is fault = tt
refused_there d there object ends.RemoteFault is fault = tt
refused_there d there object ends.NoMemory is fault = tt

-- a file
module _ (d : List ℕ) (mode size : ℕ) (there : Option Object) (file : IsFileOf mode size there) where
  pub stored_refused : (end : WalkEnd) → ((bytes : List ℕ) → length bytes ≡ size → RefusesFile d (Some (objects.File mode bytes)) end) → RefusesBy (IsFaultThere d kinds.File there) end
  stored_refused end refused = refused_there d there (objects.File mode file.bytes) end file.is (refused file.bytes (sym file.long))

  pub stored_good : (got : List ℕ) → IsWithinLimits mode size → got ≡ file_digest mode file.bytes → got ≡ d → IsGoodThere d there
  stored_good got limits is same = record { object = objects.File mode file.bytes; is = file.is; good = file_good d mode size file.bytes (omega (arith, file.long)) limits got is same }

  pub stored_corrupt : (got : List ℕ) (end : WalkEnd) → IsWithinLimits mode size → got ≡ file_digest mode file.bytes → (got ≡ d → ⊥) → end ≡ refusal d kinds.File (faults.Corrupt got) → RefusesBy (IsFaultThere d kinds.File there) end
  stored_corrupt got end limits is off ended = refused_there d there (objects.File mode file.bytes) end file.is (file_corrupt d mode size file.bytes (omega (arith, file.long)) limits got end is off ended)

-- a link
pub text_good : (d text : List ℕ) → IsGoodLink d text → IsGoodThere d (Some (objects.Link text))
text_good d text good = record { object = objects.Link text; is = refl; good = good.good }

pub text_refused : (d text : List ℕ) (end : WalkEnd) → is_link_text text ≡ true → RefusesFile d (object_at kinds.File (points text)) end → RefusesBy (IsFaultThere d kinds.File (Some (objects.Link text))) end
text_refused d text end good refused = refused_there d (Some (objects.Link text)) (objects.Link text) end refl (subst (λ (o : Option Object). RefusesFile d o end) (link_there text good) refused)
