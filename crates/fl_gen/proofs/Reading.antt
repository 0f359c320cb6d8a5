-- Objects that are what their digests name, read back from where they stand.
use Rattle.std.proofs.Common.{◌≡◌, ℕ, List, true, Some, None, refl, arith}
use Rattle.std.specs.Prelude.{leb, bit_and}
use Rattle.std.proofs.lemmas.Bool.{cond-true, le-leb}
use Rattle.std.proofs.lemmas.Bool.Decides.{nat_tests}
use Rattle.std.proofs.lemmas.Nat.{and_le_r}
use Rattle.fp_base.specs.declared.object.ObjKind.{ObjKind}
use Rattle.fp_base.specs.declared.object.ObjKind.TheVariants as kinds
use Rattle.fp_host.specs.Paths.{is_link_text}
use Rattle.ost_model.specs.declared.object.Object.{Object}
use Rattle.ost_model.specs.declared.object.Object.TheVariants as objects
use Rattle.ost_model.specs.Contents.{is_permission}
use Rattle.ost_model.specs.Objects.{missing, kind_fault, content_fault, name_fault, is_of_kind, object_at}
use Rattle.ost_model.proofs.Places.{or_none}
use Rattle.ost_model.proofs.Faults.{unless_none, file_bits}
use Rattle.ost_commit.specs.declared.built.BuiltObject.{BuiltObject}
use Rattle.ost_commit.specs.Objects.{IsNamed}
use Rattle.fl_gen.specs.Stores.{Reads, has_link_text, object_bits, object_spot}

of_kind : (d : List ℕ) (kind : ObjKind) (object : Object) → name_fault d kind (Some object) ≡ None → is_of_kind kind object ≡ true
of_kind d kind object named = unless_none (is_of_kind kind object) missing (or_none (kind_fault kind object) (content_fault d kind object) named).0

reads_by : (kind : ObjKind) (object : Object) → is_of_kind kind object ≡ true → has_link_text object ≡ true → object_at kind (object_spot object) ≡ Some object
reads_by kinds.Commit (objects.Meta bytes) of text = refl
reads_by kinds.DirTree (objects.Meta bytes) of text = refl
reads_by kinds.DirMeta (objects.Meta bytes) of text = refl
reads_by kinds.File (objects.Meta bytes) of text = absurd (cc of)
reads_by kinds.Commit (objects.File mode bytes) of text = absurd (cc of)
reads_by kinds.DirTree (objects.File mode bytes) of text = absurd (cc of)
reads_by kinds.DirMeta (objects.File mode bytes) of text = absurd (cc of)
reads_by kinds.File (objects.File mode bytes) of text = refl
reads_by kinds.Commit (objects.Link target) of text = absurd (cc of)
reads_by kinds.DirTree (objects.Link target) of text = absurd (cc of)
reads_by kinds.DirMeta (objects.Link target) of text = absurd (cc of)
reads_by kinds.File (objects.Link target) of text = cond-true (is_link_text target) (Some (objects.Link target)) None text

pub named_reads : (o : BuiltObject) → IsNamed o → has_link_text o.object ≡ true → Reads o
named_reads o named text = reads_by o.kind o.object (of_kind o.digest o.kind o.object named) text

low_bits : (mode : ℕ) → is_permission mode ≡ true → leb mode 4095 ≡ true
low_bits mode permission =
    let same : bit_and mode 0x1FD ≡ mode = grind (arith, nat_tests) in
    let low = and_le_r mode 0x1FD in
    le-leb mode 4095 (omega arith)

bits_by : (d : List ℕ) (kind : ObjKind) (object : Object) → name_fault d kind (Some object) ≡ None → object_bits object ≡ true
bits_by d kind (objects.Meta bytes) named = refl
bits_by d kind (objects.File mode bytes) named = low_bits mode (file_bits d kind mode bytes named)
bits_by d kind (objects.Link text) named = refl

pub named_bits : (o : BuiltObject) → IsNamed o → object_bits o.object ≡ true
named_bits o named = bits_by o.digest o.kind o.object named
