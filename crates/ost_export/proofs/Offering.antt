-- What is exported is offered.
use Rattle.std.proofs.Common.{◌≡◌, ℕ, List, [], ◌∷◌, length, true, Some, None, Ok, refl, ◌∙◌, ap, arith, length-append}
use Rattle.std.specs.Prelude.{◌*◌, ◌≤◌, if◌then◌else◌}
use Rattle.std.specs.Str.{is_utf8, chars}
use Rattle.std.proofs.lemmas.Bool.{le-leb}
use lib.Utf8.{encode}
use Rattle.fp_keyfile.specs.KeyFile.{file_of, with_pair, with_group, value_at}
use Rattle.fp_keyfile.specs.Lines.{line_says}
use Rattle.fp_host.specs.Paths.{Elements}
use Rattle.fp_host.specs.Outcome.{Spot, gone, folder, holds, points, Disk}
use Rattle.fp_host.specs.Remote.{contents}
use Rattle.fp_name.specs.Hex.{hex, is_digest}
use Rattle.fp_name.specs.Refs.{Ref}
use Rattle.fp_name.proofs.Lengths.{digest_long}
use Rattle.fp_base.specs.declared.object.ObjKind.{ObjKind}
use Rattle.fp_base.specs.declared.object.ObjKind.TheVariants as kinds
use Rattle.fp_small.specs.declared.state.RemoteRow.{RemoteRow}
use Rattle.ost_model.specs.Objects.{Have, object_path, object_at, store}
use Rattle.ost_model.specs.Remotes.{as_spot, remote_at}
use Rattle.ost_refs.specs.Files.{ref_bytes}
use Rattle.ost_refs.specs.declared.place.RefFile.TheVariants as files
use Rattle.ost_refs.proofs.Files.{written}
use Rattle.ost_refs.specs.Offers.{small_file, mode_in, wrong_mode, ref_said, ref_at, commit_said, after_mode, offered}
use Rattle.ost_export.specs.Exports.{config_text, IsOffered}
use Rattle.ost_export.specs.Remotes.{held_of, held_at}

no_mode_refused : mode_in (small_file (1024 * 1024) (contents 420 config_text)) ≡ None
unfolding file_of line_says with_pair with_group value_at is_utf8 chars encode
no_mode_refused = refl

ref_reads : (d : List ℕ) → is_digest d ≡ true → ref_said (small_file 65 (contents 420 (ref_bytes d))) ≡ files.Digest d
ref_reads d good =
    let low : length (ref_bytes d) ≤ 65 = omega (arith, length-append (hex d) (10 ∷ []), digest_long d good) in
    ap (λ b. ref_said (if b then Some (ref_bytes d) else None)) (le-leb (length (ref_bytes d)) 65 low) ∙ written d good

pub is_found : (have : Have) (root : Elements) (r : Ref) (commit : List ℕ) (disk : Disk) (remote : RemoteRow) → is_digest commit ≡ true → IsOffered have root r commit disk → offered (held_at root disk) remote r ≡ Ok commit
is_found have root r commit disk remote good is =
    let mode : wrong_mode (held_at root disk) remote.url ≡ None = ap (λ (s : Spot). mode_in (small_file (1024 * 1024) (held_of s))) is.config.1 ∙ no_mode_refused in
    let ref : ref_at (held_at root disk) remote.url r ≡ files.Digest commit = ap (λ (s : Spot). ref_said (small_file 65 (held_of s))) is.ref.1 ∙ ref_reads commit good in
    ap (λ m. after_mode remote m (commit_said remote r (ref_at (held_at root disk) remote.url r))) mode ∙ ap (commit_said remote r) ref

same_object : (kind : ObjKind) (spot : Spot) → object_at kind (as_spot (held_of spot)) ≡ object_at kind spot
same_object kinds.Commit gone = refl
same_object kinds.Commit folder = refl
same_object kinds.Commit (holds id mode bytes) = refl
same_object kinds.Commit (points text) = refl
same_object kinds.DirTree gone = refl
same_object kinds.DirTree folder = refl
same_object kinds.DirTree (holds id mode bytes) = refl
same_object kinds.DirTree (points text) = refl
same_object kinds.DirMeta gone = refl
same_object kinds.DirMeta folder = refl
same_object kinds.DirMeta (holds id mode bytes) = refl
same_object kinds.DirMeta (points text) = refl
same_object kinds.File gone = refl
same_object kinds.File folder = refl
same_object kinds.File (holds id mode bytes) = refl
same_object kinds.File (points text) = refl

pub same_objects : (root : Elements) (disk : Disk) (url d : List ℕ) (kind : ObjKind) → remote_at (held_at root disk) url d kind ≡ store root disk d kind
same_objects root disk url d kind = same_object kind (disk (object_path root d kind))
