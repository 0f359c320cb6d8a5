-- What a metadata object says has one digest.
use Rattle.std.proofs.Common.{◌≡◌, ℕ, List, true, Option, Some, None, sym, ◌∙◌, ap, subst}
use Rattle.std.specs.Prelude.{Ok}
use Rattle.gv_value.specs.Shape.{Shape}
use Rattle.gv_value.specs.Tree.{Tree}
use Rattle.gv_value.specs.Spelled.{Spelled}
use Rattle.gv_value.specs.Spelling.{fits}
use Rattle.gv_value.proofs.Exact.{spells_values, one_spelling_each}
use Rattle.fp_base.specs.declared.object.ObjKind.{ObjKind}
use Rattle.fp_base.specs.declared.rule.Rule.{Rule}
use Rattle.ost_model.specs.declared.object.Object.{Object}
use Rattle.ost_model.specs.declared.object.Object.TheVariants as objects
use Rattle.ost_model.specs.Contents.{meta_digest}
use Rattle.ost_model.specs.Fields.{CommitView, TreeView, MetaView, commit_in, tree_in, meta_in}
use Rattle.ost_model.specs.Types.{commit_shape, tree_shape, meta_shape}
use Rattle.ost_model.specs.Readers.{commit_breaks, tree_breaks, meta_breaks, commit_read, tree_read, meta_read, commit_of, tree_of, meta_of}
use Rattle.ost_model.specs.Objects.{object_fault}
use Rattle.ost_model.specs.Order.{read_as}
use Rattle.ost_model.proofs.Readers.{read_some}
use Rattle.ost_object.specs.Values.{meta_value}
use Rattle.ost_object.proofs.OneCommit.{commit_value, commit_is}
use Rattle.ost_object.proofs.OneTree.{tree_value, tree_is}
use Rattle.ost_object.proofs.OneValue.{meta_is}
use Rattle.ost_object.proofs.Written.{read, read_is}
use Rattle.ost_commit.proofs.Reading.{digest_if_good}

-- bytes of this digest that read as this
pub record SaidBy {Y : Type 0} (of : List ℕ → Option Y) (d : List ℕ) (y : Y) : Type 0 where
  pub bytes : List ℕ
  pub reads : of bytes ≡ Some y
  pub digest : meta_digest bytes ≡ d

-- an object without a fault is such bytes
pub said_by : {Y : Type 0} (of : List ℕ → Option Y) (kind : ObjKind) (d : List ℕ) (o : Option Object) (y : Y) → object_fault d kind o ≡ None → read_as of o ≡ Some y → SaidBy of d y
said_by of kind d None y good reads = absurd (cc reads)
said_by of kind d (Some (objects.File mode bytes)) y good reads = absurd (cc reads)
said_by of kind d (Some (objects.Link text)) y good reads = absurd (cc reads)
said_by of kind d (Some (objects.Meta bytes)) y good reads = record { bytes = bytes; reads = reads; digest = digest_if_good d kind (objects.Meta bytes) good }

module _ {Y : Type 0} (t : Shape) (into : Tree → Option Y) (breaks : Y → Option Rule) where
  -- where one value says this, one spelling does
  one_bytes : (y : Y) (value : Tree) → ((v : Tree) → fits t v ≡ true → into v ≡ Some y → v ≡ value) → (a b : List ℕ) → read t into breaks a ≡ Ok y → read t into breaks b ≡ Ok y → a ≡ b
  one_bytes y value only a b reads_a reads_b = one_spelling_each t value a b (spelled a reads_a) (spelled b reads_b)
    where
      spelled : (bytes : List ℕ) → read t into breaks bytes ≡ Ok y → Spelled t value bytes
      spelled bytes reads =
          let r = read_is t into breaks bytes y reads in
          subst (λ (v : Tree). Spelled t v bytes) (only r.value ((spells_values t r.value bytes).0 r.spelled).0 r.says) r.spelled

same_digest : (a b d e : List ℕ) → a ≡ b → meta_digest a ≡ d → meta_digest b ≡ e → d ≡ e
same_digest a b d e same at_a at_b = sym at_a ∙ ap meta_digest same ∙ at_b

pub one_commit_digest : (y : CommitView) (d e : List ℕ) → SaidBy commit_of d y → SaidBy commit_of e y → d ≡ e
one_commit_digest y d e a b = same_digest a.bytes b.bytes d e
    (one_bytes commit_shape commit_in commit_breaks y (commit_value y) (λ v fit is. commit_is y v fit is) a.bytes b.bytes (read_some (commit_read a.bytes) y a.reads) (read_some (commit_read b.bytes) y b.reads))
    a.digest b.digest

pub one_tree_digest : (y : TreeView) (d e : List ℕ) → SaidBy tree_of d y → SaidBy tree_of e y → d ≡ e
one_tree_digest y d e a b = same_digest a.bytes b.bytes d e
    (one_bytes tree_shape tree_in tree_breaks y (tree_value y) (λ v fit is. tree_is v y is) a.bytes b.bytes (read_some (tree_read a.bytes) y a.reads) (read_some (tree_read b.bytes) y b.reads))
    a.digest b.digest

pub one_meta_digest : (y : MetaView) → y.bare ≡ true → (d e : List ℕ) → SaidBy meta_of d y → SaidBy meta_of e y → d ≡ e
one_meta_digest y bare d e a b = same_digest a.bytes b.bytes d e
    (one_bytes meta_shape meta_in meta_breaks y (meta_value y) (λ v fit is. meta_is y bare v fit is) a.bytes b.bytes (read_some (meta_read a.bytes) y a.reads) (read_some (meta_read b.bytes) y b.reads))
    a.digest b.digest

-- and no rule is broken
pub breaks_none : (y : TreeView) (d : List ℕ) → SaidBy tree_of d y → tree_breaks y ≡ None
breaks_none y d a = (read_is tree_shape tree_in tree_breaks a.bytes y (read_some (tree_read a.bytes) y a.reads)).good
