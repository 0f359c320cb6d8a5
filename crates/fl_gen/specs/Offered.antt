-- The offers of a remote at a URL.
use Rattle.std.specs.Prelude.{◌≡◌, ℕ, List, Some, None, Ok}
use Rattle.fp_host.specs.Remote.{Holdings}
use Rattle.fp_base.specs.declared.object.ObjKind.{ObjKind}
use Rattle.fp_small.specs.declared.state.RemoteRow.{RemoteRow}
use Rattle.ost_model.specs.declared.object.Object.{Object}
use Rattle.ost_model.specs.Order.{first_fault}
use Rattle.ost_model.specs.Remotes.{remote_at}
use Rattle.ost_commit.specs.declared.built.Built.{Built}
use Rattle.ost_commit.specs.Built.{BuiltCommit}
use Rattle.ost_commit.specs.Objects.{have_of}
use Rattle.ost_refs.specs.Offers.{offered}
use Rattle.fl_gen.specs.declared.filling.TheConstants.{SUBJECT}
use Rattle.fl_gen.specs.Made.{Ware}

-- Any remote with the URL, whatever its name, offers the commit of the tree under the ref. The
-- commit has no fault, and all of its objects are there.
pub record Offers (held : Holdings) (url : List ℕ) (version : ℕ) (w : Ware) : Type 0 where
  pub built : Built
  pub shows : BuiltCommit w.rows w.name SUBJECT.now version built
  pub offered : (remote : RemoteRow) → remote.url ≡ url
      → offered held remote w.name ≡ Ok built.commit
  pub clean : first_fault (remote_at held url) built.commit ≡ None
  pub supplied : (d : List ℕ) (kind : ObjKind) (object : Object)
      → have_of built.objects d kind ≡ Some object → remote_at held url d kind ≡ Some object
