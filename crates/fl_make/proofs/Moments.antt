-- A remote that is made, over the moments of a host.
use Rattle.std.proofs.Common.{◌≡◌, ℕ, List, Option}
use Rattle.fp_host.specs.View.{View, IsTree}
use Rattle.fp_host.specs.Frame.{AtEnd}
use Rattle.fp_host.specs.Moments.{Moments, Goes, Always}
use Rattle.fp_host.proofs.Ending.{goes_known}
use Rattle.fp_host.proofs.Framed.{IsTold}
use Rattle.fp_host.proofs.Goes.{begins, ends_tree}
use Rattle.fp_name.specs.Refs.{Ref}
use Rattle.fp_small.proofs.Sharing.{shares_to}
use Rattle.ost_commit.specs.declared.built.Built.{Built}
use Rattle.ost_commit.specs.Objects.{have_of}
use Rattle.ost_description.specs.Commits.{IsDescribed, IsRead}
use Rattle.ost_description.specs.Descriptions.{described}
use Rattle.ost_export.specs.Exports.{ExportsSynced, WasExported}
use Rattle.fl_lines.specs.Lines.{made_text}
use Rattle.fl_make.specs.Making.{remote_store, Makes, WasMade}
use Rattle.fl_make.proofs.Kept.{kept_within, makes, settled_made, creates_made}

module _ (remote : List ℕ) (r : Ref) (bytes : List ℕ) (built : Built) (d : IsDescribed bytes r built) where
  read : IsRead (described bytes)
  read = record { description = d.description; is = d.reads }

  pub made_moments : {a b : Option Moments} → IsTold a → Always (ExportsSynced (have_of built.objects) (remote_store remote) r built.commit) a b → Always (Makes remote r bytes) a b
  made_moments told goes = begins told goes (λ u w tree p. makes remote r read tree p) (λ u w tree p q. makes remote r read tree q)

  pub made_end : {a b : Option Moments} (line : List ℕ) → line ≡ made_text built.commit → IsTold a → IsTold b → Always (ExportsSynced (have_of built.objects) (remote_store remote) r built.commit) a b
      → AtEnd (WasExported (have_of built.objects) (remote_store remote) r built.commit) a b → AtEnd (WasMade remote r bytes line) a b
  made_end {a = a} {b = b} line is told told' goes was =
      let E : View → View → Type 0 = ExportsSynced (have_of built.objects) (remote_store remote) r built.commit in
      let W : View → View → Type 0 = WasExported (have_of built.objects) (remote_store remote) r built.commit in
      let both : Goes a b E (λ u w. IsTree w × (E u w × W u w)) = ends_tree told' (goes_known goes was) (λ u w tree q. (tree, q)) in
      record {
        goes = begins told both (λ u w tree p. tt)
            (λ u w tree p q. record { built = built; described_by = d; line_is = is; exported = q.1.1; settled = settled_made remote r tree q.0 q.1.1 q.1.0; shares = shares_to (kept_within remote r) q.1.1.shares; creates = creates_made remote r q.1.0 });
      }
