-- What is exported depends on the objects of the kept commits, also where these have faults. So what is
-- listed is the same over the installation's store and over the world's objects.
use Rattle.std.proofs.Common.{◌≡◌, inl, inr, List, [], ◌∷◌, refl, ap}
use Rattle.fp_host.specs.Outcome.{Disk}
use Rattle.fp_small.specs.Places.{repo}
use Rattle.fp_small.specs.declared.state.State.{State}
use Rattle.fp_small.specs.declared.state.RefRow.{RefRow}
use Rattle.ost_model.specs.Objects.{Have, store}
use Rattle.ost_model.specs.Order.{In}
use Rattle.ost_model.proofs.Members.{in_right}
use Rattle.dep_tidy.specs.Kept.{kept_by, kept_of}
use Rattle.fl_installed.specs.Deployed.{DeployedFiles}
use Rattle.fl_words.specs.declared.command.Listing.{Listing}
use Rattle.fl_words.specs.declared.command.Listing.TheVariants as listings
use Rattle.fl_change.specs.Answer.{text_answer}
use Rattle.fl_change.specs.World.{world_in, used_of}
use Rattle.fl_change.proofs.Worlds.{used_kept}
use Rattle.fl_export.specs.Exported.{exported}
use Rattle.fl_export.specs.declared.rows.ExportRow.{ExportRow}
use Rattle.fl_export.proofs.Local.{exported_is_local}
use Rattle.fl_top.specs.Answer.{listing_answer}
use Rattle.fl_top.specs.Exports.{exports_text}

commit_kept : (rows : List RefRow) (row : RefRow) → In rows row → In (kept_of rows) row.commit
commit_kept [] row none = absurd none
commit_kept (y ∷ rows) row (inl same) = inl (ap (λ (r : RefRow). r.commit) same)
commit_kept (y ∷ rows) row (inr more) = in_right (kept_by y) (kept_of rows) row.commit (commit_kept rows row more)

-- what is exported over the world of an image is what is exported over its store
pub exported_world : (s : State) (have : Have) → exported (used_of s have) s ≡ exported have s
exported_world s have = exported_is_local have (used_of s have) s (λ row h p inside. used_kept s have row.commit (commit_kept s.refs row h) p inside)

-- what is listed over the world of an image is what is listed over its store
pub listed_world : (files : DeployedFiles) (listing : Listing) (s : State) (disk : Disk) → listing_answer files listing (world_in s disk) ≡ listing_answer files listing (record { state = s; have = store repo disk })
listed_world files listings.Refs s disk = refl
listed_world files listings.Pins s disk = refl
listed_world files listings.Remotes s disk = refl
listed_world files listings.Exports s disk = ap (λ (rows : List ExportRow). text_answer (exports_text rows)) (exported_world s (store repo disk))
listed_world files (listings.Info name) s disk = refl
listed_world files (listings.Launch name options) s disk = refl
listed_world files (listings.OverrideShow name) s disk = refl
