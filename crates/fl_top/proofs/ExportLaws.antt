-- What is promised of exported files can be met.
use Rattle.std.proofs.Common.{◌≡◌, ◌≢◌, inl, inr, ℕ, List, [], ◌∷◌, ◌++◌, Option, Contains, refl, sym, ◌∙◌, ap, subst, codes}
use Rattle.std.specs.List.{AllByRecursion}
use Rattle.fp_base.proofs.Lists.{in_none, in_first, in_rest, in_cases}
use Rattle.fp_host.specs.Paths.{Elements, absent}
use Rattle.fp_host.specs.Remote.{Holdings}
use Rattle.fp_host.specs.View.{View, IsTree}
use Rattle.fp_host.specs.Outcome.{Spot, Disk, IsSettled, shows, spot_of}
use Rattle.fp_host.proofs.Settled.{settled_disk}
use Rattle.fp_host.proofs.Shown.{now_left}
use Rattle.fp_small.specs.Clear.{IsWithin}
use Rattle.fp_small.specs.Places.{repo}
use Rattle.ost_model.specs.Objects.{store}
use Rattle.dep_states.specs.Samples.{empty_disk, empty_state}
use Rattle.dep_states.proofs.Empty.{empty_settled}
use Rattle.dep_states.proofs.Images.{bare_opens}
use Rattle.dep_states.proofs.Rows.{each_at}
use Rattle.fl_export.specs.Exported.{exported, desktop_row, icon_row}
use Rattle.fl_export.specs.Placed.{exports, places_of, IsExported, ExportsAre}
use Rattle.fp_host.specs.Outcome.{IsLeafSpot}
use Rattle.fl_export.specs.Sample as sample
use Rattle.fl_export.specs.declared.rows.ExportRow.{ExportRow}
use Rattle.fl_export.proofs.Samples.{stable_exported}
use Rattle.fl_change.specs.Answer.{text_answer}
use Rattle.fl_change.proofs.Same.{same_settled}
use Rattle.fl_installed.specs.Deployed.{DeployedFiles}
use Rattle.fl_top.specs.Answer.{listing_answer}
use Rattle.fl_top.specs.Exports.{exports_text, LeavesExports, IsInStep}
use Rattle.fl_top.specs.ExportSample.{desktop_text, desktop_place, icon_place, placed_rows, placed_disk, stale_place, stale_disk, listed_text}
use Rattle.fl_words.specs.declared.command.Listing.TheVariants as listings

-- ---- the root alone

nothing_exported : (disk : Disk) → exported (store repo disk) empty_state ≡ []
unfolding exported
nothing_exported disk = refl

-- a path at or below `exports` isn't the root
within_some : (q : Elements) → IsWithin exports q → q ≢ []
within_some [] (inl same) none = cc same
within_some [] (inr none) same = none
within_some (x ∷ up) within none = cc none

bare_exports : (v : View) → IsTree v → IsSettled v → ((x : List ℕ) (up : Elements) → v.names (x ∷ up) ≡ absent) → LeavesExports v
bare_exports v tree settled none disk left = record {
  state = empty_state;
  shown = (bare_opens v tree settled none).shown disk left;
  are = subst (λ (rows : List ExportRow). ExportsAre rows disk) (sym (nothing_exported disk)) (record { each = λ row has. absurd (in_none row has); only = λ q within no leaf. gone_at q within leaf });
}
  where
    gone_at : (q : Elements) → IsWithin exports q → IsLeafSpot (disk q) → ⊥
    gone_at [] within leaf = within_some [] within refl
    gone_at (x ∷ up) within leaf = subst IsLeafSpot (settled_disk v tree settled disk left (x ∷ up) ∙ ap (spot_of v.files) (none x up)) leaf

-- and nothing stands there that isn't settled
pub bare_in_step : (holds : Option Holdings) (u v : View) → IsTree v → IsSettled v → ((x : List ℕ) (up : Elements) → v.names (x ∷ up) ≡ absent) → IsInStep ⊥ holds u v
bare_in_step holds u v tree settled none = record {
  exports = bare_exports v tree settled none;
  rests = λ held is before. record { settled = same_settled stands empty_settled; exports = bare_exports v tree settled none (shows v) (now_left v) };
}
  where
    stands : (q : Elements) → shows v q ≡ empty_disk q
    stands [] = settled_disk v tree settled (shows v) (now_left v) [] ∙ ap (spot_of v.files) tree.root
    stands (x ∷ up) = settled_disk v tree settled (shows v) (now_left v) (x ∷ up) ∙ ap (spot_of v.files) (none x up)

-- ---- the files and links of a small application

abbrev rows : List ExportRow
rows = sample.exports sample.stable desktop_text

abbrev desktop : ExportRow
desktop = desktop_row sample.stable (codes "org.x.App.desktop") desktop_text

abbrev icon : ExportRow
icon = icon_row sample.stable (codes "48x48") (codes "org.x.App.png")

-- elsewhere no file and no link stands
abbrev IsOther : Elements → Spot → Type 0
IsOther p spot = (Contains (places_of rows) p → ⊥) → IsLeafSpot spot → ⊥

pub placed_are : ExportsAre rows placed_disk
placed_are = record { each = each; only = λ q within no leaf. each_at IsOther (λ p no leaf. leaf) placed_rows all q no leaf }
  where
    all : AllByRecursion (λ row. IsOther row.0 row.1) placed_rows
    all = (λ no leaf. leaf, (λ no leaf. no (in_first desktop_place (icon_place ∷ [])), (λ no leaf. no (in_rest desktop_place (icon_place ∷ []) icon_place (in_first icon_place [])), tt)))

    each : (row : ExportRow) → Contains rows row → IsExported row.what (placed_disk (row.path ++ exports))
    each row has = elim (in_cases desktop (icon ∷ []) row has) [
      | inl first ↦ subst (λ (r : ExportRow). IsExported r.what (placed_disk (r.path ++ exports))) (sym first) (1, refl)
      | inr more ↦ elim (in_cases icon [] row more) [
        | inl second ↦ subst (λ (r : ExportRow). IsExported r.what (placed_disk (r.path ++ exports))) (sym second) refl
        | inr none ↦ absurd (in_none row none)
      ]
    ]

-- and with one link more
pub stale_are_not : ExportsAre rows stale_disk → ⊥
stale_are_not are = are.only stale_place (inr (inr (inr (inr (inr (inr (inl refl))))))) apart tt
  where
    apart : Contains (places_of rows) stale_place → ⊥
    apart has = elim (in_cases desktop_place (icon_place ∷ []) stale_place has) [
      | inl same ↦ cc same
      | inr more ↦ elim (in_cases icon_place [] stale_place more) [ inl same ↦ cc same | inr none ↦ in_none stale_place none ]
    ]

-- ---- and as they are listed

pub exports_listed : (files : DeployedFiles) → listing_answer files listings.Exports (record { state = sample.state (sample.row sample.stable ∷ []); have = sample.have }) ≡ text_answer listed_text
exports_listed files = ap (λ (found : List ExportRow). text_answer (exports_text found)) stable_exported
