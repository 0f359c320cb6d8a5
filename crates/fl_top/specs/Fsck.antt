-- The findings of `fsck` in the store of an image, and their lines.
use Rattle.std.specs.Prelude.{◌≡◌, ◌⊎◌, ℕ, List, ◌++◌, Bool, true, false, count_by, flat_map}
use Rattle.fp_host.specs.View.{View}
use Rattle.fp_host.specs.Outcome.{Disk, shows}
use Rattle.fp_small.specs.Places.{repo}
use Rattle.ost_store.specs.Names.{CanList}
use Rattle.ost_fsck.specs.declared.report.Finding.{Finding}
use Rattle.ost_fsck.specs.declared.report.Finding.TheVariants as findings
use Rattle.ost_fsck.specs.declared.report.Report.{Report}
use Rattle.ost_fsck.specs.Report.{Reports}
use Rattle.dep_open.specs.Open.{NotShown}
use Rattle.fl_lines.specs.Lines.{bad_text, stray_text, fsck_text}

-- ---- what is printed of a report

-- The line of a finding
abbrev pub finding_text : Finding → List ℕ
finding_text (findings.Bad d kind) = bad_text d kind
finding_text (findings.Stray path) = stray_text path

-- Tests whether a finding is a bad object
abbrev pub is_bad : Finding → Bool
is_bad (findings.Bad d kind) = true
is_bad (findings.Stray path) = false

-- The text of a report: a line for each finding, and a last line with the number of objects and the
-- number of bad ones
abbrev pub report_text : Report → List ℕ
report_text report = flat_map finding_text report.findings
    ++ fsck_text report.objects (count_by is_bad report.findings)

-- ---- what is found

-- The report is that of the image's store; any report, if the image shows no state, since then the
-- store isn't looked at
abbrev pub Finds : Disk → Report → Type 0
Finds disk report = Reports repo disk report ⊎ NotShown disk

-- The image's store has a report, or the image shows no state
abbrev pub HasReport : Disk → Type 0
HasReport disk = (report : Report) × Finds disk report

-- No path below the store's `objects` has more than 128 elements, or no state is shown
abbrev pub IsListable : View → Type 0
IsListable v = CanList repo v ⊎ NotShown (shows v)

-- The text is that of a report of the image's store
pub record IsReportText (disk : Disk) (text : List ℕ) : Type 0 where
  pub report : Report
  pub reports : Reports repo disk report
  pub is : text ≡ report_text report
