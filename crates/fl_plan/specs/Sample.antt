-- A small sample installation: an application, its runtime, its extension, a runtime that is
-- pinned, and one that nothing uses.
use Rattle.std.specs.Prelude.{List, [], ◌∷◌, true, Some, None, codes}
use Rattle.fp_name.specs.Refs.{Ref, ref_with}
use Rattle.fp_name.specs.declared.kind.RefKind.TheVariants.{App, Runtime}
use Rattle.fp_small.specs.declared.state.State.{State}
use Rattle.fp_small.specs.declared.state.RefRow.{RefRow}
use Rattle.fp_small.specs.declared.state.RemoteRow.{RemoteRow}
use Rattle.fp_small.specs.declared.state.Layout.TheVariants.{Two}
use Rattle.fl_meta.specs.declared.meta.Meta.{Meta}
use Rattle.fl_meta.specs.declared.meta.MetaKind.TheVariants as kinds
use Rattle.fl_extension.specs.declared.point.Point.{Point}

-- The application
abbrev pub app : Ref
app = ref_with App (codes "org.x.App") (codes "x86_64") (codes "stable")

-- The extension of the application
abbrev pub locale : Ref
locale = ref_with Runtime (codes "org.x.App.Locale") (codes "x86_64") (codes "stable")

-- The runtime that nothing uses
abbrev pub unneeded : Ref
unneeded = ref_with Runtime (codes "org.x.Old") (codes "x86_64") (codes "1")

-- The runtime that is pinned
abbrev pub pinned : Ref
pinned = ref_with Runtime (codes "org.x.Pinned") (codes "x86_64") (codes "1")

-- The runtime of the application
abbrev pub platform : Ref
platform = ref_with Runtime (codes "org.x.Platform") (codes "x86_64") (codes "1")

-- The row of a deployed ref
abbrev pub row : Ref → RefRow
row name = record { name = name; origin = codes "lab"; commit = []; timestamp = 0; previous = None }

-- The state of the installation
abbrev pub installation : State
installation = record {
  layout = Two;
  refs = row app ∷ row locale ∷ row unneeded ∷ row pinned ∷ row platform ∷ [];
  remotes = [];
  pins = codes "runtime/org.x.Pinned/*/*" ∷ [];
  overrides = [];
}

-- The metadata of the application
abbrev pub metas : List (Ref × Meta)
metas = (
  app,
  record {
    kind = kinds.App;
    runtime = Some platform;
    command = None;
    mentions = [];
    extensions = [];
  },
) ∷ []

-- An automatic extension point with these candidates
abbrev pub point : List Ref → Point
point candidates = record {
  name = codes "org.x.App.Locale";
  directory = codes "share/locale";
  candidates = candidates;
  auto = true;
}

-- A point of this owner, for which the application's extension is found
abbrev pub points : Ref → List (Ref × List Point)
points owner = (owner, point (locale ∷ unneeded ∷ []) ∷ []) ∷ []

-- An extension that isn't installed
abbrev pub missing : Ref
missing = ref_with Runtime (codes "org.x.Missing") (codes "x86_64") (codes "1")

-- A remote
abbrev pub lab : RemoteRow
lab = record { name = codes "lab"; url = codes "/lab" }
