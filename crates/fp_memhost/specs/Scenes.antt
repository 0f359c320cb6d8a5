-- The views that the code's names and files represent.
use Rattle.std.specs.Prelude.{ℕ, List, map}
use Rattle.fp_host.specs.Paths.{Elements, Slot}
use Rattle.fp_host.specs.View.{View}
use Rattle.fp_memhost.specs.declared.names.Name.{Name}
use Rattle.fp_memhost.specs.declared.files.Content.{Content}
use Rattle.fp_memhost.specs.declared.scene.Scene.{Scene}
use Rattle.fp_memhost.specs.Stood.{stood_of}
use Rattle.fp_memhost.specs.Names.{names_of, earlier_of}
use Rattle.fp_memhost.specs.Files.{files_of, dirty_of}

-- The view of these names and files, printed bytes and remembered entries
abbrev pub view_from : List Name → List Content → List ℕ → List (Elements × Slot) → View
view_from names files printed stood = record {
  names = names_of names;
  files = files_of files;
  earlier = earlier_of names;
  dirty = dirty_of files;
  printed = printed;
  stood = stood;
}

-- The view that a scene represents
abbrev pub seen : Scene → View
seen s = view_from s.names.items s.files.items s.printed.items (map stood_of s.stood.items)
