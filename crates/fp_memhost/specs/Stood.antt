-- The entries that names were given, as the code represents them.
use Rattle.fp_host.specs.Paths.{Elements, Slot}
use Rattle.fp_memhost.specs.declared.stood.Stood.{Stood}
use Rattle.fp_memhost.specs.Names.{slot_of}

-- The model's pair for a name and its entry
abbrev pub stood_of : Stood → Elements × Slot
stood_of s = (s.path, slot_of s.entry)
