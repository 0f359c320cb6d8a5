-- The status of names that aren't files.
use Rattle.std.specs.Prelude.{◌≡◌}
use Rattle.fp_host.specs.Paths.{Slot, absent, dir, file, link}
use Rattle.fp_host.specs.declared.host.Stat.{Stat}
use Rattle.fp_host.specs.declared.host.Stat.TheVariants.{Absent, Dir, Link}

-- `s` is the status of the entry, which isn't a file
abbrev pub IsOtherStat : Slot → Stat → Type 0
IsOtherStat absent s = s ≡ Absent
IsOtherStat dir s = s ≡ Dir
IsOtherStat (link text) s = s ≡ Link
IsOtherStat (file id) s = ⊥
