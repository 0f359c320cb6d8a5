-- Whether a file stands at a path.
use Rattle.std.proofs.Common.{◌≡◌, ℕ, Ok, subst, length}
use Rattle.fp_host.specs.Paths.{Elements}
use Rattle.fp_host.specs.View.{View}
use Rattle.fp_host.specs.Calls.{IsFile}
use Rattle.fp_host.specs.Reads.{StatOf, IsStat}
use Rattle.fp_host.specs.declared.host.Stat.{Stat}
use Rattle.fp_host.specs.declared.host.Stat.TheVariants.{File as StatFile}
use Rattle.fp_host.proofs.Slots.{file_of}

pub stat_is_file : {p : Elements} {v w : View} {id mode size : ℕ} → StatOf p (Ok (StatFile id mode size)) v w → IsFile (v.names p)
stat_is_file {p = p} {v = v} {id = id} {mode = mode} {size = size} stat = file_of v (v.names p) id mode size stat.tells.1

pub stat_of_file : {p : Elements} {s : Stat} {v w : View} → StatOf p (Ok s) v w → IsFile (v.names p) → (id : ℕ) × (mode : ℕ) × (size : ℕ) × (s ≡ StatFile id mode size)
stat_of_file {p = p} {s = s} {v = v} stat is =
    let told = subst (λ e. IsStat v e s) is.1 stat.tells.1 in
    (is.0, told.0.mode, length told.0.bytes, told.2)
