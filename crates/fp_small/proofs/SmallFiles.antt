-- Files that are read whole.
use Rattle.std.proofs.Common.{◌≡◌, ◌≤◌, ◌<◌, ◌-◌, ℕ, List, length, take, min, Some, Ok, refl, sym, ◌∙◌, ap, subst, arith, if◌then◌else◌}
use Rattle.std.proofs.lemmas.Bool.{le-leb, lt-leb}
use Rattle.std.proofs.Math.Nat.{min-le_left, le-min}
use Rattle.std.proofs.Math.Seq.{take-length}
use Rattle.fp_host.specs.Paths.{Elements, Slot, absent, dir, file, link}
use Rattle.fp_host.specs.View.{View, Inode, IsTree}
use Rattle.fp_host.specs.Outcome.{spot_of, holding}
use Rattle.fp_host.specs.Reads.{StatOf, IsStat, IsRead, ReadOf}
use Rattle.fp_host.specs.declared.host.Stat.TheVariants.{Absent, Dir, Link, File as StatFile}
use Rattle.fp_small.specs.Load.{Loads, IsWhole, loaded_of}
use Rattle.fp_small.specs.declared.loading.Loaded.{Loaded}
use Rattle.fp_small.specs.declared.loading.Loaded.TheVariants.{Bytes, Absent as NoFile, TooLong, NotFile}
use Rattle.fp_host.proofs.Settled.{at_tree}
use Rattle.fp_host.proofs.Slots.{link_of}
use Rattle.fp_small.proofs.Making.{stat_absent, stat_dir}

is_file_of : (v : View) (e : Slot) (id mode size : ℕ) → IsStat v e (StatFile id mode size) → (e ≡ file id) × ((f : Inode) × (v.files id ≡ Some f) × (size ≡ length f.bytes))
is_file_of v absent id mode size s = absurd (cc s)
is_file_of v dir id mode size s = absurd (cc s)
is_file_of v (link text) id mode size s = absurd (cc s)
is_file_of v (file k) id mode size s =
    let same : id ≡ k = cc s.2 in
    (ap file (sym same), (s.0, ap v.files same ∙ s.1, cc s.2))

pub stat_file : {p : Elements} {v w : View} {id mode size : ℕ} → StatOf p (Ok (StatFile id mode size)) v w → (v.names p ≡ file id) × ((f : Inode) × (v.files id ≡ Some f) × (size ≡ length f.bytes))
stat_file {p = p} {v = v} {id = id} {mode = mode} {size = size} stat = is_file_of v (v.names p) id mode size stat.tells.1

loads_spot : (v : View) (p : Elements) (most : ℕ) (e : Slot) (loaded : Loaded) → IsTree v → v.names p ≡ e → loaded ≡ loaded_of most (spot_of v.files e) → Loads p most v loaded
loads_spot v p most e loaded tree here is = record { is = is ∙ ap (λ slot. loaded_of most (spot_of v.files slot)) (sym (at_tree v tree p ∙ here)) }

pub loads_absent : {p : Elements} {most : ℕ} {v w : View} → IsTree v → StatOf p (Ok Absent) v w → Loads p most v NoFile
loads_absent {p = p} {most = most} {v = v} tree stat = loads_spot v p most absent NoFile tree (stat_absent stat) refl

pub loads_dir : {p : Elements} {most : ℕ} {v w : View} → IsTree v → StatOf p (Ok Dir) v w → Loads p most v NotFile
loads_dir {p = p} {most = most} {v = v} tree stat = loads_spot v p most dir NotFile tree (stat_dir stat) refl

pub loads_link : {p : Elements} {most : ℕ} {v w : View} → IsTree v → StatOf p (Ok Link) v w → Loads p most v NotFile
loads_link {p = p} {most = most} {v = v} tree stat = let is = link_of v (v.names p) stat.tells.1 in loads_spot v p most (link is.0) NotFile tree is.1 refl

pub loads_long : {p : Elements} {most : ℕ} {v w : View} {id mode size : ℕ} → IsTree v → StatOf p (Ok (StatFile id mode size)) v w → most < size → Loads p most v (TooLong size)
loads_long {p = p} {most = most} {v = v} {id = id} {size = size} tree stat long =
    let is = stat_file stat in
    let f = is.1.0 in
    loads_spot v p most (file id) (TooLong size) tree is.0
    (ap TooLong is.1.2 ∙ sym (ap (λ b. if b then Bytes f.bytes else TooLong (length f.bytes)) (lt-leb (length f.bytes) most (subst (λ n. most < n) is.1.2 long))) ∙ ap (λ row. loaded_of most (holding id row)) (sym is.1.1))

pub loads_whole : {p : Elements} {most : ℕ} {v w : View} {id mode size : ℕ} {bytes : List ℕ} → IsTree v → StatOf p (Ok (StatFile id mode size)) v w → size ≤ most → IsWhole p size v bytes → Loads p most v (Bytes bytes)
loads_whole {p = p} {most = most} {v = v} {id = id} {size = size} {bytes = bytes} tree stat short whole =
    let is = stat_file stat in
    let f = is.1.0 in
    loads_spot v p most (file id) (Bytes bytes) tree is.0
    (ap Bytes (whole.whole id f is.0 is.1.1 is.1.2) ∙ sym (ap (λ b. if b then Bytes f.bytes else TooLong (length f.bytes)) (le-leb (length f.bytes) most (subst (λ n. n ≤ most) is.1.2 short))) ∙ ap (λ row. loaded_of most (holding id row)) (sym is.1.1))

min_same : (n : ℕ) → min n (n - 0) ≡ n
min_same n = let same : n ≤ n - 0 = omega arith in let self : n ≤ n = omega arith in omega (arith, min-le_left n (n - 0), le-min self same)

read_of : (v : View) (id : ℕ) (f : Inode) (into : List ℕ) (n : ℕ) → v.files id ≡ Some f → length into ≡ length f.bytes → IsRead v (file id) 0 into n → take n into ≡ f.bytes
read_of v id f into n row long read =
    let same : read.0 ≡ f = cc (read.1, row) in
    let count : n ≡ length f.bytes = read.2 ∙ (λ i. min (long i) (length (same i).bytes - 0)) ∙ min_same (length f.bytes) in
    read.3 ∙ ap (λ (g : Inode). take n g.bytes) same ∙ ap (λ k. take k f.bytes) count ∙ take-length f.bytes

pub reads_whole : {p : Elements} {size count : ℕ} {into bytes : List ℕ} {v w : View} → ReadOf p 0 into (Ok count) v w → length into ≡ size → bytes ≡ take count into → IsWhole p size v bytes
reads_whole {p = p} {size = size} {count = count} {into = into} {bytes = bytes} {v = v} read long is =
    record { whole = λ id f here row fits. is ∙ read_of v id f into count row (long ∙ fits) (subst (λ e. IsRead v e 0 into count) here read.tells.1) }
