-- Small files of a remote.
use Rattle.std.proofs.Common.{◌≡◌, ◌≤◌, ℕ, List, length, leb, Option, Some, None, refl, sym, ◌∙◌, ap, subst, arith}
use Rattle.std.specs.Prelude.{if◌then◌else◌}
use Rattle.std.proofs.lemmas.Bool.{le-leb}
use Rattle.fp_host.specs.Remote.{Held, nothing, directory, contents, target, IsNode, bytes_of}
use Rattle.fp_host.specs.declared.remotes.Node.{Node}
use Rattle.fp_host.specs.declared.remotes.Node.TheVariants as nodes
use Rattle.ost_refs.specs.Offers.{size_in, small_file}

pub loads_small : (most : ℕ) (h : Held) (mode size : ℕ) (bytes : List ℕ) → IsNode h (nodes.File mode size) → size ≤ most → (length (bytes_of h) ≡ size → bytes ≡ bytes_of h) → Some bytes ≡ small_file most h
loads_small most nothing mode size bytes is short whole = absurd (cc is)
loads_small most directory mode size bytes is short whole = absurd (cc is)
loads_small most (target text) mode size bytes is short whole = absurd (cc is)
loads_small most (contents m b) mode size bytes is short whole =
    let long : length b ≡ size = cc is in
    ap (λ (x : List ℕ). Some x) (whole long) ∙ sym (ap (λ t. if t then Some b else None) (le-leb (length b) most (omega (arith, long, short))))

pub none_small : (most : ℕ) (h : Held) (node : Node) → IsNode h node → ((mode size : ℕ) → node ≡ nodes.File mode size → ⊥) → None ≡ small_file most h
none_small most nothing node is off = refl
none_small most directory node is off = refl
none_small most (target text) node is off = refl
none_small most (contents m b) node is off = absurd (off m (length b) is)

-- ---- a node by its size

pub sized_node : (h : Held) (node : Node) (size : ℕ) → IsNode h node → Some size ≡ size_in node → (mode : ℕ) × IsNode h (nodes.File mode size)
sized_node h (nodes.File mode n) size is same = let one : n ≡ size = cc same in (mode, subst (λ (k : ℕ). IsNode h (nodes.File mode k)) one is)
sized_node h nodes.Absent size is same = absurd (cc same)
sized_node h nodes.Dir size is same = absurd (cc same)
sized_node h (nodes.Link text) size is same = absurd (cc same)

pub no_size : (node : Node) → None ≡ size_in node → (mode size : ℕ) → node ≡ nodes.File mode size → ⊥
no_size node none mode size is = absurd (cc (none ∙ ap size_in is))
