-- What a node of a remote says of what is held.
use Rattle.std.proofs.Common.{ap, length, ℕ, ◌≡◌, List}
use Rattle.fp_host.specs.Remote.{contents, bytes_of, nothing, Held, IsNode, target, directory}
use Rattle.fp_host.specs.declared.remotes.Node.TheVariants as nodes

pub node_file : (h : Held) (mode size : ℕ) → IsNode h (nodes.File mode size) → (h ≡ contents mode (bytes_of h)) × (length (bytes_of h) ≡ size)
node_file nothing mode size is = absurd (cc is)
node_file directory mode size is = absurd (cc is)
node_file (contents m bytes) mode size is = (ap (λ (k : ℕ). contents k bytes) (cc is), cc is)
node_file (target text) mode size is = absurd (cc is)

pub node_link : (h : Held) (text : List ℕ) → IsNode h (nodes.Link text) → h ≡ target text
node_link nothing text is = absurd (cc is)
node_link directory text is = absurd (cc is)
node_link (contents m bytes) text is = absurd (cc is)
node_link (target t) text is = ap target (cc is)
