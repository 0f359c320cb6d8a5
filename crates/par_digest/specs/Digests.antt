-- The digests of items, independent of threads.
use Rattle.std.specs.Prelude.{ℕ, List, ◌++◌, map}
use Rattle.sha2.specs.Sha256.{sha256}
use Rattle.par_digest.specs.declared.item.Item.{Item}

-- The digest of an item: SHA-256 (FIPS 180-4) of its head followed by its body
abbrev pub item_digest : Item → List ℕ
item_digest item = sha256 (item.head ++ item.body)

-- The digest of each item, in order
abbrev pub item_digests : List Item → List (List ℕ)
item_digests items = map item_digest items
