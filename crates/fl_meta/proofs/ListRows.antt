-- Worked lists, closed by computing. A `;` that a name has is `\;` where flatpak 1.14 writes it.
use Rattle.std.proofs.Common.{◌≡◌, [], ◌∷◌, ◌++◌, refl}
use Rattle.std.specs.Prelude.{codes}
use Rattle.fl_meta.specs.declared.permission.PermList.TheVariants as lists
use Rattle.fl_meta.specs.declared.permission.Value.TheVariants as values
use Rattle.fl_meta.specs.Places.{normal}
use Rattle.fl_meta.specs.Separators.{entries_of}
use Rattle.fl_meta.specs.Entries.{access_at, mention_of, mentions_in, list_mentions}

-- one backslash, or two, before the `;`
escaped : entries_of (codes "a" ++ 92 ∷ codes ";b;c") ≡ (codes "a" ++ 92 ∷ codes ";b") ∷ codes "c" ∷ []
escaped = refl

even : entries_of (codes "a" ++ 92 ∷ 92 ∷ codes ";b") ≡ (codes "a" ++ 92 ∷ 92 ∷ []) ∷ codes "b" ∷ []
even = refl

three : entries_of (92 ∷ 92 ∷ 92 ∷ codes ";b;") ≡ (92 ∷ 92 ∷ 92 ∷ codes ";b") ∷ [] ∷ []
three = refl

-- one place is denied, and none is granted
denied : list_mentions lists.Filesystems (codes "!/srv/a" ++ 92 ∷ codes ";home") ≡ mention_of lists.Filesystems (codes "/srv/a" ++ 92 ∷ codes ";home") values.Off ∷ []
unfolding list_mentions mentions_in access_at normal
denied = refl

-- a name whose `;` would belong to it
left_open : list_mentions lists.Persistent (codes "a;b" ++ 92 ∷ []) ≡ mention_of lists.Persistent (codes "a") values.On ∷ []
unfolding list_mentions mentions_in
left_open = refl
