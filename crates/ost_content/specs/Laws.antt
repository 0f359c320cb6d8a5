-- The laws of all headers.
use Rattle.std.specs.Prelude.{◌≡◌, ◌≢◌, ℕ, ◌+◌, true, List, [], ◌++◌}
use Rattle.fp_host.specs.Paths.{is_link_text}
use Rattle.gv_value.specs.Spelled.{Spelled}
use Rattle.ost_model.specs.declared.limits.TheConstants.{REGULAR_MODE, LINK_MODE}
use Rattle.ost_model.specs.Contents.{header_shape, header_value, with_length, is_permission, header, link_header}

-- The bytes are a header's length, and then the one serialised form of this mode and text, as a
-- value of the type `(uuuusa(ayay))`
pub record IsHeader (bytes : List ℕ) (mode : ℕ) (text : List ℕ) : Type 0 where
  pub tuple : List ℕ
  pub spelled : Spelled header_shape (header_value mode text) tuple
  pub remainder : bytes ≡ with_length tuple

-- The header of each file is a value with the file's mode and an empty text
abbrev pub FilesHaveHeaders : Type 0
FilesHaveHeaders =
    (bits : ℕ) → is_permission bits ≡ true → IsHeader (header bits) (REGULAR_MODE + bits) []

-- The header of each symlink is a value with the mode of symlinks and its text
abbrev pub LinksHaveHeaders : Type 0
LinksHaveHeaders =
    (text : List ℕ) → is_link_text text ≡ true → IsHeader (link_header text) LINK_MODE text

-- The input to SHA-256 determines the permission bits and the content of a file
abbrev pub TellsFiles : Type 0
TellsFiles = (a b : ℕ) (xs ys : List ℕ) → is_permission a ≡ true → is_permission b ≡ true →
    header a ++ xs ≡ header b ++ ys → (a ≡ b) × (xs ≡ ys)

-- The input to SHA-256 determines the text of a symlink
abbrev pub TellsLinks : Type 0
TellsLinks = (s t : List ℕ) → is_link_text s ≡ true → is_link_text t ≡ true
    → link_header s ≡ link_header t → s ≡ t

-- The input to SHA-256 differs between files and symlinks
abbrev pub TellsKinds : Type 0
TellsKinds =
    (bits : ℕ) (bytes text : List ℕ) → is_permission bits ≡ true → is_link_text text ≡ true →
    header bits ++ bytes ≢ link_header text
