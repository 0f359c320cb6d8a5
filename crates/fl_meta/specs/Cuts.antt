-- Cutting the end of a filesystem's text: `/`, `/.` or an ending such as `:ro`.
use Rattle.std.specs.Prelude.{◌≡◌, ◌≢◌, ◌⊎◌, ℕ, true, false, List, ◌∷◌, ◌++◌, is_some, codes}
use Rattle.std.specs.List.{slice_split, All}
use Rattle.fl_meta.specs.Places.{is_colon, is_ending}
use Rattle.fl_meta.specs.Entries.{last_word, access_remainder}

-- The text is `front`, a colon and an ending
pub record CutsEnding (text front : List ℕ) : Type 0 where
  pub word : List ℕ
  pub whole : All (λ b. is_colon b ≡ false) word
  pub ending : is_ending word ≡ true
  pub text_is : text ≡ front ++ 58 ∷ word

-- The text has no ending
abbrev pub HasNoEnding : List ℕ → Type 0
HasNoEnding text = is_some (access_remainder (last_word (slice_split is_colon text))) ≡ false

-- The text is `front` followed by `/`, `/.` or a colon with an ending
abbrev pub CutsEnd : List ℕ → List ℕ → Type 0
CutsEnd text front =
    (text ≡ front ++ codes "/") ⊎ ((text ≡ front ++ codes "/.") ⊎ CutsEnding text front)

-- The text ends neither in `/` nor in `/.`, and has no ending
pub record HasNoEnd (text : List ℕ) : Type 0 where
  pub ending : HasNoEnding text
  pub slash : (front : List ℕ) → text ≢ front ++ codes "/"
  pub dotted : (front : List ℕ) → text ≢ front ++ codes "/."
