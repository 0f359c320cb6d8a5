-- The form of a place's normal text.
use Rattle.std.specs.Prelude.{◌≢◌, ℕ, List, [], ◌∷◌, ◌++◌, codes, if◌then◌else◌}
use Rattle.fl_meta.specs.Places.{is_colon, colon_with}

-- The text has neither `//` nor `/./`, and ends neither in `/` nor in `/.`
pub record IsTidy (text : List ℕ) : Type 0 where
  pub doubled : (front back : List ℕ) → text ≢ front ++ (codes "//" ++ back)
  pub dotted : (front back : List ℕ) → text ≢ front ++ (codes "/./" ++ back)
  pub slash : (front : List ℕ) → text ≢ front ++ codes "/"
  pub dot : (front : List ℕ) → text ≢ front ++ codes "/."

-- The text without the endings `:ro`, `:rw` and `:create` at its end
abbrev pub without_endings : List ℕ → List ℕ
without_endings [] = []
without_endings (b ∷ bs) =
    if is_colon b then colon_with (without_endings bs) else b ∷ without_endings bs
