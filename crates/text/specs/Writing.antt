-- What is written of numbers, and where it is written.
use Rattle.std.specs.Prelude.{◌≡◌, ℕ, ◌+◌, ◌≤◌, List, [], ◌∷◌, ◌++◌, length, take, drop, ℤ}
use Rattle.text.specs.Fields.{decimal}
use Rattle.text.specs.declared.writing.Writer.{Writer}

-- The text of a list of numbers: a space and the decimal text of each.
abbrev pub spaced : List ℤ → List ℕ
spaced [] = []
spaced (x ∷ xs) = 32 ∷ (decimal x ++ spaced xs)

-- Bytes over which others were written from an offset on.
abbrev pub written : List ℕ → ℕ → List ℕ → List ℕ
written into at bytes = take at into ++ (bytes ++ drop (at + length bytes) into)

-- A writer has room for a text.
abbrev pub HasRoom : Writer → List ℕ → Type 0
HasRoom writer text = writer.at + length text ≤ length writer.bytes.now

-- A call writes a text from where the writer stands on, into the same bytes, and stands just past it after.
pub record Appends (text : List ℕ) (before after : Writer) : Type 0 where
  pub same : after.bytes.ghost_name ≡ before.bytes.ghost_name
  pub bytes : after.bytes.now ≡ written before.bytes.now before.at text
  pub at : after.at ≡ before.at + length text
