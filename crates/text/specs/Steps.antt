-- The walk through a text: each step takes the text and an offset.
use Rattle.std.specs.Prelude.{ℕ, zero, suc, ◌+◌, cond, List, [], ◌∷◌, length, ℤ, Ok, Err, Result, ◌==◌, slice_index}
use Rattle.std.specs.Str.{bytes_eq}
use Rattle.text.specs.Fields.{field_at, is_number, value}

-- What a step gives: what it read with the offset just past it, or the offset of the offending byte.
abbrev pub Step : Type 0 → Type 0
Step T = Result (T × ℕ) ℕ

-- Where the walk stands after a step from `at`: just past what was read, and where it stood if nothing was.
abbrev pub reached : {T : Type 0} → ℕ → Step T → ℕ
reached at (Ok read) = read.1
reached at (Err offset) = at

-- A step, and then another from where it ended.
abbrev pub and_then : {S T : Type 0} → Step S → (S → ℕ → Step T) → Step T
and_then (Ok read) next = next read.0 read.1
and_then (Err offset) next = Err offset

-- A step that reads nothing but what has to stand there.
abbrev pub past : ℕ → Step (Unit {0})
past next = Ok (tt, next)

-- A number: a wrong field is given at its first byte.
unfoldable pub number_at : List ℕ → ℕ → Step ℤ
number_at text at = cond (is_number (field_at text at)) (Ok (value (field_at text at), at + length (field_at text at))) (Err at)

-- A given word: another field is given at its first byte.
unfoldable pub word_at : List ℕ → ℕ → List ℕ → Step (Unit {0})
word_at text at word = cond (bytes_eq (field_at text at) word) (past (at + length (field_at text at))) (Err at)

-- The space before a further field: a missing field is given at the end of the line or of the text.
unfoldable pub space_at : List ℕ → ℕ → Step (Unit {0})
space_at text at = cond (slice_index text at == 32) (past (at + 1)) (Err at)

-- The end of a line: a further field is given at its first byte, and a text that ends before the line at its length.
unfoldable pub line_end_at : List ℕ → ℕ → Step (Unit {0})
line_end_at text at = cond (slice_index text at == 10) (past (at + 1)) (Err (cond (slice_index text at == 32) (at + 1) at))

-- The end of the text: what still follows is given at its first byte.
unfoldable pub text_end_at : List ℕ → ℕ → Step (Unit {0})
text_end_at text at = cond (at == length text) (past at) (Err at)

-- So many numbers, with a space before each.
unfoldable pub numbers_at : List ℕ → ℕ → ℕ → Step (List ℤ)
numbers_at text at zero = Ok ([], at)
numbers_at text at (suc more) =
    and_then (space_at text at) (λ _ first.
    and_then (number_at text first) (λ x next.
    and_then (numbers_at text next more) (λ xs last. Ok (x ∷ xs, last))))
