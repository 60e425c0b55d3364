-- The lines of a record: the bytes of each, and the step that reads it.
use Rattle.std.specs.Prelude.{ℕ, ◌-◌, cond, List, [], ◌∷◌, ◌++◌, ℤ, pos, Some, None, Ok, Err, codes, Option}
use Rattle.cost.specs.Limits.{within}
use Rattle.text.specs.Steps.{Step, and_then, number_at, word_at, space_at, line_end_at, numbers_at}
use Rattle.text.specs.Writing.{spaced}
use Rattle.record_form.specs.declared.lines.Counts.{Counts}

-- ---- the bytes

-- A line: how it starts, a space and the decimal text of each number, and byte 10.
abbrev pub line : List ℕ → List ℤ → List ℕ
line start numbers = start ++ (spaced numbers ++ (10 ∷ []))

-- How the first line starts: the word, a space and the letter of the kind of cost.
abbrev pub net_start : ℕ → List ℕ
net_start letter = codes "net" ++ (32 ∷ letter ∷ [])

-- The first line.
abbrev pub net_line : ℕ → ℤ → ℤ → List ℕ
net_line letter nodes arcs = line (net_start letter) (nodes ∷ arcs ∷ [])

-- A line for each row.
abbrev pub row_lines : List (List ℤ) → List ℕ
row_lines [] = []
row_lines (row ∷ rows) = line (codes "c") row ++ row_lines rows

-- ---- the steps

-- A count: a space, and a number from 0 to `most`; another number is given at its first byte.
unfoldable pub count_at : List ℕ → ℕ → ℤ → Step ℤ
count_at text at most =
    and_then (space_at text at) (λ _ first.
    and_then (number_at text first) (λ x next.
    cond (within (record { low = pos 0; high = most }) x) (Ok (x, next)) (Err first)))

-- The first line: the word `net`, the letter, from 0 to 64 nodes and from 0 to 256 arcs.
unfoldable pub first_line_at : List ℕ → ℕ → ℕ → Step Counts
first_line_at text at letter =
    and_then (word_at text at (codes "net")) (λ _ a.
    and_then (space_at text a) (λ _ b.
    and_then (word_at text b (letter ∷ [])) (λ _ c.
    and_then (count_at text c (pos 64)) (λ nodes d.
    and_then (count_at text d (pos 256)) (λ arcs e.
    and_then (line_end_at text e) (λ _ next. Ok (record { nodes = nodes; arcs = arcs }, next)))))))

-- A line of a word and so many numbers.
unfoldable pub list_at : List ℕ → ℕ → List ℕ → ℕ → Step (List ℤ)
list_at text at word count =
    and_then (word_at text at word) (λ _ a.
    and_then (numbers_at text a count) (λ xs b.
    and_then (line_end_at text b) (λ _ next. Ok (xs, next))))

-- The rest of a row's line, after the first number: so many numbers more.
unfoldable pub row_end_at : List ℕ → ℕ → ℤ → ℕ → Step (List ℤ)
row_end_at text at first further =
    and_then (numbers_at text at further) (λ xs a.
    and_then (line_end_at text a) (λ _ next. Ok (first ∷ xs, next)))

-- The rest of a row's line by how many numbers the row has; where its first number begins no row, that number is given.
unfoldable pub row_told_at : List ℕ → ℕ → ℕ → ℤ → Option ℕ → Step (List ℤ)
row_told_at text start at first None = Err start
row_told_at text start at first (Some count) = row_end_at text at first (count - 1)

-- A line of the word `c` and a row, which is as long as its first number tells.
unfoldable pub row_at : List ℕ → ℕ → (ℤ → Option ℕ) → Step (List ℤ)
row_at text at long =
    and_then (word_at text at (codes "c")) (λ _ a.
    and_then (space_at text a) (λ _ start.
    and_then (number_at text start) (λ first b. row_told_at text start b first (long first))))
