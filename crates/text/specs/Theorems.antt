-- What is written reads back, and only what is written is read: the statements that the functions of this crate assert.
use Rattle.std.specs.Prelude.{◌≡◌, ℕ, ◌+◌, ◌^◌, ◌<◌, true, List, [], ◌∷◌, ◌++◌, length, drop, ℤ, pos, Ok, slice_index_or, unsigned_abs}
use Rattle.text.specs.Fields.{ends_field, field, decimal}
use Rattle.text.specs.Steps.{past, number_at, word_at, space_at, line_end_at, text_end_at, numbers_at}
use Rattle.text.specs.Writing.{spaced}

-- Bytes that a field may be: none of them ends a field.
abbrev pub IsField : List ℕ → Type 0
IsField bytes = field bytes ≡ bytes

-- What may follow a field: the end of the text, or a byte that ends a field.
abbrev pub EndsField : List ℕ → Type 0
EndsField [] = Unit {0}
EndsField (b ∷ bs) = ends_field b ≡ true

-- A number of at most ten digits.
abbrev pub TenDigits : ℤ → Type 0
TenDigits x = unsigned_abs x < 10 ^ 10

-- Numbers of at most ten digits each.
abbrev pub AllTenDigits : List ℤ → Type 0
AllTenDigits xs = (k : ℕ) → k < length xs → TenDigits (slice_index_or xs k (pos 0))

-- The bytes stand in the text from an offset up to the next.
abbrev pub Stands : List ℕ → ℕ → List ℕ → ℕ → Type 0
Stands text at bytes next = (next ≡ at + length bytes) × (drop at text ≡ bytes ++ drop next text)

-- The decimal text of a number of at most ten digits reads back to the number.
abbrev pub NumberReadsBack : Type 0
NumberReadsBack =
    (before after : List ℕ) (x : ℤ) → TenDigits x → EndsField after
    → number_at (before ++ (decimal x ++ after)) (length before) ≡ Ok (x, length before + length (decimal x))

-- A number is read only where its decimal text stands, and it has at most ten digits.
abbrev pub NumberIsWritten : Type 0
NumberIsWritten =
    (text : List ℕ) (at : ℕ) (x : ℤ) (next : ℕ) → number_at text at ≡ Ok (x, next)
    → Stands text at (decimal x) next × TenDigits x

-- A word reads back.
abbrev pub WordReadsBack : Type 0
WordReadsBack =
    (before after word : List ℕ) → IsField word → EndsField after
    → word_at (before ++ (word ++ after)) (length before) word ≡ past (length before + length word)

-- A word is read only where it stands.
abbrev pub WordIsWritten : Type 0
WordIsWritten = (text : List ℕ) (at : ℕ) (word : List ℕ) (next : ℕ) → word_at text at word ≡ past next → Stands text at word next

-- The space before a field and the end of a line read back, and so does the end of the text.
abbrev pub EndsReadBack : Type 0
EndsReadBack =
    (before after : List ℕ)
    → (space_at (before ++ (32 ∷ after)) (length before) ≡ past (length before + 1))
    × (line_end_at (before ++ (10 ∷ after)) (length before) ≡ past (length before + 1))
    × (text_end_at before (length before) ≡ past (length before))

-- They are read only where they stand.
abbrev pub EndsAreWritten : Type 0
EndsAreWritten =
    (text : List ℕ) (at next : ℕ)
    → (space_at text at ≡ past next → Stands text at (32 ∷ []) next)
    × (line_end_at text at ≡ past next → Stands text at (10 ∷ []) next)
    × (text_end_at text at ≡ past next → (at ≡ length text) × (next ≡ length text))

-- The text of a list of numbers of at most ten digits reads back to the list.
abbrev pub NumbersReadBack : Type 0
NumbersReadBack =
    (before after : List ℕ) (xs : List ℤ) → AllTenDigits xs → EndsField after
    → numbers_at (before ++ (spaced xs ++ after)) (length before) (length xs) ≡ Ok (xs, length before + length (spaced xs))

-- A list of numbers is read only where its text stands; it is as long as was asked for.
abbrev pub NumbersAreWritten : Type 0
NumbersAreWritten =
    (text : List ℕ) (at k : ℕ) (xs : List ℤ) (next : ℕ) → numbers_at text at k ≡ Ok (xs, next)
    → Stands text at (spaced xs) next × (length xs ≡ k) × AllTenDigits xs
