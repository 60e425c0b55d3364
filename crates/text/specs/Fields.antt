-- The fields of a line, and the numbers among them.
use Rattle.std.specs.Prelude.{ℕ, ◌+◌, ◌-◌, ◌*◌, Bool, cond, ◌&&◌, ◌||◌, List, [], ◌∷◌, length, drop, ℤ, pos, neg_ℤ, ◌==◌, nat_le, slice_index}
use Rattle.std.specs.Fmt.{signed_decimal}
use Rattle.std.specs.Str.{bytes_eq}

-- A byte that ends a field: a space, or the byte 10 that ends a line.
abbrev pub ends_field : ℕ → Bool
ends_field b = b == 32 || b == 10

-- The field at the front of a text: the longest run of bytes of which none ends a field.
abbrev pub field : List ℕ → List ℕ
field [] = []
field (b ∷ bs) = cond (ends_field b) [] (b ∷ field bs)

-- The field that begins at an offset.
abbrev pub field_at : List ℕ → ℕ → List ℕ
field_at text at = field (drop at text)

-- The decimal text of a whole number: its digits with no leading zero, and a minus before them if it is negative.
abbrev pub decimal : ℤ → List ℕ
decimal x = signed_decimal x

-- A field begins with a minus.
abbrev pub has_minus : List ℕ → Bool
has_minus bytes = slice_index bytes 0 == 45

-- What stands after the minus, or the whole field where there is none.
abbrev pub after_minus : List ℕ → List ℕ
after_minus bytes = drop (cond (has_minus bytes) 1 0) bytes

-- The number that a run of digits writes after the digits of `n`.
abbrev pub value_after : ℕ → List ℕ → ℕ
value_after n [] = n
value_after n (c ∷ cs) = value_after (10 * n + (c - 48)) cs

-- A run of digits is a natural number where it is the decimal text of its value, with at most ten digits.
unfoldable pub is_natural : List ℕ → Bool
is_natural bytes = nat_le (length bytes) 10 && bytes_eq bytes (decimal (pos (value_after 0 bytes)))

-- The number that a field writes by its digits and its minus.
abbrev pub value : List ℕ → ℤ
value bytes = cond (has_minus bytes) (neg_ℤ (pos (value_after 0 (after_minus bytes)))) (pos (value_after 0 (after_minus bytes)))

-- A field is a number where it is the decimal text of its value, with at most ten digits.
unfoldable pub is_number : List ℕ → Bool
is_number bytes = nat_le (length (after_minus bytes)) 10 && bytes_eq bytes (decimal (value bytes))
