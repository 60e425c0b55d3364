-- Texts of which it is known how each step goes.
use Rattle.std.specs.Prelude.{◌≡◌, [], ◌∷◌, pos, negsuc, Ok, Err, codes}
use Rattle.text.specs.Steps.{past, number_at, word_at, space_at, line_end_at, text_end_at, numbers_at}

-- A number is accepted in one form only, with at most ten digits.
abbrev pub Numbers : Type 0
Numbers =
    (number_at (codes "12 x") 0 ≡ Ok (pos 12, 2))
    × (number_at (codes "a -7") 2 ≡ Ok (negsuc 6, 4))
    × (number_at (codes "0") 0 ≡ Ok (pos 0, 1))
    × (number_at (codes "9999999999") 0 ≡ Ok (pos 9999999999, 10))
    × (number_at (codes "-9999999999") 0 ≡ Ok (negsuc 9999999998, 11))
    × (number_at (codes "10000000000") 0 ≡ Err 0)
    × (number_at (codes "-0") 0 ≡ Err 0)
    × (number_at (codes "x 07") 2 ≡ Err 2)
    × (number_at (codes "+1") 0 ≡ Err 0)
    × (number_at (codes "1a") 0 ≡ Err 0)
    × (number_at (codes "-") 0 ≡ Err 0)
    × (number_at (codes "1  2") 2 ≡ Err 2)
    × (number_at (codes "1 ") 2 ≡ Err 2)

-- Words, spaces and ends: where a field is owed, where the line or the text should end, and where the text ends too soon.
abbrev pub Ends : Type 0
Ends =
    (word_at (codes "net S") 0 (codes "net") ≡ past 3)
    × (word_at (codes "nets S") 0 (codes "net") ≡ Err 0)
    × (word_at (codes "ne") 0 (codes "net") ≡ Err 0)
    × (space_at (codes "a b") 1 ≡ past 2)
    × (space_at (codes "a") 1 ≡ Err 1)
    × (line_end_at (codes "a b") 1 ≡ Err 2)
    × (line_end_at (codes "a") 1 ≡ Err 1)
    × (line_end_at (97 ∷ 10 ∷ []) 1 ≡ past 2)
    × (space_at (97 ∷ 10 ∷ []) 1 ≡ Err 1)
    × (text_end_at (97 ∷ 10 ∷ []) 2 ≡ past 2)
    × (text_end_at (97 ∷ 10 ∷ 98 ∷ []) 2 ≡ Err 2)

-- Lists of numbers, and where they are wrong or too short.
abbrev pub Lists : Type 0
Lists =
    (numbers_at (codes "to 2 -3 3") 2 3 ≡ Ok (pos 2 ∷ negsuc 2 ∷ pos 3 ∷ [], 9))
    × (numbers_at (codes "to 2 x 3") 2 3 ≡ Err 5)
    × (numbers_at (codes "to 2 3") 2 3 ≡ Err 6)
    × (numbers_at (codes "to 2") 2 0 ≡ Ok ([], 2))
