-- The report program's line, document 01: `OK`, L, mode, cost in decimal, the message as 2L lower-case hex digits, one blank between; or `REFUSED` and the number; each with a line feed.
-- To be believed: all of it. Assumes nothing.
use Rattle.std.specs.Prelude.{cond, List, [], ◌∷◌, ◌++◌, ℕ, zero, suc, ◌+◌, ◌/◌, ◌%◌, ltb, eqb}
use Rattle.uplink.specs.Recover.{nearest_cost, opened, recover_refusal}
use Rattle.payload.specs.Open.{message_of, mode_of}
use Rattle.capture.specs.Reading.{told_in, marks_in, values_in, read_refusal}

-- the decimal digits of a number as bytes, the most significant first and no zero in front; k digits are enough for it
unfoldable pub decimal_within : ℕ → ℕ → List ℕ
decimal_within zero n = []
decimal_within (suc k) n = cond (ltb n 10) ((48 + n) ∷ []) (decimal_within k (n / 10) ++ ((48 + n % 10) ∷ []))

abbrev pub decimal : ℕ → List ℕ
decimal n = decimal_within 10 n

-- the hex digit of a number below 16: 0 to 9, a to f
abbrev pub hex_digit : ℕ → ℕ
hex_digit d = cond (ltb d 10) (48 + d) (87 + d)

-- bytes as two hex digits each
unfoldable pub hex : List ℕ → List ℕ
hex [] = []
hex (x ∷ xs) = hex_digit (x / 16) ∷ hex_digit (x % 16) ∷ hex xs

-- "OK L mode cost hex" and a line feed
unfoldable pub ok_line : ℕ → ℕ → ℕ → List ℕ → List ℕ
ok_line l mode total message =
    (79 ∷ 75 ∷ 32 ∷ [])
    ++ (decimal l ++ ((32 ∷ []) ++ (decimal mode ++ ((32 ∷ []) ++ (decimal total ++ ((32 ∷ []) ++ (hex message ++ (10 ∷ []))))))))

-- "REFUSED n" and a line feed
unfoldable pub refused_line : ℕ → List ℕ
refused_line n = (82 ∷ 69 ∷ 70 ∷ 85 ∷ 83 ∷ 69 ∷ 68 ∷ 32 ∷ []) ++ (decimal n ++ (10 ∷ []))

-- the refusal of a capture: that of reading it, with room for the longest, or that of recovering what was read
unfoldable pub report_refusal : List ℕ → ℕ
report_refusal c =
    cond (eqb (read_refusal c 259 6216) 0) (recover_refusal (told_in c) (marks_in (told_in c) c) (values_in (told_in c) c) 255) (read_refusal c 259 6216)

-- the line of a capture
unfoldable pub report_line : List ℕ → List ℕ
report_line c =
    cond (eqb (report_refusal c) 0)
    (ok_line (told_in c) (mode_of (told_in c) (opened (told_in c) (marks_in (told_in c) c) (values_in (told_in c) c))) (nearest_cost (told_in c) (marks_in (told_in c) c) (values_in (told_in c) c)) (message_of (told_in c) (opened (told_in c) (marks_in (told_in c) c) (values_in (told_in c) c))))
    (refused_line (report_refusal c))
