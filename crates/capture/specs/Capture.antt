-- The stored capture, document 01: tagged fields, one-byte tag, two-byte length with the high byte first, value.
-- To be believed: field, packets, capture_of, capture_size. Assumes nothing.
use Rattle.std.specs.Prelude.{List, [], ◌∷◌, ◌++◌, ℕ, zero, suc, ◌+◌, ◌*◌, ◌/◌, ◌%◌, length, take, drop}

unfoldable pub field : ℕ → List ℕ → List ℕ
field tag value = tag ∷ length value / 256 ∷ length value % 256 ∷ value

-- so many fields of tag 03, length 24, the values in order of s
unfoldable pub packets : ℕ → List ℕ → List ℕ
packets zero values = []
packets (suc k) values = field 3 (take 24 values) ++ packets k (drop 24 values)

-- in this order: tag 01, length 1, L; tag 02, length L + 4, the marks; then L + 4 fields of tag 03; nothing follows
unfoldable pub capture_of : ℕ → List ℕ → List ℕ → List ℕ
capture_of l marks values = field 1 (l ∷ []) ++ (field 2 marks ++ packets (l + 4) values)

-- 679 bytes for L = 20 to 7,259 for L = 255 (`length-capture_of` of proofs/)
abbrev pub capture_size : ℕ → ℕ
capture_size l = 119 + 28 * l
