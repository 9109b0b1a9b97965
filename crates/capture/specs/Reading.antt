-- Reading a capture, document 01: the first field's form (10), L (1), the form of all the rest including the end (10), marks (5), room (3), in this order.
-- To be believed: same_bytes, first_field, marks_in, values_in, whole, read_refusal, Reads. Assumes nothing.
use Rattle.std.specs.Prelude.{Bool, true, false, cond, ◌&&◌, ◌||◌, List, [], ◌∷◌, ◌++◌, ◌≡◌, ℕ, zero, suc, ◌+◌, ◌*◌, ltb, leb, eqb, length, get_or, take, drop}
use Rattle.uplink.specs.Build.{length_wrong}
use Rattle.uplink.specs.Recover.{marks_good}
use Rattle.capture.specs.Capture.{capture_of, capture_size}
use Rattle.capture.specs.Answers.{Read, read_refusal_of, read_length}

-- two runs of bytes are the same
unfoldable pub same_bytes : List ℕ → List ℕ → Bool
same_bytes [] [] = true
same_bytes [] (y ∷ ys) = false
same_bytes (x ∷ xs) [] = false
same_bytes (x ∷ xs) (y ∷ ys) = eqb x y && same_bytes xs ys

-- the first field's form: tag 01, length 1, and its value is there
unfoldable pub first_field : List ℕ → Bool
first_field c = leb 4 (length c) && same_bytes (take 3 c) (1 ∷ 0 ∷ 1 ∷ [])

-- its value, L
abbrev pub told_in : List ℕ → ℕ
told_in c = get_or c 3 0

-- where the marks stand, after the first field and the head of the second, and the values, each 24 after the head of its field
unfoldable pub marks_in : ℕ → List ℕ → List ℕ
marks_in l c = take (l + 4) (drop 7 c)

unfoldable pub values_from : ℕ → List ℕ → List ℕ
values_from zero c = []
values_from (suc k) c = take 24 (drop 3 c) ++ values_from k (drop 27 c)

unfoldable pub values_in : ℕ → List ℕ → List ℕ
values_in l c = values_from (l + 4) (drop (7 + (l + 4)) c)

-- the form of all the rest including the end: the bytes are as many as a capture has, and a capture of what stands in them, and nothing else
unfoldable pub whole : ℕ → List ℕ → Bool
whole l c = eqb (length c) (capture_size l) && same_bytes c (capture_of l (marks_in l c) (values_in l c))

-- the first of: 10 first field; 1 length; 10 the rest; 5 a mark other than 0 or 1; 3 an output buffer too short. 0 where none holds
unfoldable pub read_refusal : List ℕ → ℕ → ℕ → ℕ
read_refusal c marks_room values_room =
    cond (first_field c)
    (cond (length_wrong (told_in c)) 1
    (cond (whole (told_in c) c)
    (cond (marks_good (marks_in (told_in c) c)) (cond (ltb marks_room (told_in c + 4) || ltb values_room (24 * (told_in c + 4))) 3 0) 5)
    10))
    10

-- what reading answers and leaves in the two lent buffers, for every input
pub record Reads (c marks values marks' values' : List ℕ) (answer : Read) : Type 0 where
  pub refusal : read_refusal_of answer ≡ read_refusal c (length marks) (length values)
  pub told : read_length answer ≡ cond (eqb (read_refusal c (length marks) (length values)) 0) (told_in c) 0
  pub marks_bytes : marks' ≡ cond (eqb (read_refusal c (length marks) (length values)) 0) (marks_in (told_in c) c ++ drop (told_in c + 4) marks) marks
  pub values_bytes : values' ≡ cond (eqb (read_refusal c (length marks) (length values)) 0) (values_in (told_in c) c ++ drop (24 * (told_in c + 4)) values) values
