-- Recovering, document 01: the refusals 1, 2, 3, 5, 6, 7, 8, 9 in this order, and the message behind the nearest string.
-- To be believed: marks_good, silent, nearest_string, opened, recover_refusal, Recovers. Assumes nothing.
use Rattle.std.specs.Prelude.{Bool, true, cond, not, ◌&&◌, ◌||◌, List, [], ◌∷◌, ◌++◌, ◌≡◌, ℕ, ◌+◌, ◌*◌, ltb, leb, eqb, length, take, drop}
use Rattle.std.specs.List.{list_all}
use Rattle.coder.specs.Coder.{uplink_words}
use Rattle.coder.specs.Cost.{cost}
use Rattle.coder.specs.Nearest.{nearest}
use Rattle.whiten.specs.Whiten.{whitened}
use Rattle.interleave.specs.Bursts.{received}
use Rattle.payload.specs.Payload.{payload_bits}
use Rattle.payload.specs.Open.{open_refusal, message_of, mode_of}
use Rattle.uplink.specs.Answers.{Recovery, recovered_refusal, recovered_length, recovered_mode, recovered_cost}
use Rattle.uplink.specs.Build.{length_wrong}

-- each mark is 0, lost, or 1, heard
unfoldable pub marks_good : List ℕ → Bool
marks_good marks = list_all (λ m. leb m 1) marks

-- all values are zero
unfoldable pub zeros : List ℕ → Bool
zeros values = list_all (λ v. eqb v 0) values

-- no heard sub-packet has a non-zero value; each has 24 values
unfoldable pub silent : List ℕ → List ℕ → Bool
silent [] values = true
silent (m ∷ ms) values = (not (eqb m 1) || zeros (take 24 values)) && silent ms (drop 24 values)

-- the nearest string of the told length to the values heard, as the coder took it, and its cost
abbrev pub nearest_string : ℕ → List ℕ → List ℕ → List Bool
nearest_string l marks values = nearest (cost uplink_words (received l marks values)) (payload_bits l)

abbrev pub nearest_cost : ℕ → List ℕ → List ℕ → ℕ
nearest_cost l marks values = cost uplink_words (received l marks values) (nearest_string l marks values)

-- the payload bits behind it: whitening is removed by whitening again
abbrev pub opened : ℕ → List ℕ → List ℕ → List Bool
opened l marks values = whitened (nearest_string l marks values)

-- the first of: 1 length; 2 marks or values not of the exact size; 3 output buffer too short; 5 a mark other than 0 or 1; 6 silence; then what opening the nearest string, and it alone, gives: 7, 8, 9 or 0
unfoldable pub recover_refusal : ℕ → List ℕ → List ℕ → ℕ → ℕ
recover_refusal l marks values room =
    cond (length_wrong l) 1
    (cond (eqb (length marks) (l + 4) && eqb (length values) (24 * (l + 4)))
    (cond (ltb room l) 3
    (cond (marks_good marks) (cond (silent marks values) 6 (open_refusal l (opened l marks values))) 5))
    2)

-- what recovering answers and leaves in the lent buffer, for every input
pub record Recovers (l : ℕ) (marks values before after : List ℕ) (answer : Recovery) : Type 0 where
  pub refusal : recovered_refusal answer ≡ recover_refusal l marks values (length before)
  pub told : recovered_length answer ≡ cond (eqb (recover_refusal l marks values (length before)) 0) l 0
  pub mode : recovered_mode answer ≡ cond (eqb (recover_refusal l marks values (length before)) 0) (mode_of l (opened l marks values)) 0
  pub weight : recovered_cost answer ≡ cond (eqb (recover_refusal l marks values (length before)) 0) (nearest_cost l marks values) 0
  pub message : after ≡ cond (eqb (recover_refusal l marks values (length before)) 0) (message_of l (opened l marks values) ++ drop l before) before
