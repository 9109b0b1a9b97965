-- The reference points of document 01, cases a to n, as one table about the definitions.
-- To be believed: example_words, Carried, Heard, Answers; each case is the paper's row above it. Assumes nothing.
use Rattle.std.specs.Prelude.{Bool, true, false, List, [], ◌∷◌, ◌≡◌, ℕ, suc, replicate}
use Rattle.bits.specs.Bits.{bits_of, bits_of_bytes}
use Rattle.whiten.specs.Whiten.{whitened}
use Rattle.coder.specs.Coder.{Words, coded}
use Rattle.coder.specs.Cost.{cost}
use Rattle.coder.specs.Nearest.{nearest}
use Rattle.interleave.specs.Interleave.{extension, sub_packet, order, symbol}

-- the words 1011011, 1111001 and 1110101 of the code cases
unfoldable pub example_words : Words
example_words = record { first = bits_of 7 0o133; second = bits_of 7 0o171; third = bits_of 7 0o165 }

-- the strings "0" and "1", and the coded bits of "1"
abbrev pub zero_string : List Bool
zero_string = false ∷ []

abbrev pub one_string : List Bool
one_string = true ∷ []

abbrev pub coded_one : List Bool
coded_one = coded example_words one_string

-- index i of a message of l bytes, after the shift, is carried by symbol m of sub-packet s
pub record Carried (l i s m : ℕ) : Type 0 where
  pub packet : sub_packet (extension l) i ≡ s
  pub carrier : symbol s (order (extension l) i) ≡ m

-- coded bits as values +1 and -1, a byte each, of which some 1s are zeroed and some are reversed: how many of each, the coded bits, the values
pub data Heard : ℕ → ℕ → List Bool → List ℕ → Type 0 where
  none : Heard 0 0 [] []
  minus : {z r : ℕ} {bs : List Bool} {vs : List ℕ} → Heard z r bs vs → Heard z r (false ∷ bs) (255 ∷ vs)
  plus : {z r : ℕ} {bs : List Bool} {vs : List ℕ} → Heard z r bs vs → Heard z r (true ∷ bs) (1 ∷ vs)
  zeroed : {z r : ℕ} {bs : List Bool} {vs : List ℕ} → Heard z r bs vs → Heard (suc z) r (true ∷ bs) (0 ∷ vs)
  reversed : {z r : ℕ} {bs : List Bool} {vs : List ℕ} → Heard z r bs vs → Heard z (suc r) (true ∷ bs) (255 ∷ vs)

-- of the strings of one bit x is the nearest to the values, and this is its cost
pub record Answers (values : List ℕ) (x : List Bool) (c : ℕ) : Type 0 where
  pub string : nearest (cost example_words values) 1 ≡ x
  pub costs : cost example_words values x ≡ c

pub record Cases : Type 0 where
  -- first 24 whitening bits: 0F 70 B3
  pub a : whitened (replicate 24 false) ≡ bits_of_bytes (0x0F ∷ 0x70 ∷ 0xB3 ∷ [])
  -- coded string "1": 111 011 111 110 001 100 111
  pub b : coded_one ≡ bits_of 21 0b111011111110001100111
  -- L 20, i 0: s 0, m 11
  pub c : Carried 20 0 0 11
  -- L 20, i 287: s 23, m 6
  pub d : Carried 20 287 23 6
  -- L 20, i 288: s 0, m 5
  pub e : Carried 20 288 0 5
  -- L 20, i 300: s 1, m 30
  pub f : Carried 20 300 1 30
  -- L 21, i 300: s 24, m 11
  pub g : Carried 21 300 24 11
  -- L 21, i 301: s 1, m 30
  pub h : Carried 21 301 1 30
  -- L 20, i 575: s 23, m 0
  pub i : Carried 20 575 23 0
  -- L 255, i 6,215: s 258, m 35
  pub j : Carried 255 6215 258 35
  -- b as values +1/-1, seven of its 1s reversed, whichever they are: "1", cost 7
  pub k : (values : List ℕ) → Heard 0 7 coded_one values → Answers values one_string 7
  -- the same, eight reversed: "0", cost 7
  pub l : (values : List ℕ) → Heard 0 8 coded_one values → Answers values zero_string 7
  -- one 1 zeroed, seven others reversed: tie: "0", cost 7
  pub m : (values : List ℕ) → Heard 1 7 coded_one values → Answers values zero_string 7 × (cost example_words values one_string ≡ 7)
  -- 21 values, first -128, rest 0: "0", cost 0
  pub n : Answers (128 ∷ replicate 20 0) zero_string 0
