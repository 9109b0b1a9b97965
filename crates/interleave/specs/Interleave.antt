-- Interleaving of the UL-ULP uplink, TS 103 357 clauses 6.4.2.1.1 and 6.4.4.6: which radio-burst and which symbol of it carries a coded bit, and what the other symbols are.
-- To be believed: coded_bits, extension, sub_packets, shifted_index, group_length, group, group_index, sub_packet, count_in, order, symbol, packet_of, symbol_of, Placed, pilot, Length, DataSymbol; and, at the end, what the functions ask and give. Assumes nothing.
use Rattle.std.specs.Prelude.{cond, List, [], ◌∷◌, ◌≡◌, ℕ, zero, suc, ◌+◌, ◌-◌, ◌*◌, ◌/◌, ◌%◌, ◌≤◌, ◌<◌, ltb, eqb, get_or}

-- document 01, "Coding" and "Sub-packets", for a message of l bytes: 3 (26 + 8 l + 6) coded bits; the core's 24 sub-packets (S_C) and the extension's l - 20 (S_E)
abbrev pub coded_bits : ℕ → ℕ
coded_bits l = 96 + 24 * l

abbrev pub extension : ℕ → ℕ
extension l = l - 20

abbrev pub sub_packets : ℕ → ℕ
sub_packets l = l + 4

-- 6.4.4.6.1: the last 48 of c coded bits become the first 48; j counts the coded bits as the coder gives them
abbrev pub shifted_index : ℕ → ℕ → ℕ
shifted_index c j = (j + 48) % c

-- 6.4.4.6.2, for e sub-packets in the extension: the length G of a group, the group g(i) of an index from 288 on and its index in the group
abbrev pub group_length : ℕ → ℕ
group_length e = e + 12

unfoldable pub group : ℕ → ℕ → ℕ
group e i = (i - 288) / group_length e

unfoldable pub group_index : ℕ → ℕ → ℕ
group_index e i = (i - 288) % group_length e

-- 6.4.4.6.2: the first 288 go to the core's sub-packets in turn; of each group the first 12 go to the core's even sub-packets where the group's number is even and to its odd ones where it is odd, and the rest to the extension's
unfoldable pub sub_packet : ℕ → ℕ → ℕ
sub_packet e i =
    cond (ltb i 288) (i % 24)
    (cond (ltb (group_index e i) 12) (group_index e i * 2 + group e i % 2) (group_index e i + 12))

-- how many of the first k indices lie in sub-packet s
unfoldable pub count_in : ℕ → ℕ → ℕ → ℕ
count_in e s zero = 0
count_in e s (suc k) = cond (eqb (sub_packet e k) s) (count_in e s k + 1) (count_in e s k)

-- 6.4.4.6.3: o, the place of index i among the indices of its sub-packet in ascending order
unfoldable pub order : ℕ → ℕ → ℕ
order e i = count_in e (sub_packet e i) i

-- Table 6-43
unfoldable pub even_row : List ℕ
even_row =
    11 ∷ 24 ∷ 10 ∷ 25 ∷ 9 ∷ 26 ∷ 8 ∷ 27 ∷ 7 ∷ 28 ∷ 6 ∷ 29 ∷ 5 ∷ 30 ∷ 4 ∷ 31 ∷ 3 ∷ 32 ∷ 2 ∷ 33 ∷ 1 ∷ 34 ∷ 0 ∷ 35 ∷ []

unfoldable pub odd_row : List ℕ
odd_row =
    24 ∷ 11 ∷ 25 ∷ 10 ∷ 26 ∷ 9 ∷ 27 ∷ 8 ∷ 28 ∷ 7 ∷ 29 ∷ 6 ∷ 30 ∷ 5 ∷ 31 ∷ 4 ∷ 32 ∷ 3 ∷ 33 ∷ 2 ∷ 34 ∷ 1 ∷ 35 ∷ 0 ∷ []

-- Table 6-43: the symbol m that carries the bit with place o in sub-packet s
unfoldable pub symbol : ℕ → ℕ → ℕ
symbol s o = get_or (cond (eqb (s % 2) 0) even_row odd_row) o 0

-- the sub-packet and the symbol that carry coded bit j of a message of l bytes
abbrev pub packet_of : ℕ → ℕ → ℕ
packet_of l j = sub_packet (extension l) (shifted_index (coded_bits l) j)

abbrev pub symbol_of : ℕ → ℕ → ℕ
symbol_of l j = symbol (packet_of l j) (order (extension l) (shifted_index (coded_bits l) j))

-- of a message of l bytes, coded bit j is carried by symbol m of sub-packet s
pub record Placed (l j s m : ℕ) : Type 0 where
  pub coded : j < coded_bits l
  pub packet : packet_of l j ≡ s
  pub within : symbol_of l j ≡ m

-- 6.4.2.1.1, with docs/DECISIONS.md on the twelfth value of the second: the pilot sequences of the core and of the extension
unfoldable pub core_pilot : List ℕ
core_pilot = 0 ∷ 1 ∷ 1 ∷ 1 ∷ 0 ∷ 1 ∷ 0 ∷ 0 ∷ 0 ∷ 0 ∷ 1 ∷ 0 ∷ []

unfoldable pub extension_pilot : List ℕ
extension_pilot = 0 ∷ 1 ∷ 0 ∷ 0 ∷ 1 ∷ 1 ∷ 1 ∷ 1 ∷ 1 ∷ 0 ∷ 1 ∷ 0 ∷ []

-- value p of the pilot sequence in sub-packet s, p from 0 to 11; it stands at symbol 12 + p
unfoldable pub pilot : ℕ → ℕ → ℕ
pilot s p = get_or (cond (ltb s 24) core_pilot extension_pilot) p 0

-- document 01, "Length": a message has 20 to 255 bytes
pub record Length (l : ℕ) : Type 0 where
  pub low : 20 ≤ l
  pub high : l ≤ 255

-- one of the 36 symbols of a burst that carries a coded bit, so none of the pilot's, 12 to 23
pub record DataSymbol (m : ℕ) : Type 0 where
  pub inside : m < 36
  pub outside : 12 ≤ m → 24 ≤ m

-- the functions ask: j is one of c coded bits, c being at most what the longest message has
pub record OneOf (c j : ℕ) : Type 0 where
  pub inside : j < c
  pub most : c ≤ 6216

-- j is a coded bit of a message of l bytes, or an index of its shifted stream
pub record CodedBit (l j : ℕ) : Type 0 where
  pub message : Length l
  pub coded : j < coded_bits l

-- m is a data symbol of sub-packet s
pub record BurstSymbol (l s m : ℕ) : Type 0 where
  pub message : Length l
  pub packet : s < sub_packets l
  pub symbol : DataSymbol m

-- o is one of the 24 places of sub-packet s
pub record BurstPlace (l s o : ℕ) : Type 0 where
  pub message : Length l
  pub packet : s < sub_packets l
  pub place : o < 24

-- and give: i is the index of coded bit j of c
pub record Shifted (c j i : ℕ) : Type 0 where
  pub coded : j < c
  pub index : shifted_index c j ≡ i

-- index i of the shifted stream lies in sub-packet s at place o
pub record Ordered (l i s o : ℕ) : Type 0 where
  pub index : i < coded_bits l
  pub packet : sub_packet (extension l) i ≡ s
  pub place : order (extension l) i ≡ o

-- place o of sub-packet s is carried by symbol m
pub record Carried (s o m : ℕ) : Type 0 where
  pub place : o < 24
  pub carrier : symbol s o ≡ m
