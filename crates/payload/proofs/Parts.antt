-- The bits that a part of a buffer carries are a part of the bits that it carries; and the CRCs over such parts are those that the checks ask. Assumes nothing.
use mathlib.Core.Bool.{Bool}
use mathlib.Core.List.{List, [], ◌∷◌, map}
use mathlib.Core.Path.{◌≡◌, refl, ap, ◌∙◌}
use Prim.Native.Nat.{ℕ, zero, suc, ◌+◌, ◌-◌, ◌*◌}
use native.Mathlib.Omega.{arith}
use lib.ListN.{length, take, drop}
use Rattle.bits.specs.Bits.{is_one}
use Rattle.crc.specs.Crc.{crc8}
use Rattle.payload.specs.Payload.{payload_bits}
use Rattle.payload.specs.Open.{header_check, payload_check}

map-is_one-take : (k : ℕ) (v : List ℕ) → map is_one (take k v) ≡ take k (map is_one v)
map-is_one-take zero v = refl
map-is_one-take (suc k) [] = refl
map-is_one-take (suc k) (x ∷ v) = ap (λ (l : List Bool). is_one x ∷ l) (map-is_one-take k v)

map-is_one-drop : (at : ℕ) (v : List ℕ) → map is_one (drop at v) ≡ drop at (map is_one v)
map-is_one-drop zero v = refl
map-is_one-drop (suc at) [] = refl
map-is_one-drop (suc at) (x ∷ v) = map-is_one-drop at v

pub map-is_one_part : (k at : ℕ) (v : List ℕ) → map is_one (take k (drop at v)) ≡ take k (drop at (map is_one v))
map-is_one_part k at v = map-is_one-take k (drop at v) ∙ ap (λ (l : List Bool). take k l) (map-is_one-drop at v)

pub header_check_part : (bits : List ℕ) → crc8 (map is_one (take 16 (drop 8 bits))) ≡ header_check (map is_one bits)
header_check_part bits = ap crc8 (map-is_one_part 16 8 bits)

-- what stands from place 24 on is message and mode
pub payload_check_part : (l : ℕ) (bits : List ℕ) → length bits ≡ payload_bits l
    → crc8 (map is_one (take (length bits - 24) (drop 24 bits))) ≡ payload_check l (map is_one bits)
payload_check_part l bits e =
    let size : length bits - 24 ≡ 8 * l + 2 = omega arith in
    rw size (ap crc8 (map-is_one_part (8 * l + 2) 24 bits))
