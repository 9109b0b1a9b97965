-- The parts of a line, one behind the other, and how long they are. Assumes nothing.
use mathlib.Core.List.{List, [], ◌∷◌, ◌++◌, append-nil, append_assoc}
use mathlib.Core.Path.{◌≡◌, refl, sym, ap, ◌∙◌}
use Prim.Native.Nat.{ℕ, ◌+◌, ◌*◌, ◌/◌, ◌%◌, ◌<◌, ◌≤◌}
use native.Mathlib.Numerals.{add-one}
use native.Mathlib.Omega.{arith}
use lib.ListN.{length, get_or, take, length-append}
use lib.Seq.{take-suc, take_all, length-take-le}
use Rattle.line.specs.Line.{hex, hex_digit, ok_line, refused_line}
use Rattle.line.specs.Parts.{ok_head, refused_head}

-- hex digits of one byte more
hex_snoc : (xs : List ℕ) (x : ℕ) → hex (xs ++ (x ∷ [])) ≡ hex xs ++ (hex_digit (x / 16) ∷ hex_digit (x % 16) ∷ [])
unfolding hex
hex_snoc [] x = refl
hex_snoc (y ∷ ys) x = ap (λ (l : List ℕ). hex_digit (y / 16) ∷ hex_digit (y % 16) ∷ l) (hex_snoc ys x)

pub length-hex : (xs : List ℕ) → length (hex xs) ≡ 2 * length xs
unfolding hex
length-hex [] = refl
length-hex (x ∷ xs) = omega (arith, length-hex xs)

-- the hex digits of the bytes before i stand behind what was there
pub hexes_step : (src before : List ℕ) (i : ℕ) {now : List ℕ} → i < length src → now ≡ before ++ hex (take i src)
    → now ++ (hex_digit (get_or src i 0 / 16) ∷ []) ++ (hex_digit (get_or src i 0 % 16) ∷ []) ≡ before ++ hex (take (i + 1) src)
hexes_step src before i h e =
    let longer : hex (take (i + 1) src) ≡ hex (take i src) ++ (hex_digit (get_or src i 0 / 16) ∷ hex_digit (get_or src i 0 % 16) ∷ []) =
    ap (λ (n : ℕ). hex (take n src)) (add-one i) ∙ ap hex (take-suc src i 0 h) ∙ hex_snoc (take i src) (get_or src i 0) in
    rw (e, longer) (simp append_assoc)

-- and there is room for two digits more
pub hexes_room : (src before : List ℕ) (i : ℕ) {now : List ℕ} → i < length src → now ≡ before ++ hex (take i src) → length before + 2 * length src ≤ 544
    → length now + 2 ≤ 544
hexes_room src before i h e room =
    omega (arith, ap length e, length-append before (hex (take i src)), length-hex (take i src), length-take-le i src (omega arith))

pub hexes_end : (src before : List ℕ) (i : ℕ) {now : List ℕ} → length src ≤ i → now ≡ before ++ hex (take i src) → now ≡ before ++ hex src
hexes_end src before i h e = e ∙ ap (λ (x : List ℕ). before ++ hex x) (take_all i src h)

pub hexes_start : (src before : List ℕ) → before ≡ before ++ hex (take 0 src)
unfolding hex
hexes_start src before = sym (append-nil before)

pub hexes_length : (src before : List ℕ) {now : List ℕ} → now ≡ before ++ hex src → length now ≡ length before + 2 * length src
hexes_length src before e = omega (arith, ap length e, length-append before (hex src), length-hex src)

-- with its line feed each is the line
pub ok_head_line : (l mode total : ℕ) (message : List ℕ) → ok_head l mode total message ++ (10 ∷ []) ≡ ok_line l mode total message
unfolding ok_line
ok_head_line l mode total message = simp append_assoc

pub refused_head_line : (n : ℕ) → refused_head n ++ (10 ∷ []) ≡ refused_line n
unfolding refused_line
refused_head_line n = simp append_assoc
