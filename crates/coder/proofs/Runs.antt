-- Coding in runs: what a run gives depends on the last six bits taken alone, and one run after another gives what both at once do; with the state of the loop that
-- codes a run, from its start to its end. Assumes nothing.
use mathlib.Core.Bool.{Bool, true, false, cond}
use mathlib.Core.List.{List, [], ◌∷◌, ◌++◌, map, map-append, append_assoc, append-nil, reverse_aux}
use mathlib.Core.Path.{◌≡◌, refl, sym, ap, ◌∙◌}
use Prim.Native.Nat.{ℕ, suc, ◌+◌, ◌-◌, ◌*◌, ◌/◌, ◌%◌, ◌<◌, ◌≤◌}
use native.Mathlib.Numerals.{add-one}
use native.Mathlib.Omega.{arith}
use lib.ListN.{length, get_or, set, take, drop, replicate}
use lib.ListN.{length-append, length-drop, length-map, drop_of_length-le, get_or-map}
use lib.Seq.{sets, sets-eq, drop-append-add, take-suc, take_all, take_at, drop_at, drop-drop, length-take-le}
use Rattle.bits.specs.Bits.{bit, is_one, bits_of}
use Rattle.bits.proofs.Bits.{length-bits_of, bits_of_same_rest}
use Rattle.coder.specs.Coder.{Words, outputs, coded_after, tail, coded, uplink_words}
use Rattle.coder.specs.Register.{Holds, shifted, Short}
use Rattle.coder.specs.Encode.{Entered, Ran}
use Rattle.coder.proofs.Coded.{length-coded_after}
use Rattle.coder.proofs.Register.{holds_start, holds_shifted, outputs-held, uplink_words_short}

-- runs of bits

-- one run after another
pub coded_after-append : (w : Words) (taken xs ys : List Bool)
    → coded_after w taken (xs ++ ys) ≡ coded_after w taken xs ++ coded_after w (reverse_aux xs taken) ys
unfolding coded_after
coded_after-append w taken [] ys = refl
coded_after-append w taken (x ∷ xs) ys = rw (coded_after-append w (x ∷ taken) xs ys)

-- the last six bits taken decide what a run gives
pub coded_after-held : {w : Words} {taken before : List Bool} {s : ℕ} → Short w → Holds taken s → Holds before s
    → (xs : List Bool) → coded_after w taken xs ≡ coded_after w before xs
unfolding coded_after
coded_after-held h p q [] = refl
coded_after-held {w = w} {taken = taken} {before = before} h p q (x ∷ xs) =
    cc (outputs-held x h p, outputs-held x h q, coded_after-held {taken = x ∷ taken} {before = x ∷ before} h (holds_shifted x p) (holds_shifted x q) xs)

-- six bits are what their number holds
pub holds_bits_of : (s : ℕ) → s < 64 → Holds (bits_of 6 s) s
holds_bits_of s h =
    record { below = h; last_six = sym (take_at (bits_of 6 s) (replicate 6 false) 6 (length-bits_of 6 s)) }

reverse_aux_last : (xs taken : List Bool) (b : Bool) → reverse_aux (xs ++ (b ∷ [])) taken ≡ b ∷ reverse_aux xs taken
reverse_aux_last [] taken b = refl
reverse_aux_last (x ∷ xs) taken b = reverse_aux_last xs (x ∷ taken) b

-- the bit that enters and the six before it, as one number
pub window_bits : (b : Bool) (s : ℕ) → s < 64 → bits_of 7 (cond b (s + 64) s) ≡ b ∷ bits_of 6 s
unfolding bits_of
window_bits true s h =
    let top : (s + 64) / 64 % 2 ≡ 1 = omega arith in
    rw top (ap (λ (l : List Bool). true ∷ l) (bits_of_same_rest 6 (s + 64) s (omega arith)))
window_bits false s h =
    let top : s / 64 % 2 ≡ 0 = omega arith in
    rw top

pub window_half : (b : Bool) (s : ℕ) → cond b (s + 64) s / 2 ≡ shifted b s
window_half true s = omega arith
window_half false s = omega arith

-- the loop that codes a run

-- before bit i: the outputs of the bits before it are written, and s has the last six bits
pub record Coding (before : ℕ) (bits old out : List ℕ) (s i : ℕ) : Type 0 where
  pub written : out ≡ map bit (coded_after uplink_words (bits_of 6 before) (take i (map is_one bits))) ++ drop (3 * i) old
  pub held : Holds (reverse_aux (take i (map is_one bits)) (bits_of 6 before)) s

pub coding_start : (before : ℕ) (bits old : List ℕ) → before < 64 → Coding before bits old old before 0
unfolding coded_after
coding_start before bits old h = record { written = refl; held = holds_bits_of before h }

take_more : (bits : List ℕ) (i : ℕ) → i < length bits → take (i + 1) (map is_one bits) ≡ take i (map is_one bits) ++ (is_one (get_or bits i 0) ∷ [])
take_more bits i h =
    let inside : i < length (map is_one bits) = rw length-map h in
    rw (add-one, take-suc (map is_one bits) i (is_one 0) inside, get_or-map is_one bits i 0)

-- a run that is stored after what is there already
sets_after : (ps rest vs : List ℕ) {n : ℕ} → length ps ≡ n → length vs ≤ length rest
    → sets (ps ++ rest) n vs ≡ (ps ++ vs) ++ drop (length vs) rest
sets_after ps rest vs {n} e h =
    sets-eq vs (ps ++ rest) n (rw length-append (omega arith))
    ∙ rw (take_at ps rest n e, ← e, drop-append-add)

-- the three bytes from 3 i on, written over one by one
abbrev pub stored_at : ℕ → List ℕ → List ℕ → List ℕ
stored_at i out three =
    set (set (set out (3 * i) (get_or three 0 0)) (3 * i + 1) (get_or three 1 0)) (3 * i + 2) (get_or three 2 0)

-- the outputs of one bit more, after those of the bits xs
written_step : (taken xs : List Bool) (b : Bool) (old : List ℕ) (i : ℕ) → length xs ≡ i → 3 * (i + 1) ≤ length old
    → stored_at i (map bit (coded_after uplink_words taken xs) ++ drop (3 * i) old)
    (map bit (outputs uplink_words (b ∷ reverse_aux xs taken)))
    ≡ map bit (coded_after uplink_words taken (xs ++ (b ∷ []))) ++ drop (3 * (i + 1)) old
unfolding coded_after
written_step taken xs b old i e room =
    let ps : List ℕ = map bit (coded_after uplink_words taken xs) in
    let outs : List ℕ = map bit (outputs uplink_words (b ∷ reverse_aux xs taken)) in
    let rest : List ℕ = drop (3 * i) old in
    let long : length ps ≡ 3 * i = rw (length-map, length-coded_after, e) in
    let second : 3 * i + 1 ≡ suc (3 * i) = omega arith in
    let third : 3 * i + 2 ≡ suc (suc (3 * i)) = omega arith in
    let end : 3 * i + 3 ≡ 3 * (i + 1) = omega arith in
    let run : stored_at i (ps ++ rest) outs ≡ sets (ps ++ rest) (3 * i) outs = rw (second, third) in
    run
    ∙ sets_after ps rest outs long (rw length-drop (omega arith))
    ∙ rw (drop-drop, end, coded_after-append, map-append)

pub coding_step : {before s i w : ℕ} {bits old out three : List ℕ} → Coding before bits old out s i → i < length bits
    → 3 * length bits ≤ length old
    → Entered (get_or bits i 0) s w
    → three ≡ map bit (outputs uplink_words (bits_of 7 w))
    → Coding before bits old (stored_at i out three) (w / 2) (i + 1)
coding_step {before} {s} {i} {w} {bits} {old} {out} p h room entered e =
    let b : Bool = is_one (get_or bits i 0) in
    let xs : List Bool = take i (map is_one bits) in
    let z : List Bool = bits_of 6 before in
    let outs : outputs uplink_words (bits_of 7 w) ≡ outputs uplink_words (b ∷ reverse_aux xs z) =
    ap (λ (n : ℕ). outputs uplink_words (bits_of 7 n)) entered.number
    ∙ ap (λ (l : List Bool). outputs uplink_words l) (window_bits b s p.held.below)
    ∙ sym (outputs-held b uplink_words_short p.held) in
    let long : length xs ≡ i = length-take-le i (map is_one bits) (rw length-map (omega arith)) in
    record {
      written =
          ap (λ (l : List ℕ). stored_at i out l) (e ∙ ap (map bit) outs)
          ∙ ap (λ (l : List ℕ). stored_at i l (map bit (outputs uplink_words (b ∷ reverse_aux xs z)))) p.written
          ∙ written_step z xs b old i long (omega arith)
          ∙ ap (λ (l : List Bool). map bit (coded_after uplink_words z l) ++ drop (3 * (i + 1)) old) (sym (take_more bits i h));
      held = rw (take_more bits i h, reverse_aux_last, entered.number, window_half) (holds_shifted b p.held);
    }

-- a string and the six zeros that follow it

-- six bits as a number stand for the bits before the zeros
coded_runs : (xs : List Bool) {s : ℕ} → Holds (reverse_aux xs (bits_of 6 0)) s
    → coded uplink_words xs ≡ coded_after uplink_words (bits_of 6 0) xs ++ coded_after uplink_words (bits_of 6 s) tail
unfolding coded
coded_runs xs {s} p =
    coded_after-held uplink_words_short holds_start (holds_bits_of 0 (omega arith)) (xs ++ tail)
    ∙ coded_after-append uplink_words (bits_of 6 0) xs tail
    ∙ ap (λ (l : List Bool). coded_after uplink_words (bits_of 6 0) xs ++ l) (coded_after-held uplink_words_short p (holds_bits_of s p.below) tail)

-- what the two runs leave: the coded bits of the string, and the rest as it was
pub runs_coded : {bits old first zeros : List ℕ} {s r : ℕ} → length first ≡ length old → Ran 0 bits old first s
    → Ran s (replicate 6 0) (take (length first - 3 * length bits) (drop (3 * length bits) first)) zeros r
    → take (3 * length bits) first ++ (zeros ++ drop (length first - 3 * length bits) (drop (3 * length bits) first))
    ≡ map bit (coded uplink_words (map is_one bits)) ++ drop (3 * (length bits + 6)) old
runs_coded {bits} {old} {first} {zeros} {s} sized p q =
    let a : ℕ = 3 * length bits in
    let ps : List ℕ = map bit (coded_after uplink_words (bits_of 6 0) (map is_one bits)) in
    let long : length ps ≡ a = rw (length-map, length-coded_after, length-map) in
    let front : take a first ≡ ps = ap (λ (l : List ℕ). take a l) p.written ∙ take_at ps (drop a old) a long in
    let rest : drop a first ≡ drop a old = ap (λ (l : List ℕ). drop a l) p.written ∙ drop_at ps (drop a old) a long in
    let whole : take (length first - a) (drop a first) ≡ drop a first = take_all (length first - a) (drop a first) (rw length-drop (omega arith)) in
    let none : drop (length first - a) (drop a first) ≡ [] = drop_of_length-le (drop a first) {i = length first - a} (rw length-drop (omega arith)) in
    let end : a + 18 ≡ 3 * (length bits + 6) = omega arith in
    let tails : zeros ≡ map bit (coded_after uplink_words (bits_of 6 s) tail) ++ drop (3 * (length bits + 6)) old =
    q.written
    ∙ ap (λ (l : List ℕ). map bit (coded_after uplink_words (bits_of 6 s) tail) ++ drop 18 l) (whole ∙ rest)
    ∙ rw (drop-drop, end) in
    rw (front, none, append-nil, tails, coded_runs (map is_one bits) p.held, map-append, append_assoc)
