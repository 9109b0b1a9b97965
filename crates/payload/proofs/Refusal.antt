-- Laws of the checks: what each number of `open_refusal` says in plain facts, and which number the facts give. Assumes nothing.
use mathlib.Core.Bool.{Bool, true, false, cond}
use mathlib.Core.List.{List}
use mathlib.Core.Path.{◌≡◌, refl}
use Prim.Native.Nat.{ℕ}
use native.Mathlib.Omega.{arith}
use borrow.Author.Tests.{eqb-true, eqb-false, eq-eqb, ne_eqb}
use lib.Dec.{eqb}
use Rattle.payload.specs.Open.{header_field, payload_field, psi_field, header_check, payload_check, open_refusal}

-- the number of the first of three checks that fails
abbrev first_failed : Bool → Bool → Bool → ℕ
first_failed header psi payload = cond header (cond psi (cond payload 0 9) 8) 7

first_failed_0 : (header psi payload : Bool) → first_failed header psi payload ≡ 0 → (header ≡ true) × (psi ≡ true) × (payload ≡ true)
first_failed_0 true true true e = (refl, refl, refl)
first_failed_0 true true false e = absurd (omega arith)
first_failed_0 true false payload e = absurd (omega arith)
first_failed_0 false psi payload e = absurd (omega arith)

first_failed_7 : (header psi payload : Bool) → first_failed header psi payload ≡ 7 → header ≡ false
first_failed_7 true true true e = absurd (omega arith)
first_failed_7 true true false e = absurd (omega arith)
first_failed_7 true false payload e = absurd (omega arith)
first_failed_7 false psi payload e = refl

first_failed_8 : (header psi payload : Bool) → first_failed header psi payload ≡ 8 → (header ≡ true) × (psi ≡ false)
first_failed_8 true true true e = absurd (omega arith)
first_failed_8 true true false e = absurd (omega arith)
first_failed_8 true false payload e = (refl, refl)
first_failed_8 false psi payload e = absurd (omega arith)

first_failed_9 : (header psi payload : Bool) → first_failed header psi payload ≡ 9 → (header ≡ true) × (psi ≡ true) × (payload ≡ false)
first_failed_9 true true true e = absurd (omega arith)
first_failed_9 true true false e = (refl, refl, refl)
first_failed_9 true false payload e = absurd (omega arith)
first_failed_9 false psi payload e = absurd (omega arith)

-- every check passes
pub record Passes (l : ℕ) (bs : List Bool) : Type 0 where
  pub header : header_field bs ≡ header_check bs
  pub psi : psi_field bs ≡ l
  pub payload : payload_field bs ≡ payload_check l bs

-- the header CRC is right, and the PSI is not l
pub record PsiWrong (l : ℕ) (bs : List Bool) : Type 0 where
  pub header : header_field bs ≡ header_check bs
  pub psi : psi_field bs ≡ l → ⊥

-- header CRC and PSI are right, and the payload CRC is not
pub record PayloadWrong (l : ℕ) (bs : List Bool) : Type 0 where
  pub header : header_field bs ≡ header_check bs
  pub psi : psi_field bs ≡ l
  pub payload : payload_field bs ≡ payload_check l bs → ⊥

module _ (l : ℕ) (bs : List Bool) where
  header_right : Bool
  header_right = eqb (header_field bs) (header_check bs)

  psi_right : Bool
  psi_right = eqb (psi_field bs) l

  payload_right : Bool
  payload_right = eqb (payload_field bs) (payload_check l bs)

  -- from the number to the facts

  pub refusal_0 : open_refusal l bs ≡ 0 → Passes l bs
  unfolding open_refusal header_right psi_right payload_right
  refusal_0 e =
      let right = first_failed_0 header_right psi_right payload_right e in
      record {
        header = eqb-true (header_field bs) (header_check bs) right.0;
        psi = eqb-true (psi_field bs) l right.1;
        payload = eqb-true (payload_field bs) (payload_check l bs) right.2;
      }

  pub refusal_7 : open_refusal l bs ≡ 7 → header_field bs ≡ header_check bs → ⊥
  unfolding open_refusal header_right psi_right payload_right
  refusal_7 e = eqb-false (header_field bs) (header_check bs) (first_failed_7 header_right psi_right payload_right e)

  pub refusal_8 : open_refusal l bs ≡ 8 → PsiWrong l bs
  unfolding open_refusal header_right psi_right payload_right
  refusal_8 e =
      let found = first_failed_8 header_right psi_right payload_right e in
      record {
        header = eqb-true (header_field bs) (header_check bs) found.0;
        psi = eqb-false (psi_field bs) l found.1;
      }

  pub refusal_9 : open_refusal l bs ≡ 9 → PayloadWrong l bs
  unfolding open_refusal header_right psi_right payload_right
  refusal_9 e =
      let found = first_failed_9 header_right psi_right payload_right e in
      record {
        header = eqb-true (header_field bs) (header_check bs) found.0;
        psi = eqb-true (psi_field bs) l found.1;
        payload = eqb-false (payload_field bs) (payload_check l bs) found.2;
      }

  -- from the facts to the number

  pub passes_refusal : Passes l bs → open_refusal l bs ≡ 0
  unfolding open_refusal
  passes_refusal p =
      rw (eq-eqb _ _ p.header, eq-eqb _ _ p.psi, eq-eqb _ _ p.payload)

  pub header_wrong_refusal : (header_field bs ≡ header_check bs → ⊥) → open_refusal l bs ≡ 7
  unfolding open_refusal
  header_wrong_refusal h = rw (ne_eqb _ _ h)

  pub psi_wrong_refusal : PsiWrong l bs → open_refusal l bs ≡ 8
  unfolding open_refusal
  psi_wrong_refusal p = rw (eq-eqb _ _ p.header, ne_eqb _ _ p.psi)

  pub payload_wrong_refusal : PayloadWrong l bs → open_refusal l bs ≡ 9
  unfolding open_refusal
  payload_wrong_refusal p = rw (eq-eqb _ _ p.header, eq-eqb _ _ p.psi, ne_eqb _ _ p.payload)
