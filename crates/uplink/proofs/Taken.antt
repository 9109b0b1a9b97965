-- What is known of the input where the number is 0, for build and for recover.
-- Assumes nothing.
use mathlib.Core.Bool.{false}
use mathlib.Core.List.{List}
use mathlib.Core.Path.{◌≡◌}
use Prim.Native.Nat.{ℕ, ◌≤◌}
use native.Mathlib.Omega.{arith}
use Rattle.interleave.specs.Interleave.{Length}
use Rattle.payload.specs.Open.{open_refusal}
use Rattle.uplink.specs.Build.{frame_size, build_refusal}
use Rattle.uplink.specs.Recover.{silent, opened, recover_refusal}
use Rattle.uplink.specs.Demands.{FirstBuild, FirstRecover, Formed}
use Rattle.uplink.proofs.Refusals.{build_first, recover_first}

-- the length, the message's size, the room and the mode are right
pub record BuildTaken (l mode size room : ℕ) : Type 0 where
  pub told : Length l
  pub sized : size ≡ l
  pub roomy : frame_size l ≤ room
  pub modes : mode ≤ 3

build_taken_first : {l mode size room k : ℕ} → FirstBuild l mode size room k → k ≡ 0 → BuildTaken l mode size room
build_taken_first (FirstBuild.short h) e = absurd (omega arith)
build_taken_first (FirstBuild.long h) e = absurd (omega arith)
build_taken_first (FirstBuild.size h d) e = absurd (omega arith)
build_taken_first (FirstBuild.room h s r) e = absurd (omega arith)
build_taken_first (FirstBuild.mode h s r m) e = absurd (omega arith)
build_taken_first (FirstBuild.done h s r m) e = record { told = h; sized = s; roomy = r; modes = m }

pub build_taken : (l mode size room : ℕ) → build_refusal l mode size room ≡ 0 → BuildTaken l mode size room
build_taken l mode size room e = build_taken_first (build_first l mode size room) e

-- the call is formed, is heard, and its nearest string passes the checks
pub record RecoverTaken (l : ℕ) (marks values : List ℕ) (room : ℕ) : Type 0 where
  pub formed : Formed l marks values room
  pub heard : silent marks values ≡ false
  pub passes : open_refusal l (opened l marks values) ≡ 0

recover_taken_first : {l : ℕ} {marks values : List ℕ} {room k : ℕ} → FirstRecover l marks values room k → k ≡ 0 → RecoverTaken l marks values room
recover_taken_first (FirstRecover.short h) e = absurd (omega arith)
recover_taken_first (FirstRecover.long h) e = absurd (omega arith)
recover_taken_first (FirstRecover.marks h d) e = absurd (omega arith)
recover_taken_first (FirstRecover.values h d) e = absurd (omega arith)
recover_taken_first (FirstRecover.room h m v r) e = absurd (omega arith)
recover_taken_first (FirstRecover.mark h m v r g) e = absurd (omega arith)
recover_taken_first (FirstRecover.silence f s) e = absurd (omega arith)
recover_taken_first (FirstRecover.opening f s) e = record { formed = f; heard = s; passes = e }

pub recover_taken : (l : ℕ) (marks values : List ℕ) (room : ℕ) → recover_refusal l marks values room ≡ 0 → RecoverTaken l marks values room
recover_taken l marks values room e = recover_taken_first (recover_first l marks values room) e
