-- Each refusal's number where its condition is the first that holds, for build and for recover.
-- Assumes nothing.
use mathlib.Core.Bool.{Bool, true, false, cond, ◌&&◌}
use mathlib.Core.List.{List}
use mathlib.Core.Path.{◌≡◌, refl, sym, ap, ◌∙◌}
use Prim.Native.Nat.{ℕ, ◌+◌, ◌*◌, ◌≤◌, ◌<◌}
use native.Mathlib.Decide.{dec_lt, ℕ_discrete}
use native.Mathlib.Omega.{arith}
use borrow.Author.Tests.{lt-ltb, le-ltb, eq-eqb, ne_eqb}
use lib.Dec.{ltb, eqb}
use lib.ListN.{length}
use Rattle.refusals.specs.declared.Refusal.{Refusal}
use Rattle.refusals.specs.Refusals.{number}
use Rattle.refusals.proofs.Refusals.{number_not_zero}
use Rattle.interleave.specs.Interleave.{Length}
use Rattle.payload.specs.Open.{open_refusal}
use Rattle.uplink.specs.Build.{length_wrong, frame_size, build_refusal}
use Rattle.uplink.specs.Recover.{marks_good, silent, opened, recover_refusal}
use Rattle.uplink.specs.Parts.{sizes_refusal}
use Rattle.uplink.specs.Demands.{FirstBuild, FirstRecover, Formed}

pub length_wrong_short : (l : ℕ) → l < 20 → length_wrong l ≡ true
length_wrong_short l h = rw (lt-ltb l 20 h)

pub length_wrong_long : (l : ℕ) → 255 < l → length_wrong l ≡ true
length_wrong_long l h = rw (le-ltb l 20 (omega arith), lt-ltb 255 l h)

pub length_wrong_right : {l : ℕ} → Length l → length_wrong l ≡ false
length_wrong_right {l} h = rw (le-ltb l 20 h.low, le-ltb 255 l h.high)

-- a told length that is refused is wrong, and one that is not is right
pub told_wrong : (l : ℕ) (r : Refusal) → number r ≡ cond (length_wrong l) 1 0 → length_wrong l ≡ true
told_wrong l r = go (length_wrong l)
  where
    go : (t : Bool) → number r ≡ cond t 1 0 → t ≡ true
    go true e = refl
    go false e = absurd (number_not_zero r e)

pub told_right : {l : ℕ} → ◌≡◌ {A = ℕ} 0 (cond (length_wrong l) 1 0) → Length l
told_right {l} e = low (dec_lt l 20) (dec_lt 255 l)
  where
    go : (t : Bool) → ◌≡◌ {A = ℕ} 0 (cond t 1 0) → t ≡ true → ⊥
    go true z w = absurd (omega (arith, z))
    go false z w = absurd (omega (arith, ap (λ (t : Bool). cond {A = ℕ} t 1 0) w))

    wrong : length_wrong l ≡ true → ⊥
    wrong = go (length_wrong l) e

    low : Dec (l < 20) → Dec (255 < l) → Length l
    low (yes h) d = absurd (wrong (length_wrong_short l h))
    low (no h) (yes d) = absurd (wrong (length_wrong_long l d))
    low (no h) (no d) = record { low = omega arith; high = omega arith }

module _ (l mode size room : ℕ) where
  pub build_told : (r : Refusal) → number r ≡ cond (length_wrong l) 1 0 → number r ≡ build_refusal l mode size room
  unfolding build_refusal
  build_told r e = rw (told_wrong l r e) (e ∙ rw (told_wrong l r e))

  pub build_short : l < 20 → build_refusal l mode size room ≡ 1
  unfolding build_refusal
  build_short h = rw (length_wrong_short l h)

  pub build_long : 255 < l → build_refusal l mode size room ≡ 1
  unfolding build_refusal
  build_long h = rw (length_wrong_long l h)

  pub build_size : Length l → (size ≡ l → ⊥) → build_refusal l mode size room ≡ 2
  unfolding build_refusal
  build_size h s = rw (length_wrong_right h, ne_eqb size l s)

  pub build_room : Length l → size ≡ l → room < frame_size l → build_refusal l mode size room ≡ 3
  unfolding build_refusal
  build_room h s r = rw (length_wrong_right h, eq-eqb size l s, lt-ltb room (frame_size l) r)

  pub build_mode : Length l → size ≡ l → frame_size l ≤ room → 3 < mode → build_refusal l mode size room ≡ 4
  unfolding build_refusal
  build_mode h s r m = rw (length_wrong_right h, eq-eqb size l s, le-ltb room (frame_size l) r, lt-ltb 3 mode m)

  pub build_done : Length l → size ≡ l → frame_size l ≤ room → mode ≤ 3 → build_refusal l mode size room ≡ 0
  unfolding build_refusal
  build_done h s r m = rw (length_wrong_right h, eq-eqb size l s, le-ltb room (frame_size l) r, le-ltb 3 mode m)

  -- the number is that of the first condition that holds
  pub build_first : FirstBuild l mode size room (build_refusal l mode size room)
  build_first = low (dec_lt l 20) (dec_lt 255 l)
    where
      last : Length l → size ≡ l → Dec (room < frame_size l) → Dec (3 < mode) → FirstBuild l mode size room (build_refusal l mode size room)
      last h s (yes r) m = rw (build_room h s r) (FirstBuild.room h s r)
      last h s (no r) (yes m) = rw (build_mode h s (omega arith) m) (FirstBuild.mode h s (omega arith) m)
      last h s (no r) (no m) = rw (build_done h s (omega arith) (omega arith)) (FirstBuild.done h s (omega arith) (omega arith))

      sized : Length l → Dec (size ≡ l) → FirstBuild l mode size room (build_refusal l mode size room)
      sized h (yes s) = last h s (dec_lt room (frame_size l)) (dec_lt 3 mode)
      sized h (no s) = rw (build_size h s) (FirstBuild.size h s)

      low : Dec (l < 20) → Dec (255 < l) → FirstBuild l mode size room (build_refusal l mode size room)
      low (yes h) d = rw (build_short h) (FirstBuild.short h)
      low (no h) (yes d) = rw (build_long d) (FirstBuild.long d)
      low (no h) (no d) = sized (record { low = omega arith; high = omega arith }) (ℕ_discrete size l)

-- sizes: 1 length, 2 marks or values
module _ (l : ℕ) (marks values : List ℕ) where
  pub sizes_told : (r : Refusal) → number r ≡ cond (length_wrong l) 1 0 → number r ≡ sizes_refusal l marks values
  unfolding sizes_refusal
  sizes_told r e = rw (told_wrong l r e) (e ∙ rw (told_wrong l r e))

  pub sizes_marks : Length l → (length marks ≡ l + 4 → ⊥) → sizes_refusal l marks values ≡ 2
  unfolding sizes_refusal
  sizes_marks h s = rw (length_wrong_right h, ne_eqb (length marks) (l + 4) s)

  pub sizes_values : Length l → (length values ≡ 24 * (l + 4) → ⊥) → sizes_refusal l marks values ≡ 2
  unfolding sizes_refusal
  sizes_values h s = rw (length_wrong_right h, ne_eqb (length values) (24 * (l + 4)) s) (go (eqb (length marks) (l + 4)))
    where
      go : (t : Bool) → cond {A = ℕ} (t && false) 0 2 ≡ 2
      go true = refl
      go false = refl

  pub sizes_right : Length l → length marks ≡ l + 4 → length values ≡ 24 * (l + 4) → sizes_refusal l marks values ≡ 0
  unfolding sizes_refusal
  sizes_right h m v = rw (length_wrong_right h, eq-eqb (length marks) (l + 4) m, eq-eqb (length values) (24 * (l + 4)) v)

  -- whatever is judged after the sizes, they decide where they are refused
  pub sizes_first : (rest : ℕ) (r : Refusal) → number r ≡ sizes_refusal l marks values
      → cond (length_wrong l) 1 (cond (eqb (length marks) (l + 4) && eqb (length values) (24 * (l + 4))) rest 2) ≡ number r
  unfolding sizes_refusal
  sizes_first rest r = go (length_wrong l) (eqb (length marks) (l + 4) && eqb (length values) (24 * (l + 4)))
    where
      go : (t s : Bool) → number r ≡ cond t 1 (cond s 0 2) → cond t 1 (cond s rest 2) ≡ number r
      go true s e = sym e
      go false true e = absurd (number_not_zero r e)
      go false false e = sym e

module _ (l : ℕ) (marks values : List ℕ) (room : ℕ) where
  pub recover_sizes : (r : Refusal) → number r ≡ sizes_refusal l marks values → recover_refusal l marks values room ≡ number r
  unfolding recover_refusal
  recover_sizes = sizes_first l marks values _

  pub recover_short : l < 20 → recover_refusal l marks values room ≡ 1
  unfolding recover_refusal
  recover_short h = rw (length_wrong_short l h)

  pub recover_long : 255 < l → recover_refusal l marks values room ≡ 1
  unfolding recover_refusal
  recover_long h = rw (length_wrong_long l h)

  pub recover_marks : Length l → (length marks ≡ l + 4 → ⊥) → recover_refusal l marks values room ≡ 2
  unfolding recover_refusal
  recover_marks h s = rw (length_wrong_right h, ne_eqb (length marks) (l + 4) s)

  pub recover_values : Length l → (length values ≡ 24 * (l + 4) → ⊥) → recover_refusal l marks values room ≡ 2
  unfolding recover_refusal
  recover_values h s = rw (length_wrong_right h, ne_eqb (length values) (24 * (l + 4)) s) (go (eqb (length marks) (l + 4)))
    where
      go : (t : Bool) → cond (t && false) (cond (ltb room l) 3 (cond (marks_good marks) (cond (silent marks values) 6 (open_refusal l (opened l marks values))) 5)) 2 ≡ 2
      go true = refl
      go false = refl

  module _ (h : Length l) (m : length marks ≡ l + 4) (v : length values ≡ 24 * (l + 4)) where
    sized_right : recover_refusal l marks values room ≡ cond (ltb room l) 3 (cond (marks_good marks) (cond (silent marks values) 6 (open_refusal l (opened l marks values))) 5)
    unfolding recover_refusal
    sized_right = rw (length_wrong_right h, eq-eqb (length marks) (l + 4) m, eq-eqb (length values) (24 * (l + 4)) v)

    pub recover_room : room < l → recover_refusal l marks values room ≡ 3
    recover_room r = sized_right ∙ rw (lt-ltb room l r)

    pub recover_mark : l ≤ room → marks_good marks ≡ false → recover_refusal l marks values room ≡ 5
    recover_mark r g = sized_right ∙ rw (le-ltb room l r, g)

  pub recover_silence : Formed l marks values room → silent marks values ≡ true → recover_refusal l marks values room ≡ 6
  recover_silence f s = sized_right f.told f.marked f.valued ∙ rw (le-ltb room l f.roomy, f.marks_are, s)

  pub recover_opening : Formed l marks values room → silent marks values ≡ false → recover_refusal l marks values room ≡ open_refusal l (opened l marks values)
  recover_opening f s = sized_right f.told f.marked f.valued ∙ rw (le-ltb room l f.roomy, f.marks_are, s)

  -- the number is that of the first condition that holds
  pub recover_first : FirstRecover l marks values room (recover_refusal l marks values room)
  recover_first = low (dec_lt l 20) (dec_lt 255 l)
    where
      heard : Formed l marks values room → (t : Bool) → silent marks values ≡ t → FirstRecover l marks values room (recover_refusal l marks values room)
      heard f true s = rw (recover_silence f s) (FirstRecover.silence f s)
      heard f false s = rw (recover_opening f s) (FirstRecover.opening f s)

      marked : Length l → length marks ≡ l + 4 → length values ≡ 24 * (l + 4) → l ≤ room → (t : Bool) → marks_good marks ≡ t → FirstRecover l marks values room (recover_refusal l marks values room)
      marked h m v r false g = rw (recover_mark h m v r g) (FirstRecover.mark h m v r g)
      marked h m v r true g = heard (record { told = h; marked = m; valued = v; roomy = r; marks_are = g }) (silent marks values) refl

      roomed : Length l → length marks ≡ l + 4 → length values ≡ 24 * (l + 4) → Dec (room < l) → FirstRecover l marks values room (recover_refusal l marks values room)
      roomed h m v (yes r) = rw (recover_room h m v r) (FirstRecover.room h m v r)
      roomed h m v (no r) = marked h m v (omega arith) (marks_good marks) refl

      sized : Length l → Dec (length marks ≡ l + 4) → Dec (length values ≡ 24 * (l + 4)) → FirstRecover l marks values room (recover_refusal l marks values room)
      sized h (yes m) (yes v) = roomed h m v (dec_lt room l)
      sized h (yes m) (no v) = rw (recover_values h v) (FirstRecover.values h v)
      sized h (no m) v = rw (recover_marks h m) (FirstRecover.marks h m)

      low : Dec (l < 20) → Dec (255 < l) → FirstRecover l marks values room (recover_refusal l marks values room)
      low (yes h) d = rw (recover_short h) (FirstRecover.short h)
      low (no h) (yes d) = rw (recover_long d) (FirstRecover.long d)
      low (no h) (no d) = sized (record { low = omega arith; high = omega arith }) (ℕ_discrete (length marks) (l + 4)) (ℕ_discrete (length values) (24 * (l + 4)))
