-- The loops over fields of tag 03: storing them one after another, and taking their values out; a field is its head and then its value.
-- Assumes nothing.
use mathlib.Core.List.{List, [], ◌∷◌, ◌++◌}
use mathlib.Core.Path.{◌≡◌, refl, ap, ◌∙◌}
use Prim.Native.Nat.{ℕ, ◌+◌, ◌*◌, ◌-◌, ◌/◌, ◌%◌, ◌≤◌, ◌<◌}
use native.Mathlib.Omega.{arith}
use lib.ListN.{length, take, drop, length-drop}
use lib.Seq.{length-take-le}
use Rattle.capture.specs.Capture.{field, packets}
use Rattle.capture.specs.Reading.{values_from}
use Rattle.buffers.specs.Buffers.{Appends}
use Rattle.capture.specs.Parts.{FieldFits, head_of}
use Rattle.buffers.proofs.Appending.{appends_none, appends_then, appends_length, appends_front}
use Rattle.capture.proofs.Packets.{packets_more, values_from_more, length-packets, length-values_from}

pub appends_field :
    {old mid new value : List ℕ} {tag at next end : ℕ}
    → Appends old at (tag ∷ length value / 256 ∷ length value % 256 ∷ []) mid next → Appends mid next value new end → Appends old at (field tag value) new end
unfolding field
appends_field p q = appends_then p q

-- a head that says the value's size, and then the value, are the field
pub headed_field :
    {old mid new value head : List ℕ} {tag size at next end : ℕ}
    → head ≡ head_of tag size → size ≡ length value → Appends old at head mid next → Appends mid next value new end → Appends old at (field tag value) new end
headed_field {tag = tag} said same p q = appends_field (rw (← (said ∙ ap (head_of tag) same)) p) q

-- the part from 24 s to 24 s + 24
width : (from : ℕ) → from + 24 - from ≡ 24
width from = omega arith

-- at least the values of so many fields, and room for the fields
pub record Storable (count : ℕ) (values out : List ℕ) (at : ℕ) : Type 0 where
  pub sized : 24 * count ≤ length values
  pub room : at + 27 * count ≤ length out

-- before field s: the fields before it are stored
pub record Storing (count : ℕ) (values old out : List ℕ) (at next s : ℕ) : Type 0 where
  pub within : s ≤ count
  pub fits : Storable count values old at
  pub sized : length out ≡ length old
  pub done : Appends old at (packets s values) out next

pub storing_start : {count : ℕ} {values old : List ℕ} {at : ℕ} → Storable count values old at → Storing count values old old at at 0
unfolding packets
storing_start {old = old} {at = at} f = record { within = omega arith; fits = f; sized = refl; done = appends_none old at }

module _ {count : ℕ} {values old out : List ℕ} {at next s : ℕ} (p : Storing count values old out at next s) (h : s < count) where
  one_packet : length (take (24 * s + 24 - 24 * s) (drop (24 * s) values)) ≡ 24
  one_packet = rw (width (24 * s)) (length-take-le 24 (drop (24 * s) values) (omega (arith, length-drop (24 * s) values, p.fits.sized)))

  pub storing_fits : FieldFits (take (24 * s + 24 - 24 * s) (drop (24 * s) values)) out next
  storing_fits =
      record {
        two_bytes = omega (arith, one_packet);
        room = omega (arith, one_packet, p.done.ends, p.sized, p.fits.room, length-packets s values (omega (arith, p.fits.sized)));
      }

  pub storing_step : {new : List ℕ} {end : ℕ} → Appends out next (field 3 (take (24 * s + 24 - 24 * s) (drop (24 * s) values))) new end → Storing count values old new at end (s + 1)
  storing_step {new} {end} q =
      record {
        within = omega arith;
        fits = p.fits;
        sized = appends_length q ∙ p.sized;
        done = rw (packets_more s values) (appends_then p.done (rw (width (24 * s)) at q));
      }

pub storing_end : {count : ℕ} {values old out : List ℕ} {at next s : ℕ} → Storing count values old out at next s → count ≤ s → Appends old at (packets count values) out next
storing_end {count} {s = s} p h =
    let e : s ≡ count = omega (arith, p.within) in
    rw e at p.done

-- at least so many fields of values, and room for the values
pub record Takeable (count : ℕ) (c values : List ℕ) : Type 0 where
  pub sized : 27 * count ≤ length c
  pub room : 24 * count ≤ length values

-- before field s: the values of the fields before it are taken
pub record Taking (count : ℕ) (c old out : List ℕ) (s : ℕ) : Type 0 where
  pub within : s ≤ count
  pub fits : Takeable count c old
  pub sized : length out ≡ length old
  pub done : Appends old 0 (values_from s c) out (24 * s)

pub taking_start : {count : ℕ} {c old : List ℕ} → Takeable count c old → Taking count c old old 0
unfolding values_from
taking_start {old = old} f = record { within = omega arith; fits = f; sized = refl; done = appends_none old 0 }

module _ {count : ℕ} {c old out : List ℕ} {s : ℕ} (p : Taking count c old out s) (h : s < count) where
  one_field : length (take (27 * s + 3 + 24 - (27 * s + 3)) (drop (27 * s + 3) c)) ≡ 24
  one_field = rw (width (27 * s + 3)) (length-take-le 24 (drop (27 * s + 3) c) (omega (arith, length-drop (27 * s + 3) c, p.fits.sized)))

  pub taking_fits : 24 * s + length (take (27 * s + 3 + 24 - (27 * s + 3)) (drop (27 * s + 3) c)) ≤ length out
  taking_fits = omega (arith, one_field, p.sized, p.fits.room)

  pub taking_step : {new : List ℕ} {end : ℕ} → Appends out (24 * s) (take (27 * s + 3 + 24 - (27 * s + 3)) (drop (27 * s + 3) c)) new end → Taking count c old new (s + 1)
  taking_step {new} {end} q =
      let e : end ≡ 24 * (s + 1) = omega (arith, q.ends, one_field) in
      record {
        within = omega arith;
        fits = p.fits;
        sized = appends_length q ∙ p.sized;
        done = rw (← e, values_from_more s c) (appends_then p.done (rw (width (27 * s + 3)) at q));
      }

pub taking_end : {count : ℕ} {c old out : List ℕ} {s : ℕ} → Taking count c old out s → count ≤ s → out ≡ values_from count c ++ drop (24 * count) old
taking_end {count} {c} {old} {out} {s} p h =
    let e : s ≡ count = omega (arith, p.within) in
    appends_front (24 * count) (rw e at p.done) (length-values_from count c (omega (arith, p.fits.sized))) p.fits.room
