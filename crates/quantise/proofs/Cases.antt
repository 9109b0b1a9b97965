-- The points of reference hold: each is computed. Assumes nothing.
use mathlib.Core.Path.{refl}
use Rattle.quantise.specs.Number.{number_of}
use Rattle.quantise.specs.Value.{value_of}
use Rattle.quantise.specs.Finding.{finding_of}
use Rattle.quantise.specs.Cases.{Cases}

pub cases : Cases
unfolding number_of value_of finding_of
cases =
    record {
      half = record { stands = refl; gives = refl };
      minus_half = record { stands = refl; gives = refl };
      two_and_a_half = record { stands = refl; gives = refl };
      minus_two_and_a_half = record { stands = refl; gives = refl };
      just_below_half = record { stands = refl; gives = refl };
      odd_and_large = record { stands = refl; gives = refl };
      at126_and_a_half = record { stands = refl; gives = refl };
      just_below126_and_a_half = record { stands = refl; gives = refl };
      at127_and_a_half = record { stands = refl; gives = refl };
      at128 = record { stands = refl; gives = refl };
      at_minus128 = record { stands = refl; gives = refl };
      greatest_number = record { stands = refl; gives = refl };
      least_number = record { stands = refl; gives = refl };
      zero = record { stands = refl; gives = refl };
      minus_zero = record { stands = refl; gives = refl };
      infinity = record { stands = refl; gives = refl };
      minus_infinity = record { stands = refl; gives = refl };
      quiet_nan = record { stands = refl; gives = refl };
      signalling_nan = record { stands = refl; gives = refl };
      zeros = refl;
      least_among_zeros = refl;
      infinity_among_zeros = refl;
      nan_beside_infinity = refl;
    }
