-- A serial is its number.
use Rattle.std.proofs.Common.{◌≡◌, ◌≢◌, ◌≤◌, subst}
use Rattle.std.specs.Coded.{le_prop, →_prop}
use Rattle.secret_calls.specs.declared.serial.Serial.{Serial}
use Rattle.secret_calls.specs.Serials.{last_serial}

pub one_serial : (one other : Serial) → one.number ≡ other.number → one ≡ other
one_serial one other same =
    subst (λ n. (some : n ≢ 0) (fits : n ≤ last_serial) → one ≡ record { number = n; some = some; fits = fits }) same
    (λ some fits i. record { number = one.number; some = →_prop (λ e. absurd e) one.some some i; fits = le_prop one.fits fits i }) other.some other.fits
