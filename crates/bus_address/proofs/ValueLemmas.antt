-- One byte of a value, or one escape.
use Rattle.std.proofs.Common.{◌≡◌, ◌≢◌, ℕ, ◌+◌, ◌*◌, ◌<◌, ◌&&◌, Bool, true, false, List, [], ◌∷◌, ◌++◌, length, refl, sym, ◌∙◌, ap, arith, append_assoc}
use Rattle.std.specs.Char.{is_ascii_hexdigit, digit_value}
use Rattle.std.proofs.lemmas.Bool.Decides.{nat_tests}
use Rattle.bus_address.specs.Values.{is_plain, is_value, unescaped, IsStep}

pub value_other : (byte : ℕ) (rest : List ℕ) → byte ≢ 37 → is_value (byte ∷ rest) ≡ is_plain byte && is_value rest
value_other byte [] other = grind (arith, nat_tests)
value_other byte (next ∷ []) other = refl
value_other byte (high ∷ low ∷ rest) other = grind (arith, nat_tests)

pub value_short : (rest : List ℕ) → length rest < 2 → is_value (37 ∷ rest) ≡ false
value_short [] short = refl
value_short (next ∷ []) short = refl
value_short (high ∷ low ∷ rest) short = absurd (omega arith)

pub unescaped_other : (byte : ℕ) (rest : List ℕ) → byte ≢ 37 → unescaped (byte ∷ rest) ≡ byte ∷ unescaped rest
unescaped_other byte [] other = refl
unescaped_other byte (next ∷ []) other = refl
unescaped_other byte (high ∷ low ∷ rest) other = grind (arith, nat_tests)

both : (a b : Bool) → (a && b) ≡ true → (a ≡ true) × (b ≡ true)
both true b is = (refl, is)
both false b is = absurd cc

-- a byte that begins no escape
pub step_other : (text : List ℕ) (byte : ℕ) (rest : List ℕ) → text ≡ byte ∷ rest → byte ≢ 37 → is_value text ≡ true → IsStep text byte rest
step_other text byte rest is other form =
    let value : is_value (byte ∷ rest) ≡ true = ap is_value (sym is) ∙ form in
    let long : length text ≡ length (byte ∷ rest) = ap length is in
    record {
      read = ap unescaped is ∙ unescaped_other byte rest other;
      form = (both (is_plain byte) (is_value rest) (sym (value_other byte rest other) ∙ value)).1;
      shorter = omega (arith, long);
    }

-- an escape
hex_digits : (text : List ℕ) (byte high low : ℕ) (rest after more : List ℕ) → text ≡ byte ∷ rest → byte ≡ 37 → rest ≡ high ∷ after → after ≡ low ∷ more → is_value text ≡ true
    → (is_ascii_hexdigit high ≡ true) × (is_ascii_hexdigit low ≡ true) × (is_value more ≡ true)
hex_digits text byte high low rest after more is percent next last form =
    let whole : text ≡ 37 ∷ high ∷ low ∷ more = is ∙ (λ i. percent i ∷ (next ∙ ap (λ tail. high ∷ tail) last) i) in
    let value : is_value (37 ∷ high ∷ low ∷ more) ≡ true = ap is_value (sym whole) ∙ form in
    let first = both (is_ascii_hexdigit high) (is_ascii_hexdigit low && is_value more) value in
    let second = both (is_ascii_hexdigit low) (is_value more) first.1 in
    (first.0, second.0, second.1)

pub high_digit : (text : List ℕ) (byte high low : ℕ) (rest after more : List ℕ) → text ≡ byte ∷ rest → byte ≡ 37 → rest ≡ high ∷ after → after ≡ low ∷ more → is_value text ≡ true
    → is_ascii_hexdigit high ≡ true
high_digit text byte high low rest after more is percent next last form = (hex_digits text byte high low rest after more is percent next last form).0

pub low_digit : (text : List ℕ) (byte high low : ℕ) (rest after more : List ℕ) → text ≡ byte ∷ rest → byte ≡ 37 → rest ≡ high ∷ after → after ≡ low ∷ more → is_value text ≡ true
    → is_ascii_hexdigit low ≡ true
low_digit text byte high low rest after more is percent next last form = (hex_digits text byte high low rest after more is percent next last form).1

pub step_escape : (text : List ℕ) (byte high low first second : ℕ) (rest after more : List ℕ) → text ≡ byte ∷ rest → byte ≡ 37 → rest ≡ high ∷ after → after ≡ low ∷ more
    → is_value text ≡ true → first ≡ digit_value high → second ≡ digit_value low → IsStep text (first * 16 + second) more
step_escape text byte high low first second rest after more is percent next last form one two =
    let whole : text ≡ 37 ∷ high ∷ low ∷ more = is ∙ (λ i. percent i ∷ (next ∙ ap (λ tail. high ∷ tail) last) i) in
    let long : length text ≡ length (37 ∷ high ∷ low ∷ more) = ap length whole in
    record {
      read = ap unescaped whole ∙ (λ i. (sym one i * 16 + sym two i) ∷ unescaped more);
      form = (hex_digits text byte high low rest after more is percent next last form).2;
      shorter = omega (arith, long);
    }

-- there are two bytes after a `%`
pub one_byte : (text : List ℕ) (byte : ℕ) (rest : List ℕ) → text ≡ byte ∷ rest → byte ≡ 37 → is_value text ≡ true → length rest ≡ 0 → ⊥
one_byte text byte rest is percent form none =
    let whole : text ≡ 37 ∷ rest = is ∙ ap (λ first. first ∷ rest) percent in
    let wrong : true ≡ false = sym form ∙ ap is_value whole ∙ value_short rest (omega (arith, none)) in
    cc

pub two_bytes : (text : List ℕ) (byte high : ℕ) (rest after : List ℕ) → text ≡ byte ∷ rest → byte ≡ 37 → rest ≡ high ∷ after → is_value text ≡ true → length after ≡ 0 → ⊥
two_bytes text byte high rest after is percent next form none =
    let whole : text ≡ 37 ∷ rest = is ∙ ap (λ first. first ∷ rest) percent in
    let long : length rest ≡ length (high ∷ after) = ap length next in
    let wrong : true ≡ false = sym form ∙ ap is_value whole ∙ value_short rest (omega (arith, none, long)) in
    cc

-- one more byte was read
pub one_more : (bytes text whole rest : List ℕ) (byte : ℕ) → IsStep text byte rest → bytes ++ unescaped text ≡ unescaped whole → (bytes ++ byte ∷ []) ++ unescaped rest ≡ unescaped whole
one_more bytes text whole rest byte step so_far =
    append_assoc bytes (byte ∷ []) (unescaped rest) ∙ ap (λ more. bytes ++ more) (sym step.read) ∙ so_far
