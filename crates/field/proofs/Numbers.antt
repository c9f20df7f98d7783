-- The number layout for every width and both orders: bytes to a number and back.
-- Assumes nothing.
use mathlib.Core.Path.{◌≡◌, refl, ap, sym, ◌∙◌}
use mathlib.Core.List.{List, [], ◌∷◌, reverse_aux, reverse-reverse}
use Prim.Native.Nat.{ℕ, zero, suc, ◌+◌, ◌*◌, ◌/◌, ◌%◌, ◌^◌, ◌<◌, ◌≤◌}
use native.Mathlib.Nat.{
  pow-suc,
  mod-one,
  mod-lt,
  mod-eq_of_lt,
  div-add-mod',
  mul-add-div_right,
  mul-add-mod_self_right,
  div-eq_of_lt,
  mul-le-mul_right,
  one-le-pow,
}
use native.Mathlib.Omega.{arith}
use lib.ListN.{length, length-reverse}
use Rattle.field.specs.declared.ByteOrder.{ByteOrder}
use Rattle.field.specs.declared.ByteOrder.TheVariants.{HighFirst, LowFirst}
use Rattle.field.specs.Layout.{high_number, high_bytes, arranged, number_in, bytes_in, Bytes}
use Rattle.field.specs.Claims.{NumberOfItsBytes, BytesOfTheirNumber, NumberBelowPower}

-- ---- high byte first

power_positive : (n : ℕ) → 0 < 256 ^ n
power_positive n = one-le-pow n 256 (omega arith)

long_high : (width number : ℕ) → length (high_bytes width number) ≡ width
long_high zero number = refl
long_high (suc width) number = ap suc (long_high width number)

-- a remainder by a product: the quotient's remainder by one factor, and the remainder by the other
mod_product : (x a : ℕ) → 0 < a → x % (a * 256) ≡ x / a % 256 * a + x % a
mod_product x a positive =
    let small : x / a % 256 ≤ 255 = omega arith in
    let least : x / a % 256 * a + x % a < a * 256 = omega (arith, mod-lt x positive, mul-le-mul_right a small) in
    let whole : x ≡ x / a / 256 * (a * 256) + (x / a % 256 * a + x % a) =
    omega (arith, div-add-mod' x a, ap (λ (n : ℕ). n * a) (div-add-mod' (x / a) 256)) in
    ap (λ (n : ℕ). n % (a * 256)) whole ∙ mul-add-mod_self_right (x / a / 256) (a * 256) (x / a % 256 * a + x % a) ∙ mod-eq_of_lt least

high_number_mod : (width number : ℕ) → high_number (high_bytes width number) ≡ number % 256 ^ width
high_number_mod zero number = sym (mod-one number)
high_number_mod (suc width) number =
    rw (long_high width number, high_number_mod width number, pow-suc) (sym (mod_product number (256 ^ width) (power_positive width)))

-- the bytes of a number do not see what lies above them
high_bytes_above : (width above number : ℕ) → high_bytes width (above * 256 ^ width + number) ≡ high_bytes width number
high_bytes_above zero above number = refl
high_bytes_above (suc width) above number =
    let regroup : above * 256 ^ suc width + number ≡ above * 256 * 256 ^ width + number =
    omega (arith, pow-suc 256 width, ap (λ (n : ℕ). above * n) (pow-suc 256 width)) in
    let first : (above * 256 * 256 ^ width + number) / 256 ^ width % 256 ≡ number / 256 ^ width % 256 =
    ap (λ (n : ℕ). n % 256) (mul-add-div_right (power_positive width) (above * 256) number) ∙ mul-add-mod_self_right above 256 (number / 256 ^ width) in
    rw (regroup, first, high_bytes_above width (above * 256) number)

high_number_below : (bytes : List ℕ) → Bytes bytes → high_number bytes < 256 ^ length bytes
high_number_below [] all = omega arith
high_number_below (byte ∷ rest) all =
    let later : high_number rest < 256 ^ length rest = high_number_below rest (λ place. all (suc place)) in
    let byte_small : byte ≤ 255 = omega (arith, all zero) in
    omega (arith, mul-le-mul_right (256 ^ length rest) byte_small, pow-suc 256 (length rest))

high_bytes_of_number : (bytes : List ℕ) → Bytes bytes → high_bytes (length bytes) (high_number bytes) ≡ bytes
high_bytes_of_number [] all = refl
high_bytes_of_number (byte ∷ rest) all =
    let later : high_number rest < 256 ^ length rest = high_number_below rest (λ place. all (suc place)) in
    let first : (byte * 256 ^ length rest + high_number rest) / 256 ^ length rest % 256 ≡ byte =
    ap (λ (n : ℕ). n % 256) (mul-add-div_right (power_positive (length rest)) byte (high_number rest))
    ∙ ap (λ (n : ℕ). (byte + n) % 256) (div-eq_of_lt later)
    ∙ omega (arith, all zero) in
    rw (first, high_bytes_above (length rest) byte (high_number rest), high_bytes_of_number rest (λ place. all (suc place)))

-- ---- both orders

long_arranged : (order : ByteOrder) (bytes : List ℕ) → length (arranged order bytes) ≡ length bytes
long_arranged HighFirst bytes = refl
long_arranged LowFirst bytes = length-reverse bytes

arranged_twice : (order : ByteOrder) (bytes : List ℕ) → arranged order (arranged order bytes) ≡ bytes
arranged_twice HighFirst bytes = refl
arranged_twice LowFirst bytes = reverse-reverse bytes

cons_bytes : (byte : ℕ) (rest : List ℕ) → byte < 256 → Bytes rest → Bytes (byte ∷ rest)
cons_bytes byte rest small all zero = small
cons_bytes byte rest small all (suc place) = all place

reversed_bytes : (bytes behind : List ℕ) → Bytes bytes → Bytes behind → Bytes (reverse_aux bytes behind)
reversed_bytes [] behind all all_behind = all_behind
reversed_bytes (byte ∷ rest) behind all all_behind =
    reversed_bytes rest (byte ∷ behind) (λ place. all (suc place)) (cons_bytes byte behind (all zero) all_behind)

arranged_bytes : (order : ByteOrder) (bytes : List ℕ) → Bytes bytes → Bytes (arranged order bytes)
arranged_bytes HighFirst bytes all = all
arranged_bytes LowFirst bytes all = reversed_bytes bytes [] all (λ place. omega arith)

pub long_bytes : (order : ByteOrder) (width number : ℕ) → length (bytes_in order width number) ≡ width
unfolding bytes_in
long_bytes order width number = long_arranged order (high_bytes width number) ∙ long_high width number

pub number_of_its_bytes : NumberOfItsBytes
unfolding number_in bytes_in
number_of_its_bytes order width number small = rw arranged_twice (high_number_mod width number ∙ mod-eq_of_lt small)

pub bytes_of_their_number : BytesOfTheirNumber
unfolding number_in bytes_in
bytes_of_their_number order bytes all =
    rw (← long_arranged order bytes, high_bytes_of_number (arranged order bytes) (arranged_bytes order bytes all)) (arranged_twice order bytes)

pub number_below_power : NumberBelowPower
unfolding number_in
number_below_power order bytes all = rw (← long_arranged order bytes) (high_number_below (arranged order bytes) (arranged_bytes order bytes all))
