-- The costs and their characters.
use Rattle.std.proofs.Common.{◌≡◌, ℕ, ◌≤◌, Bool, true, false, refl, ap, arith}
use Rattle.std.specs.Prelude.{◌==◌, ◌&&◌, nat_le, nat_lt, Option, Some, None, if◌then◌else◌}
use Rattle.std.proofs.lemmas.Bool.{agree_below, agree_below_at, and_parts}
use Rattle.std.proofs.lemmas.Bool.Decides.{nat_tests}
use Rattle.std.proofs.lemmas.List.Quantifiers.{position-Some}
use Rattle.std.proofs.lemmas.Option.{none-some}
use Rattle.base64ct.specs.Alphabets.{base64_sha_crypt}
use Rattle.phpass_plain.specs.Check.{cost_character}
use Rattle.phpass_plain.specs.Text.{cost_of, if_cost, place_of}

passed_test : (t : Bool) (m n : ℕ) → (if t then Some m else None) ≡ Some n → (t ≡ true) × (m ≡ n)
passed_test true m n h = (refl, cc)
passed_test false m n h = absurd (none-some n h)

-- a cost that is found is at its place, which is one of 7 to 30
pub record IsCost (o : Option ℕ) (n : ℕ) : Type 0 where
  pub place : o ≡ Some n
  pub least : 7 ≤ n
  pub most : n ≤ 30

if_cost_is : (o : Option ℕ) (n : ℕ) → if_cost o ≡ Some n → IsCost o n
if_cost_is None n h = absurd (none-some n h)
if_cost_is (Some m) n h =
    let found = passed_test (nat_le 7 m && nat_le m 30) m n h in
    let tests = and_parts (nat_le 7 m) (nat_le m 30) found.0 in
    let least : 7 ≤ m = grind (arith, nat_tests, tests.0) in
    let most : m ≤ 30 = grind (arith, nat_tests, tests.1) in
    record { place = ap (λ (k : ℕ). Some k) found.1; least = omega (arith, least, found.1); most = omega (arith, most, found.1) }

pub cost_is : (character n : ℕ) → cost_of character ≡ Some n → IsCost (place_of character) n
cost_is character n h = if_cost_is (place_of character) n h

-- the character at the place of a character is that character
pub character_at : (character n : ℕ) → place_of character ≡ Some n → cost_character n ≡ character
unfolding place_of
character_at character n h =
    let found = position-Some (λ c. c == character) base64_sha_crypt.characters n 0 h in
    grind (arith, nat_tests, found.1)

-- ---- the character of a cost is read back

reads : ℕ → Option ℕ → Bool
reads n None = nat_lt n 7
reads n (Some k) = k == n

abbrev reads_its_own : ℕ → Bool
reads_its_own n = reads n (cost_of (cost_character n))

all_read : agree_below reads_its_own (λ n. true) 31 ≡ true
unfolding place_of reads
all_read = refl

read_back : (n : ℕ) (o : Option ℕ) → reads n o ≡ true → 7 ≤ n → o ≡ Some n
unfolding reads
read_back n None h least = absurd (grind (arith, nat_tests, h, least))
read_back n (Some k) h least = let same : k ≡ n = grind (arith, nat_tests, h) in ap (λ (x : ℕ). Some x) same

pub cost_read : (n : ℕ) → 7 ≤ n → n ≤ 30 → cost_of (cost_character n) ≡ Some n
cost_read n least most =
    read_back n (cost_of (cost_character n))
    (agree_below_at reads_its_own (λ k. true) 31 n all_read (omega (arith, most))) least
