-- The digest of SHA-crypt, over whole lists of bytes and for any hash function H: U. Drepper, 'Unix
-- crypt using SHA-256 and SHA-512', steps 1 to 21.
use Rattle.std.specs.Prelude.{ℕ, zero, suc, ◌+◌, ◌==◌, ◌%◌, if◌then◌else◌, List, [], ◌++◌, length, reverse, slice_index}
use Rattle.std.specs.Prelude.{take}
use Rattle.std.specs.List.{flat_map}
use Rattle.std.specs.Int.Digits.{digits_of}

-- xs, n times
abbrev pub copies : ℕ → List ℕ → List ℕ
copies zero xs = []
copies (suc n) xs = copies n xs ++ xs

-- xs repeated and cut to n bytes
abbrev pub repeated_to : ℕ → List ℕ → List ℕ
repeated_to n xs = take n (copies n xs)

-- the binary digits of n, from the lowest to the highest; none for 0
abbrev pub binary_digits : ℕ → List ℕ
binary_digits n = reverse (digits_of 2 n)

-- step 11: for each binary digit of n, from the lowest to the highest, b for 1 and the password for 0
abbrev pub by_digits : ℕ → List ℕ → List ℕ → List ℕ
by_digits n b password = flat_map (λ digit. if digit == 1 then b else password) (binary_digits n)

-- steps 1 to 12: digest B of password, salt and password, and then digest A
unfoldable pub start_digest : (List ℕ → List ℕ) → List ℕ → List ℕ → List ℕ
start_digest H password salt =
    let len = length password in
    let b = H (password ++ salt ++ password) in
    H (password ++ salt ++ repeated_to len b ++ by_digits len b password)

-- step 21: the message of round i, from the digest c before it, the bytes p and the bytes s
abbrev pub round_message : ℕ → List ℕ → List ℕ → List ℕ → List ℕ
round_message i c p s =
    (if i % 2 == 1 then p else c)
    ++ (if i % 3 == 0 then [] else s)
    ++ (if i % 7 == 0 then [] else p)
    ++ (if i % 2 == 1 then c else p)

-- step 21: the digest after n rounds that begin with a
unfoldable pub after_rounds : (List ℕ → List ℕ) → List ℕ → List ℕ → List ℕ → ℕ → List ℕ
after_rounds H a p s zero = a
after_rounds H a p s (suc i) = H (round_message i (after_rounds H a p s i) p s)

-- The digest of a password and a salt after n rounds, where each byte of the salt counts. Digest DP and
-- the bytes P are steps 13 to 16, digest DS and the bytes S steps 17 to 20.
unfoldable pub whole_salt_digest : (List ℕ → List ℕ) → List ℕ → List ℕ → ℕ → List ℕ
whole_salt_digest H password salt n =
    let a = start_digest H password salt in
    let dp = H (copies (length password) password) in
    let ds = H (copies (16 + slice_index a 0) salt) in
    after_rounds H a (repeated_to (length password) dp) (repeated_to (length salt) ds) n

-- the digest of SHA-crypt: of the salt the first 16 bytes count
unfoldable pub sha_crypt_digest : (List ℕ → List ℕ) → List ℕ → List ℕ → ℕ → List ℕ
sha_crypt_digest H password salt n = whole_salt_digest H password (take 16 salt) n
