-- The safety measure of `2a` in crypt_blowfish since version 1.1 (Openwall, "crypt_blowfish", 2011; crypt(5) of libxcrypt).
-- A program with the fault of `2x` took a byte above 127 as a negative number, whose word has ones in front of that byte. So for
-- many passwords it had the hash that one other password rightly has: such a password has, in each word in which the fault
-- puts ones, ones there already. The measure gives the hash of just these passwords another value.
use Rattle.std.specs.Prelude.{ℕ, zero, suc, ◌+◌, ◌*◌, ◌^◌, ◌==◌, ◌&&◌, ◌||◌, not, Bool, true, false, List, take, nat_le}
use Rattle.std.specs.Prelude.{if◌then◌else◌, bit_xor, slice_index, slice_set}
use Rattle.bcrypt_plain.specs.Bcrypt.{ctext}
use Rattle.bcrypt_plain.specs.Pi.{pi_words}
use Rattle.bcrypt_plain.specs.Schedule.{cyclic_byte, key_of, setup_from}

-- a byte that the fault takes as a negative number
abbrev pub is_high : ℕ → Bool
is_high b = nat_le 128 b

-- a byte of ones
abbrev pub is_ones : ℕ → Bool
is_ones b = b == 255

-- the fault puts ones in front of a byte of the word a b c d
abbrev pub is_filled : ℕ → ℕ → ℕ → ℕ → Bool
is_filled a b c d = is_high b || is_high c || is_high d

-- there are ones already wherever it puts some
abbrev pub is_kept : ℕ → ℕ → ℕ → ℕ → Bool
is_kept a b c d =
    (not (is_high b) || is_ones a) && (not (is_high c) || is_ones a && is_ones b)
    && (not (is_high d) || is_ones a && is_ones b && is_ones c)

-- the fault puts ones into one of the first n words of a key
unfoldable pub some_filled : List ℕ → ℕ → Bool
some_filled key zero = false
some_filled key (suc i) =
    some_filled key i
    || is_filled (cyclic_byte key (4 * i)) (cyclic_byte key (4 * i + 1)) (cyclic_byte key (4 * i + 2)) (cyclic_byte key (4 * i + 3))

-- it leaves the first n words of a key as they are
unfoldable pub all_kept : List ℕ → ℕ → Bool
all_kept key zero = true
all_kept key (suc i) =
    all_kept key i
    && is_kept (cyclic_byte key (4 * i)) (cyclic_byte key (4 * i + 1)) (cyclic_byte key (4 * i + 2)) (cyclic_byte key (4 * i + 3))

-- the measure is for this password: the fault puts ones into its 18 words, and leaves all of them as they are
abbrev pub is_measured : List ℕ → Bool
is_measured password = all_kept (key_of password) 18 && some_filled (key_of password) 18

-- a state whose first subkey has bit 16 turned
abbrev pub turned : List ℕ → List ℕ
turned x = slice_set x 0 (bit_xor (slice_index x 0) (2 ^ 16))

-- the state that the schedule of `2a` begins with
abbrev pub first_state : Bool → List ℕ
first_state measured = if measured then turned pi_words else pi_words

-- The 23 bytes for a password, a salt of 16 bytes and a cost under `2a`, as crypt(3) has them.
unfoldable pub measured_bcrypt : List ℕ → List ℕ → ℕ → List ℕ
measured_bcrypt password salt cost = take 23 (ctext (setup_from (first_state (is_measured password)) cost salt (key_of password)))
