-- Argon2 version 0x13 (RFC 9106, sections 3.2 and 3.3), on lists of bytes.
use Rattle.std.specs.Prelude.{ℕ, zero, suc, ◌+◌, ◌-◌, ◌*◌, ◌/◌, cond, nat_le, List, [], ◌++◌, length, take, replicate}
use Rattle.std.specs.Int.{w32, to_le_bytes}
use Rattle.blake2b.specs.Words.{bytes, words}
use Rattle.blake2b.specs.Blake2b.{blake2b}
use Rattle.argon2_plain.specs.Bounds.{segment_length}
use Rattle.argon2_plain.specs.Lists.{xor_words}
use Rattle.argon2_plain.specs.Filling.{block_at, block_count, fill_passes, lane_length, type_number, with_block}
use Rattle.argon2_plain.specs.declared.params.Params.{Params}
use Rattle.argon2_plain.specs.declared.fill.Plan.{Plan}

-- LE32(n)
abbrev pub le32 : ℕ → List ℕ
le32 = to_le_bytes w32

-- H^(n)(A), BLAKE2b without a key
abbrev pub h : ℕ → List ℕ → List ℕ
h n a = blake2b [] a n

-- ---- section 3.3: the variable-length hash function H'

-- V_(i + 1) = H^(64)(V_i)
unfoldable pub chain : List ℕ → ℕ → List ℕ
chain v1 zero = v1
chain v1 (suc i) = h 64 (chain v1 i)

-- W_1 || .. || W_i, where W_i is the first 32 bytes of V_i
unfoldable pub halves : List ℕ → ℕ → List ℕ
halves v1 zero = []
halves v1 (suc i) = halves v1 i ++ take 32 (chain v1 i)

-- W_1 || .. || W_r || V_(r + 1), where V_(r + 1) = H^(n - 32 * r)(V_r)
abbrev pub long_hash : ℕ → ℕ → List ℕ → List ℕ
long_hash n r v1 = halves v1 r ++ h (n - 32 * r) (chain v1 (r - 1))

-- H'^(n)(A)
unfoldable pub variable_hash : ℕ → List ℕ → List ℕ
variable_hash n a =
    cond (nat_le n 64) (h n (le32 n ++ a)) (long_hash n ((n + 31) / 32 - 2) (h 64 (le32 n ++ a)))

-- ---- section 3.2

-- some bytes with a field more: LE32 of its length, and the field
abbrev pub with_field : List ℕ → List ℕ → List ℕ
with_field before field = (before ++ le32 (length field)) ++ field

-- LE32(p) || LE32(T) || LE32(m) || LE32(t) || LE32(v) || LE32(y), for a tag of n bytes
abbrev pub numbers : Params → ℕ → List ℕ
numbers params n =
    ((((le32 params.lanes ++ le32 n) ++ le32 params.memory) ++ le32 params.passes) ++ le32 0x13)
    ++ le32 (type_number params.variant)

-- H_0
unfoldable pub initial_hash : Params → List ℕ → List ℕ → List ℕ → List ℕ → ℕ → List ℕ
initial_hash params password salt secret associated n =
    h 64 (with_field (with_field (with_field (with_field (numbers params n) password) salt) secret) associated)

-- B[i][j] = H'^(1024)(H_0 || LE32(j) || LE32(i)) for j = 0 and j = 1
unfoldable pub first_block : List ℕ → ℕ → ℕ → List ℕ
first_block h0 j i = words 128 (variable_hash 1024 ((h0 ++ le32 j) ++ le32 i))

-- the memory with these two blocks in the first n lanes
unfoldable pub begin_lanes : Plan → List ℕ → ℕ → List ℕ → List ℕ
begin_lanes plan h0 zero memory = memory
begin_lanes plan h0 (suc i) memory =
    with_block (with_block (begin_lanes plan h0 i memory) (i * lane_length plan) (first_block h0 0 i))
    (i * lane_length plan + 1) (first_block h0 1 i)

-- B[0][q - 1] XOR .. XOR B[n - 1][q - 1]
unfoldable pub last_blocks : Plan → ℕ → List ℕ → List ℕ
last_blocks plan zero memory = replicate 128 0
last_blocks plan (suc i) memory =
    xor_words (last_blocks plan i memory) (block_at memory (i * lane_length plan + lane_length plan - 1))

-- the plan of some costs
abbrev pub plan_of : Params → Plan
plan_of params = record {
  variant = params.variant;
  passes = params.passes;
  lanes = params.lanes;
  segment = segment_length params.memory params.lanes;
}

-- the memory after all passes. What it holds at first makes no difference; here it is zeros.
abbrev pub filled_memory : Plan → List ℕ → List ℕ
filled_memory plan h0 =
    fill_passes plan plan.passes (begin_lanes plan h0 plan.lanes (replicate (128 * block_count plan) 0))

-- H'^(n)(C), the tag of n bytes
unfoldable pub tag_from : Plan → List ℕ → ℕ → List ℕ
tag_from plan h0 n = variable_hash n (bytes (last_blocks plan plan.lanes (filled_memory plan h0)))

-- the tag of n bytes of a password with a salt, a secret and associated data, either of them maybe empty
abbrev pub argon2 : Params → List ℕ → List ℕ → List ℕ → List ℕ → ℕ → List ℕ
argon2 params password salt secret associated n =
    tag_from (plan_of params) (initial_hash params password salt secret associated n) n
