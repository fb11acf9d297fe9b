-- bcrypt (Provos and Mazieres, "A Future-Adaptable Password Scheme", section 5).
use Rattle.std.specs.Prelude.{ℕ, zero, suc, ◌+◌, ◌*◌, List, ◌++◌, take, codes}
use Rattle.std.specs.Int.{w32, to_be_bytes}
use Rattle.bcrypt_plain.specs.declared.blowfish.Block.{Block}
use Rattle.bcrypt_plain.specs.Blowfish.{encrypt}
use Rattle.bcrypt_plain.specs.Schedule.{cyclic_word, eks_blowfish_setup, key_of}

-- the text that is encrypted, of three blocks
abbrev pub magic : List ℕ
magic = codes "OrpheanBeholderScryDoubt"

-- block i of it
abbrev pub magic_block : ℕ → Block
magic_block i = record { left = cyclic_word magic (2 * i); right = cyclic_word magic (2 * i + 1) }

-- a block after n encryptions
unfoldable pub encrypted : List ℕ → Block → ℕ → Block
encrypted x b zero = b
encrypted x b (suc n) = encrypt x (encrypted x b n)

-- the bytes of a block
abbrev pub block_bytes : Block → List ℕ
block_bytes b = to_be_bytes w32 b.left ++ to_be_bytes w32 b.right

-- the three blocks, each encrypted 64 times
abbrev pub ctext : List ℕ → List ℕ
ctext x =
    block_bytes (encrypted x (magic_block 0) 64) ++ block_bytes (encrypted x (magic_block 1) 64)
    ++ block_bytes (encrypted x (magic_block 2) 64)

-- The 23 bytes for a password, a salt of 16 bytes and a cost. The last byte of the three blocks is left out, as
-- OpenBSD's text has room for 31 characters.
unfoldable pub bcrypt : List ℕ → List ℕ → ℕ → List ℕ
bcrypt password salt cost = take 23 (ctext (eks_blowfish_setup cost salt (key_of password)))
