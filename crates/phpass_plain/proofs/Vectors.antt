-- The definitions by computing.
use Rattle.std.proofs.Common.{◌≡◌, [], ◌∷◌, codes, refl}
use Rattle.base64ct.specs.Encoding.{encoding, whole_bytes, groups, bits, sixes, eights, low_bits, number}
use Rattle.md5.specs.Md5.{md5, digest_bytes, hash_after, compress, rounds, block_words}
use Rattle.sha_crypt.specs.HashField.{hash_field}
use Rattle.phpass_plain.specs.Digest.{after_turns, phpass_digest}
use Rattle.phpass_plain.specs.Field.{phpass_field}

-- two turns: the bytes are those of Python's hashlib
two_turns : phpass_digest (codes "pw") (codes "saltsalt") 1
    ≡ 0x71 ∷ 0x20 ∷ 0xe0 ∷ 0x91 ∷ 0x85 ∷ 0xd1 ∷ 0xd0 ∷ 0x87 ∷ 0x60 ∷ 0xb2 ∷ 0x54 ∷ 0x71 ∷ 0x9e ∷ 0x41 ∷ 0x1a ∷ 0x62 ∷ []
unfolding phpass_digest after_turns md5 digest_bytes hash_after compress rounds block_words
two_turns = refl

-- the bytes that Python's hashlib gives for `pw` and `saltsalt` after 128 turns, and the field that passlib writes for these
field : phpass_field (0xc0 ∷ 0x2b ∷ 0x1a ∷ 0xf5 ∷ 0x0d ∷ 0xb1 ∷ 0xee ∷ 0x4c ∷ 0xd0 ∷ 0x9c ∷ 0x8f ∷ 0x63 ∷ 0x5b ∷ 0xe9
    ∷ 0xeb ∷ 0x14 ∷ []) ≡ codes ".jW4prEgin2oQysMPZyuI."
unfolding hash_field encoding whole_bytes groups bits sixes eights low_bits number
field = refl
