-- How long codes are: a proof, which is here since implementations of traits name it. No public clause names this word.
use Rattle.std.proofs.Common.{◌≡◌, ℕ, List, length}
use Rattle.sha1.specs.Sha1.{sha1}
use Rattle.hmac_plain.specs.Lengths.{length-hmac}
use Rattle.hmac_sha1.specs.Fits.{length-sha1}
use Rattle.hmac_sha1.specs.Hmac.{hmac_sha1}

pub length-hmac_sha1 : (key text : List ℕ) → length (hmac_sha1 key text) ≡ 20
length-hmac_sha1 = length-hmac sha1 64 20 length-sha1
