-- Proofs that the impls of the alphabets cite: the steps of each give the values of all 256 bytes and the characters of
-- all 64 values, by computing. No public clause names these words.
use Rattle.std.specs.Prelude.{◌≡◌, true, refl}
use Rattle.base64ct.specs.Alphabets.{base64, base64_unpadded, base64_url, base64_url_unpadded, base64_bcrypt}
use Rattle.base64ct.specs.Alphabets.{base64_crypt, base64_pbkdf2, base64_sha_crypt, base64_steps, base64_url_steps}
use Rattle.base64ct.specs.Alphabets.{base64_bcrypt_steps, base64_crypt_steps, base64_pbkdf2_steps}
use Rattle.base64ct.specs.Steps.{steps_agree}

pub base64_agrees : steps_agree base64 base64_steps ≡ true
unfolding steps_agree
base64_agrees = refl

pub base64_unpadded_agrees : steps_agree base64_unpadded base64_steps ≡ true
unfolding steps_agree
base64_unpadded_agrees = refl

pub base64_url_agrees : steps_agree base64_url base64_url_steps ≡ true
unfolding steps_agree
base64_url_agrees = refl

pub base64_url_unpadded_agrees : steps_agree base64_url_unpadded base64_url_steps ≡ true
unfolding steps_agree
base64_url_unpadded_agrees = refl

pub base64_bcrypt_agrees : steps_agree base64_bcrypt base64_bcrypt_steps ≡ true
unfolding steps_agree
base64_bcrypt_agrees = refl

pub base64_crypt_agrees : steps_agree base64_crypt base64_crypt_steps ≡ true
unfolding steps_agree
base64_crypt_agrees = refl

pub base64_pbkdf2_agrees : steps_agree base64_pbkdf2 base64_pbkdf2_steps ≡ true
unfolding steps_agree
base64_pbkdf2_agrees = refl

pub base64_sha_crypt_agrees : steps_agree base64_sha_crypt base64_crypt_steps ≡ true
unfolding steps_agree
base64_sha_crypt_agrees = refl
