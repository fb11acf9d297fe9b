use Rattle.std.proofs.Common.{◌≡◌, drop, false}
use Rattle.crypt_text.specs.Settings.{are_salt_bytes}
use Rattle.crypt_text.proofs.scrypt_texts.are_salt_bytes.Given as goal

abbrev pub invariant-bytes : goal.invariant-bytes
invariant-bytes l = are_salt_bytes l.behind_dollar (drop l.b-index l.text) ≡ are_salt_bytes false l.text
