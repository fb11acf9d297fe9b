use Rattle.std.proofs.Common.{false, sym}
use Rattle.crypt_text.specs.Settings.{are_salt_bytes}
use Rattle.crypt_text.proofs.SaltBytes.{bad_byte, good_byte, no_byte}
use Rattle.crypt_text.proofs.scrypt_texts.are_salt_bytes.Goals as goal

pub bytes-preserved : goal.bytes-preserved
bytes-preserved c =
    good_byte c.bytes.behind_dollar (are_salt_bytes false c.args.text.now) c.args.text.now c.bytes.b-index c.bytes-test.true
    (sym c.if-not-is_salt_byte.ensures) c.bytes.invariant

pub returns-then-not-is_salt_byte : goal.returns-then-not-is_salt_byte
returns-then-not-is_salt_byte c =
    bad_byte c.bytes.behind_dollar (are_salt_bytes false c.args.text.now) c.args.text.now c.bytes.b-index c.bytes-test.true
    (sym c.if-not-is_salt_byte.ensures) c.bytes.invariant

pub returns : goal.returns
returns c =
    no_byte c.bytes.behind_dollar (are_salt_bytes false c.args.text.now) c.args.text.now c.bytes.b-index c.bytes-test.false
    c.bytes.invariant
