use Rattle.std.proofs.Common.{rules, ◌≡◌, ◌^◌}
use Rattle.std.specs.Prelude.{string_bytes}
use Rattle.scrypt_plain.specs.Scrypt.{scrypt}
use Rattle.pw_file.specs.StoredLaws.{fresh_short}
use Rattle.pw_file.proofs.TableAnswers.{fresh_text}
use Rattle.pw_file.proofs.upgraded.upgraded_text.Goals as goal

pub returns : goal.returns
returns c =
    let key : c.scrypt_into.new.out ≡ scrypt c.args.password.now c.to_salt.result (2 ^ 14) 8 1 32 = search rules in
    let whole = fresh_text c.args.password.now c.args.salt.now c.to_salt.result c.scrypt_into.new.out
    (string_bytes c.in_ok-text.text) (string_bytes c.push_str.new.self)
    (string_bytes c.push_str-2.new.self) (string_bytes c.push_str-3.new.self) c.to_salt.ensures.bytes key
    c.in_ok-text.ensures.ok (search rules) (search rules) (search rules) in
    let good = rw c.as_str.ensures.text at c.as_str.ensures.valid in
    record { text = whole; length = rw whole (fresh_short c.args.password.now c.args.salt.now good) }
