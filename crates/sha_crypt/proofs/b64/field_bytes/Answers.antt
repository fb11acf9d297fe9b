use Rattle.std.proofs.Common.{rules, ◌≢◌}
use Rattle.base64ct.specs.Encoding.{byte_count}
use Rattle.std.specs.Prelude.{length}
use Rattle.sha_crypt.proofs.HashFields.{wrong_length}
use Rattle.sha_crypt.proofs.b64.field_bytes.Goals as goal

pub returns-then-not-has_field_length : goal.returns-then-not-has_field_length
returns-then-not-has_field_length g c =
    let other : byte_count (length c.args.text.now) ≢ g.row.N = search rules in
    record { bytes = wrong_length g.row.N c.args.text.now other }
