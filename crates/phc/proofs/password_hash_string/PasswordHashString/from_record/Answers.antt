use Rattle.std.proofs.Common.{rules, ◌≡◌, Ok, ap, ◌∙◌, sym}
use Rattle.std.specs.String.{string_bytes}
use Rattle.phc.specs.Record.{phc_text, record_text}
use Rattle.phc.proofs.ParsedBack.{parses_back}
use Rattle.phc.proofs.password_hash_string.PasswordHashString.from_record.Goals as goal

pub invariant_of-result : goal.invariant_of-result
invariant_of-result c =
    let text : string_bytes c.in_ok-text.text ≡ record_text c.args.hash.now = c.in_ok-text.ensures.ok in
    let same : c.in_ok-parsed.parsed ≡ c.args.hash.now = search rules in
    ap phc_text text ∙ parses_back c.args.hash.now c.promised_by_parts.ensures c.requires.printable ∙ ap Ok (sym same)
