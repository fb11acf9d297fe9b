use Rattle.std.proofs.Common.{rules, ◌≡◌, ◌∙◌, sym, None, Some}
use Rattle.mcf.specs.Grammar.{fault, parts}
use Rattle.md5_plain.specs.Verdict.{magic_of}
use Rattle.any_check.specs.Kinds.{md5_fields_kind}
use Rattle.any_check.proofs.Rows.{md5_bad_kind, md5_read_kind}
use Rattle.any_check.proofs.kinds.md5_kind.Goals as goal

pub returns-in-Err : goal.returns-in-Err
returns-in-Err c =
    let bad : fault c.args.stored.now ≡ Some c.in-Err.field-0 = search rules in
    sym (md5_bad_kind c.args.stored.now c.in-Err.field-0 bad)

pub returns-in-Some : goal.returns-in-Some
returns-in-Some c =
    let valid : fault c.args.stored.now ≡ None = search rules in
    let is : magic_of (parts c.args.stored.now).id ≡ Some c.in-Some.field-0 = search rules in
    let told : c.md5_fields_kind.result ≡ md5_fields_kind (parts c.args.stored.now).fields = search rules in
    told ∙ sym (md5_read_kind c.args.stored.now (Some c.in-Some.field-0) valid is)

pub returns-in-None : goal.returns-in-None
returns-in-None c =
    let valid : fault c.args.stored.now ≡ None = search rules in
    let none : magic_of (parts c.args.stored.now).id ≡ None = search rules in
    sym (md5_read_kind c.args.stored.now None valid none)
