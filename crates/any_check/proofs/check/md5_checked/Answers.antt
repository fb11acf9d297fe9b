use Rattle.std.proofs.Common.{rules, ◌≡◌, ◌∙◌, sym, ap, None, Some}
use Rattle.mcf.specs.Grammar.{fault, parts}
use Rattle.md5_plain.specs.Verdict.{magic_of, md5_verdict}
use Rattle.any_check.specs.Table.{of_md5}
use Rattle.any_check.proofs.Rows.{md5_bad, md5_read}
use Rattle.any_check.proofs.check.md5_checked.Goals as goal

pub returns-in-Err : goal.returns-in-Err
returns-in-Err c =
    let bad : fault c.args.stored.now ≡ Some c.in-Err.e = search rules in
    record { answer = rw c.mcf_name.ensures (sym (md5_bad c.args.password.now c.args.stored.now c.in-Err.e bad)) }

pub returns-in-Some : goal.returns-in-Some
returns-in-Some c =
    let valid : fault c.args.stored.now ≡ None = search rules in
    let is : magic_of (parts c.args.stored.now).id ≡ Some c.in-Some.magic = search rules in
    let told : c.md5_verdict.result ≡ md5_verdict c.in-Some.magic c.args.password.now (parts c.args.stored.now).fields =
    search rules in
    record {
      answer = c.of_md5.ensures ∙ ap of_md5 told
          ∙ sym (md5_read c.args.password.now c.args.stored.now (Some c.in-Some.magic) valid is);
    }

pub returns-in-None : goal.returns-in-None
returns-in-None c =
    let valid : fault c.args.stored.now ≡ None = search rules in
    let none : magic_of (parts c.args.stored.now).id ≡ None = search rules in
    record { answer = sym (md5_read c.args.password.now c.args.stored.now None valid none) }
