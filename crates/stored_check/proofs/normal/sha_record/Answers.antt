use Rattle.std.proofs.Common.{◌≡◌, None, Some, rules, ap}
use Rattle.std.specs.Option.{option_map}
use Rattle.mcf.specs.Grammar.{fault, parts}
use Rattle.mcf.proofs.Ascii.{valid_ascii}
use Rattle.sha_crypt.specs.Records.{family_scheme}
use Rattle.stored_check.specs.Verdict.{named_family}
use Rattle.stored_check.proofs.Records.{normal_of_fault, normal_of_other, normal_of_record, record_fits}
use Rattle.stored_check.proofs.normal.sha_record.Goals as goal

pub returns-in-Err-clause-text : goal.returns-in-Err-clause-text
returns-in-Err-clause-text c =
    let bad : fault c.args.stored.now ≡ Some c.in-Err.field-0 = search rules in
    normal_of_fault c.args.stored.now c.in-Err.field-0 bad

pub old_record-requires : goal.old_record-requires
old_record-requires c =
    let valid : fault c.args.stored.now ≡ None = search rules in
    record { ascii = valid_ascii c.args.stored.now valid }

pub returns-in-Some-clause-text : goal.returns-in-Some-clause-text
returns-in-Some-clause-text c =
    let valid : fault c.args.stored.now ≡ None = search rules in
    let named : named_family (parts c.args.stored.now).id ≡ Some c.in-Some.family = search rules in
    normal_of_record c.in-Some.family c.args.stored.now c.old_record.result valid named c.old_record.ensures.record
    c.old_record.ensures.family

pub returns-in-Some-clause-fits : goal.returns-in-Some-clause-fits
returns-in-Some-clause-fits c =
    let valid : fault c.args.stored.now ≡ None = search rules in
    let named : named_family (parts c.args.stored.now).id ≡ Some c.in-Some.family = search rules in
    record_fits c.args.stored.now c.old_record.result valid
    (normal_of_record c.in-Some.family c.args.stored.now c.old_record.result valid named c.old_record.ensures.record
    c.old_record.ensures.family)

pub returns-in-None-clause-text : goal.returns-in-None-clause-text
returns-in-None-clause-text c =
    let valid : fault c.args.stored.now ≡ None = search rules in
    let none : named_family (parts c.args.stored.now).id ≡ None = search rules in
    normal_of_other c.args.stored.now valid (ap (option_map family_scheme) none)
