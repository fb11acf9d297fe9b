use Rattle.std.proofs.Common.{rules, ◌≡◌, None, Some, ap}
use Rattle.std.specs.Option.{option_map}
use Rattle.mcf.specs.Grammar.{fault, parts}
use Rattle.sha_crypt.specs.Records.{family_scheme}
use Rattle.stored_check.specs.Verdict.{named_family}
use Rattle.stored_check.proofs.Counted.{comparisons_of_other, looks_of_other}
use Rattle.stored_check.proofs.FamilyTexts.{comparisons_on_verdict, looks_on_verdict, verdict_of_family}
use Rattle.stored_check.proofs.Walk.{too_long, not_a_text, other_text}
use Rattle.stored_check.proofs.check.check_stored_counted.Goals as goal

pub returns-then-password-gt-PASSWORD_MAX-clause-verdict : goal.returns-then-password-gt-PASSWORD_MAX-clause-verdict
returns-then-password-gt-PASSWORD_MAX-clause-verdict g c =
    too_long _ _ _ c.args.password.now c.args.stored.now c.if-password-gt-PASSWORD_MAX.true

pub returns-in-Err-clause-verdict : goal.returns-in-Err-clause-verdict
returns-in-Err-clause-verdict g c =
    let bad : fault c.args.stored.now ≡ Some c.in-Err.e = search rules in
    rw c.mcf_name.ensures (not_a_text _ _ _ c.args.password.now c.args.stored.now c.in-Err.e
    c.if-password-gt-PASSWORD_MAX.false bad)

pub returns-in-Some-clause-verdict : goal.returns-in-Some-clause-verdict
returns-in-Some-clause-verdict g c =
    let valid : fault c.args.stored.now ≡ None = search rules in
    let named : named_family (parts c.args.stored.now).id ≡ Some c.in-Some.family = search rules in
    verdict_of_family c.in-Some.family c.args.password.now c.args.stored.now c.check_family.result
    c.check_family.ensures.answer valid named _ _ _ _ c.if-password-gt-PASSWORD_MAX.false c.sha_verdict.ensures

pub returns-in-Some-clause-looks : goal.returns-in-Some-clause-looks
returns-in-Some-clause-looks g c =
    let valid : fault c.args.stored.now ≡ None = search rules in
    let named : named_family (parts c.args.stored.now).id ≡ Some c.in-Some.family = search rules in
    looks_on_verdict c.in-Some.family c.args.password.now c.args.stored.now c.check_family.result
    c.check_family.ensures.answer valid named _ c.sha_verdict.ensures _ _ c.check_family.ensures.looks

pub returns-in-Some-clause-sames : goal.returns-in-Some-clause-sames
returns-in-Some-clause-sames g c =
    let valid : fault c.args.stored.now ≡ None = search rules in
    let named : named_family (parts c.args.stored.now).id ≡ Some c.in-Some.family = search rules in
    comparisons_on_verdict c.in-Some.family c.args.password.now c.args.stored.now c.check_family.result
    c.check_family.ensures.answer valid named _ c.sha_verdict.ensures _ _ c.check_family.ensures.sames

pub returns-in-None-clause-verdict : goal.returns-in-None-clause-verdict
returns-in-None-clause-verdict g c =
    let valid : fault c.args.stored.now ≡ None = search rules in
    let none : named_family (parts c.args.stored.now).id ≡ None = search rules in
    other_text _ _ _ c.args.password.now c.args.stored.now _ c.if-password-gt-PASSWORD_MAX.false valid
    (ap (option_map family_scheme) none) c.check_phc.ensures.answer

pub returns-in-None-clause-looks : goal.returns-in-None-clause-looks
returns-in-None-clause-looks g c =
    let valid : fault c.args.stored.now ≡ None = search rules in
    let none : named_family (parts c.args.stored.now).id ≡ None = search rules in
    rw (looks_of_other c.args.stored.now valid (ap (option_map family_scheme) none)) c.check_phc.ensures.looks

pub returns-in-None-clause-sames : goal.returns-in-None-clause-sames
returns-in-None-clause-sames g c =
    let valid : fault c.args.stored.now ≡ None = search rules in
    let none : named_family (parts c.args.stored.now).id ≡ None = search rules in
    rw (comparisons_of_other c.args.stored.now valid (ap (option_map family_scheme) none)) c.check_phc.ensures.sames
