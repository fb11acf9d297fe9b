use Rattle.std.proofs.Common.{Ok, ap, sym, ◌∙◌}
use Rattle.phc.specs.Views.{parts_of}
use Rattle.pieces.specs.Pieces.{lent}
use Rattle.phc.specs.Grammar.{fault_of, pairs_of, text_fault}
use Rattle.phc.proofs.Joining.{told, told_none, version_refused, params_refused, salt_refused, hash_refused}
use Rattle.phc.proofs.Joining.{rest_refused, joined}
use Rattle.phc.proofs.password_hash.record_of.Goals as goal

pub returns-in-Err-version_of-clause-record_or_fault : goal.returns-in-Err-version_of-clause-record_or_fault
returns-in-Err-version_of-clause-record_or_fault c =
    version_refused c.args.id.now (parts_of c.args.parts) c.in-Err-version_of.e c.in-Ok.algorithm
    (sym c.in-Ok.is ∙ c.new.ensures.name) (sym c.in-Err-version_of.is ∙ c.version_of.ensures)

pub returns-in-Some-clause-record_or_fault : goal.returns-in-Some-clause-record_or_fault
returns-in-Some-clause-record_or_fault c =
    params_refused c.args.id.now (parts_of c.args.parts) c.in-Some.e c.in-Ok.algorithm c.in-Ok-version_of.version
    (sym c.in-Ok.is ∙ c.new.ensures.name) (sym c.in-Ok-version_of.is ∙ c.version_of.ensures)
    (told (pairs_of (lent c.args.parts.params)) c.in-Some.e (fault_of text_fault (lent c.args.parts.params))
    (sym c.fault_of_params.ensures ∙ c.in-Some.is))

pub returns-in-Err-salt_of-clause-record_or_fault : goal.returns-in-Err-salt_of-clause-record_or_fault
returns-in-Err-salt_of-clause-record_or_fault c =
    salt_refused c.args.id.now (parts_of c.args.parts) c.in-Err-salt_of.e c.in-Ok.algorithm c.in-Ok-version_of.version
    (pairs_of (lent c.args.parts.params)) (sym c.in-Ok.is ∙ c.new.ensures.name)
    (sym c.in-Ok-version_of.is ∙ c.version_of.ensures)
    (told_none (pairs_of (lent c.args.parts.params)) (fault_of text_fault (lent c.args.parts.params))
    (sym c.fault_of_params.ensures ∙ c.in_default.is)) (sym c.in-Err-salt_of.is ∙ c.salt_of.ensures.salt)

pub returns-in-Err-hash_of-clause-record_or_fault : goal.returns-in-Err-hash_of-clause-record_or_fault
returns-in-Err-hash_of-clause-record_or_fault c =
    hash_refused c.args.id.now (parts_of c.args.parts) c.in-Err-hash_of.e c.in-Ok.algorithm c.in-Ok-version_of.version
    (pairs_of (lent c.args.parts.params)) c.in-Ok-salt_of.salt (sym c.in-Ok.is ∙ c.new.ensures.name)
    (sym c.in-Ok-version_of.is ∙ c.version_of.ensures)
    (told_none (pairs_of (lent c.args.parts.params)) (fault_of text_fault (lent c.args.parts.params))
    (sym c.fault_of_params.ensures ∙ c.in_default.is)) (sym c.in-Ok-salt_of.is ∙ c.salt_of.ensures.salt)
    (sym c.in-Err-hash_of.is ∙ c.hash_of.ensures.hash)

pub returns-then-not-is_end-clause-record_or_fault : goal.returns-then-not-is_end-clause-record_or_fault
returns-then-not-is_end-clause-record_or_fault c =
    rest_refused c.args.id.now (parts_of c.args.parts) c.in-Ok.algorithm c.in-Ok-version_of.version
    (pairs_of (lent c.args.parts.params)) c.in-Ok-salt_of.salt c.in-Ok-hash_of.hash
    (sym c.in-Ok.is ∙ c.new.ensures.name) (sym c.in-Ok-version_of.is ∙ c.version_of.ensures)
    (told_none (pairs_of (lent c.args.parts.params)) (fault_of text_fault (lent c.args.parts.params))
    (sym c.fault_of_params.ensures ∙ c.in_default.is)) (sym c.in-Ok-salt_of.is ∙ c.salt_of.ensures.salt)
    (sym c.in-Ok-hash_of.is ∙ c.hash_of.ensures.hash) (sym c.if-not-is_end.true ∙ c.is_end.ensures.end 36)

pub returns-clause-record_or_fault : goal.returns-clause-record_or_fault
returns-clause-record_or_fault c =
    joined c.args.id.now (parts_of c.args.parts) c.in-Ok.algorithm c.in-Ok-version_of.version c.params_of.result
    c.in-Ok-salt_of.salt c.in-Ok-hash_of.hash (sym c.in-Ok.is ∙ c.new.ensures.name)
    (sym c.in-Ok-version_of.is ∙ c.version_of.ensures)
    (ap Ok c.params_of.ensures
    ∙ told_none (pairs_of (lent c.args.parts.params)) (fault_of text_fault (lent c.args.parts.params))
    (sym c.fault_of_params.ensures ∙ c.in_default.is)) (sym c.in-Ok-salt_of.is ∙ c.salt_of.ensures.salt)
    (sym c.in-Ok-hash_of.is ∙ c.hash_of.ensures.hash) (sym c.if-not-is_end.false ∙ c.is_end.ensures.end 36)
