use Rattle.pw_file.proofs.StoredVerdicts.{wants}
use Rattle.pw_file.proofs.stored_texts.StoredTextsPolicy.verdict.Goals as goal

pub returns-clause-wants : goal.returns-clause-wants
returns-clause-wants c =
    wants c.args.password.now c.args.text.now c.check_stored.result c.told_apart.result c.check_stored.ensures.verdict
    c.told_apart.ensures.wants
