use Rattle.pwcheck_c.proofs.MadeUtf8.{any_matches}
use Rattle.pwcheck_c.proofs.MadeTexts.{scrypt_matches, sha_matches, sha256_matches, sha512_matches}
use Rattle.pwcheck_c.proofs.laws.made_text_matches.Goals as goal

pub returns-clause-sha256 : goal.returns-clause-sha256
returns-clause-sha256 c = sha256_matches

pub returns-clause-sha512 : goal.returns-clause-sha512
returns-clause-sha512 c = sha512_matches

pub returns-clause-any : goal.returns-clause-any
returns-clause-any c = sha_matches

pub returns-clause-scrypt : goal.returns-clause-scrypt
returns-clause-scrypt c = scrypt_matches

pub returns-clause-every : goal.returns-clause-every
returns-clause-every c = any_matches
