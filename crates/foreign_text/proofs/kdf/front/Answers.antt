use Rattle.foreign_text.proofs.Records.{pbkdf2_front_is, scrypt_front_is}
use Rattle.foreign_text.proofs.kdf.front.Goals as goal

pub returns-in-Pbkdf2-clause-text : goal.returns-in-Pbkdf2-clause-text
returns-in-Pbkdf2-clause-text c =
    let made = c.pbkdf2_front.ensures.text in
    let is = pbkdf2_front_is c.in-Pbkdf2.hash c.in-Pbkdf2.rounds in
    let kdf = c.in-Pbkdf2.is in
    cc

pub returns-in-Scrypt-clause-text : goal.returns-in-Scrypt-clause-text
returns-in-Scrypt-clause-text c =
    let made = c.scrypt_front.ensures.text in
    let is = scrypt_front_is c.in-Scrypt.ln c.in-Scrypt.r c.in-Scrypt.p in
    let kdf = c.in-Scrypt.is in
    cc
