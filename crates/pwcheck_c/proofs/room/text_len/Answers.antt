use Rattle.std.proofs.Common.{◌∙◌, length, sym, ap, arith}
use Rattle.any_make.specs.Costs.{salt_length}
use Rattle.any_make.specs.Made.{salt_characters}
use Rattle.pwcheck_c.proofs.TextLengths.{characters_size, of_argon2id, of_bcrypt, of_pbkdf2, of_scrypt, of_sha, of_yescrypt}
use Rattle.pwcheck_c.proofs.room.text_len.Goals as goal

pub returns-in-ShaCrypt : goal.returns-in-ShaCrypt
returns-in-ShaCrypt c = record {
  length = λ password salt below size.
      c.sha_text_len.ensures.length password (salt_characters salt)
      (characters_size salt (size ∙ ap salt_length c.in-ShaCrypt.is) below)
      ∙ sym (of_sha c.args.cost c.in-ShaCrypt.family c.in-ShaCrypt.rounds password salt c.in-ShaCrypt.is);
}

pub returns-in-Scrypt : goal.returns-in-Scrypt
returns-in-Scrypt c = record {
  length = λ password salt below size.
      let whole = of_scrypt c.args.cost c.in-Scrypt.cost password salt c.in-Scrypt.is below size in
      omega (
        arith,
        whole,
        c.digit_count.ensures.count,
        c.digit_count-in-Scrypt.ensures.count,
        c.digit_count-in-Scrypt-2.ensures.count,
      );
}

pub returns-in-Bcrypt : goal.returns-in-Bcrypt
returns-in-Bcrypt c = record {
  length = λ password salt below size.
      sym (of_bcrypt c.args.cost c.in-Bcrypt.field-0 password salt c.in-Bcrypt.is below size);
}

pub returns-in-Yescrypt : goal.returns-in-Yescrypt
returns-in-Yescrypt c = record {
  length = λ password salt below size.
      let whole = of_yescrypt c.args.cost c.in-Yescrypt.cost password salt c.in-Yescrypt.is below size in
      omega (arith, whole, c.len.ensures.value, ap length c.yescrypt_params_text.ensures);
}

pub returns-in-Argon2id : goal.returns-in-Argon2id
returns-in-Argon2id c = record {
  length = λ password salt below size.
      let whole = of_argon2id c.args.cost c.in-Argon2id.cost password salt c.in-Argon2id.is below size in
      omega (
        arith,
        whole,
        c.digit_count-in-Argon2id.ensures.count,
        c.digit_count-in-Argon2id-2.ensures.count,
        c.digit_count-in-Argon2id-3.ensures.count,
      );
}

pub returns-in-Pbkdf2 : goal.returns-in-Pbkdf2
returns-in-Pbkdf2 c = record {
  length = λ password salt below size.
      let whole = of_pbkdf2 c.args.cost c.in-Pbkdf2.field-0 c.in-Pbkdf2.rounds password salt c.in-Pbkdf2.is below size in
      omega (arith, whole, c.digit_count-in-Pbkdf2.ensures.count);
}
