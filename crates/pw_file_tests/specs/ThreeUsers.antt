-- A policy for tests: as that of `pwfile`, with at most three users, who can be taken away; checks of texts of SHA-512-crypt ask for more
-- than the bound, and texts of SHA-256-crypt stay at an upgrade.
use Rattle.std.proofs.Common.{◌≡◌, ℕ, Bool, false, true, List, refl, arith}
use Rattle.std.specs.Prelude.{codes, nat_eq}
use Rattle.std.specs.List.{starts_with}
use Rattle.stored_check.specs.declared.error.McfFault.{McfFault}
use Rattle.stored_check.specs.declared.error.StoredError.{StoredError}
use Rattle.pw_file.specs.Policy.{IsLawful, TextPolicy}
use Rattle.pw_file.specs.StoredLaws.{stored_lawful}
use Rattle.pw_file.specs.StoredTexts.{stored_texts}
use Rattle.pw_file.specs.Upgraded.{upgraded_text}

abbrev pub is_sha512 : List ℕ → Bool
is_sha512 text = starts_with nat_eq text (codes "$6")

abbrev pub is_sha256 : List ℕ → Bool
is_sha256 text = starts_with nat_eq text (codes "$5")

abbrev pub three_users : TextPolicy McfFault StoredError
three_users = record stored_texts {
  users_max = 3;
  takes_remove = true;
  is_too_costly = λ password text. is_sha512 text;
  stays = λ password salt text. is_sha256 text;
}

-- the text that an upgrade makes is of scrypt
of_scrypt : (password salt : List ℕ) → is_sha512 (upgraded_text password salt) ≡ false
unfolding upgraded_text
of_scrypt password salt = refl

pub three_lawful : IsLawful three_users
three_lawful = record {
  name_short = stored_lawful.name_short;
  name_utf8 = stored_lawful.name_utf8;
  name_tabless = stored_lawful.name_tabless;
  name_feedless = stored_lawful.name_feedless;
  text_utf8 = stored_lawful.text_utf8;
  text_feedless = stored_lawful.text_feedless;
  salt_taken = stored_lawful.salt_taken;
  fresh = λ password salt text good leaves.
      let known = stored_lawful.fresh password salt text good refl in
      record {
        short = known.short;
        taken = known.taken;
        unlocked = known.unlocked;
        affordable = of_scrypt password salt;
        matches = known.matches;
      };
  judged_short = stored_lawful.judged_short;
  lack_judged = stored_lawful.lack_judged;
  some_users = omega arith;
}
