-- The policy of `pwfile`: names of the PHC string format, texts of the modular crypt format, none locked, verdicts with
-- scrypt as the derivation of keys, at most 4,096 users, and no command that takes a user away. There is no bound on cost; each
-- text that matches is another one after an upgrade.
use Rattle.std.specs.Prelude.{ℕ, Bool, false, List, Result}
use Rattle.std.specs.List.{flat_map}
use Rattle.std.specs.Option.{option_map}
use Rattle.line_io.specs.Lines.{lines}
use Rattle.line_program.specs.Rules.{LineRules}
use Rattle.mcf.specs.Grammar as mcf
use Rattle.phc.specs.Grammar.{is_name, salt_fault}
use Rattle.scrypt_plain.specs.Profile.{accepted, key, needs_memory}
use Rattle.stored_check.specs.Verdict.{may_lack_memory, mcf_name, verdict}
use Rattle.stored_check.specs.declared.error.StoredError.{StoredError}
use Rattle.stored_check.specs.declared.error.McfFault.{McfFault}
use Rattle.pw_file.specs.Policy.{TextPolicy}
use Rattle.pw_file.specs.Replies.{history, reply_text}
use Rattle.pw_file.specs.Rules.{rules_of}
use Rattle.pw_file.specs.Upgraded.{upgraded_text}

-- the verdict on a password and a stored text, or the first cause that there is none
abbrev pub verdict_on : List ℕ → List ℕ → Result Bool StoredError
verdict_on password stored = verdict accepted key password stored

-- the verdict may need memory: the text is valid, and its identifier is neither `5` nor `6`
abbrev pub may_lack : List ℕ → List ℕ → Bool
may_lack password stored = may_lack_memory accepted needs_memory key password stored

-- the policy
abbrev pub stored_texts : TextPolicy McfFault StoredError
stored_texts = record {
  is_name = is_name;
  text_fault = λ text. option_map mcf_name (mcf.fault text);
  is_locked = λ text. false;
  verdict = verdict_on;
  may_lack = may_lack;
  users_max = 4096;
  takes_remove = false;
  is_refused = λ text. false;
  is_too_costly = λ password text. false;
  salt_fault = salt_fault;
  stays = λ password salt text. false;
  fresh = upgraded_text;
}

-- what is owed for the lines of an input
abbrev pub file_rules : LineRules
file_rules = rules_of stored_texts

-- the output of an input: the replies to its lines
abbrev pub file_output : List ℕ → List ℕ
file_output input = flat_map (λ pair. reply_text pair.1) (history stored_texts (lines input))
