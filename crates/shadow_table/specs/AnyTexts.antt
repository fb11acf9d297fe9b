-- A policy: names and texts as shadow(5) has them, the verdict for every scheme, at most 1,000,000 users,
-- a command that takes a user away, and the rules of a run.
use Rattle.std.specs.Prelude.{None, true}
use Rattle.pieces.specs.Faults.{unless}
use Rattle.any_check.specs.Given.{given_may_lack, given_verdict}
use Rattle.any_check.specs.declared.error.AnyError.{AnyError}
use Rattle.pw_file.specs.Policy.{TextPolicy}
use Rattle.shadow_table.specs.Fields.{is_field, is_locked_text, is_user_name}
use Rattle.shadow_table.specs.Rules.{fault_of_salt, fresh_text, is_refused_text, is_too_costly, keeps}
use Rattle.shadow_table.specs.declared.fault.FieldFault.{FieldFault}
use Rattle.shadow_table.specs.declared.fault.FieldFault.TheVariants.{Byte}
use Rattle.shadow_table.specs.declared.rules.TableRules.{TableRules}

-- The policy by these rules. The verdict is that without a bound on cost, which is asked for before it.
abbrev pub any_texts : TableRules → TextPolicy FieldFault AnyError
any_texts r = record {
  is_name = is_user_name;
  text_fault = λ text. unless (is_field text) Byte;
  is_locked = is_locked_text;
  verdict = given_verdict None;
  may_lack = given_may_lack None;
  users_max = 1000000;
  takes_remove = true;
  is_refused = is_refused_text r;
  is_too_costly = is_too_costly r.limits;
  salt_fault = fault_of_salt r;
  stays = keeps r;
  fresh = fresh_text r;
}
