-- The rules of a run where nothing else is said.
use Rattle.std.specs.Prelude.{None, false}
use Rattle.any_make.specs.declared.scheme.MakeCost.TheVariants as cost
use Rattle.shadow_table.specs.declared.rules.TableRules.{TableRules}

-- no bound on cost, no text refused, and upgrades to what is recommended for Argon2id (RFC 9106, section 4, second recommended option)
abbrev pub plain_rules : TableRules
plain_rules = record { limits = None; strict = false; upgrade_to = cost.Argon2id (record { memory = 65536; passes = 3; lanes = 4 }) }
