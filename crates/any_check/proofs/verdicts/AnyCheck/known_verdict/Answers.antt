use Rattle.std.proofs.Common.{rules, ◌≡◌, Err}
use Rattle.stored_check.specs.declared.error.StoredError.TheVariants.{OutOfMemory}
use Rattle.any_check.specs.declared.error.AnyError.TheVariants.{Stored}
use Rattle.any_check.proofs.Known.{verdict_lacks_memory}
use Rattle.any_check.proofs.verdicts.AnyCheck.known_verdict.Goals as goal

pub returns-then-eq : goal.returns-then-eq
returns-then-eq c =
    let wants : c.verdict-answer.result ≡ Err (Stored OutOfMemory) = search rules in
    record {
      answered = verdict_lacks_memory c.args.self.now.limits c.args.password.now c.args.stored.now
          c.verdict-answer.result c.verdict-answer.ensures.verdict wants;
    }
